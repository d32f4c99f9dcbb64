-- The machine's run and the program's run end alike.
use Rattle.std.proofs.Common.{◌≡◌, ◌≢◌, ℕ, ◌+◌, ◌<◌, ◌≤◌, Bool, true, false, List, [], length, take, Option, Some, None, ◌⊎◌, inl, inr, refl, sym, ap, ◌∙◌, subst, arith}
use Rattle.std.specs.Prelude.{IsSome, ◌==◌, if◌then◌else◌}
use Rattle.std.proofs.lemmas.List.{take_all}
use Rattle.std.proofs.lemmas.Bool.{ne_eqb, le-leb, false≢true}
use Rattle.std.proofs.lemmas.Bool.Decides.{eqb_tells, leb_tells}
use Rattle.tracking.specs.Tracking.{Tracking}
use Rattle.tracking.specs.Simulation.{total}
use Rattle.pdp_dev.specs.declared.devices.Devices.{Devices}
use Rattle.pdp_dev.specs.Devices.{request_of}
use Rattle.pdp_def.specs.Moments.{MachineState, Moment, is_above}
use Rattle.mc_image.specs.Image.{ImageState}
use Rattle.mc_script.specs.Script.{ScriptState}
use Rattle.pdp_machine.specs.declared.stop.Stop.{Stop}
use Rattle.pdp_machine.specs.declared.stop.Stop.TheVariants.{Halt, BusFault, Reserved, Silent, Limit}
use Rattle.pdp_machine.specs.Timed.{Timed, Advanced}
use Rattle.pdp_machine.specs.Run.{machine_run}
use Rattle.pdp_machine.specs.Made.{IsMade, outcome_of, state}
use Rattle.pdp_machine.specs.Silence.{run_rests}
use Rattle.mc_report.specs.declared.ending.Ending.{Ending}
use Rattle.mc_report.specs.declared.ending.Ending.TheVariants.{End, Stuck, Trap, Limit as LimitEnding, Halt as HaltEnding, BusFault as BusFaultEnding, Reserved as ReservedEnding, Silent as SilentEnding}
use Rattle.mc_prog.specs.Program.{Program}
use Rattle.mc_meaning.specs.Config.{Config, priority_at, live, opening_config}
use Rattle.mc_meaning.specs.Runs.{Step, config_after, earns, IsTrapped, IsQuiet}
use Rattle.mc_meaning.specs.Exclusion.{top_frames, StartsNext}
use Rattle.mc_compile.specs.Tracks.{Bounds, Traps, traps, over_workspace, over_room, Agrees, Tracked, Compiled}
use Rattle.mc_driver.specs.Run.{trap_word, live_word, is_trap, ending_of, status_of, ending, IsProgramEnding, EndsAs, IsRunOfProgram}

-- Which stop an ending tells of

chosen : (b : Bool) (x y : Ending) → (((if b then x else y) ≡ x) × (b ≡ true)) ⊎ (((if b then x else y) ≡ y) × (b ≡ false))
chosen true x y = inl (refl, refl)
chosen false x y = inr (refl, refl)

pub end_is : (s : Option Stop) (t l : ℕ) → ending_of s t l ≡ End → (s ≡ Some Silent) × (l ≡ 0)
end_is None t l e = cc
end_is (Some Halt) t l e = elim (chosen (is_trap t) (Trap t) HaltEnding) [ inl h ↦ cc (h.0, e) | inr h ↦ cc (h.0, e) ]
end_is (Some (BusFault b)) t l e = cc
end_is (Some (Reserved w)) t l e = cc
end_is (Some Silent) t l e =
    elim (eqb_tells l 0) [ inl h ↦ (refl, h.1) | inr h ↦ let k : (if l == 0 then End else Stuck) ≡ Stuck = rw h.0 refl in cc (k, e) ]
end_is (Some Limit) t l e = cc

pub stuck_is : (s : Option Stop) (t l : ℕ) → ending_of s t l ≡ Stuck → (s ≡ Some Silent) × (l ≢ 0)
stuck_is None t l e = cc
stuck_is (Some Halt) t l e = elim (chosen (is_trap t) (Trap t) HaltEnding) [ inl h ↦ cc (h.0, e) | inr h ↦ cc (h.0, e) ]
stuck_is (Some (BusFault b)) t l e = cc
stuck_is (Some (Reserved w)) t l e = cc
stuck_is (Some Silent) t l e =
    elim (eqb_tells l 0) [ inl h ↦ (let k : (if l == 0 then End else Stuck) ≡ End = rw h.0 refl in cc (k, e)) | inr h ↦ (refl, h.1) ]
stuck_is (Some Limit) t l e = cc

pub trap_is : (s : Option Stop) (t l n : ℕ) → ending_of s t l ≡ Trap n → (s ≡ Some Halt) × (t ≡ n)
trap_is None t l n e = cc
trap_is (Some Halt) t l n e =
    elim (chosen (is_trap t) (Trap t) HaltEnding) [ inl h ↦ (let k : Trap t ≡ Trap n = sym h.0 ∙ e in (refl, cc k)) | inr h ↦ cc (h.0, e) ]
trap_is (Some (BusFault b)) t l n e = cc
trap_is (Some (Reserved w)) t l n e = cc
trap_is (Some Silent) t l n e = elim (chosen (l == 0) End Stuck) [ inl h ↦ cc (h.0, e) | inr h ↦ cc (h.0, e) ]
trap_is (Some Limit) t l n e = cc

-- the statuses of endings are not those of other answers
pub plain_status : (e : Ending) → (status_of e ≢ 11) × (status_of e ≢ 12) × (status_of e ≢ 14)
plain_status End = (λ x. omega arith, λ x. omega arith, λ x. omega arith)
plain_status Stuck = (λ x. omega arith, λ x. omega arith, λ x. omega arith)
plain_status (Trap n) =
    elim (leb_tells n 7) [
      | inl k ↦ rw k.0 (λ x. omega arith, λ x. omega arith, λ x. omega arith)
      | inr k ↦ rw k.0 (λ x. omega arith, λ x. omega arith, λ x. omega arith)
    ]
plain_status LimitEnding = (λ x. omega arith, λ x. omega arith, λ x. omega arith)
plain_status HaltEnding = (λ x. omega arith, λ x. omega arith, λ x. omega arith)
plain_status (BusFaultEnding a) = (λ x. omega arith, λ x. omega arith, λ x. omega arith)
plain_status (ReservedEnding w) = (λ x. omega arith, λ x. omega arith, λ x. omega arith)
plain_status SilentEnding = (λ x. omega arith, λ x. omega arith, λ x. omega arith)

module _ (program : Program) (bounds : Bounds) (image : ImageState) (script : ScriptState) where
  abbrev last : Advanced
  last = machine_run image script

  -- what holds of the whole list and the whole run
  whole : (moments : List Moment) (t : Tracking (Tracked program bounds image) moments) → Tracked program bounds image moments t.run
  whole moments t =
      let f = t.facts (length moments) (omega arith) in
      let all : take (length moments) moments ≡ moments = take_all (length moments) moments (omega arith) in
      let run : take (t.position (length moments)) t.run ≡ t.run = ap (λ (n : ℕ). take n t.run) t.ends ∙ take_all (length t.run) t.run (omega arith) in
      subst (λ (r : List Step). Tracked program bounds image moments r) run (subst (λ (l : List Moment). Tracked program bounds image l (take (t.position (length moments)) t.run)) all f)

  -- A configuration that agrees with the machine where it stopped.
  module _ (c : Config) (n : ℕ) (a : Agrees program bounds (state [] last) c n) where
    abbrev m : Timed
    m = last.machine

    silent_rests : m.stop ≡ Some Silent → IsQuiet c × (live_word m ≡ live c.processes)
    silent_rests silent =
        let rests = run_rests image script silent in
        let r = a.waits rests.waits in
        let free : is_above 0 (request_of m.devices) ≡ false = subst (λ (p : ℕ). is_above p (request_of m.devices) ≡ false) r.priority rests.free in
        let granted : is_above 0 (request_of c.devices) ≡ false = subst (λ (d : Devices). is_above 0 (request_of d) ≡ false) a.devices free in (
          record {
            trap = r.no_trap;
            nothing_acts = r.nothing_acts;
            nothing_ready = r.nothing_ready;
            nothing_granted = ap (λ (o : Option ℕ). is_above (priority_at c o) (request_of c.devices)) r.nothing_acts ∙ granted;
          },
          r.count,
        )

    -- where nothing can go on, nothing has trapped
    no_traps : (k : ℕ) → 40 ≤ bounds.workspace → Traps program bounds k c → IsQuiet c → ⊥
    no_traps k room (traps t) q = cc (t.trap, q.trap)
    no_traps k room (over_workspace e none over) q =
        let free = subst (λ (o : Option ℕ). bounds.workspace < 40 + top_frames program c o) q.nothing_acts over in omega arith
    no_traps k room (over_room e none over) q = subst (λ (o : Option ℕ). StartsNext c o) q.nothing_acts over.0

    quiet_silent : (s : Option Stop) → m.stop ≡ s → IsSome s → 40 ≤ bounds.workspace → IsQuiet c → s ≢ Some Limit → s ≡ Some Silent
    quiet_silent None is on room q far = absurd (false≢true on)
    quiet_silent (Some Halt) is on room q far = absurd (no_traps (trap_word m) room (a.halts (ap outcome_of is)) q)
    quiet_silent (Some (BusFault b)) is on room q far = absurd (a.no_bus_fault b (ap outcome_of is))
    quiet_silent (Some (Reserved w)) is on room q far = absurd (a.no_reserved w (ap outcome_of is))
    quiet_silent (Some Silent) is on room q far = refl
    quiet_silent (Some Limit) is on room q far = absurd (far refl)

    -- the number of a trap is 1 to 9
    is_trap-of : (k : ℕ) → Traps program bounds k c → is_trap k ≡ true
    is_trap-of k (traps t) = rw (le-leb 1 k t.least, le-leb k 9 (omega (arith, t.most))) refl
    is_trap-of k (over_workspace e none over) = rw e refl
    is_trap-of k (over_room e none over) = rw e refl

    halted : m.stop ≡ Some Halt → (ending m ≡ Trap (trap_word m)) × Traps program bounds (trap_word m) c
    halted is =
        let t = a.halts (ap outcome_of is) in (rw (is, is_trap-of (trap_word m) t) refl, t)

    named : (s : Option Stop) → m.stop ≡ s → IsSome s → IsProgramEnding (ending m)
    named None is on = absurd (false≢true on)
    named (Some Halt) is on = subst IsProgramEnding (sym (halted is).0) tt
    named (Some (BusFault b)) is on = absurd (a.no_bus_fault b (ap outcome_of is))
    named (Some (Reserved w)) is on = absurd (a.no_reserved w (ap outcome_of is))
    named (Some Silent) is on =
        let e : ending m ≡ ending_of (Some Silent) (trap_word m) (live_word m) = ap (λ (s : Option Stop). ending_of s (trap_word m) (live_word m)) is in
        elim (chosen (live_word m == 0) End Stuck) [
          | inl h ↦ subst IsProgramEnding (sym (e ∙ h.0)) tt
          | inr h ↦ subst IsProgramEnding (sym (e ∙ h.0)) tt
        ]
    named (Some Limit) is on = rw is tt

    -- where the run is trapped, the machine has halted
    trapped_halts : (k : ℕ) (s : Option Stop) → m.stop ≡ s → IsSome s → IsTrapped k c → s ≢ Some Limit → ending m ≡ Trap k
    trapped_halts k None is on t far = absurd (false≢true on)
    trapped_halts k (Some Halt) is on t far = (halted is).0 ∙ ap Trap (same (halted is).1)
      where
        same : Traps program bounds (trap_word m) c → trap_word m ≡ k
        same (traps u) = cc (u.trap, t.trap)
        same (over_workspace e none over) = cc (none, t.trap)
        same (over_room e none over) = cc (none, t.trap)
    trapped_halts k (Some (BusFault b)) is on t far = absurd (a.no_bus_fault b (ap outcome_of is))
    trapped_halts k (Some (Reserved w)) is on t far = absurd (a.no_reserved w (ap outcome_of is))
    trapped_halts k (Some Silent) is on t far = let q = (silent_rests is).0 in cc (q.trap, t.trap)
    trapped_halts k (Some Limit) is on t far = absurd (far refl)

    ending_is : (s : Option Stop) (l : ℕ) → m.stop ≡ s → live_word m ≡ l → ending m ≡ ending_of s (trap_word m) l
    ending_is s l e h = ap (λ (x : Option Stop). ending_of x (trap_word m) (live_word m)) e ∙ ap (ending_of s (trap_word m)) h

    ends_as : IsSome m.stop → 40 ≤ bounds.workspace → EndsAs program bounds m c
    ends_as on room =
        record {
          ending_is = named m.stop refl on;
          quiet = λ silent. ((silent_rests silent).0, (run_rests image script silent).no_event);
          falls_silent = λ q none far. quiet_silent m.stop refl on room q far;
          ended = λ e. let k = end_is m.stop (trap_word m) (live_word m) e in let r = silent_rests k.0 in record { quiet = r.0; all = sym r.1 ∙ k.1 };
          ends = λ e none far. let s = quiet_silent m.stop refl on room e.quiet far in ending_is (Some Silent) 0 s ((silent_rests s).1 ∙ e.all);
          stuck = λ e. let k = stuck_is m.stop (trap_word m) (live_word m) e in let r = silent_rests k.0 in record { quiet = r.0; some = λ z. k.1 (r.1 ∙ z) };
          sticks = λ e none far. let s = quiet_silent m.stop refl on room e.quiet far in let some : live_word m ≢ 0 = λ z. e.some (sym (silent_rests s).1 ∙ z) in ending_is (Some Silent) (live_word m) s refl ∙ rw (ne_eqb (live_word m) 0 some) refl;
          trapped = λ k e. let h = trap_is m.stop (trap_word m) (live_word m) k e in subst (λ (j : ℕ). Traps program bounds j c) h.1 (halted h.0).1;
          traps = λ k t far. trapped_halts k m.stop refl on t far;
        }

  pub run_of_program : IsMade image script → Compiled program bounds image → IsSome (machine_run image script).machine.stop → 40 ≤ bounds.workspace → IsRunOfProgram program bounds image script
  run_of_program moves compiled on room =
      let t = compiled moves.moments moves.possible in
      let w = whole moves.moments t in
      let c : Config = config_after program (opening_config program) t.run in
      let a = subst (λ (m : MachineState). Agrees program bounds m c (total earns t.run)) moves.leads w.agrees in
      record {
        moments = moves.moments;
        possible = moves.possible;
        leads = moves.leads;
        tracking = t;
        ends_as = ends_as c (total earns t.run) a on room;
      }
