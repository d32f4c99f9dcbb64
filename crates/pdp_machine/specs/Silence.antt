-- What follows from how a run ends.
use Rattle.std.specs.Prelude.{◌≡◌, ◌≢◌, ℕ, zero, suc, ◌+◌, nat_le, Bool, true, false, List, [], ◌++◌, Option, Some, None, refl, if◌then◌else◌}
use Rattle.std.proofs.Common.{ap, ◌∙◌, arith}
use Rattle.std.proofs.lemmas.List.{append-nil}
use Rattle.pdp_dev.specs.declared.devices.Request.{Request}
use Rattle.pdp_dev.specs.declared.entry.Entry.{Entry}
use Rattle.pdp_dev.specs.Devices.{request_of}
use Rattle.pdp_def.specs.declared.outcome.Outcome.{Outcome}
use Rattle.pdp_def.specs.declared.outcome.Outcome.TheVariants.{Ran, Idle, Halt as Halted, BusFault as Fault, Reserved as Unknown}
use Rattle.pdp_def.specs.Perform.{effect}
use Rattle.pdp_def.specs.Interrupt.{interrupted}
use Rattle.pdp_def.specs.Moments.{is_above, priority_of}
use Rattle.mc_image.specs.Image.{ImageState}
use Rattle.mc_script.specs.Script.{ScriptState}
use Rattle.pdp_machine.specs.declared.stop.Stop.{Stop}
use Rattle.pdp_machine.specs.declared.stop.Stop.TheVariants.{Silent}
use Rattle.pdp_machine.specs.Stops.{stop_of}
use Rattle.pdp_machine.specs.Timed.{Timed, Advanced, with_events, grants, executes, is_to_come, idles, runs_or_idles, grants_or, turn, going, advance_from, advance}
use Rattle.pdp_machine.specs.Opening.{opening_machine}
use Rattle.pdp_machine.specs.Run.{advances, machine_run}
use Rattle.pdp_machine.specs.Made.{events_made}

-- a silent machine waits, no request is above its priority, and no event is to come
pub record IsResting (m : Timed) : Type 0 where
  pub waits : m.core.waiting ≡ true
  pub free : is_above (priority_of m.core.ps) (request_of m.devices) ≡ false
  pub no_event : is_to_come m ≡ false

abbrev pub RestsIfSilent : Timed → Type 0
RestsIfSilent m = m.stop ≡ Some Silent → IsResting m

by_test : (P : Advanced → Type 0) (b : Bool) (x y : Advanced) → (b ≡ true → P x) → (b ≡ false → P y) → P (if b then x else y)
by_test P true x y f g = f refl
by_test P false x y f g = g refl

abbrev Rests : Advanced → Type 0
Rests a = RestsIfSilent a.machine

never_silent : (o : Outcome) → stop_of o ≢ Some Silent
never_silent Ran e = cc
never_silent Idle e = cc
never_silent Halted e = cc
never_silent (Fault a) e = cc
never_silent (Unknown w) e = cc

rests_running : (m : Timed) (said : List Entry) → m.stop ≡ None → is_above (priority_of m.core.ps) (request_of m.devices) ≡ false → Rests (runs_or_idles m said)
unfolding executes idles
rests_running m said on free =
    by_test Rests m.core.waiting _ _
    (λ w. by_test Rests (is_to_come m) _ _ (λ _ e. cc (on, e)) (λ none e. record { waits = w; free = free; no_event = none }))
    (λ _ e. absurd (never_silent (effect m.core m.devices said).value e))

rests_turn : (m : Timed) (said : List Entry) → m.stop ≡ None → Rests (turn m said)
unfolding turn grants
rests_turn m said on = go (request_of m.devices) refl
  where
    go : (o : Option Request) → request_of m.devices ≡ o → Rests (grants_or m said o)
    go None is = rests_running m said on (ap (is_above (priority_of m.core.ps)) is)
    go (Some r) is =
        by_test Rests (is_above (priority_of m.core.ps) (Some r)) _ _
        (λ _ e. absurd (never_silent (interrupted m.core m.devices said r.vector).value e))
        (λ free. rests_running m said on (ap (is_above (priority_of m.core.ps)) is ∙ free))

rests_going : (m : Timed) → m.stop ≡ None → Rests (going m)
unfolding going
rests_going m on =
    by_test Rests (nat_le m.limit m.time) _ _ (λ _ e. cc)
    (λ _. let w : Advanced = with_events m in rests_turn w.machine w.entries (events_made m [] on).on)

rests_advance : (m : Timed) → RestsIfSilent m → RestsIfSilent (advance m).machine
unfolding advance
rests_advance m h = go m.stop refl
  where
    go : (s : Option Stop) → m.stop ≡ s → Rests (advance_from m s)
    go None on = rests_going m on
    go (Some s) is = h

rests_advances : (n : ℕ) (m : Timed) → RestsIfSilent m → RestsIfSilent (advances n m).machine
unfolding advances
rests_advances zero m h = h
rests_advances (suc n) m h = rests_advance (advances n m).machine (rests_advances n m h)

pub run_rests : (image : ImageState) (script : ScriptState) → RestsIfSilent (machine_run image script).machine
unfolding machine_run
run_rests image script = rests_advances (script.limit + 1) (opening_machine image script) (λ e. cc)

-- after a stop nothing changes
pub advances-stopped : (n k : ℕ) (m : Timed) (s : Stop) → (advances n m).machine.stop ≡ Some s → advances (k + n) m ≡ advances n m
unfolding advances advance
advances-stopped n zero m s h = let e : 0 + n ≡ n = omega arith in ap (λ (j : ℕ). advances j m) e
advances-stopped n (suc k) m s h =
    let e : suc k + n ≡ suc (k + n) = omega arith in
    let before : Advanced = advances n m in
    let rest = advances-stopped n k m s h in
    let one : Advanced → Advanced = λ b. let a : Advanced = advance b.machine in (let r : Advanced = record { machine = a.machine; entries = b.entries ++ a.entries } in r) in
    ap (λ (j : ℕ). advances j m) e ∙ ap one rest ∙ ap (λ (o : Option Stop). let a : Advanced = advance_from before.machine o in (let r : Advanced = record { machine = a.machine; entries = before.entries ++ a.entries } in r)) h ∙ ap (λ (l : List Entry). let r : Advanced = record { machine = before.machine; entries = l } in r) (append-nil before.entries)
