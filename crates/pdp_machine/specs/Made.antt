-- An advance is a list of moments, and so is a whole run.
use Rattle.std.specs.Prelude.{◌≡◌, ◌<◌, ℕ, zero, suc, ◌+◌, ◌==◌, nat_le, Bool, true, false, List, [], ◌∷◌, ◌++◌, Option, Some, None, drop, refl, if◌then◌else◌}
use Rattle.std.proofs.Common.{sym, ap, ◌∙◌, subst, append_assoc, arith}
use Rattle.std.proofs.lemmas.List.{append-nil}
use Rattle.tracking.specs.Runs.{after-append, IsRunOf-append}
use Rattle.pdp_dev.specs.declared.devices.Request.{Request}
use Rattle.pdp_dev.specs.declared.entry.Event.{Event}
use Rattle.pdp_dev.specs.declared.entry.Event.TheVariants.{Key as KeyEvent, Printer, Punch, Clock}
use Rattle.pdp_dev.specs.declared.entry.Entry.{Entry}
use Rattle.pdp_dev.specs.declared.entry.Entry.TheVariants.{Event as EventEntry}
use Rattle.pdp_dev.specs.Devices.{IsByte, IsEvent, request_of}
use Rattle.pdp_def.specs.declared.outcome.Outcome.{Outcome}
use Rattle.pdp_def.specs.declared.outcome.Outcome.TheVariants.{Ran, Idle, Halt as Halted, BusFault as Fault, Reserved as Unknown}
use Rattle.pdp_def.specs.Does.{After}
use Rattle.pdp_def.specs.Perform.{effect}
use Rattle.pdp_def.specs.Interrupt.{interrupted}
use Rattle.pdp_def.specs.Frames.{after_behind, effect_behind, interrupted_behind}
use Rattle.pdp_def.specs.Moments.{MachineState, Moment, Occurs, Grants, Executes, counted, stopped_by, came_to, granted_to, executed, happens, is_above, priority_of, IsPossible, after_all, ArePossible}
use Rattle.mc_image.specs.Image.{ImageState}
use Rattle.mc_script.specs.declared.script.Key.{Key}
use Rattle.mc_script.specs.Script.{AreBytes, IsScript, ScriptState, bytes_of}
use Rattle.pdp_machine.specs.declared.stop.Stop.{Stop}
use Rattle.pdp_machine.specs.declared.stop.Stop.TheVariants.{Halt, BusFault, Reserved, Silent, Limit}
use Rattle.pdp_machine.specs.Stops.{stop_of}
use Rattle.pdp_machine.specs.Timed.{Timed, Advanced, is_due, next_byte, occurs, takes_tape, reader_comes, punch_comes, key_at, strikes_key, key_comes, printer_comes, is_tick, clock_comes, with_events, goes_on, grants, executes, is_to_come, idles, runs_or_idles, grants_or, turn, going, advance_from, advance}
use Rattle.pdp_machine.specs.Opening.{opening_machine}
use Rattle.pdp_machine.specs.Run.{advances, machine_run}

-- the outcome that a stop stands for: silence and the limit are no outcomes of a moment
abbrev pub outcome_of : Option Stop → Option Outcome
outcome_of None = None
outcome_of (Some Halt) = Some Halted
outcome_of (Some (BusFault a)) = Some (Fault a)
outcome_of (Some (Reserved w)) = Some (Unknown w)
outcome_of (Some Silent) = None
outcome_of (Some Limit) = None

-- the machine of moments that a machine in time is, after this journal
abbrev pub state : List Entry → Advanced → MachineState
state journal a =
    record {
      core = a.machine.core;
      devices = a.machine.devices;
      journal = journal ++ a.entries;
      instructions = a.machine.instructions;
      stop = outcome_of a.machine.stop;
    }

-- some moments, each possible where it comes, lead from one state to another
pub record Moves (s t : MachineState) : Type 0 where
  pub moments : List Moment
  pub possible : ArePossible s moments
  pub leads : after_all s moments ≡ t

pub stays : (s t : MachineState) → s ≡ t → Moves s t
stays s t e = record { moments = []; possible = tt; leads = e }

pub one_moment : (s t : MachineState) (x : Moment) → IsPossible s x → happens s x ≡ t → Moves s t
one_moment s t x h e = record { moments = x ∷ []; possible = (h, tt); leads = e }

pub then_moves : (s t u : MachineState) → Moves s t → Moves t u → Moves s u
then_moves s t u a b =
    record {
      moments = a.moments ++ b.moments;
      possible = IsRunOf-append happens IsPossible s a.moments b.moments a.possible (subst (λ (x : MachineState). ArePossible x b.moments) (sym a.leads) b.possible);
      leads = after-append happens s a.moments b.moments ∙ ap (λ (x : MachineState). after_all x b.moments) a.leads ∙ b.leads;
    }

by_test : (P : Advanced → Type 0) (b : Bool) (x y : Advanced) → (b ≡ true → P x) → (b ≡ false → P y) → P (if b then x else y)
by_test P true x y f g = f refl
by_test P false x y f g = g refl

-- the keys to come and the tape bring bytes
pub record HasBytes (m : Timed) : Type 0 where
  pub keys : AreBytes (bytes_of m.keys)
  pub tape : AreBytes m.tape

next_is_byte : (tape : List ℕ) → AreBytes tape → IsByte (next_byte tape)
next_is_byte [] h = tt
next_is_byte (b ∷ tape) h = omega (arith, h.0)

tape_left : (tape : List ℕ) → AreBytes tape → AreBytes (drop 1 tape)
tape_left [] h = tt
tape_left (b ∷ tape) h = h.1

keys_left : (keys : List Key) → AreBytes (bytes_of keys) → AreBytes (bytes_of (drop 1 keys))
keys_left [] h = tt
keys_left (k ∷ keys) h = h.1

key_is_byte : (time : ℕ) (keys : List Key) (byte : ℕ) → key_at time keys ≡ Some byte → AreBytes (bytes_of keys) → byte < 256
key_is_byte time [] byte e h = absurd cc
key_is_byte time (k ∷ keys) byte e h = go (k.at == time) e
  where
    go : (b : Bool) → (if b then Some k.byte else None) ≡ Some byte → byte < 256
    go true e = let same : k.byte ≡ byte = cc in omega (arith, same, h.0)
    go false e = absurd cc

-- A part of an advance that does not stop the machine. It moves it, where keys and tape bring bytes, as they do behind it.
pub record Goes (journal : List Entry) (a b : Advanced) : Type 0 where
  pub moves : HasBytes a.machine → Moves (state journal a) (state journal b)
  pub keeps : HasBytes a.machine → HasBytes b.machine
  pub on : b.machine.stop ≡ None

goes_nowhere : (journal : List Entry) (a : Advanced) → a.machine.stop ≡ None → Goes journal a a
goes_nowhere journal a on = record { moves = λ h. stays _ _ refl; keeps = λ h. h; on = on }

-- an event, which leaves what no moment sees as it will
occurring : (journal : List Entry) (a a' : Advanced) (e : Event) → a.machine.stop ≡ None → a'.machine.core ≡ a.machine.core → a'.machine.devices ≡ a.machine.devices → a'.entries ≡ a.entries → a'.machine.instructions ≡ a.machine.instructions → a'.machine.stop ≡ a.machine.stop → (HasBytes a.machine → IsEvent e) → (HasBytes a.machine → HasBytes a'.machine) → Goes journal a (occurs e a')
occurring journal a a' e on c d s i stop event keeps =
    let j = append_assoc journal a.entries (EventEntry e ∷ []) in
    record {
      moves = λ h. one_moment _ _ (Occurs e) (ap outcome_of on, event h) (rw (c, d, s, i, stop, j) refl);
      keeps = λ h. record { keys = (keeps h).keys; tape = (keeps h).tape };
      on = stop ∙ on;
    }

reading : (journal : List Entry) (a : Advanced) → a.machine.stop ≡ None → Goes journal a (reader_comes a)
unfolding reader_comes
reading journal a on =
    by_test (Goes journal a) (is_due a.machine.reader_due a.machine.time) (takes_tape a) a
    (λ _. occurring journal a _ _ on refl refl refl refl refl (λ h. next_is_byte a.machine.tape h.tape) (λ h. record { keys = h.keys; tape = tape_left a.machine.tape h.tape }))
    (λ _. goes_nowhere journal a on)

punching : (journal : List Entry) (a : Advanced) → a.machine.stop ≡ None → Goes journal a (punch_comes a)
unfolding punch_comes
punching journal a on =
    by_test (Goes journal a) (is_due a.machine.punch_due a.machine.time) _ a
    (λ _. occurring journal a _ Punch on refl refl refl refl refl (λ h. tt) (λ h. record { keys = h.keys; tape = h.tape }))
    (λ _. goes_nowhere journal a on)

printing : (journal : List Entry) (a : Advanced) → a.machine.stop ≡ None → Goes journal a (printer_comes a)
unfolding printer_comes
printing journal a on =
    by_test (Goes journal a) (is_due a.machine.printer_due a.machine.time) _ a
    (λ _. occurring journal a _ Printer on refl refl refl refl refl (λ h. tt) (λ h. record { keys = h.keys; tape = h.tape }))
    (λ _. goes_nowhere journal a on)

ticking : (journal : List Entry) (a : Advanced) → a.machine.stop ≡ None → Goes journal a (clock_comes a)
unfolding clock_comes
ticking journal a on =
    by_test (Goes journal a) (is_tick a.machine.clock a.machine.time) (occurs Clock a) a
    (λ _. occurring journal a a Clock on refl refl refl refl refl (λ h. tt) (λ h. h))
    (λ _. goes_nowhere journal a on)

striking : (journal : List Entry) (a : Advanced) → a.machine.stop ≡ None → Goes journal a (key_comes a)
unfolding key_comes
striking journal a on = go (key_at a.machine.time a.machine.keys) refl
  where
    go : (byte : Option ℕ) → key_at a.machine.time a.machine.keys ≡ byte → Goes journal a (strikes_key a byte)
    go None is = goes_nowhere journal a on
    go (Some byte) is =
        occurring journal a _ (KeyEvent byte) on refl refl refl refl refl (λ h. key_is_byte a.machine.time a.machine.keys byte is h.keys)
        (λ h. record { keys = keys_left a.machine.keys h.keys; tape = h.tape })

then_goes : (journal : List Entry) (a b c : Advanced) → Goes journal a b → Goes journal b c → Goes journal a c
then_goes journal a b c g h = record { moves = λ bytes. then_moves _ _ _ (g.moves bytes) (h.moves (g.keeps bytes)); keeps = λ bytes. h.keeps (g.keeps bytes); on = h.on }

pub events_made : (m : Timed) (journal : List Entry) → m.stop ≡ None → Goes journal (record { machine = m; entries = [] }) (with_events m)
events_made m journal on =
    let a0 : Advanced = record { machine = m; entries = [] } in
    let g1 = reading journal a0 on in
    let g2 = punching journal (reader_comes a0) g1.on in
    let g3 = striking journal (punch_comes (reader_comes a0)) g2.on in
    let g4 = printing journal (key_comes (punch_comes (reader_comes a0))) g3.on in
    let g5 = ticking journal (printer_comes (key_comes (punch_comes (reader_comes a0)))) g4.on in
    then_goes journal _ _ _ g1 (then_goes journal _ _ _ g2 (then_goes journal _ _ _ g3 (then_goes journal _ _ _ g4 g5)))

stops_alike : (o : Outcome) → stopped_by o ≡ outcome_of (stop_of o)
stops_alike Ran = refl
stops_alike Idle = refl
stops_alike Halted = refl
stops_alike (Fault a) = refl
stops_alike (Unknown w) = refl

-- what a moment's effect came to, seen in time
came_alike : (journal : List Entry) (m : Timed) (said : List Entry) (n : ℕ) (e : After Outcome) → came_to (state journal (record { machine = m; entries = said })) n (after_behind journal e) ≡ state journal (goes_on m n e)
came_alike journal m said n e = rw (stops_alike e.value) refl

granting : (journal : List Entry) (m : Timed) (said : List Entry) (r : Request) → m.stop ≡ None → request_of m.devices ≡ Some r → is_above (priority_of m.core.ps) (Some r) ≡ true → Moves (state journal (record { machine = m; entries = said })) (state journal (grants m said r.vector))
unfolding grants
granting journal m said r on is above =
    let s : MachineState = state journal (record { machine = m; entries = said }) in
    let possible = subst (λ (o : Option Request). is_above (priority_of m.core.ps) o ≡ true) (sym is) above in
    one_moment s _ Grants (ap outcome_of on, possible)
    (ap (granted_to s) is ∙ ap (came_to s 0) (interrupted_behind m.core m.devices journal said r.vector) ∙ came_alike journal m said 0 (interrupted m.core m.devices said r.vector))

executing : (journal : List Entry) (m : Timed) (said : List Entry) → m.stop ≡ None → is_above (priority_of m.core.ps) (request_of m.devices) ≡ false → m.core.waiting ≡ false → Moves (state journal (record { machine = m; entries = said })) (state journal (executes m said))
unfolding executes
executing journal m said on free runs =
    let s : MachineState = state journal (record { machine = m; entries = said }) in
    let e : After Outcome = effect m.core m.devices said in
    one_moment s _ Executes (ap outcome_of on, free, runs)
    (ap (executed s) (effect_behind m.core m.devices journal said) ∙ came_alike journal m said (counted e.value) e)

idling : (journal : List Entry) (m : Timed) (said : List Entry) → m.stop ≡ None → Moves (state journal (record { machine = m; entries = said })) (state journal (idles m said))
unfolding idles
idling journal m said on =
    by_test (λ a. Moves (state journal (record { machine = m; entries = said })) (state journal a)) (is_to_come m) _ _
    (λ _. stays _ _ refl)
    (λ _. stays _ _ (rw on refl))

running : (journal : List Entry) (m : Timed) (said : List Entry) → m.stop ≡ None → is_above (priority_of m.core.ps) (request_of m.devices) ≡ false → Moves (state journal (record { machine = m; entries = said })) (state journal (runs_or_idles m said))
running journal m said on free =
    by_test (λ a. Moves (state journal (record { machine = m; entries = said })) (state journal a)) m.core.waiting _ _
    (λ _. idling journal m said on)
    (λ runs. executing journal m said on free runs)

turning : (journal : List Entry) (m : Timed) (said : List Entry) → m.stop ≡ None → Moves (state journal (record { machine = m; entries = said })) (state journal (turn m said))
unfolding turn
turning journal m said on = go (request_of m.devices) refl
  where
    go : (o : Option Request) → request_of m.devices ≡ o → Moves (state journal (record { machine = m; entries = said })) (state journal (grants_or m said o))
    go None is = running journal m said on (ap (is_above (priority_of m.core.ps)) is)
    go (Some r) is =
        by_test (λ a. Moves (state journal (record { machine = m; entries = said })) (state journal a)) (is_above (priority_of m.core.ps) (Some r)) _ _
        (λ above. granting journal m said r on is above)
        (λ free. running journal m said on (ap (is_above (priority_of m.core.ps)) is ∙ free))

-- A grant or an instruction leaves the keys and the tape as they are.

idling_keeps : (m : Timed) (said : List Entry) → HasBytes m → HasBytes (idles m said).machine
unfolding idles
idling_keeps m said h =
    by_test (λ a. HasBytes a.machine) (is_to_come m) _ _ (λ _. record { keys = h.keys; tape = h.tape }) (λ _. record { keys = h.keys; tape = h.tape })

running_keeps : (m : Timed) (said : List Entry) → HasBytes m → HasBytes (runs_or_idles m said).machine
unfolding executes
running_keeps m said h =
    by_test (λ a. HasBytes a.machine) m.core.waiting _ _ (λ _. idling_keeps m said h) (λ _. record { keys = h.keys; tape = h.tape })

turning_keeps : (m : Timed) (said : List Entry) → HasBytes m → HasBytes (turn m said).machine
unfolding turn grants
turning_keeps m said h = go (request_of m.devices)
  where
    go : (o : Option Request) → HasBytes (grants_or m said o).machine
    go None = running_keeps m said h
    go (Some r) =
        by_test (λ a. HasBytes a.machine) (is_above (priority_of m.core.ps) (Some r)) _ _ (λ _. record { keys = h.keys; tape = h.tape }) (λ _. running_keeps m said h)

going_keeps : (m : Timed) → m.stop ≡ None → HasBytes m → HasBytes (going m).machine
unfolding going
going_keeps m on h =
    let w : Advanced = with_events m in
    by_test (λ a. HasBytes a.machine) (nat_le m.limit m.time) _ _
    (λ _. record { keys = h.keys; tape = h.tape })
    (λ _. turning_keeps w.machine w.entries ((events_made m [] on).keeps h))

advance_keeps : (m : Timed) → HasBytes m → HasBytes (advance m).machine
unfolding advance
advance_keeps m h = go m.stop refl
  where
    go : (s : Option Stop) → m.stop ≡ s → HasBytes (advance_from m s).machine
    go None on = going_keeps m on h
    go (Some s) is = h

going_made : (m : Timed) (journal : List Entry) → HasBytes m → m.stop ≡ None → Moves (state journal (record { machine = m; entries = [] })) (state journal (going m))
unfolding going
going_made m journal h on =
    let w : Advanced = with_events m in
    let g = events_made m journal on in
    by_test (λ a. Moves (state journal (record { machine = m; entries = [] })) (state journal a)) (nat_le m.limit m.time) _ _
    (λ _. stays _ _ (rw on refl))
    (λ _. then_moves _ _ _ (g.moves h) (turning journal w.machine w.entries g.on))

-- each advance is a list of moments
pub advance_made : (m : Timed) (journal : List Entry) → HasBytes m → Moves (state journal (record { machine = m; entries = [] })) (state journal (advance m))
unfolding advance
advance_made m journal h = go m.stop refl
  where
    go : (s : Option Stop) → m.stop ≡ s → Moves (state journal (record { machine = m; entries = [] })) (state journal (advance_from m s))
    go None on = going_made m journal h on
    go (Some s) is = stays _ _ refl

advances_keep : (n : ℕ) (m : Timed) → HasBytes m → HasBytes (advances n m).machine
unfolding advances
advances_keep zero m h = h
advances_keep (suc n) m h = advance_keeps (advances n m).machine (advances_keep n m h)

-- so many advances are
pub advances_made : (n : ℕ) (m : Timed) → HasBytes m → Moves (state [] (record { machine = m; entries = [] })) (state [] (advances n m))
unfolding advances
advances_made zero m h = stays _ _ refl
advances_made (suc n) m h =
    let before : Advanced = advances n m in
    let here = advance_made before.machine before.entries (advances_keep n m h) in
    let same : state before.entries (record { machine = before.machine; entries = [] }) ≡ state [] before = ap (λ (l : List Entry). let s : MachineState = record { core = before.machine.core; devices = before.machine.devices; journal = l; instructions = before.machine.instructions; stop = outcome_of before.machine.stop } in s) (append-nil before.entries) in
    then_moves _ _ _ (advances_made n m h) (subst (λ (s : MachineState). Moves s (state before.entries (advance before.machine))) same here)

-- the whole run is: moments, each possible where it comes, lead from the opening to its end
abbrev pub IsMade : ImageState → ScriptState → Type 0
IsMade image script = Moves (state [] (record { machine = opening_machine image script; entries = [] })) (state [] (machine_run image script))

pub run_made : (image : ImageState) (script : ScriptState) → IsScript script → IsMade image script
unfolding machine_run
run_made image script h = advances_made (script.limit + 1) (opening_machine image script) (record { keys = h.bytes; tape = h.tape })
