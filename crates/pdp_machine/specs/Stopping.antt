-- The machine always stops.
use Rattle.std.specs.Prelude.{◌≡◌, ◌≢◌, ◌≤◌, ◌<◌, ℕ, zero, suc, ◌+◌, min, nat_le, Bool, true, false, is_some, unwrap_or, IsSome, List, [], ◌∷◌, drop, Option, Some, None, ◌⊎◌, refl, if◌then◌else◌}
use Rattle.std.proofs.Common.{subst, sym, inl, inr, arith}
use Rattle.std.proofs.lemmas.Bool.{eqb-false, leb-false}
use Rattle.std.proofs.Math.Nat.{lt-mul-div-succ}
use Rattle.pdp_dev.specs.declared.devices.Devices.{Devices}
use Rattle.pdp_dev.specs.declared.devices.Request.{Request}
use Rattle.pdp_dev.specs.declared.entry.Event.TheVariants.{Printer, Punch, Clock}
use Rattle.pdp_dev.specs.declared.entry.Entry.{Entry}
use Rattle.pdp_dev.specs.Devices.{request_of}
use Rattle.pdp_def.specs.declared.outcome.Outcome.{Outcome}
use Rattle.pdp_def.specs.declared.outcome.Outcome.TheVariants.{Ran, Idle, Halt as Halted, BusFault as Fault, Reserved as Unknown}
use Rattle.pdp_def.specs.Does.{After}
use Rattle.pdp_def.specs.Perform.{effect}
use Rattle.pdp_def.specs.Interrupt.{interrupted}
use Rattle.pdp_def.specs.Moments.{counted, is_above, priority_of}
use Rattle.mc_script.specs.Script.{IsPeriod}
use Rattle.mc_script.specs.declared.script.Key.{Key}
use Rattle.pdp_machine.specs.declared.stop.Stop.{Stop}
use Rattle.pdp_machine.specs.Stops.{stop_of}
use Rattle.pdp_machine.specs.Timed.{Timed, Advanced, is_due, occurs, takes_tape, reader_comes, punch_comes, key_at, strikes_key, key_comes, printer_comes, is_tick, clock_comes, with_events, due_after, settled, goes_on, grants, executes, earlier, next_key, next_tick, next_event, is_to_come, idles, runs_or_idles, grants_or, turn, going, advance_from, advance, IsTimed, IsAhead, AreAhead}
use Rattle.pdp_machine.specs.Run.{advances}
use Rattle.pdp_machine.specs.Times.{IsAhead-weaker, AreAhead-weaker, keys_left, later_at, next_reached}

-- what stays as it is while the events of a time happen: the time, the limit, the clock and the delays, and that there is no stop
record Keeps (now l time limit : ℕ) (stop : Option Stop) (clock : Option ℕ) (printer_delay punch_delay reader_delay : ℕ) : Type 0 where
  same_time : time ≡ now
  same_limit : limit ≡ l
  on : stop ≡ None
  period : IsPeriod clock
  printer : 1 ≤ printer_delay
  punch : 1 ≤ punch_delay
  reader : 1 ≤ reader_delay

abbrev Stays : ℕ → ℕ → Timed → Type 0
Stays now l m = Keeps now l m.time m.limit m.stop m.clock m.printer_delay m.punch_delay m.reader_delay

-- a machine that goes, at this time and under this limit, and from when on its reader, punch, keys and printer come
abbrev Waits : ℕ → ℕ → ℕ → ℕ → ℕ → ℕ → Timed → Type 0
Waits now l r p k w m = Stays now l m × IsAhead r m.reader_due × IsAhead p m.punch_due × AreAhead k m.keys × IsAhead w m.printer_due

-- nothing that is due is past
abbrev Ready : ℕ → ℕ → Timed → Type 0
Ready now l m = Waits now l now now now now m

-- all that is due comes later
abbrev Later : ℕ → ℕ → Timed → Type 0
Later now l m = Waits now l (now + 1) (now + 1) (now + 1) (now + 1) m

by_test : (P : Advanced → Type 0) (b : Bool) (x y : Advanced) → (b ≡ true → P x) → (b ≡ false → P y) → P (if b then x else y)
by_test P true x y f g = f refl
by_test P false x y f g = g refl

-- The events of this time

not_now : (now t : ℕ) (due : Option ℕ) → t ≡ now → is_due due t ≡ false → IsAhead now due → IsAhead (now + 1) due
not_now now t None same e h = tt
not_now now t (Some x) same e h = let other : x ≢ t = eqb-false x t e in omega (arith, other, same, h)

reader_past : (now l p k w : ℕ) (a : Advanced) → Waits now l now p k w a.machine → Waits now l (now + 1) p k w (reader_comes a).machine
unfolding reader_comes
reader_past now l p k w a i =
    by_test (λ b. Waits now l (now + 1) p k w b.machine) (is_due a.machine.reader_due a.machine.time) (takes_tape a) a
    (λ _. (i.0, tt, i.2, i.3, i.4))
    (λ e. (i.0, not_now now _ a.machine.reader_due i.0.same_time e i.1, i.2, i.3, i.4))

punch_past : (now l r k w : ℕ) (a : Advanced) → Waits now l r now k w a.machine → Waits now l r (now + 1) k w (punch_comes a).machine
unfolding punch_comes
punch_past now l r k w a i =
    by_test (λ b. Waits now l r (now + 1) k w b.machine) (is_due a.machine.punch_due a.machine.time) (occurs Punch (record a { machine = record a.machine { punch_due = None } })) a
    (λ _. (i.0, i.1, tt, i.3, i.4))
    (λ e. (i.0, i.1, not_now now _ a.machine.punch_due i.0.same_time e i.2, i.3, i.4))

key_past : (now l r p w : ℕ) (a : Advanced) → Waits now l r p now w a.machine → Waits now l r p (now + 1) w (key_comes a).machine
unfolding key_comes
key_past now l r p w a i = go (key_at a.machine.time a.machine.keys) (subst (λ t. key_at t a.machine.keys ≡ key_at a.machine.time a.machine.keys) i.0.same_time refl)
  where
    left : (byte : Option ℕ) → key_at now a.machine.keys ≡ byte → AreAhead (now + 1) (if is_some byte then drop 1 a.machine.keys else a.machine.keys)
    left byte e = subst (λ (o : Option ℕ). AreAhead (now + 1) (if is_some o then drop 1 a.machine.keys else a.machine.keys)) e (keys_left now a.machine.keys i.3)

    go : (byte : Option ℕ) → key_at now a.machine.keys ≡ byte → Waits now l r p (now + 1) w (strikes_key a byte).machine
    go None e = (i.0, i.1, i.2, left None e, i.4)
    go (Some x) e = (i.0, i.1, i.2, left (Some x) e, i.4)

printer_past : (now l r p k : ℕ) (a : Advanced) → Waits now l r p k now a.machine → Waits now l r p k (now + 1) (printer_comes a).machine
unfolding printer_comes
printer_past now l r p k a i =
    by_test (λ b. Waits now l r p k (now + 1) b.machine) (is_due a.machine.printer_due a.machine.time) (occurs Printer (record a { machine = record a.machine { printer_due = None } })) a
    (λ _. (i.0, i.1, i.2, i.3, tt))
    (λ e. (i.0, i.1, i.2, i.3, not_now now _ a.machine.printer_due i.0.same_time e i.4))

clock_past : (now l r p k w : ℕ) (a : Advanced) → Waits now l r p k w a.machine → Waits now l r p k w (clock_comes a).machine
unfolding clock_comes
clock_past now l r p k w a i =
    by_test (λ b. Waits now l r p k w b.machine) (is_tick a.machine.clock a.machine.time) (occurs Clock a) a (λ _. i) (λ _. i)

events_past : (now l : ℕ) (m : Timed) → Ready now l m → Later now l (with_events m).machine
events_past now l m i =
    let n : ℕ = now + 1 in
    clock_past now l n n n n _ (printer_past now l n n n _ (key_past now l n n now _ (punch_past now l n now now _ (reader_past now l now now now (record { machine = m; entries = [] }) i))))

-- A machine after an advance stopped, or time went on, and not past the limit

record GoesOn (now l : ℕ) (m : Timed) : Type 0 where
  later : now < m.time
  within : m.time ≤ l
  ready : Ready m.time l m

abbrev Goes : ℕ → ℕ → Timed → Type 0
Goes now l m = IsSome m.stop ⊎ GoesOn now l m

-- A grant or an instruction

due_after-ahead : (was busy : Bool) (due : Option ℕ) (later t : ℕ) → IsAhead t due → t ≤ later → IsAhead t (due_after was busy due later)
due_after-ahead was false due later t h k = tt
due_after-ahead true true due later t h k = h
due_after-ahead false true due later t h k = k

passed : (before : Devices) (o : Outcome) (n l : ℕ) (m : Timed) → counted o ≡ 1 → stop_of o ≡ None → m.time < l → Later m.time l m → GoesOn m.time l (settled before o n m)
passed before o n l m one none h i =
    let t : ℕ = m.time + counted o in
    let next : ℕ = m.time + 1 in
    let near : t ≤ next = omega (arith, one) in
    let ahead : (was busy : Bool) (due : Option ℕ) (delay : ℕ) → IsAhead next due → 1 ≤ delay → IsAhead t (due_after was busy due (m.time + delay)) = λ was busy due delay k d. due_after-ahead was busy due (m.time + delay) t (IsAhead-weaker t next due near k) (omega (arith, one, d)) in
    record {
      later = omega (arith, one);
      within = omega (arith, one, h);
      ready = (
        record { same_time = refl; same_limit = i.0.same_limit; on = none; period = i.0.period; printer = i.0.printer; punch = i.0.punch; reader = i.0.reader },
        ahead _ _ m.reader_due m.reader_delay i.1 i.0.reader,
        ahead _ _ m.punch_due m.punch_delay i.2 i.0.punch,
        AreAhead-weaker t next m.keys near i.3,
        ahead _ _ m.printer_due m.printer_delay i.4 i.0.printer,
      );
    }

settled_goes : (before : Devices) (o : Outcome) (n l : ℕ) (m : Timed) → m.time < l → Later m.time l m → Goes m.time l (settled before o n m)
settled_goes before Ran n l m h i = inr (passed before Ran n l m refl refl h i)
settled_goes before Idle n l m h i = inr (passed before Idle n l m refl refl h i)
settled_goes before Halted n l m h i = inl refl
settled_goes before (Fault a) n l m h i = inl refl
settled_goes before (Unknown x) n l m h i = inl refl

goes_on-goes : (n l : ℕ) (m : Timed) (a : After Outcome) → m.time < l → Later m.time l m → Goes m.time l (goes_on m n a).machine
goes_on-goes n l m a h i =
    settled_goes m.devices a.value n l (record m { core = a.bus.core; devices = a.bus.devices }) h i

-- Nothing to run

earlier-ahead : (t : ℕ) (a b : Option ℕ) → IsAhead t a → IsAhead t b → IsAhead t (earlier a b)
earlier-ahead t None b h k = k
earlier-ahead t (Some x) None h k = h
earlier-ahead t (Some x) (Some y) h k = omega (arith, h, k)

next_key-ahead : (t : ℕ) (keys : List Key) → AreAhead t keys → IsAhead t (next_key keys)
next_key-ahead t [] h = tt
next_key-ahead t (key ∷ keys) h = h.0

next_tick-ahead : (t : ℕ) (clock : Option ℕ) → IsPeriod clock → IsAhead (t + 1) (next_tick clock t)
next_tick-ahead t None h = tt
next_tick-ahead t (Some period) h = omega (arith, lt-mul-div-succ t {b = period} (omega (arith, h)))

next_event-ahead : (now l : ℕ) (m : Timed) → m.time ≡ now → Later now l m → IsAhead (now + 1) (next_event m)
next_event-ahead now l m same i =
    let tick = subst (λ t. IsAhead (t + 1) (next_tick m.clock m.time)) same (next_tick-ahead m.time m.clock i.0.period) in
    earlier-ahead _ _ _ i.4 (earlier-ahead _ _ _ i.2 (earlier-ahead _ _ _ i.1 (earlier-ahead _ _ _ (next_key-ahead _ m.keys i.3) tick)))

waited : (l : ℕ) (m : Timed) → m.time < l → Later m.time l m → GoesOn m.time l (record m { time = min (unwrap_or (next_event m) m.limit) m.limit })
waited l m h i =
    let t : ℕ = min (unwrap_or (next_event m) m.limit) m.limit in
    let n = next_reached m t (m.time + 1) i.3 refl in
    record {
      later = later_at (next_event m) m.time m.limit (next_event-ahead m.time l m refl i) (omega (arith, h, i.0.same_limit));
      within = omega (arith, i.0.same_limit);
      ready = (record { same_time = refl; same_limit = i.0.same_limit; on = i.0.on; period = i.0.period; printer = i.0.printer; punch = i.0.punch; reader = i.0.reader }, n.reader, n.punch, n.keys, n.printer);
    }

-- One advance

runs_or_idles-goes : (l : ℕ) (m : Timed) (said : List Entry) → m.time < l → Later m.time l m → Goes m.time l (runs_or_idles m said).machine
unfolding executes idles
runs_or_idles-goes l m said h i =
    by_test (λ a. Goes m.time l a.machine) m.core.waiting _ _
    (λ _. by_test (λ a. Goes m.time l a.machine) (is_to_come m) _ _ (λ _. inr (waited l m h i)) (λ _. inl refl))
    (λ _. let e : After Outcome = effect m.core m.devices said in goes_on-goes (counted e.value) l m e h i)

turn_goes : (l : ℕ) (m : Timed) (said : List Entry) → m.time < l → Later m.time l m → Goes m.time l (turn m said).machine
unfolding turn grants
turn_goes l m said h i = go (request_of m.devices)
  where
    go : (o : Option Request) → Goes m.time l (grants_or m said o).machine
    go None = runs_or_idles-goes l m said h i
    go (Some r) =
        by_test (λ a. Goes m.time l a.machine) (is_above (priority_of m.core.ps) (Some r)) _ _
        (λ _. goes_on-goes 0 l m (interrupted m.core m.devices said r.vector) h i)
        (λ _. runs_or_idles-goes l m said h i)

going_goes : (l : ℕ) (m : Timed) → Ready m.time l m → Goes m.time l (going m).machine
unfolding going
going_goes l m i =
    let w : Advanced = with_events m in
    let j = events_past m.time l m i in
    by_test (λ a. Goes m.time l a.machine) (nat_le m.limit m.time) _ _ (λ _. inl refl)
    (λ e. subst (λ (now : ℕ). Goes now l (turn w.machine w.entries).machine) j.0.same_time (turn_goes l w.machine w.entries (omega (arith, leb-false m.limit m.time e, j.0.same_time, i.0.same_limit)) (subst (λ (now : ℕ). Later now l w.machine) (sym j.0.same_time) j)))

-- Many advances

record HasReached (t l : ℕ) (m : Timed) : Type 0 where
  since : t ≤ m.time
  within : m.time ≤ l
  ready : Ready m.time l m

-- a machine has stopped, or its time has come so far
abbrev StopsOrReaches : ℕ → ℕ → Timed → Type 0
StopsOrReaches t l m = IsSome m.stop ⊎ HasReached t l m

stays_stopped : (m : Timed) → IsSome m.stop → IsSome (advance m).machine.stop
unfolding advance
stays_stopped m h = go m.stop h
  where
    go : (s : Option Stop) → IsSome s → IsSome (advance_from m s).machine.stop
    go None e = cc
    go (Some x) e = h

advance_reaches : (t l : ℕ) (m : Timed) → StopsOrReaches t l m → StopsOrReaches (t + 1) l (advance m).machine
unfolding advance
advance_reaches t l m (inl h) = inl (stays_stopped m h)
advance_reaches t l m (inr r) = subst (λ (s : Option Stop). StopsOrReaches (t + 1) l (advance_from m s).machine) (sym r.ready.0.on) (go (going_goes l m r.ready))
  where
    go : Goes m.time l (going m).machine → StopsOrReaches (t + 1) l (going m).machine
    go (inl h) = inl h
    go (inr g) = inr (record { since = omega (arith, r.since, g.later); within = g.within; ready = g.ready })

advances_reach : (n t l : ℕ) (m : Timed) → StopsOrReaches t l m → StopsOrReaches (t + n) l (advances n m).machine
unfolding advances
advances_reach zero t l m h = let e : t ≡ t + 0 = omega arith in subst (λ (x : ℕ). StopsOrReaches x l m) e h
advances_reach (suc n) t l m h =
    let e : t + n + 1 ≡ t + suc n = omega arith in
    subst (λ (x : ℕ). StopsOrReaches x l (advances (suc n) m).machine) e (advance_reaches (t + n) l (advances n m).machine (advances_reach n t l m h))

at_first : (m : Timed) → IsTimed m → StopsOrReaches m.time m.limit m
at_first m i = go m.stop refl
  where
    go : (s : Option Stop) → m.stop ≡ s → StopsOrReaches m.time m.limit m
    go None on = inr (record {
      since = omega arith;
      within = i.time;
      ready = (record { same_time = refl; same_limit = refl; on = on; period = i.period; printer = i.printer_delay.0; punch = i.punch_delay.0; reader = i.reader_delay.0 }, i.reader, i.punch, i.keys, i.printer);
    })
    go (Some x) is = inl (subst (λ (s : Option Stop). IsSome s) (sym is) refl)

-- each advance without a stop takes time, so the stop comes before the limit is passed
pub run_stops : (m : Timed) → IsTimed m → IsSome (advances (m.limit + 1) m).machine.stop
run_stops m i = go (advances_reach (m.limit + 1) m.time m.limit m (at_first m i))
  where
    go : StopsOrReaches (m.time + (m.limit + 1)) m.limit (advances (m.limit + 1) m).machine → IsSome (advances (m.limit + 1) m).machine.stop
    go (inl h) = h
    go (inr r) = absurd (omega (arith, r.since, r.within))
