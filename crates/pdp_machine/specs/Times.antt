-- What is due stays ahead of the time.
use Rattle.std.proofs.Common.{◌≡◌, ℕ, ◌+◌, ◌<◌, ◌≤◌, min, ◌≢◌, List, [], ◌∷◌, Option, Some, None, refl, subst, sym, arith}
use Rattle.std.specs.Prelude.{unwrap_or, is_some, drop, if◌then◌else◌, ◌==◌, Bool, true, false}
use Rattle.std.proofs.lemmas.Bool.{eqb-true, eqb-false}
use Rattle.mc_script.specs.Script.{AreAfter}
use Rattle.mc_script.specs.declared.script.Key.{Key}
use Rattle.pdp_machine.specs.Timed.{Timed, IsTimed, IsAhead, AreAhead, earlier, next_key, next_tick, next_event, key_at}

pub IsAhead-weaker : (t t' : ℕ) (due : Option ℕ) → t ≤ t' → IsAhead t' due → IsAhead t due
IsAhead-weaker t t' None h k = tt
IsAhead-weaker t t' (Some x) h k = omega (arith, k)

pub AreAhead-weaker : (t t' : ℕ) (keys : List Key) → t ≤ t' → AreAhead t' keys → AreAhead t keys
AreAhead-weaker t t' [] h k = tt
AreAhead-weaker t t' (key ∷ keys) h k = (omega (arith, k.0), k.1, k.2)

AreAhead-next : (t t' : ℕ) (keys : List Key) → AreAhead t keys → IsAhead t' (next_key keys) → AreAhead t' keys
AreAhead-next t t' [] h k = tt
AreAhead-next t t' (key ∷ keys) h k = (k, h.1, h.2)

-- the first time is there where the second is, and is not after it
abbrev Precedes : Option ℕ → Option ℕ → Type 0
Precedes a None = Unit {0}
Precedes None (Some y) = ⊥
Precedes (Some x) (Some y) = x ≤ y

precedes-self : (a : Option ℕ) → Precedes a a
precedes-self None = tt
precedes-self (Some x) = omega arith

earlier-left : (a b : Option ℕ) → Precedes (earlier a b) a
earlier-left None b = tt
earlier-left (Some x) None = omega arith
earlier-left (Some x) (Some y) = omega arith

earlier-right : (a b c : Option ℕ) → Precedes b c → Precedes (earlier a b) c
earlier-right None b c h = h
earlier-right (Some x) None None h = tt
earlier-right (Some x) (Some y) None h = tt
earlier-right (Some x) None (Some z) h = absurd h
earlier-right (Some x) (Some y) (Some z) h = omega (arith, h)

reached : (a c : Option ℕ) (l : ℕ) → Precedes a c → IsAhead (min (unwrap_or a l) l) c
reached a None l h = tt
reached None (Some y) l h = absurd h
reached (Some x) (Some y) l h = omega (arith, h)

-- at the next event, or at the limit, nothing that is due is past
pub record IsReached (t : ℕ) (m : Timed) : Type 0 where
  pub printer : IsAhead t m.printer_due
  pub punch : IsAhead t m.punch_due
  pub reader : IsAhead t m.reader_due
  pub keys : AreAhead t m.keys

pub next_reached : (m : Timed) (t from : ℕ) → AreAhead from m.keys → t ≡ min (unwrap_or (next_event m) m.limit) m.limit → IsReached t m
next_reached m t from keys e =
    let k : Option ℕ = next_key m.keys in
    let c : Option ℕ = next_tick m.clock m.time in
    let r : Option ℕ = earlier m.reader_due (earlier k c) in
    let p : Option ℕ = earlier m.punch_due r in
    let back : (due : Option ℕ) → Precedes (next_event m) due → IsAhead t due = λ due q. subst (λ (x : ℕ). IsAhead x due) (sym e) (reached (next_event m) due m.limit q) in
    record {
      printer = back m.printer_due (earlier-left m.printer_due p);
      punch = back m.punch_due (earlier-right m.printer_due p m.punch_due (earlier-left m.punch_due r));
      reader = back m.reader_due (earlier-right m.printer_due p m.reader_due (earlier-right m.punch_due r m.reader_due (earlier-left m.reader_due (earlier k c))));
      keys = AreAhead-next from t m.keys keys (back k (earlier-right m.printer_due p k (earlier-right m.punch_due r k (earlier-right m.reader_due (earlier k c) k (earlier-left k c)))));
    }

pub at_next : (m : Timed) (t : ℕ) → IsTimed m → m.time ≤ t → t ≡ min (unwrap_or (next_event m) m.limit) m.limit → IsTimed (record m { time = t })
at_next m t i h e =
    let n = next_reached m t m.time i.keys e in
    record {
      time = omega (arith, e);
      limit = i.limit;
      instructions = omega (arith, h, i.instructions);
      printer = n.printer;
      punch = n.punch;
      reader = n.reader;
      keys = n.keys;
      period = i.period;
      printer_delay = i.printer_delay;
      punch_delay = i.punch_delay;
      reader_delay = i.reader_delay;
    }

-- the keys that are left once the one of this time is struck
pub keys_left : (time : ℕ) (keys : List Key) → AreAhead time keys → AreAhead (time + 1) (if is_some (key_at time keys) then drop 1 keys else keys)
keys_left time [] h = tt
keys_left time (key ∷ keys) h = go (key.at == time) refl
  where
    go : (b : Bool) → (key.at == time) ≡ b → AreAhead (time + 1) (if is_some (if b then Some key.byte else None) then keys else (key ∷ keys))
    go true e = let same : key.at ≡ time = eqb-true key.at time e in AreAhead-weaker (time + 1) (key.at + 1) keys (omega arith) h.2
    go false e = let other : key.at ≢ time = eqb-false key.at time e in (omega (arith, h.0), h.1, h.2)

pub later_at : (a : Option ℕ) (t l : ℕ) → IsAhead (t + 1) a → t < l → t < min (unwrap_or a l) l
later_at None t l h k = omega arith
later_at (Some x) t l h k = omega (arith, h)

pub AreAhead-after : (t : ℕ) (keys : List Key) → AreAfter t keys → AreAhead (t + 1) keys
AreAhead-after t [] h = tt
AreAhead-after t (key ∷ keys) h = (omega (arith, h.0), h.1, AreAhead-after key.at keys h.2)
