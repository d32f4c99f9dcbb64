-- Tracking through two layers.
use Rattle.std.proofs.Common.{◌≡◌, ℕ, zero, suc, ◌+◌, ◌-◌, ◌<◌, ◌≤◌, List, length, take, ap, ◌∙◌, subst, arith}
use Rattle.tracking.specs.Tracking.{Tracking}

-- a position does not fall from any step to a later one
climbs : (p : ℕ → ℕ) (n : ℕ) → ((k : ℕ) → k < n → p k ≤ p (suc k)) → (d i : ℕ) → i + d ≤ n → p i ≤ p (i + d)
climbs p n rises zero i h = let e : i ≡ i + 0 = omega arith in subst (λ (j : ℕ). p i ≤ p j) e (omega arith)
climbs p n rises (suc d) i h =
    let a = climbs p n rises d i (omega arith) in
    let b = rises (i + d) (omega arith) in
    let e : suc (i + d) ≡ i + suc d = omega arith in
    subst (λ (j : ℕ). p i ≤ p j) e (omega (arith, a, b))

climbs_to : (p : ℕ → ℕ) (n : ℕ) → ((k : ℕ) → k < n → p k ≤ p (suc k)) → (i j : ℕ) → i ≤ j → j ≤ n → p i ≤ p j
climbs_to p n rises i j h k =
    let e : i + (j - i) ≡ j = omega arith in
    subst (λ (x : ℕ). p i ≤ p x) e (climbs p n rises (j - i) i (omega arith))

-- what holds of the lowest and the middle, and of the middle and the highest
abbrev pub Both : {L M U : Type 0} → (List L → List M → Type 0) → (List M → List U → Type 0) → List L → List U → Type 0
Both {M = M} F G lows ups = (mids : List M) × (F lows mids × G mids ups)

pub compose : {L M U : Type 0} (F : List L → List M → Type 0) (G : List M → List U → Type 0) (lows : List L) (t : Tracking F lows) → Tracking G t.run → Tracking (Both F G) lows
compose F G lows t u =
    let p : ℕ → ℕ = t.position in
    let q : ℕ → ℕ = u.position in
    let n : ℕ = length lows in
    let within : (k : ℕ) → k ≤ n → p k ≤ length t.run = λ k h. subst (λ (x : ℕ). p k ≤ x) t.ends (climbs_to p n t.rises k n h (omega arith)) in
    record {
      run = u.run;
      position = λ k. q (p k);
      starts = ap q t.starts ∙ u.starts;
      ends = ap q t.ends ∙ u.ends;
      rises = λ k h. climbs_to q (length t.run) u.rises (p k) (p (suc k)) (t.rises k h) (within (suc k) (omega arith));
      facts = λ k h. (take (p k) t.run, (t.facts k h, u.facts (p k) (within k h)));
    }
