-- The value of digits, one more digit at a time.
use Rattle.std.proofs.Common.{◌≡◌, ◌≤◌, ◌<◌, ℕ, suc, ◌+◌, ◌-◌, ◌*◌, ◌^◌, min, List, [], ◌∷◌, ◌++◌, length, take, get_or, ◌⊎◌, inl, inr, refl, sym, ◌∙◌, ap, arith}
use Rattle.std.proofs.lemmas.List.{take_more}
use Rattle.mc_tree.specs.Spellings.{value_of}
use Rattle.std.proofs.Math.Nat.{pow-suc, pow-zero, mul-le-mul_right}

length_more : (digits : List ℕ) (d : ℕ) → length (digits ++ d ∷ []) ≡ suc (length digits)
length_more [] d = refl
length_more (x ∷ digits) d = ap suc (length_more digits d)

regroup : (a p b v d : ℕ) → a * (p * b) + (v * b + d) ≡ (a * p + v) * b + d
regroup a p b v d = omega arith

one_digit : (base d p : ℕ) → p ≡ 1 → d * p + 0 ≡ 0 * base + d
one_digit base d p e = rw e (omega arith)

pub value_more : (base : ℕ) (digits : List ℕ) (d : ℕ) → value_of base (digits ++ d ∷ []) ≡ value_of base digits * base + (d - 48)
value_more base [] d = one_digit base (d - 48) (base ^ 0) (pow-zero base)
value_more base (x ∷ digits) d =
    let power : base ^ length (digits ++ d ∷ []) ≡ base ^ length digits * base = ap (λ (n : ℕ). base ^ n) (length_more digits d) ∙ pow-suc base (length digits) in
    rw (power, value_more base digits d) (regroup (x - 48) (base ^ length digits) base (value_of base digits) (d - 48))

cap_more : (v w base d : ℕ) → 0 < base → w ≡ min v 65536 → min (w * base + d) 65536 ≡ min (v * base + d) 65536
cap_more v w base d some e = go (cases_le v 65536)
  where
    cases_le : (a b : ℕ) → (a ≤ b) ⊎ (b ≤ a)
    cases_le a b = grind arith

    go : (v ≤ 65536) ⊎ (65536 ≤ v) → min (w * base + d) 65536 ≡ min (v * base + d) 65536
    go (inl h) = let same : w ≡ v = omega arith in ap (λ (x : ℕ). min (x * base + d) 65536) same
    go (inr h) =
        let same : w ≡ 65536 = omega arith in
        let more : 65536 * base ≤ v * base = mul-le-mul_right base h in
        rw same (omega arith)

pub value_step : (base : ℕ) (digits : List ℕ) (i value d : ℕ) → 0 < base → i < length digits → value ≡ min (value_of base (take i digits)) 65536 → d ≡ get_or digits i 0 - 48 → min (value * base + d) 65536 ≡ min (value_of base (take (i + 1) digits)) 65536
value_step base digits i value d some l e f =
    let next : value_of base (take (i + 1) digits) ≡ value_of base (take i digits) * base + (get_or digits i 0 - 48) =
    ap (λ (s : List ℕ). value_of base s) (take_more digits i 0 l) ∙ value_more base (take i digits) (get_or digits i 0) in
    cap_more (value_of base (take i digits)) value base d some e ∙ ap (λ (x : ℕ). min x 65536) (ap (λ (x : ℕ). value_of base (take i digits) * base + x) f ∙ sym next)
