-- Bits past those of a word.
use Rattle.std.specs.Prelude.{◌≡◌, ◌<◌, ◌≤◌, ℕ, ◌+◌, ◌-◌, ◌*◌, ◌%◌, ◌^◌, Bool, true, false}
use Rattle.std.proofs.Common.{ap, sym, ◌∙◌, arith, lit<}
use Rattle.std.proofs.Math.Nat.{pow-le-pow_right, div-eq_of_lt}
use Rattle.std.proofs.lemmas.Nat.{pow-add}
use Rattle.mc_prog.specs.Values.{truth}
use Rattle.mc_meaning.specs.Access.{bit_of, with_bit}

pub bit-past : (w i : ℕ) → w < 65536 → 15 < i → 0 ≡ bit_of w i
bit-past w i small past =
    let far : 16 ≤ i = omega arith in
    let most : 2 ^ 16 ≤ 2 ^ i = pow-le-pow_right {n = 2} (lit< tt) {i = 16} {j = i} far in
    let less : w < 2 ^ i = omega arith in
    sym (ap (λ (q : ℕ). q % 2) (div-eq_of_lt less))

past-word : (w unit high : ℕ) (b : Bool) → w < 65536 → unit ≡ 65536 * high → ((w - 0 * unit) + truth b * unit) % 65536 ≡ w
past-word w unit high false small is = omega arith
past-word w unit high true small is = omega arith

-- a word stays as it is with a bit past those that it has
pub with_bit-past : (w i : ℕ) (b : Bool) → w < 65536 → 15 < i → w ≡ with_bit w i (truth b)
with_bit-past w i b small past =
    let far : i ≡ 16 + (i - 16) = omega arith in
    let high : 2 ^ i ≡ 65536 * 2 ^ (i - 16) = ap (λ (j : ℕ). 2 ^ j) far ∙ pow-add 2 16 (i - 16) in
    sym (ap (λ (bit : ℕ). ((w - bit * 2 ^ i) + truth b * 2 ^ i) % 65536) (sym (bit-past w i small past)) ∙ past-word w (2 ^ i) (2 ^ (i - 16)) b small high)
