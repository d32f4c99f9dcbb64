-- What shifts mean: by which number they multiply or divide, and the sign at each moment of one.
use Rattle.std.specs.Prelude.{◌≡◌, ◌≢◌, ℕ, zero, suc, ◌+◌, ◌-◌, ◌*◌, ◌/◌, ◌%◌, ◌^◌, ◌<◌, ◌≤◌, ◌==◌, nat_le, Bool, true, false, not, ◌||◌, ◌⊎◌, ◌↔◌, ℤ, pos, negsuc, ◌+ℤ◌, ◌*ℤ◌, neg_ℤ, if◌then◌else◌, refl}
use Rattle.std.specs.Int.{bit_at}
use Rattle.std.proofs.Common.{sym, ap, ◌∙◌, subst, inl, inr, arith}
use Rattle.std.proofs.lemmas.Bool.{false≢true, eq-eqb, le-leb}
use Rattle.std.proofs.lemmas.Bool.Decides.{eqb_tells, leb_tells, nat_tests}
use Rattle.std.proofs.Math.Nat.{mul_assoc, zero-mul, mod-eq_of_lt, div-le_self, mul_comm, le-mul_of_pos_right}
use Rattle.std.proofs.lemmas.Nat.{pow_pos, pow-add, mod_below, shl-shr, shr-shr, mod-pow-add, shl_below, shr_below, mul-le, div-add-mod', mod-mul-add, div_below}
use Rattle.std.proofs.lemmas.Int.{ints}
use Rattle.std.proofs.lemmas.Nat.Bits.{bit_at-zero, bit_at_ones, bit_at-lt, same_from_bits_below}
use Rattle.pdp_def.specs.declared.operation.Shifted.{Shifted}
use Rattle.pdp_def.specs.Signed.{shifted_left, shifted_right}
use Rattle.pdp_def.specs.SignedLaws.{not_le, number}

any_of : (a b : Bool) → (a ≡ true) ⊎ (b ≡ true) → not (a || b) ≡ false
any_of true b h = refl
any_of false true h = refl
any_of false false (inl e) = absurd (false≢true e)
any_of false false (inr e) = absurd (false≢true e)

-- ---- the sign at each moment of a shift to the left

-- the sign of a number of h + 1 bits after k steps
abbrev pub sign_after : ℕ → ℕ → ℕ → Bool
sign_after h x k = nat_le (2 ^ h) (x * 2 ^ k % (2 * 2 ^ h))

one_bit : (p q s : ℕ) → q < 2 → s < p → nat_le p (q * p + s) ≡ (q == 1)
one_bit p zero s a b = grind (arith, nat_tests)
one_bit p (suc zero) s a b = grind (arith, nat_tests)
one_bit p (suc (suc q)) s a b = absurd (omega arith)

-- the sign of a number of h + 1 bits is its top bit
top_bit : (h z : ℕ) → nat_le (2 ^ h) (z % (2 * 2 ^ h)) ≡ (bit_at z h == 1)
top_bit h z =
    let twice : 2 * 2 ^ h ≡ 2 ^ (1 + h) = sym (pow-add 2 1 h) in
    let parts : z % (2 * 2 ^ h) ≡ bit_at z h * 2 ^ h + z % 2 ^ h = ap (λ k. z % k) twice ∙ mod-pow-add z 1 h in
    ap (nat_le (2 ^ h)) parts ∙ one_bit (2 ^ h) (bit_at z h) (z % 2 ^ h) (bit_at-lt z h) (mod_below z (2 ^ h) (pow_pos h))

-- the sign after k steps of k + m is the bit m of all signs
sign_is_bit : (h x k m : ℕ) → sign_after h x k ≡ (bit_at (x * 2 ^ (k + m) / 2 ^ h) m == 1)
sign_is_bit h x k m =
    let whole : x * 2 ^ (k + m) ≡ x * 2 ^ k * 2 ^ m = ap (λ p. x * p) (pow-add 2 k m) ∙ sym (mul_assoc x (2 ^ k) (2 ^ m)) in
    let order : h + m ≡ m + h = omega arith in
    let moved : x * 2 ^ (k + m) / 2 ^ h / 2 ^ m ≡ x * 2 ^ k / 2 ^ h =
    ap (λ y. y / 2 ^ h / 2 ^ m) whole ∙ shr-shr (x * 2 ^ k * 2 ^ m) h m ∙ ap (λ j. x * 2 ^ k * 2 ^ m / 2 ^ j) order ∙ sym (shr-shr (x * 2 ^ k * 2 ^ m) m h) ∙ ap (λ y. y / 2 ^ h) (shl-shr (x * 2 ^ k) m) in
    top_bit h (x * 2 ^ k) ∙ ap (λ y. y % 2 == 1) (sym moved)

-- the signs at the n + 1 moments, as the bits of one number
signs_below : (h x n : ℕ) → x < 2 * 2 ^ h → x * 2 ^ n / 2 ^ h < 2 ^ (n + 1)
signs_below h x n low =
    let twice : 2 * 2 ^ h ≡ 2 ^ (1 + h) = sym (pow-add 2 1 h) in
    let whole : x * 2 ^ n < 2 ^ (1 + h + n) = shl_below x (1 + h) n (subst (λ p. x < p) twice low) in
    let order : 1 + h + n ≡ n + 1 + h = omega arith in
    shr_below (x * 2 ^ n) (n + 1) h (subst (λ j. x * 2 ^ n < 2 ^ j) order whole)

-- V of a shift to the left is clear exactly where the sign is the same at each moment of it
pub record SameSigns (h x n : ℕ) : Type 0 where
  pub each : (k : ℕ) → k ≤ n → sign_after h x k ≡ sign_after h x 0

bit_of : (h x n k : ℕ) → k ≤ n → sign_after h x k ≡ (bit_at (x * 2 ^ n / 2 ^ h) (n - k) == 1)
bit_of h x n k l =
    let e : k + (n - k) ≡ n = omega arith in
    sign_is_bit h x k (n - k) ∙ ap (λ j. bit_at (x * 2 ^ j / 2 ^ h) (n - k) == 1) e

same_bit : (a b : ℕ) → a < 2 → b < 2 → (a == 1) ≡ (b == 1) → a ≡ b
same_bit a b h k e = go (eqb_tells a 1) (eqb_tells b 1)
  where
    go : ((a == 1) ≡ true) × (a ≡ 1) ⊎ ((a == 1) ≡ false) × (a ≢ 1) → ((b == 1) ≡ true) × (b ≡ 1) ⊎ ((b == 1) ≡ false) × (b ≢ 1) → a ≡ b
    go (inl p) (inl q) = p.1 ∙ sym q.1
    go (inl p) (inr q) = absurd (false≢true (sym q.0 ∙ sym e ∙ p.0))
    go (inr p) (inl q) = absurd (false≢true (sym p.0 ∙ e ∙ q.0))
    go (inr p) (inr q) = omega arith

pub unchanged_means : (h x n : ℕ) → (shifted_left (2 ^ h) x n).changed ≡ false → SameSigns h x n
unchanged_means h x n e = go (eqb_tells signs 0) (eqb_tells signs (2 ^ (n + 1) - 1))
  where
    signs : ℕ
    signs = x * 2 ^ n / 2 ^ h

    every : (b : ℕ) → ((i : ℕ) → i < n + 1 → bit_at signs i ≡ b) → SameSigns h x n
    every b all =
        let at : (k : ℕ) → k ≤ n → sign_after h x k ≡ (b == 1) =
        λ k l. bit_of h x n k l ∙ ap (λ c. c == 1) (all (n - k) (omega arith)) in
        record { each = λ k l. at k l ∙ sym (at 0 (omega arith)) }

    go : ((signs == 0) ≡ true) × (signs ≡ 0) ⊎ ((signs == 0) ≡ false) × (signs ≢ 0) → ((signs == 2 ^ (n + 1) - 1) ≡ true) × (signs ≡ 2 ^ (n + 1) - 1) ⊎ ((signs == 2 ^ (n + 1) - 1) ≡ false) × (signs ≢ 2 ^ (n + 1) - 1) → SameSigns h x n
    go (inl p) q = every 0 (λ i _. ap (λ z. bit_at z i) p.1 ∙ bit_at-zero i)
    go (inr p) (inl q) = every 1 (λ i l. ap (λ z. bit_at z i) q.1 ∙ bit_at_ones (n + 1) i l)
    go (inr p) (inr q) = absurd (false≢true (sym e ∙ rw (p.0, q.0) refl))

pub same_means : (h x n : ℕ) → x < 2 * 2 ^ h → SameSigns h x n → (shifted_left (2 ^ h) x n).changed ≡ false
same_means h x n low same = go (eqb_tells (bit_at signs n) 1)
  where
    signs : ℕ
    signs = x * 2 ^ n / 2 ^ h

    alike : (i : ℕ) → i < n + 1 → bit_at signs i ≡ bit_at signs n
    alike i l =
        let back : n - (n - i) ≡ i = omega arith in
        let here : sign_after h x (n - i) ≡ (bit_at signs i == 1) = bit_of h x n (n - i) (omega arith) ∙ ap (λ j. bit_at signs j == 1) back in
        let first : sign_after h x 0 ≡ (bit_at signs n == 1) = bit_of h x n 0 (omega arith) ∙ ap (λ j. bit_at signs j == 1) (let e : n - 0 ≡ n = omega arith in e) in
        same_bit (bit_at signs i) (bit_at signs n) (bit_at-lt signs i) (bit_at-lt signs n) (sym here ∙ same.each (n - i) (omega arith) ∙ first)

    go : ((bit_at signs n == 1) ≡ true) × (bit_at signs n ≡ 1) ⊎ ((bit_at signs n == 1) ≡ false) × (bit_at signs n ≢ 1) → (shifted_left (2 ^ h) x n).changed ≡ false
    go (inl p) =
        let few : 2 ^ (n + 1) - 1 < 2 ^ (n + 1) = let some = pow_pos (n + 1) in omega arith in
        let ones : signs ≡ 2 ^ (n + 1) - 1 = same_from_bits_below (n + 1) signs (2 ^ (n + 1) - 1) (signs_below h x n low) few (λ i l. alike i l ∙ p.1 ∙ sym (bit_at_ones (n + 1) i l)) in
        any_of (signs == 0) (signs == 2 ^ (n + 1) - 1) (inr (eq-eqb signs (2 ^ (n + 1) - 1) ones))
    go (inr p) =
        let least : bit_at signs n < 2 = bit_at-lt signs n in
        let none : bit_at signs n ≡ 0 = omega arith in
        let zeros : signs ≡ 0 = same_from_bits_below (n + 1) signs 0 (signs_below h x n low) (pow_pos (n + 1)) (λ i l. alike i l ∙ none ∙ sym (bit_at-zero i)) in
        any_of (signs == 0) (signs == 2 ^ (n + 1) - 1) (inl (eq-eqb signs 0 zeros))

-- ---- shifts to the right

-- a number divided by a positive one, towards the lesser side
pub record IsFloor (x r : ℤ) (p : ℕ) : Type 0 where
  pub rest : ℕ
  pub less : rest < p
  pub whole : r *ℤ pos p +ℤ pos rest ≡ x

floor_low : (half x p : ℕ) → 0 < p → x < half → IsFloor (number half x) (number half (x / p % (2 * half))) p
floor_low half x p some low =
    let small : x / p ≤ x = div-le_self x p in
    let less : x / p < 2 * half = omega arith in
    let stays : x / p % (2 * half) ≡ x / p = mod-eq_of_lt less in
    let below : x / p < half = omega arith in
    record { rest = x % p; less = mod_below x p some; whole = rw (stays, not_le half (x / p) below, not_le half x low) (ap pos (div-add-mod' x p)) }

minus_and_plus : (m r : ℕ) → neg_ℤ (pos (m + r)) +ℤ pos r ≡ neg_ℤ (pos m)
minus_and_plus m r = omega (arith, ints)

add_one_times : (a b : ℕ) → suc a * b ≡ a * b + b
add_one_times a b = omega arith

-- j sizes of p make up m and the rest
floor_high : (half x p q rest j m k : ℕ) → half ≤ x → x < 2 * half → m ≡ 2 * half - x → suc j * p ≡ m + rest → rest < p → suc j ≤ half → q + suc j ≡ suc k * (2 * half) → IsFloor (number half x) (number half (q % (2 * half))) p
floor_high half x p q rest j m k high low is parts less most place =
    let size : ℕ = 2 * half in
    let more : suc k * size ≡ k * size + size = add_one_times k size in
    let q_is : q ≡ k * size + (size - suc j) = omega (arith, more) in
    let b : size - suc j < size = omega arith in
    let left : q % size ≡ size - suc j = ap (λ n. n % size) q_is ∙ mod-mul-add k size (size - suc j) b in
    let upper : half ≤ size - suc j = omega arith in
    let back : size - 1 - (size - suc j) ≡ j = omega arith in
    let whole : neg_ℤ (pos (suc j * p)) +ℤ pos rest ≡ neg_ℤ (pos m) = ap (λ n. neg_ℤ (pos n) +ℤ pos rest) parts ∙ minus_and_plus m rest in
    let m_is : m ≡ suc (size - 1 - x) = omega arith in
    let x_is : neg_ℤ (pos m) ≡ negsuc (size - 1 - x) = ap (λ n. neg_ℤ (pos n)) m_is in
    record { rest = rest; less = less; whole = rw (left, le-leb half (size - suc j) upper, back, le-leb half x high) (whole ∙ x_is) }

-- what stands in front and the number make a whole number of sizes, less m
high_parts : (half x n : ℕ) → half ≤ x → x < 2 * half → n ≤ 32 → IsFloor (number half x) (number half ((x + 4294967295 * (2 * half)) / 2 ^ n % (2 * half))) (2 ^ n)
high_parts half x n high low few =
    let p : ℕ = 2 ^ n in
    let size : ℕ = 2 * half in
    let y : ℕ = x + 4294967295 * size in
    let q : ℕ = y / p in
    let rest : ℕ = y % p in
    let m : ℕ = size - x in
    let k : ℕ = 2 ^ (32 - n) - 1 in
    let some : 0 < p = pow_pos n in
    let count : 0 < 2 ^ (32 - n) = pow_pos (32 - n) in
    let k_is : suc k ≡ 2 ^ (32 - n) = omega arith in
    let all : n + (32 - n) ≡ 32 = omega arith in
    let powers : 2 ^ (32 - n) * p ≡ 4294967296 = mul_comm (2 ^ (32 - n)) p ∙ sym (pow-add 2 n (32 - n)) ∙ ap (λ j. 2 ^ j) all in
    let z : ℕ = suc k * size in
    let z_times : z * p ≡ 4294967296 * size =
    ap (λ c. c * size * p) k_is ∙ mul_assoc (2 ^ (32 - n)) size p ∙ ap (λ c. 2 ^ (32 - n) * c) (mul_comm size p) ∙ sym (mul_assoc (2 ^ (32 - n)) p size) ∙ ap (λ c. c * size) powers in
    let y_less : y < z * p = omega (arith, z_times) in
    let q_less : q < z = div_below y p z some y_less in
    let whole : q * p + rest ≡ y = div-add-mod' y p in
    let j : ℕ = z - q - 1 in
    let place : q + suc j ≡ z = omega arith in
    let placed : (q + suc j) * p ≡ z * p = ap (λ c. c * p) place in
    let parts : suc j * p ≡ m + rest = omega (arith, placed, z_times, whole) in
    let less : rest < p = mod_below y p some in
    let grows : j ≤ j * p = le-mul_of_pos_right j some in
    let most : suc j ≤ half = omega (arith, parts, grows) in
    floor_high half x p q rest j m k high low refl parts less most place

-- a shift to the right by n divides by 2 ^ n
pub right-number : (half x n : ℕ) → x < 2 * half → n ≤ 32 → IsFloor (number half x) (number half (shifted_right half x n).number) (2 ^ n)
right-number half x n low few = go (leb_tells half x)
  where
    front : ℕ
    front = if nat_le half x then 4294967295 * (2 * half) else 0

    along : (y : ℕ) → x + front ≡ y → IsFloor (number half x) (number half (y / 2 ^ n % (2 * half))) (2 ^ n) → IsFloor (number half x) (number half (shifted_right half x n).number) (2 ^ n)
    along y e f = subst (λ (z : ℕ). IsFloor (number half x) (number half (z / 2 ^ n % (2 * half))) (2 ^ n)) (sym e) f

    go : (nat_le half x ≡ true) × (half ≤ x) ⊎ (nat_le half x ≡ false) × (x < half) → IsFloor (number half x) (number half (shifted_right half x n).number) (2 ^ n)
    go (inr t) =
        let e : x + front ≡ x = rw t.0 (omega arith) in
        along x e (floor_low half x (2 ^ n) (pow_pos n) t.1)
    go (inl t) = along (x + 4294967295 * (2 * half)) (rw t.0 refl) (high_parts half x n t.1 low few)

-- a shift to the left by n that does not change the sign multiplies by 2 ^ n
left_low : (half x p : ℕ) → 0 < p → x * p < half → number half (x * p % (2 * half)) ≡ number half x *ℤ pos p
left_low half x p some low =
    let least : x ≤ x * p = le-mul_of_pos_right x some in
    let below : x < half = omega arith in
    let less : x * p < 2 * half = omega arith in
    rw (mod-eq_of_lt less, not_le half (x * p) low, not_le half x below) refl

left_high : (half x p r : ℕ) → 0 < p → r < half → x < 2 * half → x * p + half ≡ p * (2 * half) + r → number half (x * p % (2 * half)) ≡ number half x *ℤ pos p
left_high half x p r some low in_size is = go (leb_tells half x)
  where
    size : ℕ
    size = 2 * half

    go : (nat_le half x ≡ true) × (half ≤ x) ⊎ (nat_le half x ≡ false) × (x < half) → number half (x * p % size) ≡ number half x *ℤ pos p
    go (inl t) =
        let m : ℕ = size - 1 - x in
        let m_is : suc m + x ≡ size = omega arith in
        let times : (suc m + x) * p ≡ size * p = ap (λ c. c * p) m_is in
        let parts : suc m * p + r ≡ half = omega (arith, times, is) in
        let k : ℕ = p - 1 in
        let p_is : p ≡ suc k = omega arith in
        let wide : p * size ≡ k * size + size = ap (λ c. c * size) p_is ∙ add_one_times k size in
        let y_is : x * p ≡ k * size + (half + r) = omega (arith, wide, is) in
        let b : half + r < size = omega arith in
        let left : x * p % size ≡ half + r = ap (λ c. c % size) y_is ∙ mod-mul-add k size (half + r) b in
        let upper : half ≤ half + r = omega arith in
        let result : suc (size - 1 - (half + r)) ≡ suc m * p = omega (arith, parts) in
        rw (left, le-leb half (half + r) upper, t.0) (ap (λ c. neg_ℤ (pos c)) result)
    go (inr t) =
        let times : suc x * p ≤ half * p = mul-le (suc x) p half p (omega arith) (omega arith) in
        let grows : half ≤ half * p = le-mul_of_pos_right half some in
        absurd (omega (arith, times, is, grows))

pub left-number : (half x n : ℕ) → 0 < half → x < 2 * half → (shifted_left half x n).changed ≡ false → number half (shifted_left half x n).number ≡ number half x *ℤ pos (2 ^ n)
left-number half x n some low clear = go (eqb_tells signs 0) (eqb_tells signs (2 ^ (n + 1) - 1))
  where
    signs : ℕ
    signs = x * 2 ^ n / half

    whole : signs * half + x * 2 ^ n % half ≡ x * 2 ^ n
    whole = div-add-mod' (x * 2 ^ n) half

    less : x * 2 ^ n % half < half
    less = mod_below (x * 2 ^ n) half some

    go : ((signs == 0) ≡ true) × (signs ≡ 0) ⊎ ((signs == 0) ≡ false) × (signs ≢ 0) → ((signs == 2 ^ (n + 1) - 1) ≡ true) × (signs ≡ 2 ^ (n + 1) - 1) ⊎ ((signs == 2 ^ (n + 1) - 1) ≡ false) × (signs ≢ 2 ^ (n + 1) - 1) → number half (shifted_left half x n).number ≡ number half x *ℤ pos (2 ^ n)
    go (inl p) q =
        let none : signs * half ≡ 0 = ap (λ c. c * half) p.1 ∙ zero-mul half in
        left_low half x (2 ^ n) (pow_pos n) (omega (arith, whole, less, none))
    go (inr p) (inl q) =
        let count : 0 < 2 ^ (n + 1) = pow_pos (n + 1) in
        let twice : 2 ^ (n + 1) ≡ 2 ^ n * 2 = pow-add 2 n 1 in
        let one_more : signs + 1 ≡ 2 ^ n * 2 = omega (arith, q.1, twice, count) in
        let times : (signs + 1) * half ≡ 2 ^ n * 2 * half = ap (λ c. c * half) one_more in
        left_high half x (2 ^ n) (x * 2 ^ n % half) (pow_pos n) less low (omega (arith, times, whole))
    go (inr p) (inr q) = absurd (false≢true (sym clear ∙ rw (p.0, q.0) refl))

-- ---- the same of any value that equals what is computed

pub keeps_sign : (s : Shifted) (half x n : ℕ) → x < 2 * half → s ≡ shifted_left half x n → (h : ℕ) → half ≡ 2 ^ h → (s.changed ≡ false) ↔ SameSigns h x n
keeps_sign s half x n low e h is =
    let low' : x < 2 * 2 ^ h = subst (λ k. x < 2 * k) is low in
    let same : s.changed ≡ (shifted_left (2 ^ h) x n).changed = ap (λ (t : Shifted). t.changed) e ∙ ap (λ k. (shifted_left k x n).changed) is in
    (λ clear. unchanged_means h x n (sym same ∙ clear), λ signs. same ∙ same_means h x n low' signs)

pub multiplies_by : (s : Shifted) (half x n : ℕ) → 0 < half → x < 2 * half → s ≡ shifted_left half x n → s.changed ≡ false → number half s.number ≡ number half x *ℤ pos (2 ^ n)
multiplies_by s half x n some low e =
    subst (λ (t : Shifted). t.changed ≡ false → number half t.number ≡ number half x *ℤ pos (2 ^ n)) (sym e) (left-number half x n some low)

pub divides_down : (s : Shifted) (half x n : ℕ) → x < 2 * half → n ≤ 32 → s ≡ shifted_right half x n → IsFloor (number half x) (number half s.number) (2 ^ n)
divides_down s half x n low few e =
    subst (λ (t : Shifted). IsFloor (number half x) (number half t.number) (2 ^ n)) (sym e) (right-number half x n low few)
