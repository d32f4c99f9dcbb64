-- What products and quotients mean, in numbers with a sign.
use Rattle.std.specs.Prelude.{◌≡◌, ◌≢◌, ℕ, zero, suc, ◌+◌, ◌-◌, ◌*◌, ◌/◌, ◌%◌, ◌<◌, ◌≤◌, ◌==◌, nat_le, Bool, true, false, ◌⊎◌, ℤ, pos, negsuc, ◌+ℤ◌, ◌*ℤ◌, neg_ℤ, unsigned_abs, if◌then◌else◌, refl}
use Rattle.std.proofs.Common.{sym, ap, ◌∙◌, subst, inl, inr, arith}
use Rattle.std.proofs.lemmas.Bool.{false≢true, le-leb}
use Rattle.std.proofs.lemmas.Bool.Decides.{eqb_tells, leb_tells, nat_tests}
use Rattle.std.proofs.Math.Nat.{mul-zero, zero-mul, mod_self, mod-eq_of_lt}
use Rattle.std.proofs.Math.IntN.{neg_ℤ-+ℤ}
use Rattle.std.proofs.lemmas.Nat.{mod_below, mul-le, div-add-mod'}
use Rattle.pdp_def.specs.Codes.{differ}
use Rattle.pdp_def.specs.declared.operation.ComputedPair.{ComputedPair}
use Rattle.pdp_def.specs.Signed.{word_half, pair_half, magnitude, value_of, fits_word, product, quotient}

-- the number that a value stands for, where half of the values are negative
abbrev pub number : ℕ → ℕ → ℤ
number half x = if nat_le half x then negsuc (2 * half - 1 - x) else pos x

-- the number of two words
abbrev pub pair_number : ℕ → ℕ → ℤ
pair_number high low = number pair_half (high * 0o200000 + low)

-- a number by its sign and its size
abbrev pub by_sign : Bool → ℕ → ℤ
by_sign minus m = if minus then neg_ℤ (pos m) else pos m

pub not_le : (a b : ℕ) → b < a → nat_le a b ≡ false
not_le a b l = grind (arith, nat_tests)

number-magnitude : (half x : ℕ) → x < 2 * half → number half x ≡ by_sign (nat_le half x) (magnitude half x)
number-magnitude half x low = go (leb_tells half x)
  where
    go : (nat_le half x ≡ true) × (half ≤ x) ⊎ (nat_le half x ≡ false) × (x < half) → number half x ≡ by_sign (nat_le half x) (magnitude half x)
    go (inl p) =
        let size : 2 * half - x ≡ suc (2 * half - 1 - x) = omega arith in
        rw (p.0, size) refl
    go (inr p) = rw p.0 refl

-- a value made of a sign and a size stands for that number, where it fits
pub record Fits (half : ℕ) (minus : Bool) (m : ℕ) : Type 0 where
  pub below : m ≤ half
  pub least : minus ≡ false → m < half

number-value_of : (half : ℕ) (minus : Bool) (m : ℕ) → 0 < half → Fits half minus m → number half (value_of half minus m) ≡ by_sign minus m
number-value_of half false m some fits =
    let low : m < half = fits.least refl in
    rw (not_le half m low) refl
number-value_of half true zero some fits =
    let whole : 2 * half - 0 ≡ 2 * half = omega arith in
    let gone : (2 * half - 0) % (2 * half) ≡ 0 = ap (λ k. k % (2 * half)) whole ∙ mod_self (2 * half) in
    rw (gone, not_le half 0 some) refl
number-value_of half true (suc m) some fits =
    let low : 2 * half - suc m < 2 * half = let b = fits.below in omega arith in
    let stays : (2 * half - suc m) % (2 * half) ≡ 2 * half - suc m = mod-eq_of_lt low in
    let high : half ≤ 2 * half - suc m = let b = fits.below in omega arith in
    let back : 2 * half - 1 - (2 * half - suc m) ≡ m = let b = fits.below in omega arith in
    rw (stays, le-leb half (2 * half - suc m) high, back) refl

by_sign-mul : (a b : Bool) (m k : ℕ) → by_sign a m *ℤ by_sign b k ≡ by_sign (differ a b) (m * k)
by_sign-mul false false m k = refl
by_sign-mul false true m zero = rw mul-zero refl
by_sign-mul false true m (suc k) = refl
by_sign-mul true false zero k = rw zero-mul refl
by_sign-mul true false (suc m) k = refl
by_sign-mul true true zero zero = refl
by_sign-mul true true zero (suc k) = rw zero-mul refl
by_sign-mul true true (suc m) zero = rw mul-zero refl
by_sign-mul true true (suc m) (suc k) = refl

magnitude-most : (half x : ℕ) → x < 2 * half → magnitude half x ≤ half
magnitude-most half x low = go (leb_tells half x)
  where
    go : (nat_le half x ≡ true) × (half ≤ x) ⊎ (nat_le half x ≡ false) × (x < half) → magnitude half x ≤ half
    go (inl p) = rw p.0 (omega arith)
    go (inr p) = rw p.0 (omega arith)

-- MUL gives the product of the numbers
pub product-number : (a b : ℕ) → a < 65536 → b < 65536 → pair_number (product a b).high (product a b).low ≡ number word_half a *ℤ number word_half b
unfolding product
product-number a b low_a low_b =
    let minus : Bool = differ (nat_le word_half a) (nat_le word_half b) in
    let m : ℕ = magnitude word_half a * magnitude word_half b in
    let most : m ≤ word_half * word_half = mul-le (magnitude word_half a) (magnitude word_half b) word_half word_half (magnitude-most word_half a low_a) (magnitude-most word_half b low_b) in
    let fits : Fits pair_half minus m = record { below = omega arith; least = λ _. omega arith } in
    let some : 0 < pair_half = omega arith in
    ap (number pair_half) (div-add-mod' (value_of pair_half minus m) 65536)
    ∙ number-value_of pair_half minus m some fits
    ∙ sym (by_sign-mul (nat_le word_half a) (nat_le word_half b) (magnitude word_half a) (magnitude word_half b))
    ∙ sym (ap (λ z. z *ℤ by_sign (nat_le word_half b) (magnitude word_half b)) (number-magnitude word_half a low_a))
    ∙ sym (ap (λ z. number word_half a *ℤ z) (number-magnitude word_half b low_b))

-- ---- division

abbrev pub is_below_zero : ℤ → Bool
is_below_zero (pos n) = false
is_below_zero (negsuc n) = true

-- a quotient that truncates, and a remainder that has the dividend's sign
pub record Divides (dividend divisor quotient rest : ℤ) : Type 0 where
  pub whole : quotient *ℤ divisor +ℤ rest ≡ dividend
  pub smaller : unsigned_abs rest < unsigned_abs divisor
  pub side : (rest ≡ pos 0) ⊎ (is_below_zero rest ≡ is_below_zero dividend)

by_sign-add : (a : Bool) (m k : ℕ) → by_sign a m +ℤ by_sign a k ≡ by_sign a (m + k)
by_sign-add false m k = refl
by_sign-add true m k = sym (neg_ℤ-+ℤ (pos m) (pos k))

by_sign-abs : (a : Bool) (m : ℕ) → unsigned_abs (by_sign a m) ≡ m
by_sign-abs false m = refl
by_sign-abs true zero = refl
by_sign-abs true (suc m) = refl

differ-twice : (a b : Bool) → differ (differ a b) b ≡ a
differ-twice false false = refl
differ-twice false true = refl
differ-twice true false = refl
differ-twice true true = refl

on_side : (a : Bool) (m r : ℕ) → r ≤ m → (by_sign a r ≡ pos 0) ⊎ (is_below_zero (by_sign a r) ≡ is_below_zero (by_sign a m))
on_side false m r l = inr refl
on_side true m zero l = inl refl
on_side true zero (suc r) l = absurd (omega arith)
on_side true (suc m) (suc r) l = inr refl

-- division of sizes is division of numbers
sizes-divide : (a b : Bool) (m k : ℕ) → 0 < k → Divides (by_sign a m) (by_sign b k) (by_sign (differ a b) (m / k)) (by_sign a (m % k))
sizes-divide a b m k some =
    let q : ℕ = m / k in
    let r : ℕ = m % k in
    let whole : q * k + r ≡ m = div-add-mod' m k in
    let less : r < k = mod_below m k some in
    record {
      whole = ap (λ z. z +ℤ by_sign a r) (by_sign-mul (differ a b) b q k ∙ ap (λ c. by_sign c (q * k)) (differ-twice a b)) ∙ by_sign-add a (q * k) r ∙ ap (by_sign a) whole;
      smaller = subst (λ n. n < unsigned_abs (by_sign b k)) (sym (by_sign-abs a r)) (subst (λ n. r < n) (sym (by_sign-abs b k)) less);
      side = on_side a m r (omega (arith, whole));
    }

fits_means : (minus : Bool) (m : ℕ) → fits_word minus m ≡ true → Fits word_half minus m
fits_means false m h = let low : m < word_half = grind (arith, nat_tests) in record { below = omega arith; least = λ _. low }
fits_means true m h = let low : m ≤ word_half = grind (arith, nat_tests) in record { below = low; least = λ e. absurd (false≢true (sym e)) }

-- the sign of two words is that of the high one
pair_sign : (high low : ℕ) → low < 65536 → nat_le pair_half (high * 0o200000 + low) ≡ nat_le word_half high
pair_sign high low l = go (leb_tells word_half high)
  where
    go : (nat_le word_half high ≡ true) × (word_half ≤ high) ⊎ (nat_le word_half high ≡ false) × (high < word_half) → nat_le pair_half (high * 0o200000 + low) ≡ nat_le word_half high
    go (inl p) = le-leb pair_half (high * 0o200000 + low) (omega arith) ∙ sym p.0
    go (inr p) = not_le pair_half (high * 0o200000 + low) (omega arith) ∙ sym p.0

magnitude-some : (half x : ℕ) → x < 2 * half → x ≢ 0 → 0 < magnitude half x
magnitude-some half x low some = go (leb_tells half x)
  where
    go : (nat_le half x ≡ true) × (half ≤ x) ⊎ (nat_le half x ≡ false) × (x < half) → 0 < magnitude half x
    go (inl p) = rw p.0 (omega arith)
    go (inr p) = rw p.0 (omega arith)

-- DIV, where V is clear, divides the numbers
pub quotient-number :
    (high low divisor : ℕ) → high < 65536 → low < 65536 → divisor < 65536
    → (quotient high low divisor).codes.v ≡ false
    → Divides (pair_number high low) (number word_half divisor) (number word_half (quotient high low divisor).high) (number word_half (quotient high low divisor).low)
unfolding quotient
quotient-number high low divisor low_high low_low low_divisor clear = go (eqb_tells divisor 0) (either fits)
  where
    minus : Bool
    minus = differ (nat_le word_half high) (nat_le word_half divisor)

    x : ℕ
    x = high * 0o200000 + low

    m : ℕ
    m = magnitude pair_half x / magnitude word_half divisor

    rest : ℕ
    rest = magnitude pair_half x % magnitude word_half divisor

    fits : Bool
    fits = fits_word minus m

    either : (b : Bool) → (b ≡ true) ⊎ (b ≡ false)
    either true = inl refl
    either false = inr refl

    given : ComputedPair
    given = quotient high low divisor

    divides : divisor ≢ 0 → fits ≡ true → Divides (pair_number high low) (number word_half divisor) (number word_half (value_of word_half minus m)) (number word_half (value_of word_half (nat_le word_half high) rest))
    divides some f =
        let k : ℕ = magnitude word_half divisor in
        let size : ℕ = magnitude pair_half x in
        let more : 0 < k = magnitude-some word_half divisor low_divisor some in
        let most : k ≤ word_half = magnitude-most word_half divisor low_divisor in
        let less : rest < k = mod_below size k more in
        let left : Fits word_half (nat_le word_half high) rest = record { below = omega arith; least = λ _. omega arith } in
        let half_more : 0 < word_half = omega arith in
        let in_pair : x < 2 * pair_half = omega arith in
        let dividend : pair_number high low ≡ by_sign (nat_le word_half high) size =
        number-magnitude pair_half x in_pair ∙ ap (λ b. by_sign b size) (pair_sign high low low_low) in
        let by : number word_half divisor ≡ by_sign (nat_le word_half divisor) k = number-magnitude word_half divisor low_divisor in
        let q : number word_half (value_of word_half minus m) ≡ by_sign minus m = number-value_of word_half minus m half_more (fits_means minus m f) in
        let r : number word_half (value_of word_half (nat_le word_half high) rest) ≡ by_sign (nat_le word_half high) rest = number-value_of word_half (nat_le word_half high) rest half_more left in
        rw (dividend, by, q, r) (sizes-divide (nat_le word_half high) (nat_le word_half divisor) size k more)

    go : ((divisor == 0) ≡ true) × (divisor ≡ 0) ⊎ ((divisor == 0) ≡ false) × (divisor ≢ 0) → (fits ≡ true) ⊎ (fits ≡ false) → Divides (pair_number high low) (number word_half divisor) (number word_half given.high) (number word_half given.low)
    go (inl p) f = absurd (false≢true (sym clear ∙ rw p.0 refl))
    go (inr p) (inl f) = rw (p.0, f) (divides p.1 f)
    go (inr p) (inr f) = absurd (false≢true (sym clear ∙ rw (p.0, f) refl))

-- the same of any value that equals what is computed
pub multiplies : (p : ComputedPair) (a b : ℕ) → a < 65536 → b < 65536 → p ≡ product a b → pair_number p.high p.low ≡ number word_half a *ℤ number word_half b
multiplies p a b h k e =
    subst (λ (r : ComputedPair). pair_number r.high r.low ≡ number word_half a *ℤ number word_half b) (sym e) (product-number a b h k)

pub divides_by :
    (p : ComputedPair) (high low divisor : ℕ) → high < 65536 → low < 65536 → divisor < 65536 → p ≡ quotient high low divisor
    → p.codes.v ≡ false
    → Divides (pair_number high low) (number word_half divisor) (number word_half p.high) (number word_half p.low)
divides_by p high low divisor h l d e =
    subst (λ (r : ComputedPair). r.codes.v ≡ false → Divides (pair_number high low) (number word_half divisor) (number word_half r.high) (number word_half r.low)) (sym e) (quotient-number high low divisor h l d)
