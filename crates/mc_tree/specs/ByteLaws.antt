-- Which byte can begin which spelling, and lists of bytes that pass a test.
use Rattle.std.specs.Prelude.{◌≡◌, ℕ, Bool, true, false, nat_eq, ◌||◌, List, [], ◌∷◌, ◌++◌}
use Rattle.std.proofs.Common.{arith}
use Rattle.std.proofs.lemmas.Bool.Decides.{nat_tests}
use Rattle.mc_tree.specs.Spellings.{is_within, is_blank, is_letter, is_digit, is_octal_digit, is_letter_or_digit, is_quote, Each}

-- a byte that begins a symbol
abbrev pub is_mark : ℕ → Bool
is_mark b = is_within 40 46 b || (is_within 58 62 b || (nat_eq b 91 || nat_eq b 93))

pub letter_is_no_digit : (b : ℕ) → is_letter b ≡ true → is_digit b ≡ true → ⊥
letter_is_no_digit b p q = grind (arith, nat_tests)

pub letter_is_no_quote : (b : ℕ) → is_letter b ≡ true → is_quote b ≡ true → ⊥
letter_is_no_quote b p q = grind (arith, nat_tests)

pub letter_is_no_mark : (b : ℕ) → is_letter b ≡ true → is_mark b ≡ true → ⊥
letter_is_no_mark b p q = grind (arith, nat_tests)

pub digit_is_no_quote : (b : ℕ) → is_digit b ≡ true → is_quote b ≡ true → ⊥
digit_is_no_quote b p q = grind (arith, nat_tests)

pub digit_is_no_mark : (b : ℕ) → is_digit b ≡ true → is_mark b ≡ true → ⊥
digit_is_no_mark b p q = grind (arith, nat_tests)

pub quote_is_no_mark : (b : ℕ) → is_quote b ≡ true → is_mark b ≡ true → ⊥
quote_is_no_mark b p q = grind (arith, nat_tests)

pub octal_is_digit : (b : ℕ) → is_octal_digit b ≡ true → is_digit b ≡ true
octal_is_digit b p = grind (arith, nat_tests)

pub digit_is_letter_or_digit : (b : ℕ) → is_digit b ≡ true → is_letter_or_digit b ≡ true
digit_is_letter_or_digit b p = grind (arith, nat_tests)

pub blank_begins_no_token : (b : ℕ) → is_blank b ≡ true → (is_letter b || (is_digit b || (is_quote b || is_mark b))) ≡ false
blank_begins_no_token b p = grind (arith, nat_tests)

pub Each-append : (test : ℕ → Bool) (xs ys : List ℕ) → Each test xs → Each test ys → Each test (xs ++ ys)
Each-append test [] ys p q = q
Each-append test (x ∷ xs) ys p q = (p.0, Each-append test xs ys p.1 q)

pub Each-append_left : (test : ℕ → Bool) (xs ys : List ℕ) → Each test (xs ++ ys) → Each test xs
Each-append_left test [] ys p = tt
Each-append_left test (x ∷ xs) ys p = (p.0, Each-append_left test xs ys p.1)

pub Each-append_right : (test : ℕ → Bool) (xs ys : List ℕ) → Each test (xs ++ ys) → Each test ys
Each-append_right test [] ys p = p
Each-append_right test (x ∷ xs) ys p = Each-append_right test xs ys p.1

pub Each-weaker : (test other : ℕ → Bool) → ((b : ℕ) → test b ≡ true → other b ≡ true) → (xs : List ℕ) → Each test xs → Each other xs
Each-weaker test other h [] p = tt
Each-weaker test other h (x ∷ xs) p = (h x p.0, Each-weaker test other h xs p.1)
