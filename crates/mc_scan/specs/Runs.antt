-- Bytes of one class in a row.
use Rattle.std.specs.Prelude.{◌≡◌, ◌≤◌, ◌<◌, ℕ, suc, zero, ◌+◌, Bool, true, false, List, [], ◌∷◌, length, take, drop, slice_index}
use Rattle.std.proofs.Common.{sym, subst, arith, add-one}
use Rattle.mc_tree.specs.Spellings.{is_letter_or_digit, is_digit, is_octal_digit, is_inside, Each}
use Rattle.mc_scan.specs.declared.bytes.Class.{Class}
use Rattle.mc_scan.specs.declared.bytes.Class.TheVariants.{LetterOrDigit, Digit, OctalDigit, Inside}

abbrev pub test_of : Class → ℕ → Bool
test_of LetterOrDigit = is_letter_or_digit
test_of Digit = is_digit
test_of OctalDigit = is_octal_digit
test_of (Inside quote) = is_inside quote

-- nothing, or first a byte that fails the test
abbrev pub StopsAt : (ℕ → Bool) → List ℕ → Type 0
StopsAt test [] = Unit {0}
StopsAt test (b ∷ bytes) = test b ≡ false

-- n bytes at the front pass the test, and no more
pub record RunsTo (test : ℕ → Bool) (n : ℕ) (bytes : List ℕ) : Type 0 where
  pub within : n ≤ length bytes
  pub each : Each test (take n bytes)
  pub stops : StopsAt test (drop n bytes)

pub Each-take_more : (test : ℕ → Bool) (bytes : List ℕ) (i : ℕ) → Each test (take i bytes) → test (slice_index bytes i) ≡ true → Each test (take (suc i) bytes)
Each-take_more test [] i h e = tt
Each-take_more test (b ∷ bytes) zero h e = (e, tt)
Each-take_more test (b ∷ bytes) (suc i) h e = (h.0, Each-take_more test bytes i h.1 e)

pub each_more : (test : ℕ → Bool) (bytes : List ℕ) (i : ℕ) → Each test (take i bytes) → test (slice_index bytes i) ≡ true → Each test (take (i + 1) bytes)
each_more test bytes i h e = subst (λ (n : ℕ). Each test (take n bytes)) (sym (add-one i)) (Each-take_more test bytes i h e)

pub each_at : (test : ℕ → Bool) (bytes : List ℕ) (i : ℕ) → Each test bytes → i < length bytes → test (slice_index bytes i) ≡ true
each_at test [] i h l = absurd (omega arith)
each_at test (b ∷ bytes) zero h l = h.0
each_at test (b ∷ bytes) (suc i) h l = each_at test bytes i h.1 (omega arith)

pub stops_here : (test : ℕ → Bool) (bytes : List ℕ) (i : ℕ) → i < length bytes → test (slice_index bytes i) ≡ false → StopsAt test (drop i bytes)
stops_here test [] i h e = absurd (omega arith)
stops_here test (b ∷ bytes) zero h e = e
stops_here test (b ∷ bytes) (suc i) h e = stops_here test bytes i (omega arith) e

pub all_run : (test : ℕ → Bool) (bytes : List ℕ) → Each test (take (length bytes) bytes) → RunsTo test (length bytes) bytes
all_run test bytes h = record { within = omega arith; each = h; stops = nothing_left bytes }
  where
    nothing_left : (xs : List ℕ) → StopsAt test (drop (length xs) xs)
    nothing_left [] = tt
    nothing_left (x ∷ xs) = nothing_left xs
