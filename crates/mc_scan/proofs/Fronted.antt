-- The number at the front, and its token.
use Rattle.std.proofs.Common.{◌≡◌, ◌≢◌, ◌≤◌, ◌<◌, ℕ, suc, zero, ◌+◌, min, Bool, true, false, List, [], ◌∷◌, ◌++◌, length, take, drop, get_or, inl, inr, refl, sym, ◌∙◌, ap, subst, arith}
use Rattle.std.proofs.lemmas.Bool.{both_ways}
use Rattle.std.proofs.lemmas.List.{append-nil, take-append-drop, take_more}
use Rattle.mc_tree.specs.Spellings.{is_digit, is_octal_digit, is_digit_of, Each, Form, Decimal, Octal, Character, mark_of, base_of, value_of, greatest_of, IsNumeral, IsSpelling, IsLongest}
use Rattle.mc_tree.specs.ByteLaws.{Each-weaker}
use Rattle.mc_tree.specs.SpellingLaws.{digit_of_is_digit}
use Rattle.mc_scan.specs.Runs.{RunsTo}
use Rattle.mc_tree.specs.KindLaws.{SameNumeral, numeral_unique}
use Rattle.mc_tree.specs.Sources.{BeginsTooLarge}
use Rattle.mc_scan.specs.Numerals.{IsNumeralFront, kind_of}
use Rattle.mc_scan.specs.Pieces.{IsTaken}
use Rattle.std.proofs.Common.{add-zero}
use Rattle.std.proofs.lemmas.List.{length-take-le}
use Rattle.mc_scan.proofs.Numbers.{longest_marked, longest_decimal, HasNoMark}

-- the front is not empty, since its first byte passes
run_is_some : (test : ℕ → Bool) (bytes : List ℕ) (n : ℕ) → 0 < length bytes → test (get_or bytes 0 0) ≡ true → RunsTo test n bytes → 0 < n
run_is_some test [] n l h r = absurd (omega arith)
run_is_some test (b ∷ bytes) zero l h r = absurd (both_ways (test b) r.stops h)
run_is_some test (b ∷ bytes) (suc n) l h r = omega arith

drop_take : (bytes : List ℕ) (n : ℕ) → take n bytes ++ drop n bytes ≡ bytes
drop_take bytes n = take-append-drop n bytes

mark_front : (bytes : List ℕ) (n x : ℕ) → is_digit (get_or bytes 0 0) ≡ true → RunsTo is_octal_digit n bytes → n < length bytes → get_or bytes n 0 ≡ x → is_digit x ≡ false → 0 < n
mark_front bytes zero x h r l e d = absurd (both_ways (is_digit x) d (subst (λ (b : ℕ). is_digit b ≡ true) e h))
mark_front bytes (suc n) x h r l e d = omega arith

spelled_with_mark : (bytes : List ℕ) (n x : ℕ) → n < length bytes → get_or bytes n 0 ≡ x → take (n + 1) bytes ≡ take n bytes ++ x ∷ []
spelled_with_mark bytes n x l e = take_more bytes n 0 l ∙ ap (λ (b : ℕ). take n bytes ++ b ∷ []) e

longest_with_mark : (bytes : List ℕ) (n x : ℕ) → 0 < n → RunsTo is_octal_digit n bytes → n < length bytes → get_or bytes n 0 ≡ x → is_digit x ≡ false → is_octal_digit x ≡ false → IsLongest (take (n + 1) bytes) (drop (n + 1) bytes)
longest_with_mark bytes n x some r l e d o =
    let long : 0 < length (take n bytes) = omega (arith, length-take-le n bytes r.within) in
    subst (λ (s : List ℕ). IsLongest s (drop (n + 1) bytes)) (sym (spelled_with_mark bytes n x l e))
    (longest_marked (take n bytes) x (drop (n + 1) bytes) long r.each d o)

pub octal_front : (bytes : List ℕ) (n : ℕ) → is_digit (get_or bytes 0 0) ≡ true → RunsTo is_octal_digit n bytes → n < length bytes → get_or bytes n 0 ≡ 66 → IsNumeralFront Octal n bytes
octal_front bytes n h r l e =
    let some : 0 < n = mark_front bytes n 66 h r l e refl in
    record { within = omega arith; some = some; digits = r.each; marked = spelled_with_mark bytes n 66 l e; longest = longest_with_mark bytes n 66 some r l e refl refl }

pub character_front : (bytes : List ℕ) (n : ℕ) → is_digit (get_or bytes 0 0) ≡ true → RunsTo is_octal_digit n bytes → n < length bytes → get_or bytes n 0 ≡ 67 → IsNumeralFront Character n bytes
character_front bytes n h r l e =
    let some : 0 < n = mark_front bytes n 67 h r l e refl in
    record { within = omega arith; some = some; digits = r.each; marked = spelled_with_mark bytes n 67 l e; longest = longest_with_mark bytes n 67 some r l e refl refl }

pub decimal_front : (bytes : List ℕ) (n k : ℕ) → 0 < length bytes → is_digit (get_or bytes 0 0) ≡ true → RunsTo is_digit n bytes → HasNoMark k bytes → IsNumeralFront Decimal n bytes
decimal_front bytes n k l h r no_mark =
    let some : 0 < n = run_is_some is_digit bytes n l h r in
    let long : 0 < length (take n bytes) = omega (arith, length-take-le n bytes r.within) in
    let same : n + 0 ≡ n = add-zero n in
    record {
      within = omega (arith, r.within);
      some = some;
      digits = r.each;
      marked = ap (λ (m : ℕ). take m bytes) same ∙ sym (append-nil (take n bytes));
      longest = subst (λ (m : ℕ). IsLongest (take m bytes) (drop m bytes)) (sym same)
          (longest_decimal (take n bytes) (drop n bytes) k long r.each r.stops (subst (λ (s : List ℕ). HasNoMark k s) (sym (drop_take bytes n)) no_mark));
    }

numeral_of_front : (form : Form) (n : ℕ) (bytes : List ℕ) → IsNumeralFront form n bytes → IsNumeral form (value_of (base_of form) (take n bytes)) (take (n + length (mark_of form)) bytes)
numeral_of_front form n bytes f = (take n bytes, nonempty_take, f.digits, refl, f.marked)
  where
    nonempty_take : take n bytes ≢ []
    nonempty_take e =
        let long : length (take n bytes) ≡ 0 = ap (λ (l : List ℕ). length l) e in
        absurd (omega (arith, length-take-le n bytes (fits f.within), f.some))
      where
        fits : n + length (mark_of form) ≤ length bytes → n ≤ length bytes
        fits h = omega arith

spells_kind : (form : Form) (value : ℕ) (bytes : List ℕ) → IsNumeral form value bytes → IsSpelling (kind_of form value) bytes
spells_kind Decimal value bytes g = inl g
spells_kind Octal value bytes g = inr g
spells_kind Character value bytes g = inl g

greatest_is_small : (form : Form) → greatest_of form < 65536
greatest_is_small Decimal = omega arith
greatest_is_small Octal = omega arith
greatest_is_small Character = omega arith

-- the value of the digits, where it is not capped
uncapped : (form : Form) (v value : ℕ) → value ≡ min v 65536 → value ≤ greatest_of form → value ≡ v
uncapped form v value e h = omega (arith, greatest_is_small form)

pub number_taken : (form : Form) (n : ℕ) (bytes : List ℕ) (value : ℕ) → IsNumeralFront form n bytes → value ≡ min (value_of (base_of form) (take n bytes)) 65536 → value ≤ greatest_of form → IsTaken (kind_of form value) (n + length (mark_of form)) bytes
number_taken form n bytes value f e h =
    let same : value ≡ value_of (base_of form) (take n bytes) = uncapped form (value_of (base_of form) (take n bytes)) value e h in
    let g : IsNumeral form value (take (n + length (mark_of form)) bytes) = subst (λ (v : ℕ). IsNumeral form v (take (n + length (mark_of form)) bytes)) (sym same) (numeral_of_front form n bytes f) in
    record {
      within = f.within;
      some = omega (arith, f.some);
      spelled = spells_kind form value (take (n + length (mark_of form)) bytes) g;
      longest = f.longest;
      in_range = λ other v k.
          let s : SameNumeral form other value v = numeral_unique form other value v (take (n + length (mark_of form)) bytes) g k in
          subst (λ (w : ℕ). w ≤ greatest_of other) s.values (subst (λ (x : Form). value ≤ greatest_of x) s.forms h);
    }

pub number_too_large : (form : Form) (n : ℕ) (bytes : List ℕ) (value : ℕ) → IsNumeralFront form n bytes → value ≡ min (value_of (base_of form) (take n bytes)) 65536 → greatest_of form < value → BeginsTooLarge bytes
number_too_large form n bytes value f e h =
    let past : greatest_of form < value_of (base_of form) (take n bytes) = omega arith in
    (take (n + length (mark_of form)) bytes, drop (n + length (mark_of form)) bytes, (form, value_of (base_of form) (take n bytes), numeral_of_front form n bytes f, past), f.longest, sym (drop_take bytes (n + length (mark_of form))))

pub digits_of_front : (form : Form) (n : ℕ) (bytes : List ℕ) → IsNumeralFront form n bytes → Each is_digit (take n bytes)
digits_of_front form n bytes f = Each-weaker (is_digit_of form) is_digit (digit_of_is_digit form) (take n bytes) f.digits
