-- The longest number at the front, and its value.
use Rattle.std.proofs.Common.{◌≡◌, ◌<◌, ℕ, true, false, nat_eq, List, [], ◌∷◌, ◌++◌, length, get_or, refl, sym, ◌∙◌, subst, arith, append_assoc}
use Rattle.std.proofs.lemmas.Bool.Decides.{nat_tests}
use Rattle.std.proofs.lemmas.List.{append-nil}
use Rattle.mc_tree.specs.Spellings.{is_letter, is_digit, is_octal_digit, is_quote, Each, Form, Decimal, Octal, Character, IsNumeral, IsLexeme, IsLongest}
use Rattle.mc_tree.specs.ByteLaws.{is_mark, letter_is_no_digit, digit_is_no_quote, digit_is_no_mark, octal_is_digit, Each-weaker}
use Rattle.mc_tree.specs.SpellingLaws.{IsFront, Shape, a_word, a_numeral, a_text, a_symbol, shape_of, word_front, text_front, symbol_front, fronts_differ}
use Rattle.mc_scan.specs.Runs.{RunsTo, StopsAt}
use Rattle.mc_scan.proofs.Fronts.{SameBreak, break_unique, no_break, RunEnds, run_ends, stop_fails, no_comment}

digit_is_no_paren : (b : ℕ) → is_digit b ≡ true → nat_eq b 40 ≡ false
digit_is_no_paren b p = grind (arith, nat_tests)

-- a numeral of any form and value
record AnyNumeral (bytes : List ℕ) : Type 0 where
  form : Form
  value : ℕ
  numeral : IsNumeral form value bytes

front_of_more : (b : ℕ) (bytes : List ℕ) → is_digit b ≡ true → IsFront is_digit (b ∷ bytes)
front_of_more b bytes h = record { first = b; others = bytes; parts = refl; passes = h }

letter_no_digit_swapped : (b : ℕ) → is_digit b ≡ true → is_letter b ≡ true → ⊥
letter_no_digit_swapped b h g = letter_is_no_digit b g h

only_numerals : (b : ℕ) (bytes : List ℕ) → is_digit b ≡ true → Shape (b ∷ bytes) → AnyNumeral (b ∷ bytes)
only_numerals b bytes h (a_word g) = absurd (fronts_differ is_digit is_letter letter_no_digit_swapped (b ∷ bytes) (front_of_more b bytes h) (word_front (b ∷ bytes) g))
only_numerals b bytes h (a_numeral f v g) = record { form = f; value = v; numeral = g }
only_numerals b bytes h (a_text inside g) = absurd (fronts_differ is_digit is_quote digit_is_no_quote (b ∷ bytes) (front_of_more b bytes h) (text_front inside (b ∷ bytes) g))
only_numerals b bytes h (a_symbol symbol g) = absurd (fronts_differ is_digit is_mark digit_is_no_mark (b ∷ bytes) (front_of_more b bytes h) (symbol_front symbol (b ∷ bytes) g))

-- Behind digits and a mark nothing more belongs to a number.
marked_ends : (form : Form) (value : ℕ) (digits : List ℕ) (x m : ℕ) (more : List ℕ) → Each is_octal_digit digits → is_digit x ≡ false → is_octal_digit x ≡ false → IsNumeral form value (digits ++ x ∷ m ∷ more) → ⊥
marked_ends Decimal value digits x m more each d o g =
    no_break is_digit digits x (m ∷ more) (subst (λ (l : List ℕ). Each is_digit l) (sym (g.4 ∙ append-nil g.0)) g.2) d
marked_ends Octal value digits x m more each d o g =
    let s : SameBreak digits g.0 x 66 (m ∷ more) [] = break_unique is_octal_digit digits g.0 x 66 (m ∷ more) [] each g.2 o refl g.4 in
    let e : m ∷ more ≡ [] = s.backs in absurd (cc)
marked_ends Character value digits x m more each d o g =
    let s : SameBreak digits g.0 x 67 (m ∷ more) [] = break_unique is_octal_digit digits g.0 x 67 (m ∷ more) [] each g.2 o refl g.4 in
    let e : m ∷ more ≡ [] = s.backs in absurd (cc)

pub longest_marked : (digits : List ℕ) (x : ℕ) (left : List ℕ) → 0 < length digits → Each is_octal_digit digits → is_digit x ≡ false → is_octal_digit x ≡ false → IsLongest (digits ++ x ∷ []) left
longest_marked [] x left l each d o = absurd (omega arith)
longest_marked (b ∷ digits) x left l each d o = record {
  longest = more_is_none;
  no_comment = no_comment b ((digits ++ x ∷ []) ++ left) (digit_is_no_paren b (octal_is_digit b each.0));
}
  where
    more_is_none : (more after : List ℕ) → left ≡ more ++ after → IsLexeme ((b ∷ digits ++ x ∷ []) ++ more) → more ≡ []
    more_is_none [] after e p = refl
    more_is_none (m ∷ more) after e p =
        let n : AnyNumeral (b ∷ (digits ++ x ∷ []) ++ m ∷ more) = only_numerals b ((digits ++ x ∷ []) ++ m ∷ more) (octal_is_digit b each.0) (shape_of p.0 (b ∷ (digits ++ x ∷ []) ++ m ∷ more) p.1) in
        absurd (marked_ends n.form n.value (b ∷ digits) x m more each d o (subst (λ (l : List ℕ). IsNumeral n.form n.value (b ∷ l)) (append_assoc digits (x ∷ []) (m ∷ more)) n.numeral))

-- the octal digits of the front are followed by no mark
pub record HasNoMark (k : ℕ) (bytes : List ℕ) : Type 0 where
  pub run : RunsTo is_octal_digit k bytes
  pub no_octal : k < length bytes → get_or bytes k 0 ≡ 66 → ⊥
  pub no_character : k < length bytes → get_or bytes k 0 ≡ 67 → ⊥

-- Behind all decimal digits of the front no mark belongs to a number.
decimal_ends : (form : Form) (value : ℕ) (digits : List ℕ) (m : ℕ) (more after : List ℕ) (k : ℕ) → Each is_digit digits → is_digit m ≡ false → HasNoMark k (digits ++ m ∷ (more ++ after)) → IsNumeral form value (digits ++ m ∷ more) → ⊥
decimal_ends Decimal value digits m more after k each d no_mark g =
    no_break is_digit digits m more (subst (λ (l : List ℕ). Each is_digit l) (sym (g.4 ∙ append-nil g.0)) g.2) d
decimal_ends Octal value digits m more after k each d no_mark g =
    let s : SameBreak digits g.0 m 66 more [] = break_unique is_digit digits g.0 m 66 more [] each (Each-weaker is_octal_digit is_digit octal_is_digit g.0 g.2) d refl g.4 in
    let r : RunEnds k 66 (digits ++ m ∷ (more ++ after)) = run_ends is_octal_digit g.0 66 (more ++ after) (digits ++ m ∷ (more ++ after)) k g.2 refl no_mark.run (cc (s.fronts, s.breaks)) in
    no_mark.no_octal r.within r.byte
decimal_ends Character value digits m more after k each d no_mark g =
    let s : SameBreak digits g.0 m 67 more [] = break_unique is_digit digits g.0 m 67 more [] each (Each-weaker is_octal_digit is_digit octal_is_digit g.0 g.2) d refl g.4 in
    let r : RunEnds k 67 (digits ++ m ∷ (more ++ after)) = run_ends is_octal_digit g.0 67 (more ++ after) (digits ++ m ∷ (more ++ after)) k g.2 refl no_mark.run (cc (s.fronts, s.breaks)) in
    no_mark.no_character r.within r.byte

pub longest_decimal : (digits left : List ℕ) (k : ℕ) → 0 < length digits → Each is_digit digits → StopsAt is_digit left → HasNoMark k (digits ++ left) → IsLongest digits left
longest_decimal [] left k l each s no_mark = absurd (omega arith)
longest_decimal (b ∷ digits) left k l each s no_mark = record {
  longest = more_is_none;
  no_comment = no_comment b (digits ++ left) (digit_is_no_paren b each.0);
}
  where
    more_is_none : (more after : List ℕ) → left ≡ more ++ after → IsLexeme (b ∷ digits ++ more) → more ≡ []
    more_is_none [] after e p = refl
    more_is_none (m ∷ more) after e p =
        let n : AnyNumeral (b ∷ digits ++ m ∷ more) = only_numerals b (digits ++ m ∷ more) each.0 (shape_of p.0 (b ∷ digits ++ m ∷ more) p.1) in
        absurd (decimal_ends n.form n.value (b ∷ digits) m more after k each (stop_fails is_digit left m (more ++ after) s e) (subst (λ (l : List ℕ). HasNoMark k (b ∷ digits ++ l)) e no_mark) n.numeral)
