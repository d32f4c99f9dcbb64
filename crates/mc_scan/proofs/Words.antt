-- The longest word at the front.
use Rattle.std.proofs.Common.{◌≡◌, ◌≤◌, ◌<◌, ℕ, suc, zero, true, false, nat_eq, List, [], ◌∷◌, ◌++◌, length, take, drop, get_or, refl, arith}
use Rattle.std.proofs.lemmas.Bool.{both_ways, or_left}
use Rattle.std.proofs.lemmas.Bool.Decides.{nat_tests}
use Rattle.mc_tree.specs.Spellings.{is_letter, is_digit, is_letter_or_digit, is_quote, IsWord, IsSpelling, IsLexeme, IsInRange, IsLongest}
use Rattle.mc_tree.specs.ByteLaws.{is_mark, letter_is_no_digit, letter_is_no_quote, letter_is_no_mark}
use Rattle.mc_tree.specs.SpellingLaws.{IsFront, Shape, a_word, a_numeral, a_text, a_symbol, shape_of, numeral_front, text_front, symbol_front, fronts_differ}
use Rattle.mc_scan.specs.Runs.{RunsTo, StopsAt}
use Rattle.mc_tree.specs.KindLaws.{word_and_numeral}
use Rattle.mc_tree.specs.declared.token.Kind.{Kind}
use Rattle.mc_scan.specs.Pieces.{IsTaken}
use Rattle.mc_scan.proofs.Fronts.{no_break, stop_fails, no_comment}

letter_is_no_paren : (b : ℕ) → is_letter b ≡ true → nat_eq b 40 ≡ false
letter_is_no_paren b p = grind (arith, nat_tests)

front_of_more : (b : ℕ) (bytes : List ℕ) → is_letter b ≡ true → IsFront is_letter (b ∷ bytes)
front_of_more b bytes h = record { first = b; others = bytes; parts = refl; passes = h }

only_words : (b : ℕ) (bytes : List ℕ) → is_letter b ≡ true → Shape (b ∷ bytes) → IsWord (b ∷ bytes)
only_words b bytes h (a_word g) = g
only_words b bytes h (a_numeral form value g) = absurd (fronts_differ is_letter is_digit letter_is_no_digit (b ∷ bytes) (front_of_more b bytes h) (numeral_front form value (b ∷ bytes) g))
only_words b bytes h (a_text inside g) = absurd (fronts_differ is_letter is_quote letter_is_no_quote (b ∷ bytes) (front_of_more b bytes h) (text_front inside (b ∷ bytes) g))
only_words b bytes h (a_symbol symbol g) = absurd (fronts_differ is_letter is_mark letter_is_no_mark (b ∷ bytes) (front_of_more b bytes h) (symbol_front symbol (b ∷ bytes) g))

longest_word : (b : ℕ) (bytes left : List ℕ) → is_letter b ≡ true → StopsAt is_letter_or_digit left → IsLongest (b ∷ bytes) left
longest_word b bytes left h s = record {
  longest = more_is_none;
  no_comment = no_comment b (bytes ++ left) (letter_is_no_paren b h);
}
  where
    more_is_none : (more after : List ℕ) → left ≡ more ++ after → IsLexeme (b ∷ bytes ++ more) → more ≡ []
    more_is_none [] after e p = refl
    more_is_none (m ∷ more) after e p =
        absurd (no_break is_letter_or_digit bytes m more (only_words b (bytes ++ m ∷ more) h (shape_of p.0 (b ∷ bytes ++ m ∷ more) p.1)).1 (stop_fails is_letter_or_digit left m (more ++ after) s e))

-- a word of n bytes at the front
pub record IsWordFront (n : ℕ) (bytes : List ℕ) : Type 0 where
  pub some : 0 < n
  pub word : IsWord (take n bytes)
  pub longest : IsLongest (take n bytes) (drop n bytes)
  pub in_range : IsInRange (take n bytes)

pub word_front_of : (bytes : List ℕ) (n : ℕ) → 0 < length bytes → is_letter (get_or bytes 0 0) ≡ true → RunsTo is_letter_or_digit n bytes → IsWordFront n bytes
word_front_of [] n l h r = absurd (omega arith)
word_front_of (b ∷ bytes) zero l h r = absurd (both_ways (is_letter_or_digit b) r.stops (or_left (is_letter b) _ h))
word_front_of (b ∷ bytes) (suc n) l h r = record {
  some = omega arith;
  word = (h, r.each.1);
  longest = longest_word b (take n bytes) (drop n bytes) h r.stops;
  in_range = λ form value g. absurd (word_and_numeral form value (b ∷ take n bytes) (h, r.each.1) g);
}

pub word_taken : (kind : Kind) (n : ℕ) (bytes : List ℕ) → n ≤ length bytes → IsWordFront n bytes → IsSpelling kind (take n bytes) → IsTaken kind n bytes
word_taken kind n bytes l f h = record { within = l; some = f.some; spelled = h; longest = f.longest; in_range = f.in_range }
