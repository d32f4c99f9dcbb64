-- The text at the front.
use Rattle.std.proofs.Common.{◌≡◌, ◌≤◌, ◌<◌, ℕ, suc, zero, ◌+◌, true, false, nat_eq, List, [], ◌∷◌, ◌++◌, length, take, drop, get_or, refl, sym, ◌∙◌, ap, subst, arith, append_assoc}
use Rattle.std.proofs.lemmas.Bool.Decides.{nat_tests}
use Rattle.std.proofs.lemmas.List.{take-append-drop, take_more}
use Rattle.mc_tree.specs.Spellings.{is_within, is_letter, is_digit, is_quote, is_inside, Each, IsQuoted, IsLexeme, IsInRange, IsLongest}
use Rattle.mc_tree.specs.ByteLaws.{is_mark, letter_is_no_quote, digit_is_no_quote, quote_is_no_mark}
use Rattle.mc_tree.specs.SpellingLaws.{Shape, a_word, a_numeral, a_text, a_symbol, shape_of, word_front, numeral_front, symbol_front, fronts_differ}
use Rattle.mc_scan.specs.Runs.{RunsTo, StopsAt}
use Rattle.std.proofs.Common.{length-drop}
use Rattle.mc_tree.specs.KindLaws.{numeral_and_text}
use Rattle.mc_tree.specs.Sources.{BreaksText, BeginsOpenText}
use Rattle.mc_scan.proofs.Fronts.{SameBreak, break_unique, no_comment}

quote_is_no_paren : (b : ℕ) → is_quote b ≡ true → nat_eq b 40 ≡ false
quote_is_no_paren b p = grind (arith, nat_tests)

quote_is_no_letter : (b : ℕ) → is_quote b ≡ true → is_letter b ≡ true → ⊥
quote_is_no_letter b h g = letter_is_no_quote b g h

quote_is_no_digit : (b : ℕ) → is_quote b ≡ true → is_digit b ≡ true → ⊥
quote_is_no_digit b h g = digit_is_no_quote b g h

-- a quote does not stand inside its own text
not_inside : (quote : ℕ) → is_inside quote quote ≡ false
not_inside quote = grind (arith, nat_tests)

not_printable : (quote b : ℕ) → is_inside quote b ≡ false → (b ≡ quote → ⊥) → is_within 32 126 b ≡ false
not_printable quote b h g = grind (arith, nat_tests)

record AnyText (bytes : List ℕ) : Type 0 where
  inside : List ℕ
  quoted : IsQuoted inside bytes

only_texts : (q : ℕ) (bytes : List ℕ) → is_quote q ≡ true → Shape (q ∷ bytes) → AnyText (q ∷ bytes)
only_texts q bytes h (a_word g) = absurd (fronts_differ is_quote is_letter quote_is_no_letter (q ∷ bytes) (record { first = q; others = bytes; parts = refl; passes = h }) (word_front (q ∷ bytes) g))
only_texts q bytes h (a_numeral form value g) = absurd (fronts_differ is_quote is_digit quote_is_no_digit (q ∷ bytes) (record { first = q; others = bytes; parts = refl; passes = h }) (numeral_front form value (q ∷ bytes) g))
only_texts q bytes h (a_text s g) = record { inside = s; quoted = g }
only_texts q bytes h (a_symbol symbol g) = absurd (fronts_differ is_quote is_mark quote_is_no_mark (q ∷ bytes) (record { first = q; others = bytes; parts = refl; passes = h }) (symbol_front symbol (q ∷ bytes) g))

longest_text : (q : ℕ) (inside left : List ℕ) → is_quote q ≡ true → Each (is_inside q) inside → IsLongest (q ∷ inside ++ q ∷ []) left
longest_text q inside left h each = record {
  longest = more_is_none;
  no_comment = no_comment q ((inside ++ q ∷ []) ++ left) (quote_is_no_paren q h);
}
  where
    more_is_none : (more after : List ℕ) → left ≡ more ++ after → IsLexeme ((q ∷ inside ++ q ∷ []) ++ more) → more ≡ []
    more_is_none more after e p =
        let t : AnyText (q ∷ (inside ++ q ∷ []) ++ more) = only_texts q ((inside ++ q ∷ []) ++ more) h (shape_of p.0 (q ∷ (inside ++ q ∷ []) ++ more) p.1) in
        let parts : q ∷ (inside ++ q ∷ []) ++ more ≡ t.quoted.0 ∷ t.inside ++ t.quoted.0 ∷ [] = t.quoted.3 in
        let same : t.quoted.0 ≡ q = cc in
        let behind : (inside ++ q ∷ []) ++ more ≡ t.inside ++ t.quoted.0 ∷ [] = cc in
        let s : SameBreak inside t.inside q q more [] =
        break_unique (is_inside q) inside t.inside q q more [] each (subst (λ (x : ℕ). Each (is_inside x) t.inside) same t.quoted.2) (not_inside q) (not_inside q)
        (sym (append_assoc inside (q ∷ []) more) ∙ (behind ∙ ap (λ (x : ℕ). t.inside ++ x ∷ []) same)) in
        s.backs

-- a text with n bytes between its quotes
pub record IsTextFront (n : ℕ) (behind bytes : List ℕ) : Type 0 where
  pub within : n + 2 ≤ length bytes
  pub quoted : IsQuoted (take n behind) (take (n + 2) bytes)
  pub longest : IsLongest (take (n + 2) bytes) (drop (n + 2) bytes)
  pub in_range : IsInRange (take (n + 2) bytes)

text_front_at : (q n : ℕ) (behind : List ℕ) → is_quote q ≡ true → RunsTo (is_inside q) n behind → (n ≡ length behind → ⊥) → get_or behind n 0 ≡ q → IsTextFront n behind (q ∷ behind)
text_front_at q n behind h r some e =
    let l : n < length behind = omega (arith, r.within) in
    let two : n + 2 ≡ suc (n + 1) = omega arith in
    let spelling : take (n + 2) (q ∷ behind) ≡ q ∷ take n behind ++ q ∷ [] =
    ap (λ (m : ℕ). take m (q ∷ behind)) two ∙ ap (λ (s : List ℕ). q ∷ s) (take_more behind n 0 l ∙ ap (λ (b : ℕ). take n behind ++ b ∷ []) e) in
    let g : IsQuoted (take n behind) (take (n + 2) (q ∷ behind)) = (q, h, r.each, spelling) in
    record {
      within = omega arith;
      quoted = g;
      longest = subst (λ (s : List ℕ). IsLongest s (drop (n + 2) (q ∷ behind))) (sym spelling) (longest_text q (take n behind) (drop (n + 2) (q ∷ behind)) h r.each);
      in_range = λ form value k. absurd (numeral_and_text form value (take n behind) (take (n + 2) (q ∷ behind)) k g);
    }

pub text_front_of : (bytes behind : List ℕ) (n : ℕ) → behind ≡ drop 1 bytes → 0 < length bytes → is_quote (get_or bytes 0 0) ≡ true → RunsTo (is_inside (get_or bytes 0 0)) n behind → (n ≡ length behind → ⊥) → get_or behind n 0 ≡ get_or bytes 0 0 → IsTextFront n behind bytes
text_front_of [] behind n b l h r some e = absurd (omega arith)
text_front_of (q ∷ bytes) behind n b l h r some e =
    subst (λ (s : List ℕ). IsTextFront n behind (q ∷ s)) b (text_front_at q n behind h r some e)

breaks_here : (q : ℕ) (left : List ℕ) → StopsAt (is_inside q) left → (0 < length left → get_or left 0 0 ≡ q → ⊥) → BreaksText left
breaks_here q [] s n = tt
breaks_here q (b ∷ left) s n = not_printable q b s (n (omega arith))

next_byte : (n : ℕ) (behind : List ℕ) → get_or (drop n behind) 0 0 ≡ get_or behind n 0
next_byte zero behind = refl
next_byte (suc n) [] = refl
next_byte (suc n) (b ∷ behind) = next_byte n behind

pub open_text_of : (bytes behind : List ℕ) (n : ℕ) → behind ≡ drop 1 bytes → 0 < length bytes → is_quote (get_or bytes 0 0) ≡ true → RunsTo (is_inside (get_or bytes 0 0)) n behind → (n < length behind → get_or behind n 0 ≡ get_or bytes 0 0 → ⊥) → BeginsOpenText bytes
open_text_of [] behind n b l h r no_quote = absurd (omega arith)
open_text_of (q ∷ bytes) behind n b l h r no_quote =
    (q, take n behind, drop n behind, h, r.each, breaks_here q (drop n behind) r.stops (λ some e. no_quote (longer some) (sym (next_byte n behind) ∙ e)), ap (λ (s : List ℕ). q ∷ s) (sym b ∙ sym (take-append-drop n behind)))
  where
    longer : 0 < length (drop n behind) → n < length behind
    longer some = omega (arith, length-drop n behind)

pub one_byte : (inside bytes : List ℕ) → length inside ≡ 1 → IsQuoted inside bytes → IsQuoted (get_or inside 0 0 ∷ []) bytes
one_byte [] bytes e g = absurd (omega arith)
one_byte (x ∷ []) bytes e g = g
one_byte (x ∷ y ∷ inside) bytes e g = absurd (omega arith)
