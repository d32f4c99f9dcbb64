-- What stands at a fault: nothing else can be taken there.
use Rattle.std.specs.Prelude.{◌≡◌, ◌≤◌, ◌<◌, ℕ, Bool, true, false, not, nat_eq, List, [], ◌∷◌, ◌++◌, refl}
use Rattle.std.proofs.Common.{sym, ◌∙◌, ap, subst, inl, inr, arith, append_assoc}
use Rattle.std.proofs.lemmas.Bool.{both_ways, eqb-false, eq-eqb, and_parts}
use Rattle.std.proofs.lemmas.Bool.Decides.{nat_tests}
use Rattle.mc_tree.specs.declared.fault.Code.{Code}
use Rattle.mc_tree.specs.declared.fault.Code.TheVariants.{BadByte, NumberTooLarge, OpenComment, OpenText}
use Rattle.mc_tree.specs.declared.token.Kind.TheVariants.{Number, Char, Text as TextKind}
use Rattle.mc_tree.specs.Spellings.{is_within, is_blank, is_letter, is_digit, is_quote, is_inside, Each, HasClose, Form, Decimal, Octal, Character, IsNumeral, IsSpelling, IsTooLarge, IsLexeme, IsLongest, BeginsComment, greatest_of}
use Rattle.mc_tree.specs.ByteLaws.{is_mark, letter_is_no_quote, digit_is_no_quote, quote_is_no_mark}
use Rattle.mc_tree.specs.SpellingLaws.{IsFront, Shape, a_word, a_numeral, a_text, a_symbol, begins_token, shape_of, lexeme_front, word_front, numeral_front, symbol_front}
use Rattle.mc_tree.specs.GapLaws.{NoGap, BothSame, comment_parts}
use Rattle.mc_tree.specs.SourceLaws.{Stops, longest_unique, token_no_gap}
use Rattle.mc_tree.specs.Sources.{IsBadByte, BeginsBadByte, BeginsTooLarge, BeginsOpenComment, BreaksText, BeginsOpenText, BeginsFault}

-- the first byte of a token that stands in front of bytes
pub record IsAhead (bytes spelling left : List ℕ) (b : ℕ) : Type 0 where
  pub others : List ℕ
  pub parts : spelling ≡ b ∷ others

pub ahead : (spelling left : List ℕ) (b : ℕ) (rest : List ℕ) → IsLexeme spelling → b ∷ rest ≡ spelling ++ left → IsAhead (b ∷ rest) spelling left b
ahead spelling left b rest p e = go (lexeme_front spelling (shape_of p.0 spelling p.1))
  where
    go : IsFront begins_token spelling → IsAhead (b ∷ rest) spelling left b
    go f =
        let same : f.first ≡ b = cc (f.parts, e, ap (λ (l : List ℕ). l ++ left) f.parts) in
        record { others = f.others; parts = cc (f.parts, same) }

-- bytes that begin with a byte that is no blank, and not with `(*`
no_gap_at : (b : ℕ) (bytes : List ℕ) → is_blank b ≡ false → ¬ BeginsComment (b ∷ bytes) → NoGap (b ∷ bytes)
no_gap_at b bytes n c = record {
  no_blank = λ x rest e. let same : b ≡ x = cc in subst (λ (y : ℕ). is_blank y ≡ false) same n;
  no_comment = λ comment rest h e. c (h.0 ++ 42 ∷ 41 ∷ rest, e ∙ comment_parts comment rest h);
}

empty_stops_lexeme : (spelling left : List ℕ) → IsLexeme spelling → [] ≡ spelling ++ left → ⊥
empty_stops_lexeme spelling left p e = go (lexeme_front spelling (shape_of p.0 spelling p.1))
  where
    go : IsFront begins_token spelling → ⊥
    go f = cc (f.parts, e, ap (λ (l : List ℕ). l ++ left) f.parts)

pub stops_at_end : Stops []
stops_at_end = record {
  no_gap = record {
    no_blank = λ b rest e. absurd (cc);
    no_comment = λ comment rest h e. let f : [] ≡ 40 ∷ 42 ∷ h.0 ++ 42 ∷ 41 ∷ rest = e ∙ comment_parts comment rest h in cc;
  };
  no_token = λ kind spelling left e p h r. empty_stops_lexeme spelling left (kind, p) e;
}

bad_byte_stops : (b : ℕ) (rest : List ℕ) → IsBadByte b → Stops (b ∷ rest)
bad_byte_stops b rest h = record {
  no_gap = no_gap_at b rest h.no_blank (h.no_comment rest);
  no_token = λ kind spelling left e p l r.
      let f : IsAhead (b ∷ rest) spelling left b = ahead spelling left b rest (kind, p) e in
      h.no_token f.others (kind, subst (λ (s : List ℕ). IsSpelling kind s) f.parts p);
}

pub lexeme_too_large : (bytes : List ℕ) → IsTooLarge bytes → IsLexeme bytes
lexeme_too_large bytes h = go h.0 h.1 h.2
  where
    go : (form : Form) (value : ℕ) → IsNumeral form value bytes → IsLexeme bytes
    go Decimal value g = (Number value, inl g)
    go Octal value g = (Number value, inr g)
    go Character value g = (Char value, inl g)

too_large_stops : (spelling left : List ℕ) → IsTooLarge spelling → IsLongest spelling left → Stops (spelling ++ left)
too_large_stops spelling left h l = record {
  no_gap = token_no_gap spelling left (lexeme_too_large spelling h) l;
  no_token = λ kind other after e p m r.
      let same : BothSame spelling other left after = longest_unique spelling left other after (lexeme_too_large spelling h) (kind, p) l m e in
      let small : h.1 ≤ greatest_of h.0 = r h.0 h.1 (subst (λ (s : List ℕ). IsNumeral h.0 h.1 s) same.fronts h.2) in
      large h.1 (greatest_of h.0) h.3 small;
}
  where
    large : (x y : ℕ) → y < x → x ≤ y → ⊥
    large x y p q = omega arith

open_comment_stops : (rest : List ℕ) → ¬ HasClose rest → Stops (40 ∷ 42 ∷ rest)
open_comment_stops rest h = record {
  no_gap = record {
    no_blank = λ b after e. let same : 40 ≡ b = cc in subst (λ (x : ℕ). is_blank x ≡ false) same refl;
    no_comment = λ comment after g e.
        let f : 40 ∷ 42 ∷ rest ≡ 40 ∷ 42 ∷ g.0 ++ 42 ∷ 41 ∷ after = e ∙ comment_parts comment after g in
        h (g.0, after, (let k : rest ≡ g.0 ++ 42 ∷ 41 ∷ after = cc in k) ∙ sym (append_assoc g.0 (42 ∷ 41 ∷ []) after));
  };
  no_token = λ kind spelling left e p l r. l.no_comment (rest, sym e);
}

quote_is_printable : (b : ℕ) → is_quote b ≡ true → is_within 32 126 b ≡ true
quote_is_printable b p = grind (arith, nat_tests)

-- A text that is broken off is no text.
broken_text : (quote : ℕ) (inside other left after : List ℕ) → is_quote quote ≡ true → Each (is_inside quote) inside → BreaksText left → Each (is_inside quote) other → inside ++ left ≡ other ++ quote ∷ after → ⊥
broken_text quote [] [] left after q a b c e =
    let f : left ≡ quote ∷ after = e in
    both_ways (is_within 32 126 quote) (subst (λ (l : List ℕ). BreaksText l) f b) (quote_is_printable quote q)
broken_text quote [] (y ∷ other) left after q a b c e =
    let f : left ≡ y ∷ other ++ quote ∷ after = e in
    both_ways (is_within 32 126 y) (subst (λ (l : List ℕ). BreaksText l) f b) (and_parts (is_within 32 126 y) (not (nat_eq y quote)) c.0).0
broken_text quote (x ∷ inside) [] left after q a b c e =
    let same : x ≡ quote = cc in
    both_ways (not (nat_eq x quote)) (ap not (eq-eqb x quote same)) (and_parts (is_within 32 126 x) (not (nat_eq x quote)) a.0).1
broken_text quote (x ∷ inside) (y ∷ other) left after q a b c e =
    broken_text quote inside other left after q a.1 b c.1 (let f : inside ++ left ≡ other ++ quote ∷ after = cc in f)

-- no token begins where a text is broken off
pub open_text_no_token : (quote : ℕ) (inside left spelling after : List ℕ) → is_quote quote ≡ true → Each (is_inside quote) inside → BreaksText left → IsLexeme spelling → quote ∷ inside ++ left ≡ spelling ++ after → ⊥
open_text_no_token quote inside left spelling after q each breaks p e = by_shape (shape_of p.0 spelling p.1)
  where
    same_front : (test : ℕ → Bool) → IsFront test spelling → test quote ≡ true
    same_front test f =
        let same : f.first ≡ quote = cc (f.parts, e, ap (λ (l : List ℕ). l ++ after) f.parts) in
        subst (λ (b : ℕ). test b ≡ true) same f.passes

    by_shape : Shape spelling → ⊥
    by_shape (a_word h) = letter_is_no_quote quote (same_front is_letter (word_front spelling h)) q
    by_shape (a_numeral form value h) = digit_is_no_quote quote (same_front is_digit (numeral_front form value spelling h)) q
    by_shape (a_symbol symbol h) = quote_is_no_mark quote q (same_front is_mark (symbol_front symbol spelling h))
    by_shape (a_text other h) =
        let f : quote ∷ inside ++ left ≡ (h.0 ∷ other ++ h.0 ∷ []) ++ after = e ∙ ap (λ (l : List ℕ). l ++ after) h.3 in
        let same : h.0 ≡ quote = cc in
        let g : inside ++ left ≡ (other ++ h.0 ∷ []) ++ after = cc in
        let k : inside ++ left ≡ other ++ quote ∷ after = g ∙ (append_assoc other (h.0 ∷ []) after ∙ ap (λ (b : ℕ). other ++ b ∷ after) same) in
        broken_text quote inside other left after q each breaks (subst (λ (b : ℕ). Each (is_inside b) other) same h.2) k

quote_is_no_blank : (b : ℕ) → is_quote b ≡ true → is_blank b ≡ false
quote_is_no_blank b p = grind (arith, nat_tests)

quote_begins_no_comment : (quote : ℕ) (bytes : List ℕ) → is_quote quote ≡ true → ¬ BeginsComment (quote ∷ bytes)
quote_begins_no_comment quote bytes q h =
    let e : quote ∷ bytes ≡ 40 ∷ 42 ∷ h.0 = h.1 in
    let same : quote ≡ 40 = cc in
    both_ways (is_quote 40) refl (subst (λ (b : ℕ). is_quote b ≡ true) same q)

open_text_stops : (quote : ℕ) (inside left : List ℕ) → is_quote quote ≡ true → Each (is_inside quote) inside → BreaksText left → Stops (quote ∷ inside ++ left)
open_text_stops quote inside left q each breaks = record {
  no_gap = no_gap_at quote (inside ++ left) (quote_is_no_blank quote q) (quote_begins_no_comment quote (inside ++ left) q);
  no_token = λ kind spelling after e p l r. open_text_no_token quote inside left spelling after q each breaks (kind, p) e;
}

-- the four faults of bytes that are no tokens
pub data LexicalFault (code : Code) (bytes : List ℕ) : Type 0 where
  a_bad_byte : code ≡ BadByte → BeginsBadByte bytes → LexicalFault code bytes
  a_large_number : code ≡ NumberTooLarge → BeginsTooLarge bytes → LexicalFault code bytes
  a_comment : code ≡ OpenComment → BeginsOpenComment bytes → LexicalFault code bytes
  a_broken_text : code ≡ OpenText → BeginsOpenText bytes → LexicalFault code bytes

pub lexical_fault : (code : Code) (bytes : List ℕ) → BeginsFault code bytes → LexicalFault code bytes
lexical_fault BadByte bytes h = a_bad_byte refl h
lexical_fault NumberTooLarge bytes h = a_large_number refl h
lexical_fault OpenComment bytes h = a_comment refl h
lexical_fault OpenText bytes h = a_broken_text refl h
lexical_fault _ bytes h = absurd h

stops_by_fault : (code : Code) (bytes : List ℕ) → LexicalFault code bytes → Stops bytes
stops_by_fault code bytes (a_bad_byte c h) = subst (λ (l : List ℕ). Stops l) (sym h.3) (bad_byte_stops h.0 h.1 h.2)
stops_by_fault code bytes (a_large_number c h) = subst (λ (l : List ℕ). Stops l) (sym h.4) (too_large_stops h.0 h.1 h.2 h.3)
stops_by_fault code bytes (a_comment c h) = subst (λ (l : List ℕ). Stops l) (sym h.2) (open_comment_stops h.0 h.1)
stops_by_fault code bytes (a_broken_text c h) = subst (λ (l : List ℕ). Stops l) (sym h.6) (open_text_stops h.0 h.1 h.2 h.3 h.4 h.5)

-- nothing can be taken where a fault stands
pub fault_stops : (code : Code) (bytes : List ℕ) → BeginsFault code bytes → Stops bytes
fault_stops code bytes h = stops_by_fault code bytes (lexical_fault code bytes h)

bad_and_large : (bytes : List ℕ) → BeginsBadByte bytes → BeginsTooLarge bytes → ⊥
bad_and_large bytes h g =
    let p : IsLexeme g.0 = lexeme_too_large g.0 g.2 in
    let f : IsAhead (h.0 ∷ h.1) g.0 g.1 h.0 = ahead g.0 g.1 h.0 h.1 p (sym h.3 ∙ g.4) in
    h.2.no_token f.others (subst (λ (s : List ℕ). IsLexeme s) f.parts p)

bad_and_comment : (bytes : List ℕ) → BeginsBadByte bytes → BeginsOpenComment bytes → ⊥
bad_and_comment bytes h g = h.2.no_comment h.1 (g.0, sym h.3 ∙ g.2)

bad_and_text : (bytes : List ℕ) → BeginsBadByte bytes → BeginsOpenText bytes → ⊥
bad_and_text bytes h g =
    let e : h.0 ∷ h.1 ≡ g.0 ∷ g.1 ++ g.2 = sym h.3 ∙ g.6 in
    let same : g.0 ≡ h.0 = cc in
    h.2.no_token (g.0 ∷ []) (TextKind [], ((g.0, g.3, tt, ap (λ (b : ℕ). b ∷ g.0 ∷ []) (sym same)), λ one. eqb-false 0 1 refl one))

large_and_comment : (bytes : List ℕ) → BeginsTooLarge bytes → BeginsOpenComment bytes → ⊥
large_and_comment bytes h g = h.3.no_comment (g.0, sym h.4 ∙ g.2)

large_and_text : (bytes : List ℕ) → BeginsTooLarge bytes → BeginsOpenText bytes → ⊥
large_and_text bytes h g = open_text_no_token g.0 g.1 g.2 h.0 h.1 g.3 g.4 g.5 (lexeme_too_large h.0 h.2) (sym g.6 ∙ h.4)

comment_and_text : (bytes : List ℕ) → BeginsOpenComment bytes → BeginsOpenText bytes → ⊥
comment_and_text bytes h g = quote_begins_no_comment g.0 (g.1 ++ g.2) g.3 (h.0, sym g.6 ∙ h.2)

same_code : (code other : Code) (bytes : List ℕ) → LexicalFault code bytes → LexicalFault other bytes → code ≡ other
same_code code other bytes (a_bad_byte c h) (a_bad_byte d g) = c ∙ sym d
same_code code other bytes (a_bad_byte c h) (a_large_number d g) = absurd (bad_and_large bytes h g)
same_code code other bytes (a_bad_byte c h) (a_comment d g) = absurd (bad_and_comment bytes h g)
same_code code other bytes (a_bad_byte c h) (a_broken_text d g) = absurd (bad_and_text bytes h g)
same_code code other bytes (a_large_number c h) (a_bad_byte d g) = absurd (bad_and_large bytes g h)
same_code code other bytes (a_large_number c h) (a_large_number d g) = c ∙ sym d
same_code code other bytes (a_large_number c h) (a_comment d g) = absurd (large_and_comment bytes h g)
same_code code other bytes (a_large_number c h) (a_broken_text d g) = absurd (large_and_text bytes h g)
same_code code other bytes (a_comment c h) (a_bad_byte d g) = absurd (bad_and_comment bytes g h)
same_code code other bytes (a_comment c h) (a_large_number d g) = absurd (large_and_comment bytes g h)
same_code code other bytes (a_comment c h) (a_comment d g) = c ∙ sym d
same_code code other bytes (a_comment c h) (a_broken_text d g) = absurd (comment_and_text bytes h g)
same_code code other bytes (a_broken_text c h) (a_bad_byte d g) = absurd (bad_and_text bytes g h)
same_code code other bytes (a_broken_text c h) (a_large_number d g) = absurd (large_and_text bytes g h)
same_code code other bytes (a_broken_text c h) (a_comment d g) = absurd (comment_and_text bytes g h)
same_code code other bytes (a_broken_text c h) (a_broken_text d g) = c ∙ sym d

-- at one place stands one fault
pub fault_unique : (code other : Code) (bytes : List ℕ) → BeginsFault code bytes → BeginsFault other bytes → code ≡ other
fault_unique code other bytes h g = same_code code other bytes (lexical_fault code bytes h) (lexical_fault other bytes g)

-- a fault stands before the source's end
pub fault_not_at_end : (code : Code) → BeginsFault code [] → ⊥
fault_not_at_end code h = go (lexical_fault code [] h)
  where
    go : LexicalFault code [] → ⊥
    go (a_bad_byte c g) = let e : [] ≡ g.0 ∷ g.1 = g.3 in cc
    go (a_large_number c g) = empty_stops_lexeme g.0 g.1 (lexeme_too_large g.0 g.2) g.4
    go (a_comment c g) = let e : [] ≡ 40 ∷ 42 ∷ g.0 = g.2 in cc
    go (a_broken_text c g) = let e : [] ≡ g.0 ∷ g.1 ++ g.2 = g.6 in cc
