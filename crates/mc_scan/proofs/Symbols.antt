-- The longest symbol at the front.
use Rattle.std.proofs.Common.{◌≡◌, ◌≢◌, ◌<◌, ℕ, suc, true, List, [], ◌∷◌, ◌++◌, length, get_or, refl, sym, ◌∙◌, ap, subst, arith}
use Rattle.mc_tree.specs.Spellings.{is_letter, is_digit, is_quote, symbol_of, IsLexeme, IsInRange, BeginsComment}
use Rattle.mc_tree.specs.ByteLaws.{is_mark, letter_is_no_mark, digit_is_no_mark, quote_is_no_mark}
use Rattle.mc_tree.specs.SpellingLaws.{IsFront, Shape, a_word, a_numeral, a_text, a_symbol, shape_of, word_front, numeral_front, text_front, symbol_front, fronts_differ}
use Rattle.mc_tree.specs.declared.token.Symbol.{Symbol}
use Rattle.mc_tree.specs.declared.token.Symbol.TheVariants.{Plus, Minus, Times, Equal, Unequal, Less, LessEqual, Greater, GreaterEqual, LeftParen, RightParen, LeftBracket, RightBracket, Comma, Semicolon, Colon, Becomes, Dot}
use Rattle.mc_tree.specs.declared.token.Kind.TheVariants.{Symbol as SymbolKind}
use Rattle.mc_tree.specs.KindLaws.{numeral_and_symbol}
use Rattle.mc_scan.specs.Pieces.{IsTaken, BeginsNoSymbol}

-- no symbol has three bytes
symbol_is_short : (symbol : Symbol) (a b c : ℕ) (others : List ℕ) → symbol_of symbol ≡ a ∷ b ∷ c ∷ others → ⊥
symbol_is_short Plus a b c others e = cc
symbol_is_short Minus a b c others e = cc
symbol_is_short Times a b c others e = cc
symbol_is_short Equal a b c others e = cc
symbol_is_short Unequal a b c others e = cc
symbol_is_short Less a b c others e = cc
symbol_is_short LessEqual a b c others e = cc
symbol_is_short Greater a b c others e = cc
symbol_is_short GreaterEqual a b c others e = cc
symbol_is_short LeftParen a b c others e = cc
symbol_is_short RightParen a b c others e = cc
symbol_is_short LeftBracket a b c others e = cc
symbol_is_short RightBracket a b c others e = cc
symbol_is_short Comma a b c others e = cc
symbol_is_short Semicolon a b c others e = cc
symbol_is_short Colon a b c others e = cc
symbol_is_short Becomes a b c others e = cc
symbol_is_short Dot a b c others e = cc

mark_is_no_letter : (b : ℕ) → is_mark b ≡ true → is_letter b ≡ true → ⊥
mark_is_no_letter b h g = letter_is_no_mark b g h

mark_is_no_digit : (b : ℕ) → is_mark b ≡ true → is_digit b ≡ true → ⊥
mark_is_no_digit b h g = digit_is_no_mark b g h

mark_is_no_quote : (b : ℕ) → is_mark b ≡ true → is_quote b ≡ true → ⊥
mark_is_no_quote b h g = quote_is_no_mark b g h

record AnySymbol (bytes : List ℕ) : Type 0 where
  symbol : Symbol
  spelled : bytes ≡ symbol_of symbol

only_symbols : (a : ℕ) (bytes : List ℕ) → is_mark a ≡ true → Shape (a ∷ bytes) → AnySymbol (a ∷ bytes)
only_symbols a bytes h (a_word g) = absurd (fronts_differ is_mark is_letter mark_is_no_letter (a ∷ bytes) (record { first = a; others = bytes; parts = refl; passes = h }) (word_front (a ∷ bytes) g))
only_symbols a bytes h (a_numeral form value g) = absurd (fronts_differ is_mark is_digit mark_is_no_digit (a ∷ bytes) (record { first = a; others = bytes; parts = refl; passes = h }) (numeral_front form value (a ∷ bytes) g))
only_symbols a bytes h (a_text inside g) = absurd (fronts_differ is_mark is_quote mark_is_no_quote (a ∷ bytes) (record { first = a; others = bytes; parts = refl; passes = h }) (text_front inside (a ∷ bytes) g))
only_symbols a bytes h (a_symbol s g) = record { symbol = s; spelled = g }

first_is_mark : (symbol : Symbol) (a : ℕ) (others : List ℕ) → symbol_of symbol ≡ a ∷ others → is_mark a ≡ true
first_is_mark symbol a others e = go (symbol_front symbol (a ∷ others) (sym e))
  where
    go : IsFront is_mark (a ∷ others) → is_mark a ≡ true
    go f = let same : f.first ≡ a = cc (f.parts) in subst (λ (b : ℕ). is_mark b ≡ true) same f.passes

no_number : (symbol : Symbol) (bytes : List ℕ) → bytes ≡ symbol_of symbol → IsInRange bytes
no_number symbol bytes e = λ form value g. absurd (numeral_and_symbol form value symbol bytes g e)

pub two_taken : (bytes : List ℕ) (symbol : Symbol) → 1 < length bytes → ¬ BeginsComment bytes → symbol_of symbol ≡ get_or bytes 0 0 ∷ get_or bytes 1 0 ∷ [] → IsTaken (SymbolKind symbol) 2 bytes
two_taken [] symbol l n e = absurd (omega arith)
two_taken (a ∷ []) symbol l n e = absurd (omega arith)
two_taken (a ∷ b ∷ bytes) symbol l n e = record {
  within = omega arith;
  some = omega arith;
  spelled = sym e;
  longest = record { longest = more_is_none; no_comment = n };
  in_range = no_number symbol (a ∷ b ∷ []) (sym e);
}
  where
    more_is_none : (more after : List ℕ) → bytes ≡ more ++ after → IsLexeme (a ∷ b ∷ more) → more ≡ []
    more_is_none [] after f p = refl
    more_is_none (m ∷ more) after f p =
        let s : AnySymbol (a ∷ b ∷ m ∷ more) = only_symbols a (b ∷ m ∷ more) (first_is_mark symbol a (b ∷ []) e) (shape_of p.0 (a ∷ b ∷ m ∷ more) p.1) in
        absurd (symbol_is_short s.symbol a b m more (sym s.spelled))

pub one_taken : (bytes : List ℕ) (symbol : Symbol) → 0 < length bytes → ¬ BeginsComment bytes → (1 < length bytes → (other : Symbol) → symbol_of other ≢ get_or bytes 0 0 ∷ get_or bytes 1 0 ∷ []) → symbol_of symbol ≡ get_or bytes 0 0 ∷ [] → IsTaken (SymbolKind symbol) 1 bytes
one_taken [] symbol l n two e = absurd (omega arith)
one_taken (a ∷ bytes) symbol l n two e = record {
  within = omega arith;
  some = omega arith;
  spelled = sym e;
  longest = record { longest = more_is_none bytes two; no_comment = n };
  in_range = no_number symbol (a ∷ []) (sym e);
}
  where
    more_is_none : (left : List ℕ) → (1 < length (a ∷ left) → (other : Symbol) → symbol_of other ≢ a ∷ get_or left 0 0 ∷ []) → (more after : List ℕ) → left ≡ more ++ after → IsLexeme (a ∷ more) → more ≡ []
    more_is_none left none [] after f p = refl
    more_is_none left none (m ∷ []) after f p =
        let s : AnySymbol (a ∷ m ∷ []) = only_symbols a (m ∷ []) (first_is_mark symbol a [] e) (shape_of p.0 (a ∷ m ∷ []) p.1) in
        let same : m ≡ get_or left 0 0 = ap (λ (l : List ℕ). get_or l 0 0) (sym f) in
        let long : 1 < length (a ∷ left) = subst (λ (l : List ℕ). 1 < length (a ∷ l)) (sym f) (two_long after) in
        absurd (none long s.symbol (sym s.spelled ∙ ap (λ (x : ℕ). a ∷ x ∷ []) same))
      where
        two_long : (xs : List ℕ) → 1 < suc (suc (length xs))
        two_long xs = omega arith
    more_is_none left none (m ∷ o ∷ more) after f p =
        let s : AnySymbol (a ∷ m ∷ o ∷ more) = only_symbols a (m ∷ o ∷ more) (first_is_mark symbol a [] e) (shape_of p.0 (a ∷ m ∷ o ∷ more) p.1) in
        absurd (symbol_is_short s.symbol a m o more (sym s.spelled))

-- the first byte of a symbol of two bytes is a symbol itself
pub none_begins : (bytes : List ℕ) → ((symbol : Symbol) → symbol_of symbol ≢ get_or bytes 0 0 ∷ []) → BeginsNoSymbol bytes
none_begins bytes none Plus others e = none Plus (ap (λ (l : List ℕ). get_or l 0 0 ∷ []) e)
none_begins bytes none Minus others e = none Minus (ap (λ (l : List ℕ). get_or l 0 0 ∷ []) e)
none_begins bytes none Times others e = none Times (ap (λ (l : List ℕ). get_or l 0 0 ∷ []) e)
none_begins bytes none Equal others e = none Equal (ap (λ (l : List ℕ). get_or l 0 0 ∷ []) e)
none_begins bytes none Unequal others e = none Less (ap (λ (l : List ℕ). get_or l 0 0 ∷ []) e)
none_begins bytes none Less others e = none Less (ap (λ (l : List ℕ). get_or l 0 0 ∷ []) e)
none_begins bytes none LessEqual others e = none Less (ap (λ (l : List ℕ). get_or l 0 0 ∷ []) e)
none_begins bytes none Greater others e = none Greater (ap (λ (l : List ℕ). get_or l 0 0 ∷ []) e)
none_begins bytes none GreaterEqual others e = none Greater (ap (λ (l : List ℕ). get_or l 0 0 ∷ []) e)
none_begins bytes none LeftParen others e = none LeftParen (ap (λ (l : List ℕ). get_or l 0 0 ∷ []) e)
none_begins bytes none RightParen others e = none RightParen (ap (λ (l : List ℕ). get_or l 0 0 ∷ []) e)
none_begins bytes none LeftBracket others e = none LeftBracket (ap (λ (l : List ℕ). get_or l 0 0 ∷ []) e)
none_begins bytes none RightBracket others e = none RightBracket (ap (λ (l : List ℕ). get_or l 0 0 ∷ []) e)
none_begins bytes none Comma others e = none Comma (ap (λ (l : List ℕ). get_or l 0 0 ∷ []) e)
none_begins bytes none Semicolon others e = none Semicolon (ap (λ (l : List ℕ). get_or l 0 0 ∷ []) e)
none_begins bytes none Colon others e = none Colon (ap (λ (l : List ℕ). get_or l 0 0 ∷ []) e)
none_begins bytes none Becomes others e = none Colon (ap (λ (l : List ℕ). get_or l 0 0 ∷ []) e)
none_begins bytes none Dot others e = none Dot (ap (λ (l : List ℕ). get_or l 0 0 ∷ []) e)
