-- What the bytes of a token tell: its kind and its first byte.
use Rattle.std.specs.Prelude.{◌≡◌, ◌≢◌, ℕ, Bool, true, ◌||◌, List, [], ◌∷◌, ◌++◌, refl}
use Rattle.std.proofs.Common.{sym, subst, inl, inr}
use Rattle.std.proofs.lemmas.Bool.{or_left, or_right}
use Rattle.mc_tree.specs.declared.token.Reserved.{Reserved}
use Rattle.mc_tree.specs.declared.token.Reserved.TheVariants.{AndWord, ArrayWord, BeginWord, CaseWord, ConstWord, DefineWord, DeviceWord, DivWord, DoWord, ElseWord, ElsifWord, EndWord, ExitWord, IfWord, InterfaceWord, LoopWord, ModWord, ModuleWord, NotWord, OfWord, OrWord, ProcedureWord, ProcessWord, RecordWord, RepeatWord, ThenWord, TypeWord, UntilWord, UseWord, VarWord, WhenWord, WhileWord, XorWord}
use Rattle.mc_tree.specs.declared.token.Symbol.{Symbol}
use Rattle.mc_tree.specs.declared.token.Symbol.TheVariants.{Plus, Minus, Times, Equal, Unequal, Less, LessEqual, Greater, GreaterEqual, LeftParen, RightParen, LeftBracket, RightBracket, Comma, Semicolon, Colon, Becomes, Dot}
use Rattle.mc_tree.specs.declared.token.Kind.{Kind}
use Rattle.mc_tree.specs.declared.token.Kind.TheVariants.{Reserved as ReservedKind, Name, Number, Char, Text as TextKind, Symbol as SymbolKind}
use Rattle.mc_tree.specs.Spellings.{is_letter, is_digit, is_digit_of, is_quote, Each, Form, Decimal, Octal, Character, mark_of, IsNumeral, IsWord, IsQuoted, word_of, symbol_of, IsSpelling}
use Rattle.mc_tree.specs.ByteLaws.{is_mark, octal_is_digit}

-- the four shapes that a token can have
pub data Shape (bytes : List ℕ) : Type 0 where
  a_word : IsWord bytes → Shape bytes
  a_numeral : (form : Form) (value : ℕ) → IsNumeral form value bytes → Shape bytes
  a_text : (inside : List ℕ) → IsQuoted inside bytes → Shape bytes
  a_symbol : (symbol : Symbol) → bytes ≡ symbol_of symbol → Shape bytes

-- every reserved word is a word
pub IsWord-word_of : (word : Reserved) → IsWord (word_of word)
IsWord-word_of AndWord = (refl, (refl, (refl, tt)))
IsWord-word_of ArrayWord = (refl, (refl, (refl, (refl, (refl, tt)))))
IsWord-word_of BeginWord = (refl, (refl, (refl, (refl, (refl, tt)))))
IsWord-word_of CaseWord = (refl, (refl, (refl, (refl, tt))))
IsWord-word_of ConstWord = (refl, (refl, (refl, (refl, (refl, tt)))))
IsWord-word_of DefineWord = (refl, (refl, (refl, (refl, (refl, (refl, tt))))))
IsWord-word_of DeviceWord = (refl, (refl, (refl, (refl, (refl, (refl, tt))))))
IsWord-word_of DivWord = (refl, (refl, (refl, tt)))
IsWord-word_of DoWord = (refl, (refl, tt))
IsWord-word_of ElseWord = (refl, (refl, (refl, (refl, tt))))
IsWord-word_of ElsifWord = (refl, (refl, (refl, (refl, (refl, tt)))))
IsWord-word_of EndWord = (refl, (refl, (refl, tt)))
IsWord-word_of ExitWord = (refl, (refl, (refl, (refl, tt))))
IsWord-word_of IfWord = (refl, (refl, tt))
IsWord-word_of InterfaceWord = (refl, (refl, (refl, (refl, (refl, (refl, (refl, (refl, (refl, tt)))))))))
IsWord-word_of LoopWord = (refl, (refl, (refl, (refl, tt))))
IsWord-word_of ModWord = (refl, (refl, (refl, tt)))
IsWord-word_of ModuleWord = (refl, (refl, (refl, (refl, (refl, (refl, tt))))))
IsWord-word_of NotWord = (refl, (refl, (refl, tt)))
IsWord-word_of OfWord = (refl, (refl, tt))
IsWord-word_of OrWord = (refl, (refl, tt))
IsWord-word_of ProcedureWord = (refl, (refl, (refl, (refl, (refl, (refl, (refl, (refl, (refl, tt)))))))))
IsWord-word_of ProcessWord = (refl, (refl, (refl, (refl, (refl, (refl, (refl, tt)))))))
IsWord-word_of RecordWord = (refl, (refl, (refl, (refl, (refl, (refl, tt))))))
IsWord-word_of RepeatWord = (refl, (refl, (refl, (refl, (refl, (refl, tt))))))
IsWord-word_of ThenWord = (refl, (refl, (refl, (refl, tt))))
IsWord-word_of TypeWord = (refl, (refl, (refl, (refl, tt))))
IsWord-word_of UntilWord = (refl, (refl, (refl, (refl, (refl, tt)))))
IsWord-word_of UseWord = (refl, (refl, (refl, tt)))
IsWord-word_of VarWord = (refl, (refl, (refl, tt)))
IsWord-word_of WhenWord = (refl, (refl, (refl, (refl, tt))))
IsWord-word_of WhileWord = (refl, (refl, (refl, (refl, (refl, tt)))))
IsWord-word_of XorWord = (refl, (refl, (refl, tt)))

pub shape_of : (kind : Kind) (bytes : List ℕ) → IsSpelling kind bytes → Shape bytes
shape_of (ReservedKind word) bytes h = a_word (subst (λ (b : List ℕ). IsWord b) (sym h) (IsWord-word_of word))
shape_of (Name name) bytes h = a_word h.0
shape_of (Number value) bytes (inl h) = a_numeral Decimal value h
shape_of (Number value) bytes (inr h) = a_numeral Octal value h
shape_of (Char value) bytes (inl h) = a_numeral Character value h
shape_of (Char value) bytes (inr h) = a_text (value ∷ []) h
shape_of (TextKind text) bytes h = a_text text h.0
shape_of (SymbolKind symbol) bytes h = a_symbol symbol h

-- the first byte of a token, and what it is
pub record IsFront (test : ℕ → Bool) (bytes : List ℕ) : Type 0 where
  pub first : ℕ
  pub others : List ℕ
  pub parts : bytes ≡ first ∷ others
  pub passes : test first ≡ true

pub word_front : (bytes : List ℕ) → IsWord bytes → IsFront is_letter bytes
word_front [] h = absurd h
word_front (b ∷ bytes) h = record { first = b; others = bytes; parts = refl; passes = h.0 }

pub digit_of_is_digit : (form : Form) (b : ℕ) → is_digit_of form b ≡ true → is_digit b ≡ true
digit_of_is_digit Decimal b h = h
digit_of_is_digit Octal b h = octal_is_digit b h
digit_of_is_digit Character b h = octal_is_digit b h

pub numeral_front : (form : Form) (value : ℕ) (bytes : List ℕ) → IsNumeral form value bytes → IsFront is_digit bytes
numeral_front form value bytes h = go h.0 h.1 h.2 h.4
  where
    go : (digits : List ℕ) → digits ≢ [] → Each (is_digit_of form) digits → bytes ≡ digits ++ mark_of form → IsFront is_digit bytes
    go [] some each e = absurd (some refl)
    go (d ∷ digits) some each e = record { first = d; others = digits ++ mark_of form; parts = e; passes = digit_of_is_digit form d each.0 }

pub text_front : (inside bytes : List ℕ) → IsQuoted inside bytes → IsFront is_quote bytes
text_front inside bytes h = record { first = h.0; others = inside ++ h.0 ∷ []; parts = h.3; passes = h.1 }

pub symbol_front : (symbol : Symbol) (bytes : List ℕ) → bytes ≡ symbol_of symbol → IsFront is_mark bytes
symbol_front Plus bytes e = record { first = 43; others = []; parts = e; passes = refl }
symbol_front Minus bytes e = record { first = 45; others = []; parts = e; passes = refl }
symbol_front Times bytes e = record { first = 42; others = []; parts = e; passes = refl }
symbol_front Equal bytes e = record { first = 61; others = []; parts = e; passes = refl }
symbol_front Unequal bytes e = record { first = 60; others = 62 ∷ []; parts = e; passes = refl }
symbol_front Less bytes e = record { first = 60; others = []; parts = e; passes = refl }
symbol_front LessEqual bytes e = record { first = 60; others = 61 ∷ []; parts = e; passes = refl }
symbol_front Greater bytes e = record { first = 62; others = []; parts = e; passes = refl }
symbol_front GreaterEqual bytes e = record { first = 62; others = 61 ∷ []; parts = e; passes = refl }
symbol_front LeftParen bytes e = record { first = 40; others = []; parts = e; passes = refl }
symbol_front RightParen bytes e = record { first = 41; others = []; parts = e; passes = refl }
symbol_front LeftBracket bytes e = record { first = 91; others = []; parts = e; passes = refl }
symbol_front RightBracket bytes e = record { first = 93; others = []; parts = e; passes = refl }
symbol_front Comma bytes e = record { first = 44; others = []; parts = e; passes = refl }
symbol_front Semicolon bytes e = record { first = 59; others = []; parts = e; passes = refl }
symbol_front Colon bytes e = record { first = 58; others = []; parts = e; passes = refl }
symbol_front Becomes bytes e = record { first = 58; others = 61 ∷ []; parts = e; passes = refl }
symbol_front Dot bytes e = record { first = 46; others = []; parts = e; passes = refl }

-- a byte with which a token may begin
abbrev pub begins_token : ℕ → Bool
begins_token b = is_letter b || (is_digit b || (is_quote b || is_mark b))

pub lexeme_front : (bytes : List ℕ) → Shape bytes → IsFront begins_token bytes
lexeme_front bytes (a_word h) =
    let f = word_front bytes h in
    record { first = f.first; others = f.others; parts = f.parts; passes = or_left (is_letter f.first) _ f.passes }
lexeme_front bytes (a_numeral form value h) =
    let f = numeral_front form value bytes h in
    record { first = f.first; others = f.others; parts = f.parts; passes = or_right (is_letter f.first) _ (or_left (is_digit f.first) _ f.passes) }
lexeme_front bytes (a_text inside h) =
    let f = text_front inside bytes h in
    record { first = f.first; others = f.others; parts = f.parts; passes = or_right (is_letter f.first) _ (or_right (is_digit f.first) _ (or_left (is_quote f.first) _ f.passes)) }
lexeme_front bytes (a_symbol symbol h) =
    let f = symbol_front symbol bytes h in
    record { first = f.first; others = f.others; parts = f.parts; passes = or_right (is_letter f.first) _ (or_right (is_digit f.first) _ (or_right (is_quote f.first) _ f.passes)) }

-- no bytes begin with bytes of two kinds
pub fronts_differ : (test other : ℕ → Bool) → ((b : ℕ) → test b ≡ true → other b ≡ true → ⊥) → (bytes : List ℕ) → IsFront test bytes → IsFront other bytes → ⊥
fronts_differ test other h bytes f g =
    let e : f.first ≡ g.first = cc (f.parts, g.parts) in
    h f.first f.passes (subst (λ (b : ℕ). other b ≡ true) (sym e) g.passes)
