-- A spelling has one kind.
use Rattle.std.specs.Prelude.{◌≡◌, ℕ, Bool, true, false, ◌&&◌, nat_eq, if◌then◌else◌, Option, Some, None, List, [], ◌∷◌, ◌++◌, length, refl}
use Rattle.std.proofs.Common.{sym, ◌∙◌, ap, subst, inl, inr}
use Rattle.std.proofs.lemmas.Bool.{both_ways, eqb-false}
use Rattle.std.proofs.lemmas.List.{append-nil, append_cancel_right}
use Rattle.mc_tree.specs.declared.token.Reserved.{Reserved}
use Rattle.mc_tree.specs.declared.token.Reserved.TheVariants.{AndWord, ArrayWord, BeginWord, CaseWord, ConstWord, DefineWord, DeviceWord, DivWord, DoWord, ElseWord, ElsifWord, EndWord, ExitWord, IfWord, InterfaceWord, LoopWord, ModWord, ModuleWord, NotWord, OfWord, OrWord, ProcedureWord, ProcessWord, RecordWord, RepeatWord, ThenWord, TypeWord, UntilWord, UseWord, VarWord, WhenWord, WhileWord, XorWord}
use Rattle.mc_tree.specs.declared.token.Symbol.{Symbol}
use Rattle.mc_tree.specs.declared.token.Symbol.TheVariants.{Plus, Minus, Times, Equal, Unequal, Less, LessEqual, Greater, GreaterEqual, LeftParen, RightParen, LeftBracket, RightBracket, Comma, Semicolon, Colon, Becomes, Dot}
use Rattle.mc_tree.specs.declared.token.Kind.{Kind}
use Rattle.mc_tree.specs.declared.token.Kind.TheVariants.{Reserved as ReservedKind, Name, Number, Char, Text as TextKind, Symbol as SymbolKind}
use Rattle.mc_tree.specs.Spellings.{is_letter, is_digit, is_quote, Each, Form, Decimal, Octal, Character, base_of, value_of, IsNumeral, IsWord, IsQuoted, word_of, symbol_of, IsSpelling}
use Rattle.mc_tree.specs.ByteLaws.{is_mark, letter_is_no_digit, letter_is_no_quote, letter_is_no_mark, digit_is_no_quote, digit_is_no_mark, quote_is_no_mark, Each-append_right}
use Rattle.mc_tree.specs.SpellingLaws.{word_front, numeral_front, text_front, symbol_front, fronts_differ, IsWord-word_of}

abbrev same_bytes : List ℕ → List ℕ → Bool
same_bytes [] [] = true
same_bytes (x ∷ xs) (y ∷ ys) = nat_eq x y && same_bytes xs ys
same_bytes _ _ = false

abbrev pub all_words : List Reserved
all_words = AndWord ∷ ArrayWord ∷ BeginWord ∷ CaseWord ∷ ConstWord ∷ DefineWord ∷ DeviceWord ∷ DivWord ∷ DoWord ∷ ElseWord ∷ ElsifWord ∷ EndWord ∷ ExitWord ∷ IfWord ∷ InterfaceWord ∷ LoopWord ∷ ModWord ∷ ModuleWord ∷ NotWord ∷ OfWord ∷ OrWord ∷ ProcedureWord ∷ ProcessWord ∷ RecordWord ∷ RepeatWord ∷ ThenWord ∷ TypeWord ∷ UntilWord ∷ UseWord ∷ VarWord ∷ WhenWord ∷ WhileWord ∷ XorWord ∷ []

abbrev pub all_symbols : List Symbol
all_symbols = Plus ∷ Minus ∷ Times ∷ Equal ∷ Unequal ∷ Less ∷ LessEqual ∷ Greater ∷ GreaterEqual ∷ LeftParen ∷ RightParen ∷ LeftBracket ∷ RightBracket ∷ Comma ∷ Semicolon ∷ Colon ∷ Becomes ∷ Dot ∷ []

abbrev find_word : List Reserved → List ℕ → Option Reserved
find_word [] bytes = None
find_word (word ∷ words) bytes = if same_bytes (word_of word) bytes then Some word else find_word words bytes

abbrev find_symbol : List Symbol → List ℕ → Option Symbol
find_symbol [] bytes = None
find_symbol (symbol ∷ symbols) bytes = if same_bytes (symbol_of symbol) bytes then Some symbol else find_symbol symbols bytes

found_word : (word : Reserved) → find_word all_words (word_of word) ≡ Some word
found_word AndWord = refl
found_word ArrayWord = refl
found_word BeginWord = refl
found_word CaseWord = refl
found_word ConstWord = refl
found_word DefineWord = refl
found_word DeviceWord = refl
found_word DivWord = refl
found_word DoWord = refl
found_word ElseWord = refl
found_word ElsifWord = refl
found_word EndWord = refl
found_word ExitWord = refl
found_word IfWord = refl
found_word InterfaceWord = refl
found_word LoopWord = refl
found_word ModWord = refl
found_word ModuleWord = refl
found_word NotWord = refl
found_word OfWord = refl
found_word OrWord = refl
found_word ProcedureWord = refl
found_word ProcessWord = refl
found_word RecordWord = refl
found_word RepeatWord = refl
found_word ThenWord = refl
found_word TypeWord = refl
found_word UntilWord = refl
found_word UseWord = refl
found_word VarWord = refl
found_word WhenWord = refl
found_word WhileWord = refl
found_word XorWord = refl

found_symbol : (symbol : Symbol) → find_symbol all_symbols (symbol_of symbol) ≡ Some symbol
found_symbol Plus = refl
found_symbol Minus = refl
found_symbol Times = refl
found_symbol Equal = refl
found_symbol Unequal = refl
found_symbol Less = refl
found_symbol LessEqual = refl
found_symbol Greater = refl
found_symbol GreaterEqual = refl
found_symbol LeftParen = refl
found_symbol RightParen = refl
found_symbol LeftBracket = refl
found_symbol RightBracket = refl
found_symbol Comma = refl
found_symbol Semicolon = refl
found_symbol Colon = refl
found_symbol Becomes = refl
found_symbol Dot = refl

pub word_of-injective : (word other : Reserved) → word_of word ≡ word_of other → word ≡ other
word_of-injective word other e =
    let f : Some word ≡ Some other = sym (found_word word) ∙ (ap (λ (b : List ℕ). find_word all_words b) e ∙ found_word other) in cc

pub symbol_of-injective : (symbol other : Symbol) → symbol_of symbol ≡ symbol_of other → symbol ≡ other
symbol_of-injective symbol other e =
    let f : Some symbol ≡ Some other = sym (found_symbol symbol) ∙ (ap (λ (b : List ℕ). find_symbol all_symbols b) e ∙ found_symbol other) in cc

pub last_unique : (xs ys : List ℕ) (x y : ℕ) → xs ++ x ∷ [] ≡ ys ++ y ∷ [] → x ≡ y
last_unique [] [] x y e = cc
last_unique [] (z ∷ []) x y e = cc
last_unique [] (z ∷ w ∷ ys) x y e = cc
last_unique (z ∷ []) [] x y e = cc
last_unique (z ∷ w ∷ xs) [] x y e = cc
last_unique (z ∷ xs) (w ∷ ys) x y e = last_unique xs ys x y (let f : xs ++ x ∷ [] ≡ ys ++ y ∷ [] = cc in f)

-- digits alone do not end with a letter
digits_end : (digits others : List ℕ) (b : ℕ) → Each is_digit digits → is_digit b ≡ false → digits ++ [] ≡ others ++ b ∷ [] → ⊥
digits_end digits others b each is_none e =
    let all : Each is_digit (others ++ b ∷ []) = subst (λ (l : List ℕ). Each is_digit l) (sym (append-nil digits) ∙ e) each in
    both_ways (is_digit b) is_none (Each-append_right is_digit others (b ∷ []) all).0

pub record SameNumeral (form other : Form) (value another : ℕ) : Type 0 where
  pub forms : form ≡ other
  pub values : value ≡ another

same_digits : (form : Form) (value another : ℕ) (bytes digits others : List ℕ) → digits ≡ others → value ≡ value_of (base_of form) digits → another ≡ value_of (base_of form) others → SameNumeral form form value another
same_digits form value another bytes digits others e p q =
    record { forms = refl; values = p ∙ (ap (λ (l : List ℕ). value_of (base_of form) l) e ∙ sym q) }

pub numeral_unique : (form other : Form) (value another : ℕ) (bytes : List ℕ) → IsNumeral form value bytes → IsNumeral other another bytes → SameNumeral form other value another
numeral_unique Decimal Decimal v w s h g = same_digits Decimal v w s h.0 g.0 (sym (append-nil h.0) ∙ (sym h.4 ∙ (g.4 ∙ append-nil g.0))) h.3 g.3
numeral_unique Decimal Octal v w s h g = absurd (digits_end h.0 g.0 66 h.2 refl (sym h.4 ∙ g.4))
numeral_unique Decimal Character v w s h g = absurd (digits_end h.0 g.0 67 h.2 refl (sym h.4 ∙ g.4))
numeral_unique Octal Decimal v w s h g = absurd (digits_end g.0 h.0 66 g.2 refl (sym g.4 ∙ h.4))
numeral_unique Octal Octal v w s h g = same_digits Octal v w s h.0 g.0 (append_cancel_right h.0 g.0 (66 ∷ []) (sym h.4 ∙ g.4)) h.3 g.3
numeral_unique Octal Character v w s h g = absurd (eqb-false 66 67 refl (last_unique h.0 g.0 66 67 (sym h.4 ∙ g.4)))
numeral_unique Character Decimal v w s h g = absurd (digits_end g.0 h.0 67 g.2 refl (sym g.4 ∙ h.4))
numeral_unique Character Octal v w s h g = absurd (eqb-false 67 66 refl (last_unique h.0 g.0 67 66 (sym h.4 ∙ g.4)))
numeral_unique Character Character v w s h g = same_digits Character v w s h.0 g.0 (append_cancel_right h.0 g.0 (67 ∷ []) (sym h.4 ∙ g.4)) h.3 g.3

pub text_unique : (inside other bytes : List ℕ) → IsQuoted inside bytes → IsQuoted other bytes → inside ≡ other
text_unique inside other bytes h g =
    let e : h.0 ∷ inside ++ h.0 ∷ [] ≡ g.0 ∷ other ++ g.0 ∷ [] = sym h.3 ∙ g.3 in
    let q : h.0 ≡ g.0 = cc in
    let f : inside ++ h.0 ∷ [] ≡ other ++ g.0 ∷ [] = cc in
    let r : inside ++ h.0 ∷ [] ≡ other ++ h.0 ∷ [] = f ∙ ap (λ (b : ℕ). other ++ b ∷ []) (sym q) in
    append_cancel_right inside other (h.0 ∷ []) r

pub word_and_numeral : (form : Form) (value : ℕ) (bytes : List ℕ) → IsWord bytes → IsNumeral form value bytes → ⊥
word_and_numeral form value bytes h g = fronts_differ is_letter is_digit letter_is_no_digit bytes (word_front bytes h) (numeral_front form value bytes g)

pub word_and_text : (inside bytes : List ℕ) → IsWord bytes → IsQuoted inside bytes → ⊥
word_and_text inside bytes h g = fronts_differ is_letter is_quote letter_is_no_quote bytes (word_front bytes h) (text_front inside bytes g)

pub word_and_symbol : (symbol : Symbol) (bytes : List ℕ) → IsWord bytes → bytes ≡ symbol_of symbol → ⊥
word_and_symbol symbol bytes h g = fronts_differ is_letter is_mark letter_is_no_mark bytes (word_front bytes h) (symbol_front symbol bytes g)

pub numeral_and_text : (form : Form) (value : ℕ) (inside bytes : List ℕ) → IsNumeral form value bytes → IsQuoted inside bytes → ⊥
numeral_and_text form value inside bytes h g = fronts_differ is_digit is_quote digit_is_no_quote bytes (numeral_front form value bytes h) (text_front inside bytes g)

pub numeral_and_symbol : (form : Form) (value : ℕ) (symbol : Symbol) (bytes : List ℕ) → IsNumeral form value bytes → bytes ≡ symbol_of symbol → ⊥
numeral_and_symbol form value symbol bytes h g = fronts_differ is_digit is_mark digit_is_no_mark bytes (numeral_front form value bytes h) (symbol_front symbol bytes g)

pub text_and_symbol : (inside : List ℕ) (symbol : Symbol) (bytes : List ℕ) → IsQuoted inside bytes → bytes ≡ symbol_of symbol → ⊥
text_and_symbol inside symbol bytes h g = fronts_differ is_quote is_mark quote_is_no_mark bytes (text_front inside bytes h) (symbol_front symbol bytes g)

reserved_is_word : (word : Reserved) (bytes : List ℕ) → bytes ≡ word_of word → IsWord bytes
reserved_is_word word bytes h = subst (λ (b : List ℕ). IsWord b) (sym h) (IsWord-word_of word)

pub kind_unique : (kind other : Kind) (bytes : List ℕ) → IsSpelling kind bytes → IsSpelling other bytes → kind ≡ other
kind_unique (ReservedKind a) (ReservedKind b) s h g = ap (λ (w : Reserved). ReservedKind w) (word_of-injective a b (sym h ∙ g))
kind_unique (ReservedKind a) (Name b) s h g = absurd (g.1 a h)
kind_unique (ReservedKind a) (Number b) s h (inl g) = absurd (word_and_numeral Decimal b s (reserved_is_word a s h) g)
kind_unique (ReservedKind a) (Number b) s h (inr g) = absurd (word_and_numeral Octal b s (reserved_is_word a s h) g)
kind_unique (ReservedKind a) (Char b) s h (inl g) = absurd (word_and_numeral Character b s (reserved_is_word a s h) g)
kind_unique (ReservedKind a) (Char b) s h (inr g) = absurd (word_and_text (b ∷ []) s (reserved_is_word a s h) g)
kind_unique (ReservedKind a) (TextKind b) s h g = absurd (word_and_text b s (reserved_is_word a s h) g.0)
kind_unique (ReservedKind a) (SymbolKind b) s h g = absurd (word_and_symbol b s (reserved_is_word a s h) g)
kind_unique (Name a) (ReservedKind b) s h g = absurd (h.1 b g)
kind_unique (Name a) (Name b) s h g = ap (λ (n : List ℕ). Name n) (h.2 ∙ sym g.2)
kind_unique (Name a) (Number b) s h (inl g) = absurd (word_and_numeral Decimal b s h.0 g)
kind_unique (Name a) (Number b) s h (inr g) = absurd (word_and_numeral Octal b s h.0 g)
kind_unique (Name a) (Char b) s h (inl g) = absurd (word_and_numeral Character b s h.0 g)
kind_unique (Name a) (Char b) s h (inr g) = absurd (word_and_text (b ∷ []) s h.0 g)
kind_unique (Name a) (TextKind b) s h g = absurd (word_and_text b s h.0 g.0)
kind_unique (Name a) (SymbolKind b) s h g = absurd (word_and_symbol b s h.0 g)
kind_unique (Number a) (ReservedKind b) s (inl h) g = absurd (word_and_numeral Decimal a s (reserved_is_word b s g) h)
kind_unique (Number a) (Name b) s (inl h) g = absurd (word_and_numeral Decimal a s g.0 h)
kind_unique (Number a) (Number b) s (inl h) (inl g) = ap (λ (v : ℕ). Number v) (numeral_unique Decimal Decimal a b s h g).values
kind_unique (Number a) (Number b) s (inl h) (inr g) = ap (λ (v : ℕ). Number v) (numeral_unique Decimal Octal a b s h g).values
kind_unique (Number a) (Char b) s (inl h) (inl g) = let e : Decimal ≡ Character = (numeral_unique Decimal Character a b s h g).forms in absurd cc
kind_unique (Number a) (Char b) s (inl h) (inr g) = absurd (numeral_and_text Decimal a (b ∷ []) s h g)
kind_unique (Number a) (TextKind b) s (inl h) g = absurd (numeral_and_text Decimal a b s h g.0)
kind_unique (Number a) (SymbolKind b) s (inl h) g = absurd (numeral_and_symbol Decimal a b s h g)
kind_unique (Number a) (ReservedKind b) s (inr h) g = absurd (word_and_numeral Octal a s (reserved_is_word b s g) h)
kind_unique (Number a) (Name b) s (inr h) g = absurd (word_and_numeral Octal a s g.0 h)
kind_unique (Number a) (Number b) s (inr h) (inl g) = ap (λ (v : ℕ). Number v) (numeral_unique Octal Decimal a b s h g).values
kind_unique (Number a) (Number b) s (inr h) (inr g) = ap (λ (v : ℕ). Number v) (numeral_unique Octal Octal a b s h g).values
kind_unique (Number a) (Char b) s (inr h) (inl g) = let e : Octal ≡ Character = (numeral_unique Octal Character a b s h g).forms in absurd cc
kind_unique (Number a) (Char b) s (inr h) (inr g) = absurd (numeral_and_text Octal a (b ∷ []) s h g)
kind_unique (Number a) (TextKind b) s (inr h) g = absurd (numeral_and_text Octal a b s h g.0)
kind_unique (Number a) (SymbolKind b) s (inr h) g = absurd (numeral_and_symbol Octal a b s h g)
kind_unique (Char a) (ReservedKind b) s (inl h) g = absurd (word_and_numeral Character a s (reserved_is_word b s g) h)
kind_unique (Char a) (Name b) s (inl h) g = absurd (word_and_numeral Character a s g.0 h)
kind_unique (Char a) (Number b) s (inl h) (inl g) = let e : Character ≡ Decimal = (numeral_unique Character Decimal a b s h g).forms in absurd cc
kind_unique (Char a) (Number b) s (inl h) (inr g) = let e : Character ≡ Octal = (numeral_unique Character Octal a b s h g).forms in absurd cc
kind_unique (Char a) (Char b) s (inl h) (inl g) = ap (λ (v : ℕ). Char v) (numeral_unique Character Character a b s h g).values
kind_unique (Char a) (Char b) s (inl h) (inr g) = absurd (numeral_and_text Character a (b ∷ []) s h g)
kind_unique (Char a) (TextKind b) s (inl h) g = absurd (numeral_and_text Character a b s h g.0)
kind_unique (Char a) (SymbolKind b) s (inl h) g = absurd (numeral_and_symbol Character a b s h g)
kind_unique (Char a) (ReservedKind b) s (inr h) g = absurd (word_and_text (a ∷ []) s (reserved_is_word b s g) h)
kind_unique (Char a) (Name b) s (inr h) g = absurd (word_and_text (a ∷ []) s g.0 h)
kind_unique (Char a) (Number b) s (inr h) (inl g) = absurd (numeral_and_text Decimal b (a ∷ []) s g h)
kind_unique (Char a) (Number b) s (inr h) (inr g) = absurd (numeral_and_text Octal b (a ∷ []) s g h)
kind_unique (Char a) (Char b) s (inr h) (inl g) = absurd (numeral_and_text Character b (a ∷ []) s g h)
kind_unique (Char a) (Char b) s (inr h) (inr g) = let e : a ∷ [] ≡ b ∷ [] = text_unique (a ∷ []) (b ∷ []) s h g in cc
kind_unique (Char a) (TextKind b) s (inr h) g = absurd (g.1 (ap (λ (t : List ℕ). length t) (text_unique b (a ∷ []) s g.0 h)))
kind_unique (Char a) (SymbolKind b) s (inr h) g = absurd (text_and_symbol (a ∷ []) b s h g)
kind_unique (TextKind a) (ReservedKind b) s h g = absurd (word_and_text a s (reserved_is_word b s g) h.0)
kind_unique (TextKind a) (Name b) s h g = absurd (word_and_text a s g.0 h.0)
kind_unique (TextKind a) (Number b) s h (inl g) = absurd (numeral_and_text Decimal b a s g h.0)
kind_unique (TextKind a) (Number b) s h (inr g) = absurd (numeral_and_text Octal b a s g h.0)
kind_unique (TextKind a) (Char b) s h (inl g) = absurd (numeral_and_text Character b a s g h.0)
kind_unique (TextKind a) (Char b) s h (inr g) = absurd (h.1 (ap (λ (t : List ℕ). length t) (text_unique a (b ∷ []) s h.0 g)))
kind_unique (TextKind a) (TextKind b) s h g = ap (λ (t : List ℕ). TextKind t) (text_unique a b s h.0 g.0)
kind_unique (TextKind a) (SymbolKind b) s h g = absurd (text_and_symbol a b s h.0 g)
kind_unique (SymbolKind a) (ReservedKind b) s h g = absurd (word_and_symbol a s (reserved_is_word b s g) h)
kind_unique (SymbolKind a) (Name b) s h g = absurd (word_and_symbol a s g.0 h)
kind_unique (SymbolKind a) (Number b) s h (inl g) = absurd (numeral_and_symbol Decimal b a s g h)
kind_unique (SymbolKind a) (Number b) s h (inr g) = absurd (numeral_and_symbol Octal b a s g h)
kind_unique (SymbolKind a) (Char b) s h (inl g) = absurd (numeral_and_symbol Character b a s g h)
kind_unique (SymbolKind a) (Char b) s h (inr g) = absurd (text_and_symbol (b ∷ []) a s g h)
kind_unique (SymbolKind a) (TextKind b) s h g = absurd (text_and_symbol b a s g.0 h)
kind_unique (SymbolKind a) (SymbolKind b) s h g = ap (λ (y : Symbol). SymbolKind y) (symbol_of-injective a b (sym h ∙ g))
