-- The lexical structure of a source: how each token is spelled, and what may stand between tokens.
-- The grammar's spellings are this project's own, after Wirth's Modula.
use Rattle.std.specs.Prelude.{◌≡◌, ◌≢◌, ◌≤◌, ◌<◌, ℕ, ◌+◌, ◌*◌, ◌-◌, ◌^◌, Bool, ◌||◌, ◌&&◌, true, not, nat_eq, nat_le, List, [], ◌∷◌, ◌++◌, length, ◌⊎◌, codes}
use Rattle.std.specs.List.{concat}
use Rattle.mc_tree.specs.declared.token.Reserved.{Reserved}
use Rattle.mc_tree.specs.declared.token.Reserved.TheVariants.{AndWord, ArrayWord, BeginWord, CaseWord, ConstWord, DefineWord, DeviceWord, DivWord, DoWord, ElseWord, ElsifWord, EndWord, ExitWord, IfWord, InterfaceWord, LoopWord, ModWord, ModuleWord, NotWord, OfWord, OrWord, ProcedureWord, ProcessWord, RecordWord, RepeatWord, ThenWord, TypeWord, UntilWord, UseWord, VarWord, WhenWord, WhileWord, XorWord}
use Rattle.mc_tree.specs.declared.token.Symbol.{Symbol}
use Rattle.mc_tree.specs.declared.token.Symbol.TheVariants.{Plus, Minus, Times, Equal, Unequal, Less, LessEqual, Greater, GreaterEqual, LeftParen, RightParen, LeftBracket, RightBracket, Comma, Semicolon, Colon, Becomes, Dot}
use Rattle.mc_tree.specs.declared.token.Kind.{Kind}
use Rattle.mc_tree.specs.declared.token.Kind.TheVariants.{Reserved as ReservedKind, Name, Number, Char, Text as TextKind, Symbol as SymbolKind}

-- Bytes

abbrev pub is_within : ℕ → ℕ → ℕ → Bool
is_within low high b = nat_le low b && nat_le b high

-- space, tab, line feed and carriage return
abbrev pub is_blank : ℕ → Bool
is_blank b = nat_eq b 32 || (nat_eq b 9 || (nat_eq b 10 || nat_eq b 13))

abbrev pub is_letter : ℕ → Bool
is_letter b = is_within 65 90 b || is_within 97 122 b

abbrev pub is_digit : ℕ → Bool
is_digit b = is_within 48 57 b

abbrev pub is_octal_digit : ℕ → Bool
is_octal_digit b = is_within 48 55 b

abbrev pub is_letter_or_digit : ℕ → Bool
is_letter_or_digit b = is_letter b || is_digit b

-- the quotes ' and "
abbrev pub is_quote : ℕ → Bool
is_quote b = nat_eq b 39 || nat_eq b 34

-- what may stand in a text with this quote: the printable bytes without the quote
abbrev pub is_inside : ℕ → ℕ → Bool
is_inside quote b = is_within 32 126 b && not (nat_eq b quote)

-- each of the bytes passes the test
abbrev pub Each : (ℕ → Bool) → List ℕ → Type 0
Each test [] = Unit {0}
Each test (b ∷ bytes) = (test b ≡ true) × Each test bytes

-- Gaps: blanks and comments

-- `*)` stands somewhere in the bytes
abbrev pub HasClose : List ℕ → Type 0
HasClose bytes = (front : List ℕ) × (back : List ℕ) × (bytes ≡ front ++ codes "*)" ++ back)

-- a comment is `(*`, bytes in which `*)` stands nowhere, and `*)`
abbrev pub IsComment : List ℕ → Type 0
IsComment bytes = (inside : List ℕ) × (¬ HasClose inside) × (bytes ≡ codes "(*" ++ inside ++ codes "*)")

abbrev pub IsBlank : List ℕ → Type 0
IsBlank bytes = (b : ℕ) × (is_blank b ≡ true) × (bytes ≡ b ∷ [])

-- each of the pieces is a blank or a whole comment
abbrev pub AreGaps : List (List ℕ) → Type 0
AreGaps [] = Unit {0}
AreGaps (piece ∷ pieces) = (IsBlank piece ⊎ IsComment piece) × AreGaps pieces

-- what stands between two tokens: any number of blanks and whole comments
abbrev pub IsGap : List ℕ → Type 0
IsGap bytes = (pieces : List (List ℕ)) × AreGaps pieces × (bytes ≡ concat pieces)

-- Numbers

-- how a number can be written: decimal, octal with `B`, or as an octal character with `C`
pub data Form : Type 0 where
  Decimal Octal Character : Form

abbrev pub base_of : Form → ℕ
base_of Decimal = 10
base_of Octal = 8
base_of Character = 8

-- what stands after the digits
abbrev pub mark_of : Form → List ℕ
mark_of Decimal = []
mark_of Octal = codes "B"
mark_of Character = codes "C"

-- 32767, 177777B and 377C
abbrev pub greatest_of : Form → ℕ
greatest_of Decimal = 32767
greatest_of Octal = 0o177777
greatest_of Character = 0o377

abbrev pub is_digit_of : Form → ℕ → Bool
is_digit_of Decimal = is_digit
is_digit_of Octal = is_octal_digit
is_digit_of Character = is_octal_digit

-- the value of digits to a base
abbrev pub value_of : ℕ → List ℕ → ℕ
value_of base [] = 0
value_of base (d ∷ digits) = (d - 48) * base ^ length digits + value_of base digits

-- one digit or more, and the form's mark
abbrev pub IsNumeral : Form → ℕ → List ℕ → Type 0
IsNumeral form value bytes =
    (digits : List ℕ) × (digits ≢ []) × Each (is_digit_of form) digits × (value ≡ value_of (base_of form) digits) × (bytes ≡ digits ++ mark_of form)

-- Words, texts and symbols

-- a letter, then letters and digits
abbrev pub IsWord : List ℕ → Type 0
IsWord [] = ⊥
IsWord (b ∷ bytes) = (is_letter b ≡ true) × Each is_letter_or_digit bytes

-- these bytes between two quotes of one kind
abbrev pub IsQuoted : List ℕ → List ℕ → Type 0
IsQuoted inside bytes = (quote : ℕ) × (is_quote quote ≡ true) × Each (is_inside quote) inside × (bytes ≡ quote ∷ inside ++ quote ∷ [])

abbrev pub word_of : Reserved → List ℕ
word_of AndWord = codes "and"
word_of ArrayWord = codes "array"
word_of BeginWord = codes "begin"
word_of CaseWord = codes "case"
word_of ConstWord = codes "const"
word_of DefineWord = codes "define"
word_of DeviceWord = codes "device"
word_of DivWord = codes "div"
word_of DoWord = codes "do"
word_of ElseWord = codes "else"
word_of ElsifWord = codes "elsif"
word_of EndWord = codes "end"
word_of ExitWord = codes "exit"
word_of IfWord = codes "if"
word_of InterfaceWord = codes "interface"
word_of LoopWord = codes "loop"
word_of ModWord = codes "mod"
word_of ModuleWord = codes "module"
word_of NotWord = codes "not"
word_of OfWord = codes "of"
word_of OrWord = codes "or"
word_of ProcedureWord = codes "procedure"
word_of ProcessWord = codes "process"
word_of RecordWord = codes "record"
word_of RepeatWord = codes "repeat"
word_of ThenWord = codes "then"
word_of TypeWord = codes "type"
word_of UntilWord = codes "until"
word_of UseWord = codes "use"
word_of VarWord = codes "var"
word_of WhenWord = codes "when"
word_of WhileWord = codes "while"
word_of XorWord = codes "xor"

abbrev pub symbol_of : Symbol → List ℕ
symbol_of Plus = codes "+"
symbol_of Minus = codes "-"
symbol_of Times = codes "*"
symbol_of Equal = codes "="
symbol_of Unequal = codes "<>"
symbol_of Less = codes "<"
symbol_of LessEqual = codes "<="
symbol_of Greater = codes ">"
symbol_of GreaterEqual = codes ">="
symbol_of LeftParen = codes "("
symbol_of RightParen = codes ")"
symbol_of LeftBracket = codes "["
symbol_of RightBracket = codes "]"
symbol_of Comma = codes ","
symbol_of Semicolon = codes ";"
symbol_of Colon = codes ":"
symbol_of Becomes = codes ":="
symbol_of Dot = codes "."

-- How a token of this kind is spelled. Here a number may have any value; `IsInRange` bounds it.
abbrev pub IsSpelling : Kind → List ℕ → Type 0
IsSpelling (ReservedKind word) bytes = bytes ≡ word_of word
IsSpelling (Name name) bytes = IsWord bytes × ((word : Reserved) → bytes ≢ word_of word) × (name ≡ bytes)
IsSpelling (Number value) bytes = IsNumeral Decimal value bytes ⊎ IsNumeral Octal value bytes
IsSpelling (Char value) bytes = IsNumeral Character value bytes ⊎ IsQuoted (value ∷ []) bytes
IsSpelling (TextKind text) bytes = IsQuoted text bytes × (length text ≢ 1)
IsSpelling (SymbolKind symbol) bytes = bytes ≡ symbol_of symbol

-- the bytes are a number or a character that is at most the greatest of its form, or no such thing
abbrev pub IsInRange : List ℕ → Type 0
IsInRange bytes = (form : Form) (value : ℕ) → IsNumeral form value bytes → value ≤ greatest_of form

-- the bytes are a number or a character past the greatest of its form
abbrev pub IsTooLarge : List ℕ → Type 0
IsTooLarge bytes = (form : Form) × (value : ℕ) × IsNumeral form value bytes × (greatest_of form < value)

-- a token of any kind is spelled so
abbrev pub IsLexeme : List ℕ → Type 0
IsLexeme bytes = (kind : Kind) × IsSpelling kind bytes

abbrev pub BeginsComment : List ℕ → Type 0
BeginsComment bytes = (rest : List ℕ) × (bytes ≡ codes "(*" ++ rest)

-- Before these bytes that are left, no longer spelling of a token can be taken, and it is no comment that begins.
pub record IsLongest (spelling left : List ℕ) : Type 0 where
  pub longest : (more after : List ℕ) → left ≡ more ++ after → IsLexeme (spelling ++ more) → more ≡ []
  pub no_comment : ¬ BeginsComment (spelling ++ left)
