-- Classes of tokens: all of a token that the grammar looks at.
use Rattle.std.specs.Prelude.{◌≡◌, ℕ, ◌==◌, Bool, true, List, if◌then◌else◌, refl}
use Rattle.std.proofs.Common.{sym, ap, ◌∙◌, subst, eqb→eq, eq-eqb}
use Rattle.std.proofs.Math.Dec.{T}
use Rattle.mc_tree.specs.declared.token.Kind.{Kind}
use Rattle.mc_tree.specs.declared.token.Kind.TheVariants.{Reserved as ReservedKind, Name, Number, Char, Text, Symbol as SymbolKind}
use Rattle.mc_tree.specs.declared.token.Reserved.{Reserved}
use Rattle.mc_tree.specs.declared.token.Reserved.TheVariants.{AndWord, ArrayWord, BeginWord, CaseWord, ConstWord, DefineWord, DeviceWord, DivWord, DoWord, ElseWord, ElsifWord, EndWord, ExitWord, IfWord, InterfaceWord, LoopWord, ModWord, ModuleWord, NotWord, OfWord, OrWord, ProcedureWord, ProcessWord, RecordWord, RepeatWord, ThenWord, TypeWord, UntilWord, UseWord, VarWord, WhenWord, WhileWord, XorWord}
use Rattle.mc_tree.specs.declared.token.Symbol.{Symbol}
use Rattle.mc_tree.specs.declared.token.Symbol.TheVariants.{Plus, Minus, Times, Equal, Unequal, Less, LessEqual, Greater, GreaterEqual, LeftParen, RightParen, LeftBracket, RightBracket, Comma, Semicolon, Colon, Becomes, Dot}

pub data Class : Type 0 where
  ReservedClass : Reserved → Class
  NameClass NumberClass CharacterClass TextClass : Class
  SymbolClass : Symbol → Class

abbrev pub class_of : Kind → Class
class_of (ReservedKind reserved) = ReservedClass reserved
class_of (Name text) = NameClass
class_of (Number value) = NumberClass
class_of (Char value) = CharacterClass
class_of (Text text) = TextClass
class_of (SymbolKind symbol) = SymbolClass symbol

-- what a token of the class has besides it
abbrev pub Data : Class → Type 0
Data (ReservedClass reserved) = Unit {0}
Data NameClass = List ℕ
Data NumberClass = ℕ
Data CharacterClass = ℕ
Data TextClass = List ℕ
Data (SymbolClass symbol) = Unit {0}

abbrev pub kind_of : (class : Class) → Data class → Kind
kind_of (ReservedClass reserved) d = ReservedKind reserved
kind_of NameClass text = Name text
kind_of NumberClass value = Number value
kind_of CharacterClass value = Char value
kind_of TextClass text = Text text
kind_of (SymbolClass symbol) d = SymbolKind symbol

abbrev pub data_of : (kind : Kind) → Data (class_of kind)
data_of (ReservedKind reserved) = tt
data_of (Name text) = text
data_of (Number value) = value
data_of (Char value) = value
data_of (Text text) = text
data_of (SymbolKind symbol) = tt

pub kind_of-data_of : (kind : Kind) → kind_of (class_of kind) (data_of kind) ≡ kind
kind_of-data_of (ReservedKind reserved) = refl
kind_of-data_of (Name text) = refl
kind_of-data_of (Number value) = refl
kind_of-data_of (Char value) = refl
kind_of-data_of (Text text) = refl
kind_of-data_of (SymbolKind symbol) = refl

pub class_of-kind_of : (class : Class) (d : Data class) → class_of (kind_of class d) ≡ class
class_of-kind_of (ReservedClass reserved) d = refl
class_of-kind_of NameClass d = refl
class_of-kind_of NumberClass d = refl
class_of-kind_of CharacterClass d = refl
class_of-kind_of TextClass d = refl
class_of-kind_of (SymbolClass symbol) d = refl

-- the number of a class, by which two are compared
abbrev pub number_of : Class → ℕ
number_of (ReservedClass AndWord) = 0
number_of (ReservedClass ArrayWord) = 1
number_of (ReservedClass BeginWord) = 2
number_of (ReservedClass CaseWord) = 3
number_of (ReservedClass ConstWord) = 4
number_of (ReservedClass DefineWord) = 5
number_of (ReservedClass DeviceWord) = 6
number_of (ReservedClass DivWord) = 7
number_of (ReservedClass DoWord) = 8
number_of (ReservedClass ElseWord) = 9
number_of (ReservedClass ElsifWord) = 10
number_of (ReservedClass EndWord) = 11
number_of (ReservedClass ExitWord) = 12
number_of (ReservedClass IfWord) = 13
number_of (ReservedClass InterfaceWord) = 14
number_of (ReservedClass LoopWord) = 15
number_of (ReservedClass ModWord) = 16
number_of (ReservedClass ModuleWord) = 17
number_of (ReservedClass NotWord) = 18
number_of (ReservedClass OfWord) = 19
number_of (ReservedClass OrWord) = 20
number_of (ReservedClass ProcedureWord) = 21
number_of (ReservedClass ProcessWord) = 22
number_of (ReservedClass RecordWord) = 23
number_of (ReservedClass RepeatWord) = 24
number_of (ReservedClass ThenWord) = 25
number_of (ReservedClass TypeWord) = 26
number_of (ReservedClass UntilWord) = 27
number_of (ReservedClass UseWord) = 28
number_of (ReservedClass VarWord) = 29
number_of (ReservedClass WhenWord) = 30
number_of (ReservedClass WhileWord) = 31
number_of (ReservedClass XorWord) = 32
number_of NameClass = 33
number_of NumberClass = 34
number_of CharacterClass = 35
number_of TextClass = 36
number_of (SymbolClass Plus) = 37
number_of (SymbolClass Minus) = 38
number_of (SymbolClass Times) = 39
number_of (SymbolClass Equal) = 40
number_of (SymbolClass Unequal) = 41
number_of (SymbolClass Less) = 42
number_of (SymbolClass LessEqual) = 43
number_of (SymbolClass Greater) = 44
number_of (SymbolClass GreaterEqual) = 45
number_of (SymbolClass LeftParen) = 46
number_of (SymbolClass RightParen) = 47
number_of (SymbolClass LeftBracket) = 48
number_of (SymbolClass RightBracket) = 49
number_of (SymbolClass Comma) = 50
number_of (SymbolClass Semicolon) = 51
number_of (SymbolClass Colon) = 52
number_of (SymbolClass Becomes) = 53
number_of (SymbolClass Dot) = 54

abbrev class_at : ℕ → Class
class_at n =
    if n == 0 then ReservedClass AndWord else (if n == 1 then ReservedClass ArrayWord else (if n == 2 then ReservedClass BeginWord else (if n == 3 then ReservedClass CaseWord else (if n == 4 then ReservedClass ConstWord else (if n == 5 then ReservedClass DefineWord else (if n == 6 then ReservedClass DeviceWord else (if n == 7 then ReservedClass DivWord else (if n == 8 then ReservedClass DoWord else (if n == 9 then ReservedClass ElseWord else (if n == 10 then ReservedClass ElsifWord else (if n == 11 then ReservedClass EndWord else (if n == 12 then ReservedClass ExitWord else (if n == 13 then ReservedClass IfWord else (if n == 14 then ReservedClass InterfaceWord else (if n == 15 then ReservedClass LoopWord else (if n == 16 then ReservedClass ModWord else (if n == 17 then ReservedClass ModuleWord else (if n == 18 then ReservedClass NotWord else (if n == 19 then ReservedClass OfWord else (if n == 20 then ReservedClass OrWord else (if n == 21 then ReservedClass ProcedureWord else (if n == 22 then ReservedClass ProcessWord else (if n == 23 then ReservedClass RecordWord else (if n == 24 then ReservedClass RepeatWord else (if n == 25 then ReservedClass ThenWord else (if n == 26 then ReservedClass TypeWord else (if n == 27 then ReservedClass UntilWord else (if n == 28 then ReservedClass UseWord else (if n == 29 then ReservedClass VarWord else (if n == 30 then ReservedClass WhenWord else (if n == 31 then ReservedClass WhileWord else (if n == 32 then ReservedClass XorWord else (if n == 33 then NameClass else (if n == 34 then NumberClass else (if n == 35 then CharacterClass else (if n == 36 then TextClass else (if n == 37 then SymbolClass Plus else (if n == 38 then SymbolClass Minus else (if n == 39 then SymbolClass Times else (if n == 40 then SymbolClass Equal else (if n == 41 then SymbolClass Unequal else (if n == 42 then SymbolClass Less else (if n == 43 then SymbolClass LessEqual else (if n == 44 then SymbolClass Greater else (if n == 45 then SymbolClass GreaterEqual else (if n == 46 then SymbolClass LeftParen else (if n == 47 then SymbolClass RightParen else (if n == 48 then SymbolClass LeftBracket else (if n == 49 then SymbolClass RightBracket else (if n == 50 then SymbolClass Comma else (if n == 51 then SymbolClass Semicolon else (if n == 52 then SymbolClass Colon else (if n == 53 then SymbolClass Becomes else (SymbolClass Dot))))))))))))))))))))))))))))))))))))))))))))))))))))))

class_at-number_of : (class : Class) → class_at (number_of class) ≡ class
class_at-number_of (ReservedClass AndWord) = refl
class_at-number_of (ReservedClass ArrayWord) = refl
class_at-number_of (ReservedClass BeginWord) = refl
class_at-number_of (ReservedClass CaseWord) = refl
class_at-number_of (ReservedClass ConstWord) = refl
class_at-number_of (ReservedClass DefineWord) = refl
class_at-number_of (ReservedClass DeviceWord) = refl
class_at-number_of (ReservedClass DivWord) = refl
class_at-number_of (ReservedClass DoWord) = refl
class_at-number_of (ReservedClass ElseWord) = refl
class_at-number_of (ReservedClass ElsifWord) = refl
class_at-number_of (ReservedClass EndWord) = refl
class_at-number_of (ReservedClass ExitWord) = refl
class_at-number_of (ReservedClass IfWord) = refl
class_at-number_of (ReservedClass InterfaceWord) = refl
class_at-number_of (ReservedClass LoopWord) = refl
class_at-number_of (ReservedClass ModWord) = refl
class_at-number_of (ReservedClass ModuleWord) = refl
class_at-number_of (ReservedClass NotWord) = refl
class_at-number_of (ReservedClass OfWord) = refl
class_at-number_of (ReservedClass OrWord) = refl
class_at-number_of (ReservedClass ProcedureWord) = refl
class_at-number_of (ReservedClass ProcessWord) = refl
class_at-number_of (ReservedClass RecordWord) = refl
class_at-number_of (ReservedClass RepeatWord) = refl
class_at-number_of (ReservedClass ThenWord) = refl
class_at-number_of (ReservedClass TypeWord) = refl
class_at-number_of (ReservedClass UntilWord) = refl
class_at-number_of (ReservedClass UseWord) = refl
class_at-number_of (ReservedClass VarWord) = refl
class_at-number_of (ReservedClass WhenWord) = refl
class_at-number_of (ReservedClass WhileWord) = refl
class_at-number_of (ReservedClass XorWord) = refl
class_at-number_of NameClass = refl
class_at-number_of NumberClass = refl
class_at-number_of CharacterClass = refl
class_at-number_of TextClass = refl
class_at-number_of (SymbolClass Plus) = refl
class_at-number_of (SymbolClass Minus) = refl
class_at-number_of (SymbolClass Times) = refl
class_at-number_of (SymbolClass Equal) = refl
class_at-number_of (SymbolClass Unequal) = refl
class_at-number_of (SymbolClass Less) = refl
class_at-number_of (SymbolClass LessEqual) = refl
class_at-number_of (SymbolClass Greater) = refl
class_at-number_of (SymbolClass GreaterEqual) = refl
class_at-number_of (SymbolClass LeftParen) = refl
class_at-number_of (SymbolClass RightParen) = refl
class_at-number_of (SymbolClass LeftBracket) = refl
class_at-number_of (SymbolClass RightBracket) = refl
class_at-number_of (SymbolClass Comma) = refl
class_at-number_of (SymbolClass Semicolon) = refl
class_at-number_of (SymbolClass Colon) = refl
class_at-number_of (SymbolClass Becomes) = refl
class_at-number_of (SymbolClass Dot) = refl

abbrev pub same : Class → Class → Bool
same a b = number_of a == number_of b

pub same-eq : (a b : Class) → same a b ≡ true → a ≡ b
same-eq a b h = sym (class_at-number_of a) ∙ ap class_at (eqb→eq (number_of a) (number_of b) (subst T (sym h) tt)) ∙ class_at-number_of b

pub same-refl : (a : Class) → same a a ≡ true
same-refl a = eq-eqb (number_of a) (number_of a) refl
