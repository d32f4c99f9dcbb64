-- Instructions of the machine as templates write them: a word, and a further word for each operand that has one.
use Rattle.std.specs.Prelude.{ℕ, ◌+◌, ◌*◌, List, [], ◌∷◌, ◌++◌, Option, Some, None}
use Rattle.mc_expand.specs.declared.line.Register.{Register}
use Rattle.mc_expand.specs.declared.line.Register.TheVariants.{R0, R1, R2, R3, R4, R5, Sp}
use Rattle.mc_expand.specs.declared.line.Item.{Item}
use Rattle.mc_expand.specs.declared.line.Item.TheVariants as item
use Rattle.mc_expand.specs.declared.line.Argument.{Argument}
use Rattle.mc_expand.specs.declared.line.Argument.TheVariants.{In, At, Increment, Decrement, Indexed, IndexedAt, Immediate, Absolute}
use Rattle.mc_expand.specs.declared.line.Line.{Line}

abbrev pub register_number : Register → ℕ
register_number R0 = 0
register_number R1 = 1
register_number R2 = 2
register_number R3 = 3
register_number R4 = 4
register_number R5 = 5
register_number Sp = 6

-- mode and register, as six bits; those of an immediate and an absolute operand are of PC
abbrev pub mode_of : Argument → ℕ
mode_of (In r) = register_number r
mode_of (At r) = 0o10 + register_number r
mode_of (Increment r) = 0o20 + register_number r
mode_of (Decrement r) = 0o40 + register_number r
mode_of (Indexed i r) = 0o60 + register_number r
mode_of (IndexedAt i r) = 0o70 + register_number r
mode_of (Immediate i) = 0o27
mode_of (Absolute i) = 0o37

abbrev pub word_of : Argument → Option Item
word_of (In r) = None
word_of (At r) = None
word_of (Increment r) = None
word_of (Decrement r) = None
word_of (Indexed i r) = Some i
word_of (IndexedAt i r) = Some i
word_of (Immediate i) = Some i
word_of (Absolute i) = Some i

abbrev pub line : ℕ → Option Item → Option Item → Line
line word source target = record { word = word; source = source; target = target }

-- an instruction of two operands, of one, of a register and an operand, and of none
abbrev pub two : ℕ → Argument → Argument → Line
two code s d = line (code + (64 * mode_of s + mode_of d)) (word_of s) (word_of d)

abbrev pub one : ℕ → Argument → Line
one code d = line (code + mode_of d) None (word_of d)

abbrev pub onto : ℕ → Register → Argument → Line
onto code r s = line (code + (64 * register_number r + mode_of s)) (word_of s) None

abbrev pub bare : ℕ → Line
bare word = line word None None

-- its words
abbrev pub option_items : Option Item → List Item
option_items None = []
option_items (Some i) = i ∷ []

abbrev pub line_items : Line → List Item
line_items l = item.Plain l.word ∷ (option_items l.source ++ option_items l.target)
