-- What is said of each piece of a text, by what it is and by its parts.
use Rattle.std.specs.Prelude.{ℕ, ◌+◌, List, length, Option, Some, None, Bool, true, false, if◌then◌else◌}
use Rattle.mc_tree.specs.declared.fault.Fault.{Fault}
use Rattle.mc_tree.specs.declared.place.Place.{Place}
use Rattle.mc_prog.specs.declared.typing.Meaning.TheVariants as meaning
use Rattle.mc_prog.specs.declared.typing.Typed.{Typed}
use Rattle.mc_prog.specs.Pieces.{Around, Piece, Construct}
use Rattle.mc_prog.specs.Pieces as piece
use Rattle.mc_prog.specs.Known.{Known, integer, char, bits, name_meaning, part}
use Rattle.mc_prog.specs.declared.typing.Said.{Said}
use Rattle.mc_prog.specs.Said.{fine}
use Rattle.mc_prog.specs.declared.typing.Operator.TheVariants as operator
use Rattle.mc_prog.specs.Operators.{operated, signed, not_}
use Rattle.mc_prog.specs.Takes.{of_sum, of_product}
use Rattle.mc_prog.specs.Designators.{selected, indexed, designated, grouped}
use Rattle.mc_prog.specs.Calls.{called_value, called_statement}
use Rattle.mc_prog.specs.Constants.{element, bits_of, fixed_fault, is_constant}
use Rattle.mc_prog.specs.ExpressionTypes.{text_said, is_standard_use, converts}
use Rattle.mc_prog.specs.StatementTypes.{assignment_fault, condition_fault, conditions_fault, case_fault}

-- a statement with this fault
abbrev pub statement : Option Fault → Said
statement fault_ = record { meaning = meaning.Nothing; fault = fault_ }

-- what is said of a piece of an expression
abbrev pub expression_piece : Known → List Typed → Around → Place → List ℕ → List Typed → Construct → Said
expression_piece known typed around place numbers parts (piece.Number w) = fine (meaning.Constant integer w)
expression_piece known typed around place numbers parts (piece.Character c) = fine (meaning.Constant char c)
expression_piece known typed around place numbers parts (piece.Text t) = text_said place (length t)
expression_piece known typed around place numbers parts (piece.Name id) = fine (name_meaning known around id)
expression_piece known typed around place numbers parts (piece.Select id) = selected known.types (part typed numbers 0) id (part typed numbers 0).meaning
expression_piece known typed around place numbers parts piece.Index = indexed known.types (part typed numbers 0) (part typed numbers 1) (part typed numbers 0).meaning
expression_piece known typed around place numbers parts piece.Designated = designated known (part typed numbers 0) (part typed numbers 0).meaning
expression_piece known typed around place numbers parts (piece.Calling id) = called_value known (is_standard_use known id) id.place (name_meaning known around id) parts
expression_piece known typed around place numbers parts piece.Group = fine (grouped (part typed numbers 0).meaning)
expression_piece known typed around place numbers parts piece.Negation = not_ known.types (part typed numbers 0)
expression_piece known typed around place numbers parts piece.Bits = fine (bits_of (meaning.Constant bits 0) parts)
expression_piece known typed around place numbers parts piece.Element = element known.types parts
expression_piece known typed around place numbers parts (piece.Signed s) = signed known.types s (part typed numbers 0)
expression_piece known typed around place numbers parts (piece.Sum o) = operated known.types (of_sum o) (part typed numbers 0) (part typed numbers 1)
expression_piece known typed around place numbers parts (piece.Product o) = operated known.types (of_product o) (part typed numbers 0) (part typed numbers 1)
expression_piece known typed around place numbers parts (piece.Comparison r) = operated known.types (operator.Compare r) (part typed numbers 0) (part typed numbers 1)
expression_piece known typed around place numbers parts piece.Assignment = statement None
expression_piece known typed around place numbers parts (piece.Statement id) = statement None
expression_piece known typed around place numbers parts piece.If = statement None
expression_piece known typed around place numbers parts piece.While = statement None
expression_piece known typed around place numbers parts piece.Repeat = statement None
expression_piece known typed around place numbers parts piece.Loop = statement None
expression_piece known typed around place numbers parts piece.When = statement None
expression_piece known typed around place numbers parts piece.Case = statement None
expression_piece known typed around place numbers parts piece.Arm = statement None
expression_piece known typed around place numbers parts piece.Label = statement None
expression_piece known typed around place numbers parts piece.Body = statement None
expression_piece known typed around place numbers parts (piece.TypeName id) = statement None
expression_piece known typed around place numbers parts (piece.Enumeration n) = statement None
expression_piece known typed around place numbers parts (piece.EnumerationValue id) = statement None
expression_piece known typed around place numbers parts piece.Range = statement None
expression_piece known typed around place numbers parts piece.Array = statement None
expression_piece known typed around place numbers parts piece.Record = statement None
expression_piece known typed around place numbers parts (piece.FieldGroup names) = statement None
expression_piece known typed around place numbers parts (piece.Constant id) = statement None
expression_piece known typed around place numbers parts (piece.TypeDeclaration id) = statement None
expression_piece known typed around place numbers parts (piece.Variable id) = statement None
expression_piece known typed around place numbers parts (piece.Parameter passing id) = statement None
expression_piece known typed around place numbers parts piece.ResultType = statement None
expression_piece known typed around place numbers parts (piece.Heading sort id) = statement None
expression_piece known typed around place numbers parts (piece.Ending sort id) = statement None
expression_piece known typed around place numbers parts (piece.Module sort id) = statement None
expression_piece known typed around place numbers parts piece.Running = statement None

-- what is said of a piece of a text; nothing of declarations, which have rules of their own
abbrev pub text_piece : Known → List Piece → List Typed → Around → Place → List ℕ → List Typed → Construct → Said
text_piece known pieces typed around place numbers parts (piece.Number w) = expression_piece known typed around place numbers parts (piece.Number w)
text_piece known pieces typed around place numbers parts (piece.Character c) = expression_piece known typed around place numbers parts (piece.Character c)
text_piece known pieces typed around place numbers parts (piece.Text t) = expression_piece known typed around place numbers parts (piece.Text t)
text_piece known pieces typed around place numbers parts (piece.Name id) = expression_piece known typed around place numbers parts (piece.Name id)
text_piece known pieces typed around place numbers parts (piece.Select id) = expression_piece known typed around place numbers parts (piece.Select id)
text_piece known pieces typed around place numbers parts piece.Index = expression_piece known typed around place numbers parts piece.Index
text_piece known pieces typed around place numbers parts piece.Designated = expression_piece known typed around place numbers parts piece.Designated
text_piece known pieces typed around place numbers parts (piece.Calling id) = expression_piece known typed around place numbers parts (piece.Calling id)
text_piece known pieces typed around place numbers parts piece.Group = expression_piece known typed around place numbers parts piece.Group
text_piece known pieces typed around place numbers parts piece.Negation = expression_piece known typed around place numbers parts piece.Negation
text_piece known pieces typed around place numbers parts piece.Bits = expression_piece known typed around place numbers parts piece.Bits
text_piece known pieces typed around place numbers parts piece.Element = expression_piece known typed around place numbers parts piece.Element
text_piece known pieces typed around place numbers parts (piece.Signed s) = expression_piece known typed around place numbers parts (piece.Signed s)
text_piece known pieces typed around place numbers parts (piece.Sum o) = expression_piece known typed around place numbers parts (piece.Sum o)
text_piece known pieces typed around place numbers parts (piece.Product o) = expression_piece known typed around place numbers parts (piece.Product o)
text_piece known pieces typed around place numbers parts (piece.Comparison r) = expression_piece known typed around place numbers parts (piece.Comparison r)
text_piece known pieces typed around place numbers parts piece.Assignment = statement (assignment_fault known.types (part typed numbers 0).place (part typed numbers 1) (part typed numbers 0).meaning)
text_piece known pieces typed around place numbers parts (piece.Statement id) = called_statement known id.place (name_meaning known around id) parts
text_piece known pieces typed around place numbers parts piece.If = statement (conditions_fault known.types parts)
text_piece known pieces typed around place numbers parts piece.While = statement (condition_fault known.types (part typed numbers 0))
text_piece known pieces typed around place numbers parts piece.Repeat = statement (condition_fault known.types (part typed numbers 1))
text_piece known pieces typed around place numbers parts piece.Loop = statement None
text_piece known pieces typed around place numbers parts piece.When = statement (condition_fault known.types (part typed numbers 0))
text_piece known pieces typed around place numbers parts piece.Case = statement (case_fault known.types pieces typed numbers)
text_piece known pieces typed around place numbers parts piece.Arm = statement None
text_piece known pieces typed around place numbers parts piece.Label = record { meaning = (part typed numbers 0).meaning; fault = fixed_fault (part typed numbers 0) }
text_piece known pieces typed around place numbers parts piece.Body = statement None
text_piece known pieces typed around place numbers parts (piece.TypeName id) = statement None
text_piece known pieces typed around place numbers parts (piece.Enumeration n) = statement None
text_piece known pieces typed around place numbers parts (piece.EnumerationValue id) = statement None
text_piece known pieces typed around place numbers parts piece.Range = statement None
text_piece known pieces typed around place numbers parts piece.Array = statement None
text_piece known pieces typed around place numbers parts piece.Record = statement None
text_piece known pieces typed around place numbers parts (piece.FieldGroup names) = statement None
text_piece known pieces typed around place numbers parts (piece.Constant id) = statement None
text_piece known pieces typed around place numbers parts (piece.TypeDeclaration id) = statement None
text_piece known pieces typed around place numbers parts (piece.Variable id) = statement None
text_piece known pieces typed around place numbers parts (piece.Parameter passing id) = statement None
text_piece known pieces typed around place numbers parts piece.ResultType = statement None
text_piece known pieces typed around place numbers parts (piece.Heading sort id) = statement None
text_piece known pieces typed around place numbers parts (piece.Ending sort id) = statement None
text_piece known pieces typed around place numbers parts (piece.Module sort id) = statement None
text_piece known pieces typed around place numbers parts piece.Running = statement None

-- whether a piece has only constants in it, by its parts
abbrev pub fixed_of : Known → Around → Bool → Construct → Bool
fixed_of known around fixed (piece.Number w) = fixed
fixed_of known around fixed (piece.Character c) = fixed
fixed_of known around fixed (piece.Text t) = fixed
fixed_of known around fixed (piece.Name id) = is_constant (name_meaning known around id)
fixed_of known around fixed (piece.Select id) = fixed
fixed_of known around fixed piece.Index = fixed
fixed_of known around fixed piece.Designated = fixed
fixed_of known around fixed (piece.Calling id) = if is_standard_use known id then (if converts (name_meaning known around id) then fixed else false) else false
fixed_of known around fixed piece.Group = fixed
fixed_of known around fixed piece.Negation = fixed
fixed_of known around fixed piece.Bits = fixed
fixed_of known around fixed piece.Element = fixed
fixed_of known around fixed (piece.Signed s) = fixed
fixed_of known around fixed (piece.Sum o) = fixed
fixed_of known around fixed (piece.Product o) = fixed
fixed_of known around fixed (piece.Comparison r) = fixed
fixed_of known around fixed piece.Assignment = fixed
fixed_of known around fixed (piece.Statement id) = fixed
fixed_of known around fixed piece.If = fixed
fixed_of known around fixed piece.While = fixed
fixed_of known around fixed piece.Repeat = fixed
fixed_of known around fixed piece.Loop = fixed
fixed_of known around fixed piece.When = fixed
fixed_of known around fixed piece.Case = fixed
fixed_of known around fixed piece.Arm = fixed
fixed_of known around fixed piece.Label = fixed
fixed_of known around fixed piece.Body = fixed
fixed_of known around fixed (piece.TypeName id) = fixed
fixed_of known around fixed (piece.Enumeration n) = fixed
fixed_of known around fixed (piece.EnumerationValue id) = fixed
fixed_of known around fixed piece.Range = fixed
fixed_of known around fixed piece.Array = fixed
fixed_of known around fixed piece.Record = fixed
fixed_of known around fixed (piece.FieldGroup names) = fixed
fixed_of known around fixed (piece.Constant id) = fixed
fixed_of known around fixed (piece.TypeDeclaration id) = fixed
fixed_of known around fixed (piece.Variable id) = fixed
fixed_of known around fixed (piece.Parameter passing id) = fixed
fixed_of known around fixed piece.ResultType = fixed
fixed_of known around fixed (piece.Heading sort id) = fixed
fixed_of known around fixed (piece.Ending sort id) = fixed
fixed_of known around fixed (piece.Module sort id) = fixed
fixed_of known around fixed piece.Running = fixed

-- whether a piece is a factor
abbrev pub is_factor : Construct → Bool
is_factor (piece.Number w) = true
is_factor (piece.Character c) = true
is_factor (piece.Text t) = true
is_factor (piece.Name id) = false
is_factor (piece.Select id) = false
is_factor piece.Index = false
is_factor piece.Designated = true
is_factor (piece.Calling id) = true
is_factor piece.Group = true
is_factor piece.Negation = true
is_factor piece.Bits = true
is_factor piece.Element = false
is_factor (piece.Signed s) = false
is_factor (piece.Sum o) = false
is_factor (piece.Product o) = false
is_factor (piece.Comparison r) = false
is_factor piece.Assignment = false
is_factor (piece.Statement id) = false
is_factor piece.If = false
is_factor piece.While = false
is_factor piece.Repeat = false
is_factor piece.Loop = false
is_factor piece.When = false
is_factor piece.Case = false
is_factor piece.Arm = false
is_factor piece.Label = false
is_factor piece.Body = false
is_factor (piece.TypeName id) = false
is_factor (piece.Enumeration n) = false
is_factor (piece.EnumerationValue id) = false
is_factor piece.Range = false
is_factor piece.Array = false
is_factor piece.Record = false
is_factor (piece.FieldGroup names) = false
is_factor (piece.Constant id) = false
is_factor (piece.TypeDeclaration id) = false
is_factor (piece.Variable id) = false
is_factor (piece.Parameter passing id) = false
is_factor piece.ResultType = false
is_factor (piece.Heading sort id) = false
is_factor (piece.Ending sort id) = false
is_factor (piece.Module sort id) = false
is_factor piece.Running = false

-- the number of arguments of a call
abbrev pub arguments_of : ℕ → Construct → ℕ
arguments_of n (piece.Number w) = 0
arguments_of n (piece.Character c) = 0
arguments_of n (piece.Text t) = 0
arguments_of n (piece.Name id) = 0
arguments_of n (piece.Select id) = 0
arguments_of n piece.Index = 0
arguments_of n piece.Designated = 0
arguments_of n (piece.Calling id) = n
arguments_of n piece.Group = 0
arguments_of n piece.Negation = 0
arguments_of n piece.Bits = 0
arguments_of n piece.Element = 0
arguments_of n (piece.Signed s) = 0
arguments_of n (piece.Sum o) = 0
arguments_of n (piece.Product o) = 0
arguments_of n (piece.Comparison r) = 0
arguments_of n piece.Assignment = 0
arguments_of n (piece.Statement id) = n
arguments_of n piece.If = 0
arguments_of n piece.While = 0
arguments_of n piece.Repeat = 0
arguments_of n piece.Loop = 0
arguments_of n piece.When = 0
arguments_of n piece.Case = 0
arguments_of n piece.Arm = 0
arguments_of n piece.Label = 0
arguments_of n piece.Body = 0
arguments_of n (piece.TypeName id) = 0
arguments_of n (piece.Enumeration values) = 0
arguments_of n (piece.EnumerationValue id) = 0
arguments_of n piece.Range = 0
arguments_of n piece.Array = 0
arguments_of n piece.Record = 0
arguments_of n (piece.FieldGroup names) = 0
arguments_of n (piece.Constant id) = 0
arguments_of n (piece.TypeDeclaration id) = 0
arguments_of n (piece.Variable id) = 0
arguments_of n (piece.Parameter passing id) = 0
arguments_of n piece.ResultType = 0
arguments_of n (piece.Heading sort id) = 0
arguments_of n (piece.Ending sort id) = 0
arguments_of n (piece.Module sort id) = 0
arguments_of n piece.Running = 0

-- the first token of a piece: its own, or that of its first part
abbrev pub place_of : Option Place → Typed → Place
place_of None first = first.place
place_of (Some front) first = front

abbrev pub more_by : Bool → ℕ → ℕ
more_by true n = n + 1
more_by false n = n
