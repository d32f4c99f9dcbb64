-- What is said of each piece of a statement.
use Rattle.std.specs.Prelude.{ℕ, ◌==◌, List, [], ◌∷◌, ◌++◌, Option, Some, None, Bool, false, ◌&&◌, ◌||◌, if◌then◌else◌, slice_get, map}
use Rattle.mc_tree.specs.declared.fault.Code.TheVariants as code
use Rattle.mc_tree.specs.declared.fault.Fault.{Fault}
use Rattle.mc_tree.specs.declared.place.Place.{Place}
use Rattle.mc_prog.specs.declared.program.TypeInfo.{TypeInfo}
use Rattle.mc_prog.specs.declared.typing.Answer.{Answer}
use Rattle.mc_prog.specs.declared.typing.Answer.TheVariants as answer
use Rattle.mc_prog.specs.declared.typing.Change.{Change}
use Rattle.mc_prog.specs.declared.typing.Change.TheVariants as change
use Rattle.mc_prog.specs.declared.typing.Meaning.{Meaning}
use Rattle.mc_prog.specs.declared.typing.Meaning.TheVariants as meaning
use Rattle.mc_prog.specs.declared.typing.Typed.{Typed}
use Rattle.mc_prog.specs.Pieces.{Piece}
use Rattle.mc_prog.specs.declared.typing.Allowed.TheVariants as allowed
use Rattle.mc_prog.specs.Known.{boolean, is_text_type, words_of, holds_signal, typed_at}
use Rattle.mc_prog.specs.Said.{at, or_else, type_of, wants, wants_type}
use Rattle.mc_prog.specs.Constants.{is_constant, is_constant_of, word_of}

-- whether what is assigned may be changed there
abbrev pub changed : Change → Place → Option Fault
changed change.May place = None
changed change.Never place = at code.Y2 place
changed change.Elsewhere place = at code.Y3 place

-- a value for a variable of a type: of the same type, or a text of as many bytes
abbrev pub assigned_by : List TypeInfo → ℕ → Typed → Meaning → Option Fault
assigned_by types t value (meaning.Text n p) =
    if is_text_type types t then (if n == words_of types t then None else at code.Y8 p) else at code.Y1 value.place
assigned_by types t value meaning.Nothing = wants_type types t code.Y1 value
assigned_by types t value meaning.Faulty = wants_type types t code.Y1 value
assigned_by types t value (meaning.Unknown ch) = wants_type types t code.Y1 value
assigned_by types t value meaning.NoValue = wants_type types t code.Y1 value
assigned_by types t value (meaning.Constant u w) = wants_type types t code.Y1 value
assigned_by types t value (meaning.Trap u) = wants_type types t code.Y1 value
assigned_by types t value (meaning.Value u) = wants_type types t code.Y1 value
assigned_by types t value (meaning.Variable v) = wants_type types t code.Y1 value
assigned_by types t value (meaning.Bit c) = wants_type types t code.Y1 value
assigned_by types t value (meaning.Own c) = wants_type types t code.Y1 value
assigned_by types t value meaning.OwnBit = wants_type types t code.Y1 value
assigned_by types t value (meaning.Procedure c) = wants_type types t code.Y1 value
assigned_by types t value (meaning.Process n) = wants_type types t code.Y1 value
assigned_by types t value (meaning.Standard s) = wants_type types t code.Y1 value
assigned_by types t value (meaning.Type u) = wants_type types t code.Y1 value
assigned_by types t value (meaning.Bounds u l h) = wants_type types t code.Y1 value

-- What holds a signal is not assigned.
abbrev pub assigned_variable : List TypeInfo → ℕ → Place → Typed → Option Fault
assigned_variable types t place value = if holds_signal types t then at code.Y1 place else assigned_by types t value value.meaning

abbrev pub assigned_result : List TypeInfo → Typed → Answer → Option Fault
assigned_result types value answer.Nothing = None
assigned_result types value (answer.Value None) = None
assigned_result types value (answer.Value (Some t)) = assigned_by types t value value.meaning

abbrev pub assignment_fault : List TypeInfo → Place → Typed → Meaning → Option Fault
assignment_fault types place value (meaning.Variable v) = or_else (changed v.change place) (assigned_variable types v.type_of place value)
assignment_fault types place value (meaning.Bit c) = or_else (changed c place) (wants_type types boolean code.Y1 value)
assignment_fault types place value (meaning.Own c) = assigned_result types value c.result
assignment_fault types place value meaning.OwnBit = wants_type types boolean code.Y1 value
assignment_fault types place value (meaning.Unknown ch) = changed ch place
assignment_fault types place value meaning.Nothing = at code.Y2 place
assignment_fault types place value meaning.Faulty = at code.Y2 place
assignment_fault types place value meaning.NoValue = at code.Y2 place
assignment_fault types place value (meaning.Constant t w) = at code.Y2 place
assignment_fault types place value (meaning.Trap t) = at code.Y2 place
assignment_fault types place value (meaning.Value t) = at code.Y2 place
assignment_fault types place value (meaning.Text n p) = at code.Y2 place
assignment_fault types place value (meaning.Procedure c) = at code.Y2 place
assignment_fault types place value (meaning.Process n) = at code.Y2 place
assignment_fault types place value (meaning.Standard s) = at code.Y2 place
assignment_fault types place value (meaning.Type t) = at code.Y2 place
assignment_fault types place value (meaning.Bounds t l h) = at code.Y2 place

abbrev pub condition_fault : List TypeInfo → Typed → Option Fault
condition_fault types t = wants_type types boolean code.Y1 t

-- conditions, each with its body, and the body behind `else` where there is one
abbrev pub conditions_fault : List TypeInfo → List Typed → Option Fault
conditions_fault types [] = None
conditions_fault types (otherwise ∷ []) = None
conditions_fault types (condition ∷ (body ∷ parts)) = or_else (condition_fault types condition) (conditions_fault types parts)

abbrev pub is_among : ℕ → List ℕ → Bool
is_among w [] = false
is_among w (v ∷ words) = (w == v) || is_among w words

-- a label that stands twice
abbrev pub twice_fault : ℕ → List ℕ → Typed → Option Fault
twice_fault t words label = if is_constant_of t label.meaning && is_among (word_of label.meaning) words then at code.Y7 label.place else None

-- the words of the labels so far, and of one more where it is a constant
abbrev pub with_word : Meaning → List ℕ → List ℕ
with_word m words = if is_constant m then word_of m ∷ words else words

-- the first fault of labels of a type, where labels of these words stand before
abbrev pub labels_fault : List TypeInfo → ℕ → List ℕ → List Typed → Option Fault
labels_fault types t words [] = None
labels_fault types t words (l ∷ labels) =
    or_else (or_else (wants_type types t code.Y1 l) (twice_fault t words l)) (labels_fault types t (with_word l.meaning words) labels)

abbrev pub parts_by : Option Piece → List ℕ
parts_by None = []
parts_by (Some p) = p.parts

abbrev pub parts_of : List Piece → ℕ → List ℕ
parts_of pieces n = parts_by (slice_get pieces n)

-- all but the last
abbrev pub but_last : List ℕ → List ℕ
but_last [] = []
but_last (n ∷ []) = []
but_last (n ∷ (m ∷ more)) = n ∷ but_last (m ∷ more)

-- the labels of all arms, in their order
abbrev pub labels_of : List Piece → List ℕ → List ℕ
labels_of pieces [] = []
labels_of pieces (arm ∷ arms) = but_last (parts_of pieces arm) ++ labels_of pieces arms

abbrev pub arms_fault : List TypeInfo → List Piece → List Typed → List ℕ → Option ℕ → Option Fault
arms_fault types pieces typed arms None = None
arms_fault types pieces typed arms (Some t) = labels_fault types t [] (map (typed_at typed) (labels_of pieces arms))

abbrev pub case_with : List TypeInfo → List Piece → List Typed → Typed → List ℕ → Option Fault
case_with types pieces typed choice arms =
    or_else (wants types allowed.Ordered code.Y1 choice) (arms_fault types pieces typed arms (type_of choice.meaning))

-- a choice, and the labels of its arms
abbrev pub case_fault : List TypeInfo → List Piece → List Typed → List ℕ → Option Fault
case_fault types pieces typed [] = None
case_fault types pieces typed (choice ∷ arms) = case_with types pieces typed (typed_at typed choice) arms
