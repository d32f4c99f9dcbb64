-- What statements, expressions and designators are replaced by: their parts, and what is done with these.
use Rattle.std.specs.Prelude.{ℕ, ◌+◌, ◌*◌, ◌==◌, List, [], ◌∷◌, ◌++◌, map, Option, Some, None, Bool, true, false, slice_get, slice_index, if◌then◌else◌}
use Rattle.mc_prog.specs.declared.program.CodeInfo.{CodeInfo}
use Rattle.mc_prog.specs.declared.program.Form.{Form}
use Rattle.mc_prog.specs.declared.program.Form.TheVariants as form
use Rattle.mc_prog.specs.declared.program.ModuleInfo.{ModuleInfo}
use Rattle.mc_prog.specs.declared.program.Node.{Node}
use Rattle.mc_prog.specs.declared.program.Shape.{Shape}
use Rattle.mc_prog.specs.declared.program.Shape.TheVariants as shape
use Rattle.mc_prog.specs.declared.program.Slot.{Slot}
use Rattle.mc_prog.specs.declared.program.SlotKind.{SlotKind}
use Rattle.mc_prog.specs.declared.program.SlotKind.TheVariants as slots
use Rattle.mc_prog.specs.declared.program.Standard.{Standard}
use Rattle.mc_prog.specs.declared.program.Standard.TheVariants as standard
use Rattle.mc_prog.specs.declared.program.TypeInfo.{TypeInfo}
use Rattle.mc_prog.specs.Known.{bits, boolean, words_of}
use Rattle.mc_prog.specs.Resolved.{Resolved}
use Rattle.mc_meaning.specs.declared.process.Item.{Item}
use Rattle.mc_meaning.specs.declared.process.Item.TheVariants.{Runs, CallsBody, Evaluates, Names, Reads, Indexes, Selects, TestsBit, ReadsBit, Operates, Decides, Writes, WritesBit, Spreads, Branches, Turns, Repeats, Loops, Tries, Calls, Starts, Waits, Sends, Awaits, StandsAtDoio}

-- Nodes

abbrev pub form_of : Option Node → Form
form_of None = form.Body
form_of (Some n) = n.form

abbrev pub parts_of : Option Node → List ℕ
parts_of None = []
parts_of (Some n) = n.parts

abbrev pub type_in : Option Node → Option ℕ
type_in None = None
type_in (Some n) = n.type_of

abbrev pub form_at : Resolved → ℕ → Form
form_at p n = form_of (slice_get p.nodes n)

abbrev pub parts_at : Resolved → ℕ → List ℕ
parts_at p n = parts_of (slice_get p.nodes n)

-- the part of this number, from 0
abbrev pub part_at : Resolved → ℕ → ℕ → ℕ
part_at p n i = slice_index (parts_at p n) i

abbrev pub type_or : Option ℕ → ℕ
type_or None = 0
type_or (Some t) = t

-- the type of a value or a variable
abbrev pub type_at : Resolved → ℕ → ℕ
type_at p n = type_or (type_in (slice_get p.nodes n))

abbrev pub shape_or : Option TypeInfo → Shape
shape_or None = shape.Integer
shape_or (Some t) = t.shape

abbrev pub shape_at : Resolved → ℕ → Shape
shape_at p t = shape_or (slice_get p.types t)

abbrev pub is_structured_shape : Shape → Bool
is_structured_shape (shape.Array index low high element) = true
is_structured_shape (shape.Record fields) = true
is_structured_shape other = false

abbrev pub is_structured : Resolved → ℕ → Bool
is_structured p t = is_structured_shape (shape_at p t)

-- Calls

abbrev pub is_value : Resolved → Slot → SlotKind → Bool
is_value p s slots.Constant = if is_structured p s.type_of then false else true
is_value p s slots.Variable = false
is_value p s slots.Local = false
is_value p s slots.Result = false

-- A scalar argument is evaluated. Of a structured one, and of one for `var`, what it names is wanted.
abbrev pub argument_item : Resolved → Slot → ℕ → Item
argument_item p s n = if is_value p s s.kind then Evaluates n else Names n

abbrev pub argument_items : Resolved → List Slot → List ℕ → List Item
argument_items p slots_ [] = []
argument_items p [] (n ∷ arguments) = []
argument_items p (s ∷ slots_) (n ∷ arguments) = argument_item p s n ∷ argument_items p slots_ arguments

abbrev pub slots_of : Option CodeInfo → List Slot
slots_of None = []
slots_of (Some code) = code.slots

abbrev pub standard_parts : ℕ → Standard → List ℕ → List Item
standard_parts n standard.Integer arguments = map Evaluates arguments ++ (Operates n ∷ [])
standard_parts n standard.Char arguments = map Evaluates arguments ++ (Operates n ∷ [])
standard_parts n standard.Bits arguments = map Evaluates arguments ++ (Operates n ∷ [])
standard_parts n standard.Wait [] = []
standard_parts n standard.Wait (signal ∷ []) = Names signal ∷ (Waits false ∷ [])
standard_parts n standard.Wait (signal ∷ (rank ∷ others)) = Names signal ∷ (Evaluates rank ∷ (Waits true ∷ []))
standard_parts n standard.Send arguments = map Names arguments ++ (Sends ∷ [])
standard_parts n standard.Awaited arguments = map Names arguments ++ (Awaits ∷ [])
standard_parts n standard.Doio arguments = StandsAtDoio ∷ []

-- the parts of a call of what has this form
abbrev pub called_parts : Resolved → ℕ → Form → List ℕ → List Item
called_parts p n (form.Procedure k) arguments = argument_items p (slots_of (slice_get p.procedures k)) arguments ++ (Calls n ∷ [])
called_parts p n (form.Process k) arguments = map Evaluates arguments ++ (Starts n ∷ [])
called_parts p n (form.Standard s) arguments = standard_parts n s arguments
called_parts p n other arguments = []

abbrev pub call_parts : Resolved → ℕ → List ℕ → List Item
call_parts p n [] = []
call_parts p n (name ∷ arguments) = called_parts p n (form_at p name) arguments

-- Designators

-- whether a designator begins with a variable; the others begin with a constant
abbrev pub begins_with_variable : Form → Bool
begins_with_variable (form.Cell k) = true
begins_with_variable (form.Slot k) = true
begins_with_variable form.Select = true
begins_with_variable form.Index = true
begins_with_variable other = false

-- a bit of what is named, or of a constant
abbrev pub bit_parts : Resolved → ℕ → ℕ → List Item
bit_parts p front index = (if begins_with_variable (form_at p front) then Names front else Evaluates front) ∷ (Evaluates index ∷ (TestsBit ∷ []))

-- whether a node is a bit of something
abbrev pub is_bit_form : Resolved → Form → ℕ → Bool
is_bit_form p form.Index front = type_at p front == bits
is_bit_form p other front = false

abbrev pub is_bit : Resolved → ℕ → Bool
is_bit p n = is_bit_form p (form_at p n) (part_at p n 0)

-- what a designator that is no name alone is replaced by
abbrev pub named_parts : Resolved → ℕ → Form → List Item
named_parts p n form.Select = Names (part_at p n 0) ∷ (Selects n ∷ [])
named_parts p n form.Index = Names (part_at p n 0) ∷ (Evaluates (part_at p n 1) ∷ (Indexes n ∷ []))
named_parts p n form.Parenthesis = Names (part_at p n 0) ∷ []
named_parts p n other = []

-- Expressions

abbrev pub binary_parts : Resolved → ℕ → List Item
binary_parts p n = Evaluates (part_at p n 0) ∷ (Evaluates (part_at p n 1) ∷ (Operates n ∷ []))

-- `and` and `or` of Booleans go on to the right side where it is needed
abbrev pub logical_parts : Resolved → ℕ → List Item
logical_parts p n = if type_at p n == boolean then Evaluates (part_at p n 0) ∷ (Decides n ∷ []) else binary_parts p n

abbrev pub read_parts : Resolved → ℕ → List Item
read_parts p n = if is_bit p n then bit_parts p (part_at p n 0) (part_at p n 1) ++ (ReadsBit ∷ []) else Names n ∷ (Reads (type_at p n) ∷ [])

-- what an expression that is no constant is replaced by
abbrev pub value_parts : Resolved → ℕ → Form → List Item
value_parts p n (form.Cell k) = read_parts p n
value_parts p n (form.Slot k) = read_parts p n
value_parts p n form.Select = read_parts p n
value_parts p n form.Index = read_parts p n
value_parts p n form.Equal = binary_parts p n
value_parts p n form.Unequal = binary_parts p n
value_parts p n form.Less = binary_parts p n
value_parts p n form.LessEqual = binary_parts p n
value_parts p n form.Greater = binary_parts p n
value_parts p n form.GreaterEqual = binary_parts p n
value_parts p n form.Add = binary_parts p n
value_parts p n form.Subtract = binary_parts p n
value_parts p n form.Multiply = binary_parts p n
value_parts p n form.Divide = binary_parts p n
value_parts p n form.Modulo = binary_parts p n
value_parts p n form.Xor = binary_parts p n
value_parts p n form.And = logical_parts p n
value_parts p n form.Or = logical_parts p n
value_parts p n form.Plus = Evaluates (part_at p n 0) ∷ (Operates n ∷ [])
value_parts p n form.Minus = Evaluates (part_at p n 0) ∷ (Operates n ∷ [])
value_parts p n form.Not = Evaluates (part_at p n 0) ∷ (Operates n ∷ [])
value_parts p n form.Parenthesis = Evaluates (part_at p n 0) ∷ []
value_parts p n form.CallValue = call_parts p n (parts_at p n)
value_parts p n other = []

-- Statements

-- The target of an assignment comes before its value. A bit's index is tested before the value is evaluated.
abbrev pub assign_parts : Resolved → ℕ → ℕ → List Item
assign_parts p target value =
    if is_bit p target then bit_parts p (part_at p target 0) (part_at p target 1) ++ (Evaluates value ∷ (WritesBit ∷ []))
    else (if is_structured p (type_at p target) then Names target ∷ (Names value ∷ (Spreads (words_of p.types (type_at p target)) ∷ []))
    else Names target ∷ (Evaluates value ∷ (Writes ∷ [])))

-- the number of the module that has this body, counted from m
abbrev pub module_with : List ModuleInfo → ℕ → ℕ → ℕ
module_with [] body m = m
module_with (x ∷ modules) body m = if x.body.body == body then m else module_with modules body (m + 1)

-- what a statement or a body is replaced by
abbrev pub statement_parts : Resolved → ℕ → Form → List Item
statement_parts p n form.Body = map Runs (parts_at p n)
statement_parts p n form.Bodies = map (λ body. CallsBody (module_with p.modules body 0)) (parts_at p n)
statement_parts p n form.Assign = assign_parts p (part_at p n 0) (part_at p n 1)
statement_parts p n form.CallStatement = call_parts p n (parts_at p n)
statement_parts p n form.If = Evaluates (part_at p n 0) ∷ (Branches n 0 ∷ [])
statement_parts p n form.While = Evaluates (part_at p n 0) ∷ (Turns n ∷ [])
statement_parts p n form.Repeat = Runs (part_at p n 0) ∷ (Evaluates (part_at p n 1) ∷ (Repeats n ∷ []))
statement_parts p n form.Loop = Runs (part_at p n 0) ∷ (Loops n 0 ∷ [])
statement_parts p n form.Case = Evaluates (part_at p n 0) ∷ (Tries n 0 ∷ [])
statement_parts p n other = []

-- what a step selects

-- behind the condition of this number of an `if`: its body, or the next condition, or the body behind `else`
abbrev pub branch_items : Resolved → ℕ → ℕ → Bool → List Item
branch_items p n k true = Runs (part_at p n (2 * k + 1)) ∷ []
branch_items p n k false = next_branch (slice_get (parts_at p n) (2 * k + 2)) (slice_get (parts_at p n) (2 * k + 3))
  where
    next_branch : Option ℕ → Option ℕ → List Item
    next_branch None body = []
    next_branch (Some other) None = Runs other ∷ []
    next_branch (Some condition) (Some body) = Evaluates condition ∷ (Branches n (k + 1) ∷ [])
