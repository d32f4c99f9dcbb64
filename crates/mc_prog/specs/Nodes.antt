-- The nodes of the texts that run: one for each statement, designator and expression, behind those of its parts. A constant
-- expression is one node; those of its parts stand for nothing else.
use Rattle.std.specs.Prelude.{ℕ, ◌+◌, ◌-◌, ◌==◌, List, [], ◌∷◌, ◌++◌, length, Option, Some, None, Bool, if◌then◌else◌, bytes_eq, slice_get}
use Rattle.mc_tree.specs.declared.place.Place.{Place}
use Rattle.mc_tree.specs.declared.expression.Adding.{Adding}
use Rattle.mc_tree.specs.declared.expression.Adding.TheVariants as adding
use Rattle.mc_tree.specs.declared.expression.Multiplying.{Multiplying}
use Rattle.mc_tree.specs.declared.expression.Multiplying.TheVariants as multiplying
use Rattle.mc_tree.specs.declared.expression.Relation.{Relation}
use Rattle.mc_tree.specs.declared.expression.Relation.TheVariants as relation
use Rattle.mc_tree.specs.declared.expression.Sign.{Sign}
use Rattle.mc_tree.specs.declared.expression.Sign.TheVariants as sign
use Rattle.mc_tree.specs.declared.tree.Id.{Id}
use Rattle.mc_prog.specs.declared.program.CodeInfo.{CodeInfo}
use Rattle.mc_prog.specs.declared.program.FieldInfo.{FieldInfo}
use Rattle.mc_prog.specs.declared.program.Form.{Form}
use Rattle.mc_prog.specs.declared.program.Form.TheVariants as form
use Rattle.mc_prog.specs.declared.program.Node.{Node}
use Rattle.mc_prog.specs.declared.program.Shape.{Shape}
use Rattle.mc_prog.specs.declared.program.Shape.TheVariants as shape
use Rattle.mc_prog.specs.declared.program.Standard.TheVariants as standard
use Rattle.mc_prog.specs.declared.program.TypeInfo.{TypeInfo}
use Rattle.mc_prog.specs.declared.typing.Answer.{Answer}
use Rattle.mc_prog.specs.declared.typing.Answer.TheVariants as answer
use Rattle.mc_prog.specs.declared.typing.Callable.{Callable}
use Rattle.mc_prog.specs.declared.typing.Entity.{Entity}
use Rattle.mc_prog.specs.declared.typing.Entity.TheVariants as entity
use Rattle.mc_prog.specs.declared.typing.Meaning.{Meaning}
use Rattle.mc_prog.specs.declared.typing.Change.TheVariants as change
use Rattle.mc_prog.specs.declared.typing.Meaning.TheVariants as meaning
use Rattle.mc_prog.specs.declared.typing.Typed.{Typed}
use Rattle.mc_prog.specs.Pieces.{Around, Piece, Construct}
use Rattle.mc_prog.specs.Pieces as piece
use Rattle.mc_prog.specs.Known.{Known, boolean, integer, char, declaration_in, entity_in, is_nowhere, is_code, name_meaning, part, shape_of}
use Rattle.mc_prog.specs.Said.{type_of}
use Rattle.mc_prog.specs.Constants.{word_of}

abbrev pub slots_by : Option CodeInfo → ℕ
slots_by None = 0
slots_by (Some info) = length info.slots - 1

-- the slot of a function's result, the last
abbrev pub result_slot : List CodeInfo → ℕ → ℕ
result_slot procedures n = slots_by (slice_get procedures n)

abbrev pub own_form : List CodeInfo → Bool → Callable → Option Form
own_form procedures own c = if own then Some (form.Slot (result_slot procedures c.number)) else None

abbrev pub entity_form : List CodeInfo → Bool → Entity → Option Form
entity_form procedures own entity.Ahead = None
entity_form procedures own entity.Faulty = None
entity_form procedures own (entity.Constant t w) = Some (form.Constant w)
entity_form procedures own (entity.Type t) = None
entity_form procedures own (entity.Cell n t m r) = Some (form.Cell n)
entity_form procedures own (entity.Slot n t c r) = Some (form.Slot n)
entity_form procedures own (entity.Procedure c) = own_form procedures own c
entity_form procedures own (entity.Process n) = None
entity_form procedures own (entity.Module m) = None

abbrev pub constant_form : Meaning → Option Form
constant_form (meaning.Constant t w) = Some (form.Constant w)
constant_form meaning.Nothing = None
constant_form meaning.Faulty = None
constant_form (meaning.Unknown ch) = None
constant_form meaning.NoValue = None
constant_form (meaning.Trap t) = None
constant_form (meaning.Value t) = None
constant_form (meaning.Text n p) = None
constant_form (meaning.Variable v) = None
constant_form (meaning.Bit c) = None
constant_form (meaning.Own c) = None
constant_form meaning.OwnBit = None
constant_form (meaning.Procedure c) = None
constant_form (meaning.Process n) = None
constant_form (meaning.Standard s) = None
constant_form (meaning.Type t) = None
constant_form (meaning.Bounds t l h) = None

-- a name that is a constant, a variable or the result of the function around; a called name has its node at the call
abbrev pub name_form : Known → List CodeInfo → Around → Id → Option Form
name_form known procedures around id =
    let declared : Place = declaration_in known.namings id.place in
    if is_nowhere declared then constant_form (name_meaning known around id)
    else entity_form procedures (is_code around.code_at declared) (entity_in known.entities declared)

abbrev pub conversion_form : ℕ → Form
conversion_form t = if t == integer then form.Standard standard.Integer else (if t == char then form.Standard standard.Char else form.Standard standard.Bits)

-- a called name
abbrev pub called_form : Meaning → Option Form
called_form (meaning.Procedure c) = Some (form.Procedure c.number)
called_form (meaning.Own c) = Some (form.Procedure c.number)
called_form (meaning.Process n) = Some (form.Process n)
called_form (meaning.Standard s) = Some (form.Standard s)
called_form (meaning.Type t) = Some (conversion_form t)
called_form meaning.Nothing = None
called_form meaning.Faulty = None
called_form (meaning.Unknown ch) = None
called_form meaning.NoValue = None
called_form (meaning.Constant t w) = None
called_form (meaning.Trap t) = None
called_form (meaning.Value t) = None
called_form (meaning.Text n p) = None
called_form (meaning.Variable v) = None
called_form (meaning.Bit c) = None
called_form meaning.OwnBit = None
called_form (meaning.Bounds t l h) = None

-- the type of a value or of a variable, that of a result too
abbrev pub answer_type : Answer → Option ℕ
answer_type answer.Nothing = None
answer_type (answer.Value t) = t

abbrev pub node_type : Meaning → Option ℕ
node_type (meaning.Own c) = answer_type c.result
node_type meaning.OwnBit = Some boolean
node_type meaning.Nothing = type_of meaning.Nothing
node_type meaning.Faulty = type_of meaning.Faulty
node_type (meaning.Unknown ch) = type_of (meaning.Unknown change.May)
node_type meaning.NoValue = type_of meaning.NoValue
node_type (meaning.Constant t w) = type_of (meaning.Constant t w)
node_type (meaning.Trap t) = type_of (meaning.Trap t)
node_type (meaning.Value t) = type_of (meaning.Value t)
node_type (meaning.Text n p) = type_of (meaning.Text n p)
node_type (meaning.Variable v) = type_of (meaning.Variable v)
node_type (meaning.Bit c) = type_of (meaning.Bit c)
node_type (meaning.Procedure c) = type_of (meaning.Procedure c)
node_type (meaning.Process n) = type_of (meaning.Process n)
node_type (meaning.Standard s) = type_of (meaning.Standard s)
node_type (meaning.Type t) = type_of (meaning.Type t)
node_type (meaning.Bounds t l h) = type_of (meaning.Bounds t l h)

abbrev pub sum_form : Adding → Form
sum_form adding.Plus = form.Add
sum_form adding.Minus = form.Subtract
sum_form adding.Or = form.Or
sum_form adding.Xor = form.Xor

abbrev pub product_form : Multiplying → Form
product_form multiplying.Times = form.Multiply
product_form multiplying.Div = form.Divide
product_form multiplying.Mod = form.Modulo
product_form multiplying.And = form.And

abbrev pub relation_form : Relation → Form
relation_form relation.Equal = form.Equal
relation_form relation.Unequal = form.Unequal
relation_form relation.Less = form.Less
relation_form relation.LessEqual = form.LessEqual
relation_form relation.Greater = form.Greater
relation_form relation.GreaterEqual = form.GreaterEqual

abbrev pub sign_form : Sign → Form
sign_form sign.Plus = form.Plus
sign_form sign.Minus = form.Minus

-- the number of a field in its record
abbrev pub field_number : ℕ → List FieldInfo → List ℕ → ℕ
field_number n [] name = n
field_number n (f ∷ fields) name = if bytes_eq f.name name then n else field_number (n + 1) fields name

abbrev pub number_in : Option Shape → List ℕ → ℕ
number_in None name = 0
number_in (Some shape.Integer) name = 0
number_in (Some shape.Boolean) name = 0
number_in (Some shape.Char) name = 0
number_in (Some shape.Bits) name = 0
number_in (Some shape.Signal) name = 0
number_in (Some (shape.Enumeration n)) name = 0
number_in (Some (shape.Array index low high element)) name = 0
number_in (Some (shape.Record fields)) name = field_number 0 fields name

abbrev pub field_of_type : List TypeInfo → Option ℕ → List ℕ → ℕ
field_of_type types None name = 0
field_of_type types (Some t) name = number_in (shape_of types t) name

-- the name alone of a function
abbrev pub alone_form : Meaning → Option Form
alone_form (meaning.Procedure c) = Some (form.Procedure c.number)
alone_form (meaning.Own c) = Some (form.Procedure c.number)
alone_form meaning.Nothing = None
alone_form meaning.Faulty = None
alone_form (meaning.Unknown ch) = None
alone_form meaning.NoValue = None
alone_form (meaning.Constant t w) = None
alone_form (meaning.Trap t) = None
alone_form (meaning.Value t) = None
alone_form (meaning.Text n p) = None
alone_form (meaning.Variable v) = None
alone_form (meaning.Bit c) = None
alone_form meaning.OwnBit = None
alone_form (meaning.Process n) = None
alone_form (meaning.Standard s) = None
alone_form (meaning.Type t) = None
alone_form (meaning.Bounds t l h) = None

-- no node, or this one; its type is that of what is said
abbrev pub maybe_node : Place → Meaning → List ℕ → Option Form → List Node
maybe_node place_ m parts_ None = []
maybe_node place_ m parts_ (Some f) = record { place = place_; type_of = node_type m; form = f; parts = parts_ } ∷ []

abbrev pub one_node : Place → Meaning → List ℕ → Form → List Node
one_node place_ m parts_ f = record { place = place_; type_of = node_type m; form = f; parts = parts_ } ∷ []

-- a name without a type, and then the node whose first part or second part it is
abbrev pub name_node : Place → Form → Node
name_node place_ f = record { place = place_; type_of = None; form = f; parts = [] }

-- the called name, and the call behind it
abbrev pub call_nodes : ℕ → Place → Meaning → List ℕ → Form → Option Form → List Node
call_nodes next place m parts_ f None = []
call_nodes next place m parts_ f (Some called) = name_node place called ∷ one_node place m (next ∷ parts_) f

-- the nodes of a piece, behind so many nodes; its parts stand for nodes of these numbers
abbrev pub nodes_of : Known → List CodeInfo → Around → Place → Meaning → List Typed → List ℕ → ℕ → List ℕ → Construct → List Node
nodes_of known procedures around place m typed numbers next parts (piece.Number w) = one_node place m [] (form.Constant w)
nodes_of known procedures around place m typed numbers next parts (piece.Character c) = one_node place m [] (form.Constant c)
nodes_of known procedures around place m typed numbers next parts (piece.Text t) = one_node place m [] (form.Literal t)
nodes_of known procedures around place m typed numbers next parts (piece.Name id) = maybe_node place m [] (name_form known procedures around id)
nodes_of known procedures around place m typed numbers next parts (piece.Select id) = name_node id.place (form.Field (field_of_type known.types (type_of (part typed numbers 0).meaning) id.text)) ∷ one_node place m (parts ++ (next ∷ [])) form.Select
nodes_of known procedures around place m typed numbers next parts piece.Index = one_node place m parts form.Index
nodes_of known procedures around place m typed numbers next parts piece.Designated = call_nodes next place m [] form.CallValue (alone_form (part typed numbers 0).meaning)
nodes_of known procedures around place m typed numbers next parts (piece.Calling id) = call_nodes next place m parts form.CallValue (called_form (name_meaning known around id))
nodes_of known procedures around place m typed numbers next parts piece.Group = one_node place m parts form.Parenthesis
nodes_of known procedures around place m typed numbers next parts piece.Negation = one_node place m parts form.Not
nodes_of known procedures around place m typed numbers next parts piece.Bits = one_node place m [] (form.Constant (word_of m))
nodes_of known procedures around place m typed numbers next parts piece.Element = []
nodes_of known procedures around place m typed numbers next parts (piece.Signed s) = one_node place m parts (sign_form s)
nodes_of known procedures around place m typed numbers next parts (piece.Sum o) = one_node place m parts (sum_form o)
nodes_of known procedures around place m typed numbers next parts (piece.Product o) = one_node place m parts (product_form o)
nodes_of known procedures around place m typed numbers next parts (piece.Comparison r) = one_node place m parts (relation_form r)
nodes_of known procedures around place m typed numbers next parts piece.Assignment = one_node place m parts form.Assign
nodes_of known procedures around place m typed numbers next parts (piece.Statement id) = call_nodes next place m parts form.CallStatement (called_form (name_meaning known around id))
nodes_of known procedures around place m typed numbers next parts piece.If = one_node place m parts form.If
nodes_of known procedures around place m typed numbers next parts piece.While = one_node place m parts form.While
nodes_of known procedures around place m typed numbers next parts piece.Repeat = one_node place m parts form.Repeat
nodes_of known procedures around place m typed numbers next parts piece.Loop = one_node place m parts form.Loop
nodes_of known procedures around place m typed numbers next parts piece.When = one_node place m parts form.When
nodes_of known procedures around place m typed numbers next parts piece.Case = one_node place m parts form.Case
nodes_of known procedures around place m typed numbers next parts piece.Arm = one_node place m parts form.Arm
nodes_of known procedures around place m typed numbers next parts piece.Label = one_node place m [] (form.Constant (word_of m))
nodes_of known procedures around place m typed numbers next parts piece.Body = one_node place m parts form.Body
nodes_of known procedures around place m typed numbers next parts (piece.TypeName id) = []
nodes_of known procedures around place m typed numbers next parts (piece.Enumeration n) = []
nodes_of known procedures around place m typed numbers next parts (piece.EnumerationValue id) = []
nodes_of known procedures around place m typed numbers next parts piece.Range = []
nodes_of known procedures around place m typed numbers next parts piece.Array = []
nodes_of known procedures around place m typed numbers next parts piece.Record = []
nodes_of known procedures around place m typed numbers next parts (piece.FieldGroup names) = []
nodes_of known procedures around place m typed numbers next parts (piece.Constant id) = []
nodes_of known procedures around place m typed numbers next parts (piece.TypeDeclaration id) = []
nodes_of known procedures around place m typed numbers next parts (piece.Variable id) = []
nodes_of known procedures around place m typed numbers next parts (piece.Parameter passing id) = []
nodes_of known procedures around place m typed numbers next parts piece.ResultType = []
nodes_of known procedures around place m typed numbers next parts (piece.Heading sort id) = []
nodes_of known procedures around place m typed numbers next parts (piece.Ending sort id) = []
nodes_of known procedures around place m typed numbers next parts (piece.Module sort id) = []
nodes_of known procedures around place m typed numbers next parts piece.Running = []
