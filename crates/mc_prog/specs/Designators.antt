-- Designators: fields, elements and bits, and what a designator is in the place of a factor. A field or an index of what
-- has none is a fault of the whole designator.
use Rattle.std.specs.Prelude.{ℕ, ◌==◌, ◌/◌, ◌%◌, ◌^◌, nat_lt, List, [], ◌∷◌, Option, Some, None, if◌then◌else◌, bytes_eq, slice_get}
use Rattle.mc_tree.specs.declared.fault.Code.TheVariants as code
use Rattle.mc_tree.specs.declared.fault.Fault.{Fault}
use Rattle.mc_tree.specs.declared.tree.Id.{Id}
use Rattle.mc_prog.specs.declared.program.FieldInfo.{FieldInfo}
use Rattle.mc_prog.specs.declared.program.Shape.{Shape}
use Rattle.mc_prog.specs.declared.program.Shape.TheVariants as shape
use Rattle.mc_prog.specs.declared.program.TypeInfo.{TypeInfo}
use Rattle.mc_prog.specs.declared.typing.Answer.{Answer}
use Rattle.mc_prog.specs.declared.typing.Answer.TheVariants as answer
use Rattle.mc_prog.specs.declared.typing.Callable.{Callable}
use Rattle.mc_prog.specs.declared.typing.Meaning.{Meaning}
use Rattle.mc_prog.specs.declared.typing.Change.TheVariants as change
use Rattle.mc_prog.specs.declared.typing.Meaning.TheVariants as meaning
use Rattle.mc_prog.specs.declared.typing.Typed.{Typed}
use Rattle.mc_prog.specs.declared.typing.Variable.{Variable}
use Rattle.mc_prog.specs.declared.typing.Wanted.{Wanted}
use Rattle.mc_prog.specs.Known.{Known, integer, boolean, bits, shape_of}
use Rattle.mc_prog.specs.declared.typing.Said.{Said}
use Rattle.mc_prog.specs.Said.{fine, wrong, type_of, value_by, wants_type}

-- the field of a name, where the record has it
abbrev pub field_in : List FieldInfo → List ℕ → Option FieldInfo
field_in [] name = None
field_in (f ∷ fields) name = if bytes_eq f.name name then Some f else field_in fields name

abbrev pub field_said : Variable → Id → Option FieldInfo → Said
field_said v id None = wrong (meaning.Unknown v.change) code.Y1 id.place
field_said v id (Some f) = fine (meaning.Variable (record v { type_of = f.type_of }))

-- A part of what has none: a variable's is not known, and what is no variable has no value.
abbrev pub lost : Meaning → Meaning
lost meaning.Nothing = meaning.NoValue
lost meaning.Faulty = meaning.NoValue
lost (meaning.Unknown ch) = meaning.Unknown ch
lost meaning.NoValue = meaning.NoValue
lost (meaning.Constant t w) = meaning.NoValue
lost (meaning.Trap t) = meaning.NoValue
lost (meaning.Value t) = meaning.NoValue
lost (meaning.Text n p) = meaning.NoValue
lost (meaning.Variable v) = meaning.Unknown v.change
lost (meaning.Bit c) = meaning.Unknown c
lost (meaning.Own c) = (meaning.Unknown change.May)
lost meaning.OwnBit = (meaning.Unknown change.May)
lost (meaning.Procedure c) = meaning.NoValue
lost (meaning.Process n) = meaning.NoValue
lost (meaning.Standard s) = meaning.NoValue
lost (meaning.Type t) = meaning.NoValue
lost (meaning.Bounds t l h) = meaning.NoValue

abbrev pub no_part : Typed → Said
no_part base = wrong (lost base.meaning) code.Y1 base.place

abbrev pub field_by : Typed → Variable → Id → Option Shape → Said
field_by base v id None = no_part base
field_by base v id (Some shape.Integer) = no_part base
field_by base v id (Some shape.Boolean) = no_part base
field_by base v id (Some shape.Char) = no_part base
field_by base v id (Some shape.Bits) = no_part base
field_by base v id (Some shape.Signal) = no_part base
field_by base v id (Some (shape.Enumeration n)) = no_part base
field_by base v id (Some (shape.Array index low high element)) = no_part base
field_by base v id (Some (shape.Record fields)) = field_said v id (field_in fields id.text)

abbrev pub selected : List TypeInfo → Typed → Id → Meaning → Said
selected types base id (meaning.Variable v) = field_by base v id (shape_of types v.type_of)
selected types base id (meaning.Unknown ch) = fine (meaning.Unknown ch)
selected types base id meaning.Nothing = no_part base
selected types base id meaning.Faulty = no_part base
selected types base id meaning.NoValue = no_part base
selected types base id (meaning.Constant t w) = no_part base
selected types base id (meaning.Trap t) = no_part base
selected types base id (meaning.Value t) = no_part base
selected types base id (meaning.Text n p) = no_part base
selected types base id (meaning.Bit c) = no_part base
selected types base id (meaning.Own c) = no_part base
selected types base id meaning.OwnBit = no_part base
selected types base id (meaning.Procedure c) = no_part base
selected types base id (meaning.Process n) = no_part base
selected types base id (meaning.Standard s) = no_part base
selected types base id (meaning.Type t) = no_part base
selected types base id (meaning.Bounds t l h) = no_part base

-- A part of a designator with a fault in it; whether it may be changed is known where it is one of a variable. A bit of a
-- constant may not, and a bit of the function around stays one, whatever the index is.
abbrev pub unknown : Meaning → Meaning
unknown meaning.Nothing = meaning.Unknown change.May
unknown meaning.Faulty = meaning.Unknown change.May
unknown (meaning.Unknown ch) = meaning.Unknown change.May
unknown meaning.NoValue = meaning.Unknown change.May
unknown (meaning.Constant t w) = meaning.Unknown change.Never
unknown (meaning.Trap t) = meaning.Unknown change.Never
unknown (meaning.Value t) = meaning.Unknown change.Never
unknown (meaning.Text n p) = meaning.Unknown change.May
unknown (meaning.Variable v) = meaning.Unknown v.change
unknown (meaning.Bit c) = meaning.Unknown c
unknown (meaning.Own c) = meaning.Unknown change.May
unknown meaning.OwnBit = meaning.OwnBit
unknown (meaning.Procedure c) = meaning.Unknown change.May
unknown (meaning.Process n) = meaning.Unknown change.May
unknown (meaning.Standard s) = meaning.Unknown change.May
unknown (meaning.Type t) = meaning.Unknown change.May
unknown (meaning.Bounds t l h) = meaning.Unknown change.May

-- the part that an index of a type picks out; none where the index has a fault
abbrev pub picked_by : Option ℕ → Meaning → Meaning
picked_by None m = unknown m
picked_by (Some t) m = m

abbrev pub picked_or : Option Fault → Option ℕ → Meaning → Said
picked_or None t m = fine (picked_by t m)
picked_or (Some f) t m = record { meaning = unknown m; fault = Some f }

abbrev pub picked : List TypeInfo → Typed → ℕ → Meaning → Said
picked types index t m = picked_or (wants_type types t code.Y1 index) (type_of index.meaning) m

abbrev pub element_by : List TypeInfo → Typed → Typed → Variable → Option Shape → Said
element_by types base index v None = no_part base
element_by types base index v (Some shape.Integer) = no_part base
element_by types base index v (Some shape.Boolean) = no_part base
element_by types base index v (Some shape.Char) = no_part base
element_by types base index v (Some shape.Bits) = picked types index integer (meaning.Bit v.change)
element_by types base index v (Some shape.Signal) = no_part base
element_by types base index v (Some (shape.Enumeration n)) = no_part base
element_by types base index v (Some (shape.Array of_index low high element)) = picked types index of_index (meaning.Variable (record v { type_of = element }))
element_by types base index v (Some (shape.Record fields)) = no_part base

-- a bit of a constant
abbrev pub bit_of : ℕ → ℕ → Meaning
bit_of w i = if nat_lt i 16 then meaning.Constant boolean (w / (2 ^ i) % 2) else meaning.Trap boolean

abbrev pub constant_bit : ℕ → Meaning → Meaning
constant_bit w (meaning.Constant t i) = bit_of w i
constant_bit w (meaning.Trap t) = meaning.Trap boolean
constant_bit w meaning.Nothing = meaning.Value boolean
constant_bit w meaning.Faulty = meaning.Value boolean
constant_bit w (meaning.Unknown ch) = meaning.Value boolean
constant_bit w meaning.NoValue = meaning.Value boolean
constant_bit w (meaning.Value t) = meaning.Value boolean
constant_bit w (meaning.Text n p) = meaning.Value boolean
constant_bit w (meaning.Variable v) = meaning.Value boolean
constant_bit w (meaning.Bit c) = meaning.Value boolean
constant_bit w (meaning.Own c) = meaning.Value boolean
constant_bit w meaning.OwnBit = meaning.Value boolean
constant_bit w (meaning.Procedure c) = meaning.Value boolean
constant_bit w (meaning.Process n) = meaning.Value boolean
constant_bit w (meaning.Standard s) = meaning.Value boolean
constant_bit w (meaning.Type t) = meaning.Value boolean
constant_bit w (meaning.Bounds t l h) = meaning.Value boolean

abbrev pub own_bit : List TypeInfo → Typed → Typed → Answer → Said
own_bit types base index answer.Nothing = no_part base
own_bit types base index (answer.Value None) = fine (meaning.Unknown change.May)
own_bit types base index (answer.Value (Some t)) = if t == bits then picked types index integer meaning.OwnBit else no_part base

abbrev pub indexed : List TypeInfo → Typed → Typed → Meaning → Said
indexed types base index (meaning.Variable v) = element_by types base index v (shape_of types v.type_of)
indexed types base index (meaning.Constant t w) = if t == bits then picked types index integer (constant_bit w index.meaning) else no_part base
indexed types base index (meaning.Own c) = own_bit types base index c.result
indexed types base index (meaning.Unknown ch) = fine (meaning.Unknown ch)
indexed types base index meaning.Nothing = no_part base
indexed types base index meaning.Faulty = no_part base
indexed types base index meaning.NoValue = no_part base
indexed types base index (meaning.Trap t) = no_part base
indexed types base index (meaning.Value t) = no_part base
indexed types base index (meaning.Text n p) = no_part base
indexed types base index (meaning.Bit c) = no_part base
indexed types base index meaning.OwnBit = no_part base
indexed types base index (meaning.Procedure c) = no_part base
indexed types base index (meaning.Process n) = no_part base
indexed types base index (meaning.Standard s) = no_part base
indexed types base index (meaning.Type t) = no_part base
indexed types base index (meaning.Bounds t l h) = no_part base

-- A name that is no value.
abbrev pub no_value : Typed → Said
no_value t = wrong meaning.NoValue code.Y1 t.place

abbrev pub called_alone_by : Typed → Answer → List Wanted → Said
called_alone_by t answer.Nothing wanted = no_value t
called_alone_by t (answer.Value result) [] = fine (value_by result)
called_alone_by t (answer.Value result) (w ∷ wanted) = no_value t

abbrev pub wanted_or : Option (List Wanted) → List Wanted
wanted_or None = []
wanted_or (Some wanted) = wanted

-- the name of a function without parameters is a call
abbrev pub called_alone : Known → Typed → Callable → Said
called_alone known t c = called_alone_by t c.result (wanted_or (slice_get known.procedures c.number))

abbrev pub designated : Known → Typed → Meaning → Said
designated known t (meaning.Own c) = called_alone known t c
designated known t (meaning.Procedure c) = called_alone known t c
designated known t meaning.NoValue = no_value t
designated known t meaning.OwnBit = no_value t
designated known t (meaning.Process n) = no_value t
designated known t (meaning.Standard s) = no_value t
designated known t (meaning.Type u) = no_value t
designated known t meaning.Nothing = fine (meaning.Unknown change.May)
designated known t meaning.Faulty = fine (meaning.Unknown change.May)
designated known t (meaning.Unknown ch) = fine (meaning.Unknown ch)
designated known t (meaning.Constant u w) = fine (meaning.Constant u w)
designated known t (meaning.Trap u) = fine (meaning.Trap u)
designated known t (meaning.Value u) = fine (meaning.Value u)
designated known t (meaning.Text n p) = fine (meaning.Text n p)
designated known t (meaning.Variable v) = fine (meaning.Variable v)
designated known t (meaning.Bit c) = fine (meaning.Bit c)
designated known t (meaning.Bounds u l h) = fine (meaning.Unknown change.May)

-- An expression between ( and ) is no variable any more.
abbrev pub grouped : Meaning → Meaning
grouped (meaning.Constant t w) = meaning.Constant t w
grouped (meaning.Trap t) = meaning.Trap t
grouped (meaning.Value t) = meaning.Value t
grouped (meaning.Text n p) = if n == 0 then meaning.Faulty else meaning.Text n p
grouped (meaning.Variable v) = meaning.Value v.type_of
grouped (meaning.Bit c) = meaning.Value boolean
grouped meaning.Nothing = meaning.Faulty
grouped meaning.Faulty = meaning.Faulty
grouped (meaning.Unknown ch) = meaning.Faulty
grouped meaning.NoValue = meaning.Faulty
grouped (meaning.Own c) = meaning.Faulty
grouped meaning.OwnBit = meaning.Faulty
grouped (meaning.Procedure c) = meaning.Faulty
grouped (meaning.Process n) = meaning.Faulty
grouped (meaning.Standard s) = meaning.Faulty
grouped (meaning.Type t) = meaning.Faulty
grouped (meaning.Bounds t l h) = meaning.Faulty
