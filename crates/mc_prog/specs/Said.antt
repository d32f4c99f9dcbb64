-- What is said of a piece, and its own fault. An expression that has a fault in it has no type, and gives no further
-- fault by that.
use Rattle.std.specs.Prelude.{ℕ, List, Option, Some, None, Bool, true, false, if◌then◌else◌}
use Rattle.mc_tree.specs.declared.place.Place.{Place}
use Rattle.mc_tree.specs.declared.fault.Code.{Code}
use Rattle.mc_tree.specs.declared.fault.Fault.{Fault}
use Rattle.mc_prog.specs.declared.typing.Meaning.{Meaning}
use Rattle.mc_prog.specs.declared.typing.Meaning.TheVariants as meaning
use Rattle.mc_prog.specs.declared.typing.Said.{Said}
use Rattle.mc_prog.specs.declared.typing.Typed.{Typed}
use Rattle.mc_prog.specs.declared.program.TypeInfo.{TypeInfo}
use Rattle.mc_prog.specs.declared.typing.Allowed.{Allowed}
use Rattle.mc_prog.specs.declared.typing.Allowed.TheVariants as allowed
use Rattle.mc_prog.specs.Known.{boolean}
use Rattle.mc_prog.specs.Takes.{allows}

abbrev pub at : Code → Place → Option Fault
at code_ place_ = Some (record { code = code_; place = place_ })

abbrev pub fine : Meaning → Said
fine m = record { meaning = m; fault = None }

abbrev pub wrong : Meaning → Code → Place → Said
wrong m c p = record { meaning = m; fault = at c p }

-- the first fault that is there
abbrev pub or_else : Option Fault → Option Fault → Option Fault
or_else None other = other
or_else (Some f) other = Some f

-- the type of a value or of a variable
abbrev pub type_of : Meaning → Option ℕ
type_of meaning.Nothing = None
type_of meaning.Faulty = None
type_of (meaning.Unknown ch) = None
type_of meaning.NoValue = None
type_of (meaning.Constant t w) = Some t
type_of (meaning.Trap t) = Some t
type_of (meaning.Value t) = Some t
type_of (meaning.Text n p) = None
type_of (meaning.Variable v) = Some v.type_of
type_of (meaning.Bit change) = Some boolean
type_of (meaning.Own c) = None
type_of meaning.OwnBit = None
type_of (meaning.Procedure c) = None
type_of (meaning.Process n) = None
type_of (meaning.Standard s) = None
type_of (meaning.Type t) = None
type_of (meaning.Bounds t l h) = None

-- what has a fault in it already
abbrev pub is_faulty : Meaning → Bool
is_faulty meaning.Nothing = true
is_faulty meaning.Faulty = true
is_faulty (meaning.Unknown ch) = true
is_faulty meaning.NoValue = true
is_faulty (meaning.Constant t w) = false
is_faulty (meaning.Trap t) = false
is_faulty (meaning.Value t) = false
is_faulty (meaning.Text n p) = false
is_faulty (meaning.Variable v) = false
is_faulty (meaning.Bit change) = false
is_faulty (meaning.Own c) = false
is_faulty meaning.OwnBit = false
is_faulty (meaning.Procedure c) = false
is_faulty (meaning.Process n) = false
is_faulty (meaning.Standard s) = false
is_faulty (meaning.Type t) = false
is_faulty (meaning.Bounds t l h) = false

-- a part of a type that is allowed, or a fault at it
abbrev pub wants_by : List TypeInfo → Allowed → Code → Place → Option ℕ → Option Fault
wants_by types a c place None = at c place
wants_by types a c place (Some t) = if allows types a t then None else at c place

abbrev pub wants : List TypeInfo → Allowed → Code → Typed → Option Fault
wants types a c t = if is_faulty t.meaning then None else wants_by types a c t.place (type_of t.meaning)

abbrev pub wants_type : List TypeInfo → ℕ → Code → Typed → Option Fault
wants_type types u c t = wants types (allowed.Only u) c t

-- a value of its type, of which nothing more is known
abbrev pub value_by : Option ℕ → Meaning
value_by None = meaning.Faulty
value_by (Some t) = meaning.Value t
