-- What declarations declare, in the order of the text, and their faults.
use Rattle.std.specs.Prelude.{ℕ, ◌==◌, ◌+◌, ◌*◌, ◌-◌, ◌%◌, nat_lt, int_lt, List, [], ◌∷◌, ◌++◌, length, Option, Some, None, Bool, true, false, not, ◌&&◌, ◌||◌, if◌then◌else◌, slice_get}
use Rattle.mc_tree.specs.declared.fault.Code.TheVariants as code
use Rattle.mc_tree.specs.declared.fault.Fault.{Fault}
use Rattle.mc_tree.specs.declared.place.Place.{Place}
use Rattle.mc_tree.specs.declared.tree.After.{After}
use Rattle.mc_tree.specs.declared.tree.Id.{Id}
use Rattle.mc_tree.specs.declared.tree.Ids.{Ids}
use Rattle.mc_word.specs.Word.{signed_of}
use Rattle.mc_prog.specs.declared.scoped.Naming.{Naming}
use Rattle.mc_prog.specs.declared.program.CellInfo.{CellInfo}
use Rattle.mc_prog.specs.declared.program.CodeInfo.{CodeInfo}
use Rattle.mc_prog.specs.declared.program.FieldInfo.{FieldInfo}
use Rattle.mc_prog.specs.declared.program.ModuleInfo.{ModuleInfo}
use Rattle.mc_prog.specs.declared.program.ModuleKind.{ModuleKind}
use Rattle.mc_prog.specs.declared.program.ModuleKind.TheVariants as kind
use Rattle.mc_prog.specs.declared.program.ProcessInfo.{ProcessInfo}
use Rattle.mc_prog.specs.declared.program.Shape.TheVariants as shape
use Rattle.mc_prog.specs.declared.program.Slot.{Slot}
use Rattle.mc_prog.specs.declared.program.SlotKind.{SlotKind}
use Rattle.mc_prog.specs.declared.program.SlotKind.TheVariants as slot
use Rattle.mc_prog.specs.declared.program.TypeInfo.{TypeInfo}
use Rattle.mc_prog.specs.declared.typing.Answer.{Answer}
use Rattle.mc_prog.specs.declared.typing.Answer.TheVariants as answer
use Rattle.mc_prog.specs.declared.typing.Entity.{Entity}
use Rattle.mc_prog.specs.declared.typing.Entity.TheVariants as entity
use Rattle.mc_prog.specs.declared.typing.Meaning.{Meaning}
use Rattle.mc_prog.specs.declared.typing.Change.TheVariants as change
use Rattle.mc_prog.specs.declared.typing.Meaning.TheVariants as meaning
use Rattle.mc_prog.specs.declared.typing.Typed.{Typed}
use Rattle.mc_prog.specs.Pieces.{Around, Piece, Construct, Passing, ByValue, ByName, CodeSort, ModuleSort, PlainModule, InterfaceModule, DeviceModule}
use Rattle.mc_prog.specs.Pieces as piece
use Rattle.mc_prog.specs.declared.typing.Wanted.{Wanted}
use Rattle.mc_prog.specs.Known.{Known, basic_types, integer, is_ordered, is_scalar, holds_signal, words_of, typed_at}
use Rattle.mc_prog.specs.declared.typing.Said.{Said}
use Rattle.mc_prog.specs.Said.{at, fine, wrong, or_else}
use Rattle.mc_prog.specs.Constants.{address_fault, fixed_fault, word_of}

-- what is declared so far, but for what names stand for
pub record Declared : Type 0 where
  pub types : List TypeInfo
  pub cells : List CellInfo
  pub modules : List ModuleInfo
  -- what procedures and processes take, also that whose declarations stand here
  pub taken_by_procedures : List (List Wanted)
  pub taken_by_processes : List (List Wanted)
  pub procedures : List CodeInfo
  pub processes : List ProcessInfo
  -- of the procedure or the process whose declarations stand here: its parameters and local variables, what it takes and
  -- gives, and its vector
  pub slots : List Slot
  pub wanted : List Wanted
  pub result : Answer
  pub vector : Option ℕ
  pub vector_at : Place

abbrev pub nowhere : Place
nowhere = record { line = 0; column = 0 }

-- before anything is declared
abbrev pub undeclared : Declared
undeclared = record {
  types = basic_types;
  cells = [];
  modules = [];
  taken_by_procedures = [];
  taken_by_processes = [];
  procedures = [];
  processes = [];
  slots = [];
  wanted = [];
  result = answer.Nothing;
  vector = None;
  vector_at = nowhere;
}

abbrev pub known_by : List Naming → List (Place × Entity) → Declared → Known
known_by namings_ entities_ d = record {
  namings = namings_;
  entities = entities_;
  types = d.types;
  modules = d.modules;
  procedures = d.taken_by_procedures;
  processes = d.taken_by_processes;
}

-- types

abbrev pub type_named : Place → Meaning → Said
type_named place (meaning.Type t) = fine (meaning.Type t)
type_named place (meaning.Unknown ch) = fine (meaning.Unknown change.May)
type_named place meaning.Nothing = wrong (meaning.Unknown change.May) code.Y1 place
type_named place meaning.Faulty = wrong (meaning.Unknown change.May) code.Y1 place
type_named place meaning.NoValue = wrong (meaning.Unknown change.May) code.Y1 place
type_named place (meaning.Constant t w) = wrong (meaning.Unknown change.May) code.Y1 place
type_named place (meaning.Trap t) = wrong (meaning.Unknown change.May) code.Y1 place
type_named place (meaning.Value t) = wrong (meaning.Unknown change.May) code.Y1 place
type_named place (meaning.Text n p) = wrong (meaning.Unknown change.May) code.Y1 place
type_named place (meaning.Variable v) = wrong (meaning.Unknown change.May) code.Y1 place
type_named place (meaning.Bit c) = wrong (meaning.Unknown change.May) code.Y1 place
type_named place (meaning.Own c) = wrong (meaning.Unknown change.May) code.Y1 place
type_named place meaning.OwnBit = wrong (meaning.Unknown change.May) code.Y1 place
type_named place (meaning.Procedure c) = wrong (meaning.Unknown change.May) code.Y1 place
type_named place (meaning.Process n) = wrong (meaning.Unknown change.May) code.Y1 place
type_named place (meaning.Standard s) = wrong (meaning.Unknown change.May) code.Y1 place
type_named place (meaning.Bounds t l h) = wrong (meaning.Unknown change.May) code.Y1 place

-- the greatest number of words of a type, and of values of an enumeration
abbrev pub limit : ℕ
limit = 20000

abbrev pub ordered_words : ℕ → ℕ → ℕ → Bool
ordered_words t low high = if t == integer then not (int_lt (signed_of high) (signed_of low)) else not (nat_lt high low)

-- Bounds are constants of one type for indices, the first not greater than the second. All else is a fault of the first.
abbrev pub bounds_by : List TypeInfo → Place → Meaning → Meaning → Said
bounds_by types place (meaning.Constant t low) (meaning.Constant u high) =
    if is_ordered types t && ((u == t) && ordered_words t low high) then fine (meaning.Bounds t low high) else wrong (meaning.Unknown change.May) code.Y4 place
bounds_by types place (meaning.Constant t low) other = wrong (meaning.Unknown change.May) code.Y4 place
bounds_by types place other high = wrong (meaning.Unknown change.May) code.Y4 place

abbrev pub bounds_of : List TypeInfo → Typed → Typed → Said
bounds_of types low high = if low.fixed && high.fixed then bounds_by types low.place low.meaning high.meaning else wrong (meaning.Unknown change.May) code.Y4 low.place

-- what a written type means, its fault, and the types with those that it adds
pub record Built : Type 0 where
  pub meaning : Meaning
  pub fault : Option Fault
  pub types : List TypeInfo

-- What is left of a type where a written type with it has a fault: whether a signal was to stand there. Variables of
-- signals, and of arrays of them, stand elsewhere than in procedures, processes and records; what is never declared is a
-- record with a signal in it.
abbrev pub left_of : Bool → Meaning
left_of true = meaning.Unknown change.Elsewhere
left_of false = meaning.Unknown change.May

abbrev pub unbuilt : List TypeInfo → Meaning → Option Fault → Built
unbuilt types_ m fault_ = record { meaning = m; fault = fault_; types = types_ }

-- one more type, unless it is too large
abbrev pub built : List TypeInfo → Place → TypeInfo → Built
built types_ place info =
    if nat_lt limit info.words then unbuilt types_ (left_of info.holds_signal) (at code.Y4 place)
    else record { meaning = meaning.Type (length types_); fault = None; types = types_ ++ (info ∷ []) }

abbrev pub enumeration : List TypeInfo → Place → ℕ → Built
enumeration types_ place n =
    if nat_lt limit n then unbuilt types_ (meaning.Unknown change.May) (at code.Y4 place)
    else built types_ place (record { words = 1; shape = shape.Enumeration n; holds_signal = false })

-- how many values stand from one word to another
abbrev pub span : ℕ → ℕ → ℕ
span low high = (high + 65536 - low) % 65536 + 1

abbrev pub array_info : List TypeInfo → ℕ → ℕ → ℕ → ℕ → TypeInfo
array_info types_ t low high element = record {
  words = span low high * words_of types_ element;
  shape = shape.Array t (signed_of low) (signed_of high) element;
  holds_signal = holds_signal types_ element;
}

-- what is left of the elements of an array with a fault
abbrev pub spoiled : List TypeInfo → Meaning → Meaning
spoiled types (meaning.Type t) = left_of (holds_signal types t)
spoiled types (meaning.Unknown ch) = meaning.Unknown ch
spoiled types meaning.Nothing = meaning.Unknown change.May
spoiled types meaning.Faulty = meaning.Unknown change.May
spoiled types meaning.NoValue = meaning.Unknown change.May
spoiled types (meaning.Constant t w) = meaning.Unknown change.May
spoiled types (meaning.Trap t) = meaning.Unknown change.May
spoiled types (meaning.Value t) = meaning.Unknown change.May
spoiled types (meaning.Text n p) = meaning.Unknown change.May
spoiled types (meaning.Variable v) = meaning.Unknown change.May
spoiled types (meaning.Bit c) = meaning.Unknown change.May
spoiled types (meaning.Own c) = meaning.Unknown change.May
spoiled types meaning.OwnBit = meaning.Unknown change.May
spoiled types (meaning.Procedure c) = meaning.Unknown change.May
spoiled types (meaning.Process n) = meaning.Unknown change.May
spoiled types (meaning.Standard s) = meaning.Unknown change.May
spoiled types (meaning.Bounds t l h) = meaning.Unknown change.May

abbrev pub array_over : Place → Meaning → Built → Meaning → Built
array_over place (meaning.Bounds t low high) inner (meaning.Type element) = built inner.types place (array_info inner.types t low high element)
array_over place (meaning.Bounds t low high) inner other = unbuilt inner.types (spoiled inner.types other) inner.fault
array_over place other inner m = unbuilt inner.types (spoiled inner.types m) inner.fault

-- an array of arrays, for its ranges and the type of its elements
abbrev pub arrays : List TypeInfo → Place → List Typed → Built
arrays types_ place [] = unbuilt types_ (meaning.Unknown change.May) None
arrays types_ place (element ∷ []) = record { meaning = element.meaning; fault = None; types = types_ }
arrays types_ place (range ∷ (next ∷ more)) =
    let inner : Built = arrays types_ place (next ∷ more) in
    array_over place range.meaning inner inner.meaning

-- the type that is named or written, where it is known
abbrev pub type_in : Meaning → Option ℕ
type_in (meaning.Type t) = Some t
type_in meaning.Nothing = None
type_in meaning.Faulty = None
type_in (meaning.Unknown ch) = None
type_in meaning.NoValue = None
type_in (meaning.Constant t w) = None
type_in (meaning.Trap t) = None
type_in (meaning.Value t) = None
type_in (meaning.Text n p) = None
type_in (meaning.Variable v) = None
type_in (meaning.Bit c) = None
type_in (meaning.Own c) = None
type_in meaning.OwnBit = None
type_in (meaning.Procedure c) = None
type_in (meaning.Process n) = None
type_in (meaning.Standard s) = None
type_in (meaning.Bounds t l h) = None

-- the names of fields of one type
abbrev pub group_names : Construct → Option Ids
group_names (piece.Number w) = None
group_names (piece.Character c) = None
group_names (piece.Text t) = None
group_names (piece.Name id) = None
group_names (piece.Select id) = None
group_names piece.Index = None
group_names piece.Designated = None
group_names (piece.Calling id) = None
group_names piece.Group = None
group_names piece.Negation = None
group_names piece.Bits = None
group_names piece.Element = None
group_names (piece.Signed s) = None
group_names (piece.Sum o) = None
group_names (piece.Product o) = None
group_names (piece.Comparison r) = None
group_names piece.Assignment = None
group_names (piece.Statement id) = None
group_names piece.If = None
group_names piece.While = None
group_names piece.Repeat = None
group_names piece.Loop = None
group_names piece.When = None
group_names piece.Case = None
group_names piece.Arm = None
group_names piece.Label = None
group_names piece.Body = None
group_names (piece.TypeName id) = None
group_names (piece.Enumeration n) = None
group_names (piece.EnumerationValue id) = None
group_names piece.Range = None
group_names piece.Array = None
group_names piece.Record = None
group_names (piece.FieldGroup names) = Some names
group_names (piece.Constant id) = None
group_names (piece.TypeDeclaration id) = None
group_names (piece.Variable id) = None
group_names (piece.Parameter passing id) = None
group_names piece.ResultType = None
group_names (piece.Heading sort id) = None
group_names (piece.Ending sort id) = None
group_names (piece.Module sort id) = None
group_names piece.Running = None

abbrev pub names_by : Option Piece → Option Ids
names_by None = None
names_by (Some p) = group_names p.construct

-- whether a signal stands, or was to stand, in what a written type means
abbrev pub has_signal : List TypeInfo → Meaning → Bool
has_signal types (meaning.Type t) = holds_signal types t
has_signal types (meaning.Unknown change.May) = false
has_signal types (meaning.Unknown change.Never) = true
has_signal types (meaning.Unknown change.Elsewhere) = true
has_signal types meaning.Nothing = false
has_signal types meaning.Faulty = false
has_signal types meaning.NoValue = false
has_signal types (meaning.Constant t w) = false
has_signal types (meaning.Trap t) = false
has_signal types (meaning.Value t) = false
has_signal types (meaning.Text n p) = false
has_signal types (meaning.Variable v) = false
has_signal types (meaning.Bit c) = false
has_signal types (meaning.Own c) = false
has_signal types meaning.OwnBit = false
has_signal types (meaning.Procedure c) = false
has_signal types (meaning.Process n) = false
has_signal types (meaning.Standard s) = false
has_signal types (meaning.Bounds t l h) = false

-- the fields of a record so far, and their words
pub record Members : Type 0 where
  pub fields : List FieldInfo
  pub words : ℕ

-- one more field, of a type of so many words
abbrev pub with_field : ℕ → ℕ → Id → Members → Members
with_field t words_ id members = record {
  fields = members.fields ++ (record { name = id.text; type_of = t; offset = members.words } ∷ []);
  words = members.words + words_;
}

abbrev pub with_more : ℕ → ℕ → List (After Id) → Members → Members
with_more t words_ [] members = members
with_more t words_ (a ∷ more) members = with_more t words_ more (with_field t words_ a.item members)

abbrev pub with_fields : ℕ → ℕ → Ids → Members → Members
with_fields t words_ names members = with_more t words_ names.more (with_field t words_ names.first members)

abbrev pub with_group : List TypeInfo → Option Ids → Option ℕ → Option Members → Option Members
with_group types names t None = None
with_group types None t (Some members) = None
with_group types (Some names) None (Some members) = None
with_group types (Some names) (Some t) (Some members) =
    Some (with_fields t (words_of types t) names members)

-- the fields of a record by its groups, where all their types are known
abbrev pub members_of : List TypeInfo → List Piece → List Typed → Option Members → List ℕ → Option Members
members_of types pieces typed so_far [] = so_far
members_of types pieces typed so_far (n ∷ groups) =
    members_of types pieces typed (with_group types (names_by (slice_get pieces n)) (type_in (typed_at typed n).meaning) so_far) groups

abbrev pub record_by : List TypeInfo → Place → Option Members → Built
record_by types place None = unbuilt types (meaning.Unknown change.May) None
record_by types place (Some members) = built types place (record { words = members.words; shape = shape.Record members.fields; holds_signal = false })

-- whether one of these groups of fields has a signal
abbrev pub any_signal : List TypeInfo → List Typed → List ℕ → Bool
any_signal types typed [] = false
any_signal types typed (n ∷ groups) = has_signal types (typed_at typed n).meaning || any_signal types typed groups

-- A record with a signal is no type; the fault is that of the field.
abbrev pub record_type : List TypeInfo → Place → List Piece → List Typed → List ℕ → Built
record_type types place pieces typed groups =
    if any_signal types typed groups then unbuilt types (meaning.Unknown change.Never) None
    else record_by types place (members_of types pieces typed (Some (record { fields = []; words = 0 })) groups)

-- A field has no signal: its whole type is at fault.
abbrev pub signal_fault : List TypeInfo → Place → Meaning → Option Fault
signal_fault types place m = if has_signal types m then at code.Y1 place else None

abbrev pub field_meaning : Meaning → Meaning
field_meaning (meaning.Type t) = meaning.Type t
field_meaning (meaning.Unknown ch) = meaning.Unknown ch
field_meaning meaning.Nothing = meaning.Unknown change.May
field_meaning meaning.Faulty = meaning.Unknown change.May
field_meaning meaning.NoValue = meaning.Unknown change.May
field_meaning (meaning.Constant t w) = meaning.Unknown change.May
field_meaning (meaning.Trap t) = meaning.Unknown change.May
field_meaning (meaning.Value t) = meaning.Unknown change.May
field_meaning (meaning.Text n p) = meaning.Unknown change.May
field_meaning (meaning.Variable v) = meaning.Unknown change.May
field_meaning (meaning.Bit c) = meaning.Unknown change.May
field_meaning (meaning.Own c) = meaning.Unknown change.May
field_meaning meaning.OwnBit = meaning.Unknown change.May
field_meaning (meaning.Procedure c) = meaning.Unknown change.May
field_meaning (meaning.Process n) = meaning.Unknown change.May
field_meaning (meaning.Standard s) = meaning.Unknown change.May
field_meaning (meaning.Bounds t l h) = meaning.Unknown change.May

abbrev pub field_type : List TypeInfo → Typed → Said
field_type types t = record { meaning = field_meaning t.meaning; fault = signal_fault types t.place t.meaning }

-- declarations

-- A constant has a scalar type; a text is no constant.
abbrev pub text_fault : Place → Meaning → Option Fault
text_fault place (meaning.Text n p) = if n == 0 then None else at code.Y1 place
text_fault place meaning.Nothing = None
text_fault place meaning.Faulty = None
text_fault place (meaning.Unknown ch) = None
text_fault place meaning.NoValue = None
text_fault place (meaning.Constant t w) = None
text_fault place (meaning.Trap t) = None
text_fault place (meaning.Value t) = None
text_fault place (meaning.Variable v) = None
text_fault place (meaning.Bit c) = None
text_fault place (meaning.Own c) = None
text_fault place meaning.OwnBit = None
text_fault place (meaning.Procedure c) = None
text_fault place (meaning.Process n) = None
text_fault place (meaning.Standard s) = None
text_fault place (meaning.Type t) = None
text_fault place (meaning.Bounds t l h) = None

abbrev pub constant_fault : Typed → Option Fault
constant_fault t = or_else (fixed_fault t) (text_fault t.place t.meaning)

abbrev pub constant_entity : Meaning → Entity
constant_entity (meaning.Constant t w) = entity.Constant t w
constant_entity meaning.Nothing = entity.Faulty
constant_entity meaning.Faulty = entity.Faulty
constant_entity (meaning.Unknown ch) = entity.Faulty
constant_entity meaning.NoValue = entity.Faulty
constant_entity (meaning.Trap t) = entity.Faulty
constant_entity (meaning.Value t) = entity.Faulty
constant_entity (meaning.Text n p) = entity.Faulty
constant_entity (meaning.Variable v) = entity.Faulty
constant_entity (meaning.Bit c) = entity.Faulty
constant_entity (meaning.Own c) = entity.Faulty
constant_entity meaning.OwnBit = entity.Faulty
constant_entity (meaning.Procedure c) = entity.Faulty
constant_entity (meaning.Process n) = entity.Faulty
constant_entity (meaning.Standard s) = entity.Faulty
constant_entity (meaning.Type t) = entity.Faulty
constant_entity (meaning.Bounds t l h) = entity.Faulty

abbrev pub fixed_entity : Typed → Entity
fixed_entity t = if t.fixed then constant_entity t.meaning else entity.Faulty

abbrev pub type_entity : Meaning → Entity
type_entity (meaning.Type t) = entity.Type t
type_entity meaning.Nothing = entity.Faulty
type_entity meaning.Faulty = entity.Faulty
type_entity (meaning.Unknown ch) = entity.Faulty
type_entity meaning.NoValue = entity.Faulty
type_entity (meaning.Constant t w) = entity.Faulty
type_entity (meaning.Trap t) = entity.Faulty
type_entity (meaning.Value t) = entity.Faulty
type_entity (meaning.Text n p) = entity.Faulty
type_entity (meaning.Variable v) = entity.Faulty
type_entity (meaning.Bit c) = entity.Faulty
type_entity (meaning.Own c) = entity.Faulty
type_entity meaning.OwnBit = entity.Faulty
type_entity (meaning.Procedure c) = entity.Faulty
type_entity (meaning.Process n) = entity.Faulty
type_entity (meaning.Standard s) = entity.Faulty
type_entity (meaning.Bounds t l h) = entity.Faulty

-- A local variable has no signal: its whole type is at fault.
abbrev pub local_fault : List TypeInfo → Option Place → Typed → Option Fault
local_fault types None t = None
local_fault types (Some code_at) t = signal_fault types t.place t.meaning

-- a record with a signal, or an array of such records
abbrev pub is_never : Meaning → Bool
is_never (meaning.Unknown change.May) = false
is_never (meaning.Unknown change.Never) = true
is_never (meaning.Unknown change.Elsewhere) = false
is_never (meaning.Type t) = false
is_never meaning.Nothing = false
is_never meaning.Faulty = false
is_never meaning.NoValue = false
is_never (meaning.Constant t w) = false
is_never (meaning.Trap t) = false
is_never (meaning.Value t) = false
is_never (meaning.Text n p) = false
is_never (meaning.Variable v) = false
is_never (meaning.Bit c) = false
is_never (meaning.Own c) = false
is_never meaning.OwnBit = false
is_never (meaning.Procedure c) = false
is_never (meaning.Process n) = false
is_never (meaning.Standard s) = false
is_never (meaning.Bounds t l h) = false

-- A local type has no record with a signal: the whole of it is at fault. It may name a signal, or arrays of signals.
abbrev pub local_type_fault : Option Place → Typed → Option Fault
local_type_fault None t = None
local_type_fault (Some code_at) t = if is_never t.meaning then at code.Y1 t.place else None

-- the address of a variable, where it has one
abbrev pub addresses_fault : List Typed → Option Fault
addresses_fault [] = None
addresses_fault (type_ ∷ []) = None
addresses_fault (type_ ∷ (address ∷ more)) = address_fault address

abbrev pub address_of : List Typed → Option ℕ
address_of [] = None
address_of (type_ ∷ []) = None
address_of (type_ ∷ (address ∷ more)) = Some (word_of address.meaning)

abbrev pub is_some : Option ℕ → Bool
is_some None = false
is_some (Some n) = true

abbrev pub with_slot : Slot → Declared → Declared
with_slot s d = record d { slots = d.slots ++ (s ∷ []) }

-- a variable of a module, or a local one; none where its type is not known
abbrev pub with_variable : ℕ → Option Place → Place → Option ℕ → Option ℕ → Declared → Declared
with_variable m code_at place address None d = d
with_variable m None place address (Some t) d = record d { cells = d.cells ++ (record { at = place; type_of = t; «module» = m; register = address } ∷ []) }
with_variable m (Some code_at) place address (Some t) d = with_slot (record { at = place; type_of = t; kind = slot.Local; register = address }) d

-- what the variable is, that is declared next
abbrev pub variable_entity : ℕ → Option Place → Option ℕ → Option ℕ → Declared → Entity
variable_entity m code_at address None d = entity.Faulty
variable_entity m None address (Some t) d = entity.Cell (length d.cells) t m (is_some address)
variable_entity m (Some code_at) address (Some t) d = entity.Slot (length d.slots) t true (is_some address)

abbrev pub slot_kind : Passing → SlotKind
slot_kind ByValue = slot.Constant
slot_kind ByName = slot.Variable

abbrev pub is_by_name : Passing → Bool
is_by_name ByValue = false
is_by_name ByName = true

abbrev pub with_wanted : Passing → Place → Option ℕ → Declared → Declared
with_wanted p place t d = record d { wanted = d.wanted ++ (record { at = place; type_of = t; by_name = is_by_name p } ∷ []) }

-- a parameter is taken also where its type is not known
abbrev pub with_parameter : Passing → Place → Option ℕ → Declared → Declared
with_parameter p place None d = with_wanted p place None d
with_parameter p place (Some t) d = with_slot (record { at = place; type_of = t; kind = slot_kind p; register = None }) (with_wanted p place (Some t) d)

abbrev pub parameter_entity : Passing → Option ℕ → Declared → Entity
parameter_entity p None d = entity.Faulty
parameter_entity p (Some t) d = entity.Slot (length d.slots) t (is_by_name p) false

abbrev pub parameter_fault : List TypeInfo → Place → Option ℕ → Option Fault
parameter_fault types place None = None
parameter_fault types place (Some t) = if holds_signal types t then at code.Y6 place else None

abbrev pub result_said : List TypeInfo → Typed → Meaning → Said
result_said types typed_ (meaning.Type u) = if is_scalar types u then fine (meaning.Type u) else wrong (meaning.Unknown change.May) code.Y1 typed_.place
result_said types typed_ meaning.Nothing = fine (meaning.Unknown change.May)
result_said types typed_ meaning.Faulty = fine (meaning.Unknown change.May)
result_said types typed_ (meaning.Unknown ch) = fine (meaning.Unknown change.May)
result_said types typed_ meaning.NoValue = fine (meaning.Unknown change.May)
result_said types typed_ (meaning.Constant t w) = fine (meaning.Unknown change.May)
result_said types typed_ (meaning.Trap t) = fine (meaning.Unknown change.May)
result_said types typed_ (meaning.Value t) = fine (meaning.Unknown change.May)
result_said types typed_ (meaning.Text n p) = fine (meaning.Unknown change.May)
result_said types typed_ (meaning.Variable v) = fine (meaning.Unknown change.May)
result_said types typed_ (meaning.Bit c) = fine (meaning.Unknown change.May)
result_said types typed_ (meaning.Own c) = fine (meaning.Unknown change.May)
result_said types typed_ meaning.OwnBit = fine (meaning.Unknown change.May)
result_said types typed_ (meaning.Procedure c) = fine (meaning.Unknown change.May)
result_said types typed_ (meaning.Process n) = fine (meaning.Unknown change.May)
result_said types typed_ (meaning.Standard s) = fine (meaning.Unknown change.May)
result_said types typed_ (meaning.Bounds t l h) = fine (meaning.Unknown change.May)

abbrev pub structured_fault : List TypeInfo → Place → Option ℕ → Option Fault
structured_fault types place None = None
structured_fault types place (Some t) = if is_scalar types t then None else at code.Y6 place

-- `var` is a fault also where the type is not known.
abbrev pub process_parameter : List TypeInfo → Wanted → Option Fault
process_parameter types w = if w.by_name then at code.Y6 w.at else structured_fault types w.at w.type_of

-- a process takes scalar constants alone
abbrev pub process_fault : List TypeInfo → List Wanted → Option Fault
process_fault types [] = None
process_fault types (w ∷ wanted) = or_else (process_parameter types w) (process_fault types wanted)

-- how many words parameters take, and local variables
abbrev pub parameter_words : List TypeInfo → SlotKind → ℕ → ℕ
parameter_words types slot.Constant t = if is_scalar types t then 1 else words_of types t + 1
parameter_words types slot.Variable t = 1
parameter_words types slot.Local t = 0
parameter_words types slot.Result t = 0

abbrev pub params_of : List TypeInfo → List Slot → ℕ
params_of types [] = 0
params_of types (s ∷ slots) = parameter_words types s.kind s.type_of + params_of types slots

abbrev pub local_words : List TypeInfo → SlotKind → ℕ → ℕ
local_words types slot.Constant t = 0
local_words types slot.Variable t = 0
local_words types slot.Local t = words_of types t
local_words types slot.Result t = 0

abbrev pub locals_of : List TypeInfo → List Slot → ℕ
locals_of types [] = 0
locals_of types (s ∷ slots) = local_words types s.kind s.type_of + locals_of types slots

-- the slot of the result, behind all others
abbrev pub result_slots : Place → Answer → List Slot
result_slots place answer.Nothing = []
result_slots place (answer.Value None) = []
result_slots place (answer.Value (Some t)) = record { at = place; type_of = t; kind = slot.Result; register = None } ∷ []

-- a procedure or a process without its text
abbrev pub code_of : Declared → ℕ → Place → CodeInfo
code_of d m place = record {
  at = place;
  «module» = m;
  params = params_of d.types d.slots;
  locals = locals_of d.types d.slots;
  frame = 0;
  slots = d.slots ++ result_slots place d.result;
  body = 0;
}

abbrev pub ended : Declared → Declared
ended d = record d { slots = []; wanted = []; result = answer.Nothing; vector = None; vector_at = nowhere }

abbrev pub with_ended : CodeSort → ℕ → Place → Declared → Declared
with_ended piece.Procedure m place d = ended (record d { procedures = d.procedures ++ (code_of d m place ∷ []) })
with_ended piece.Process m place d =
    ended (record d { processes = d.processes ++ (record { code = code_of d m place; vector = None; vector_at = place } ∷ []) })
with_ended piece.Driver m place d =
    ended (record d { processes = d.processes ++ (record { code = code_of d m place; vector = d.vector; vector_at = d.vector_at } ∷ []) })

abbrev pub with_heading : CodeSort → Typed → Declared → Declared
with_heading piece.Procedure vector_ d = record d { taken_by_procedures = d.taken_by_procedures ++ (d.wanted ∷ []) }
with_heading piece.Process vector_ d = record d { taken_by_processes = d.taken_by_processes ++ (d.wanted ∷ []) }
with_heading piece.Driver vector_ d =
    record d { taken_by_processes = d.taken_by_processes ++ (d.wanted ∷ []); vector = Some (word_of vector_.meaning); vector_at = vector_.place }

abbrev pub heading_entity : CodeSort → Declared → Entity
heading_entity piece.Procedure d = entity.Procedure (record { number = length d.taken_by_procedures; result = d.result })
heading_entity piece.Process d = entity.Process (length d.taken_by_processes)
heading_entity piece.Driver d = entity.Process (length d.taken_by_processes)

abbrev pub heading_fault : List TypeInfo → List Wanted → CodeSort → Typed → Option Fault
heading_fault types wanted piece.Procedure vector_ = None
heading_fault types wanted piece.Process vector_ = process_fault types wanted
heading_fault types wanted piece.Driver vector_ = address_fault vector_

abbrev pub kind_of : ModuleSort → ModuleKind
kind_of PlainModule = kind.Plain
kind_of InterfaceModule = kind.Interface
kind_of DeviceModule = kind.Device

-- a body without its text
abbrev pub body_of : ℕ → Place → CodeInfo
body_of m place = record { at = place; «module» = m; params = 0; locals = 0; frame = 0; slots = []; body = 0 }

abbrev pub module_info : ModuleKind → ℕ → Place → ℕ → ℕ → Place → ModuleInfo
module_info kind_ priority_ priority_at_ outer_ m place = record { kind = kind_; priority = priority_; priority_at = priority_at_; outer = outer_; body = body_of m place }

abbrev pub module_by : ModuleSort → Place → ℕ → ℕ → List Typed → ModuleInfo
module_by sort place outer_ m [] = module_info (kind_of sort) 0 place outer_ m place
module_by sort place outer_ m (priority_ ∷ more) = module_info (kind_of sort) (word_of priority_.meaning) priority_.place outer_ m place

abbrev pub with_module : ModuleSort → Place → ℕ → List Typed → Declared → Declared
with_module sort place outer_ parts d = record d { modules = d.modules ++ (module_by sort place outer_ (length d.modules) parts ∷ []) }

abbrev pub priority_fault : List Typed → Option Fault
priority_fault [] = None
priority_fault (priority_ ∷ more) = address_fault priority_
