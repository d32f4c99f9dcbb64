-- What is known where a piece stands: what names stand for, types, and what procedures and processes take.
use Rattle.std.specs.Prelude.{ℕ, zero, suc, ◌==◌, List, [], ◌∷◌, length, Option, Some, None, Bool, true, false, ◌&&◌, ◌||◌, not, if◌then◌else◌, bytes_eq, codes, slice_get}
use Rattle.mc_tree.specs.declared.place.Place.{Place}
use Rattle.mc_tree.specs.declared.tree.Id.{Id}
use Rattle.mc_prog.specs.declared.scoped.Naming.{Naming}
use Rattle.mc_prog.specs.declared.program.ModuleInfo.{ModuleInfo}
use Rattle.mc_prog.specs.declared.program.TypeInfo.{TypeInfo}
use Rattle.mc_prog.specs.declared.program.Shape.{Shape}
use Rattle.mc_prog.specs.declared.program.Shape.TheVariants as shape
use Rattle.mc_prog.specs.declared.program.Standard.TheVariants as standard
use Rattle.mc_prog.specs.declared.typing.Answer.{Answer}
use Rattle.mc_prog.specs.declared.typing.Answer.TheVariants as answer
use Rattle.mc_prog.specs.declared.typing.Callable.{Callable}
use Rattle.mc_prog.specs.declared.typing.Change.{Change}
use Rattle.mc_prog.specs.declared.typing.Change.TheVariants as change
use Rattle.mc_prog.specs.declared.typing.Entity.{Entity}
use Rattle.mc_prog.specs.declared.typing.Entity.TheVariants as entity
use Rattle.mc_prog.specs.declared.typing.Meaning.{Meaning}
use Rattle.mc_prog.specs.declared.typing.Meaning.TheVariants as meaning
use Rattle.mc_prog.specs.declared.typing.Typed.{Typed}
use Rattle.mc_prog.specs.declared.typing.Wanted.{Wanted}
use Rattle.mc_prog.specs.Pieces.{Around}

-- the types that every source knows, by their numbers
abbrev pub integer : ℕ
integer = 0

abbrev pub boolean : ℕ
boolean = 1

abbrev pub char : ℕ
char = 2

abbrev pub bits : ℕ
bits = 3

abbrev pub signal : ℕ
signal = 4

abbrev pub basic : Shape → Bool → TypeInfo
basic shape_ holds = record { words = 1; shape = shape_; holds_signal = holds }

abbrev pub basic_types : List TypeInfo
basic_types = basic shape.Integer false ∷ basic shape.Boolean false ∷ basic shape.Char false ∷ basic shape.Bits false ∷ basic shape.Signal true ∷ []

pub record Known : Type 0 where
  -- the uses of names, the last first
  pub namings : List Naming
  -- what is declared, the latest first
  pub entities : List (Place × Entity)
  pub types : List TypeInfo
  pub modules : List ModuleInfo
  -- what procedures and processes take, by their numbers
  pub procedures : List (List Wanted)
  pub processes : List (List Wanted)

abbrev pub same_place : Place → Place → Bool
same_place p q = (p.line == q.line) && (p.column == q.column)

-- where the name that is used at a place is declared
abbrev pub declaration_in : List Naming → Place → Place
declaration_in [] at_place = record { line = 0; column = 0 }
declaration_in (n ∷ namings) at_place = if same_place n.at at_place then n.declared else declaration_in namings at_place

-- What is declared at a place. What is declared further behind has no meaning yet: no type, and no value.
abbrev pub entity_in : List (Place × Entity) → Place → Entity
entity_in [] place = entity.Ahead
entity_in (e ∷ entities) place = if same_place e.0 place then e.1 else entity_in entities place

abbrev pub is_nowhere : Place → Bool
is_nowhere p = (p.line == 0) && (p.column == 0)

-- what a standard name means
abbrev pub standard_meaning : List ℕ → Meaning
standard_meaning name =
    if bytes_eq name (codes "integer") then meaning.Type integer
    else (if bytes_eq name (codes "Boolean") then meaning.Type boolean
    else (if bytes_eq name (codes "char") then meaning.Type char
    else (if bytes_eq name (codes "bits") then meaning.Type bits
    else (if bytes_eq name (codes "signal") then meaning.Type signal
    else (if bytes_eq name (codes "true") then meaning.Constant boolean 1
    else (if bytes_eq name (codes "false") then meaning.Constant boolean 0
    else (if bytes_eq name (codes "wait") then meaning.Standard standard.Wait
    else (if bytes_eq name (codes "send") then meaning.Standard standard.Send
    else (if bytes_eq name (codes "awaited") then meaning.Standard standard.Awaited
    else meaning.Standard standard.Doio)))))))))

abbrev pub outer_by : Option ModuleInfo → ℕ
outer_by None = 0
outer_by (Some info) = info.outer

abbrev pub outer_of : List ModuleInfo → ℕ → ℕ
outer_of modules m = outer_by (slice_get modules m)

-- Whether a module is another one or stands in it, by so many steps outward. The program is module 0.
abbrev pub stands_in : List ModuleInfo → ℕ → ℕ → ℕ → Bool
stands_in modules zero inner outer = false
stands_in modules (suc steps) inner outer =
    if inner == outer then true else (if inner == 0 then false else stands_in modules steps (outer_of modules inner) outer)

abbrev pub module_number : Entity → ℕ
module_number (entity.Module m) = m
module_number entity.Ahead = 0
module_number entity.Faulty = 0
module_number (entity.Constant t w) = 0
module_number (entity.Type t) = 0
module_number (entity.Cell n t m r) = 0
module_number (entity.Slot n t c r) = 0
module_number (entity.Procedure c) = 0
module_number (entity.Process n) = 0

-- the number of the module around
abbrev pub module_around : Known → Around → ℕ
module_around known around = module_number (entity_in known.entities around.module_at)

-- A variable may be changed in its own module and in those within it.
abbrev pub change_of : Known → Around → ℕ → Change
change_of known around m = if stands_in known.modules (length known.modules) (module_around known around) m then change.May else change.Elsewhere

abbrev pub is_code : Option Place → Place → Bool
is_code None place = false
is_code (Some code) place = same_place code place

-- the name of a function in its own text
abbrev pub own_or : Bool → Callable → Answer → Meaning
own_or own c answer.Nothing = meaning.Procedure c
own_or own c (answer.Value t) = if own then meaning.Own c else meaning.Procedure c

abbrev pub meaning_of : Known → Around → Place → Entity → Meaning
meaning_of known around declared entity.Ahead = meaning.NoValue
meaning_of known around declared entity.Faulty = (meaning.Unknown change.May)
meaning_of known around declared (entity.Constant t w) = meaning.Constant t w
meaning_of known around declared (entity.Type t) = meaning.Type t
meaning_of known around declared (entity.Cell n t m r) = meaning.Variable (record { type_of = t; change = change_of known around m; register = r })
meaning_of known around declared (entity.Slot n t c r) = meaning.Variable (record { type_of = t; change = if c then change.May else change.Never; register = r })
meaning_of known around declared (entity.Procedure c) = own_or (is_code around.code_at declared) c c.result
meaning_of known around declared (entity.Process n) = meaning.Process n
meaning_of known around declared (entity.Module m) = meaning.NoValue

-- what a name means where it stands
abbrev pub name_meaning : Known → Around → Id → Meaning
name_meaning known around id =
    let declared : Place = declaration_in known.namings id.place in
    if is_nowhere declared then standard_meaning id.text else meaning_of known around declared (entity_in known.entities declared)

-- the parts of a piece
abbrev pub blank : Typed
blank = record { place = record { line = 0; column = 0 }; meaning = meaning.Nothing; fixed = true; nest = 0; arguments = 0; node = 0 }

abbrev pub or_blank : Option Typed → Typed
or_blank None = blank
or_blank (Some t) = t

abbrev pub typed_at : List Typed → ℕ → Typed
typed_at typed n = or_blank (slice_get typed n)

abbrev pub typed_part : List Typed → Option ℕ → Typed
typed_part typed None = blank
typed_part typed (Some n) = typed_at typed n

-- the part at a position, from 0
abbrev pub part : List Typed → List ℕ → ℕ → Typed
part typed parts i = typed_part typed (slice_get parts i)

-- types

abbrev pub shape_by : Option TypeInfo → Option Shape
shape_by None = None
shape_by (Some t) = Some t.shape

abbrev pub shape_of : List TypeInfo → ℕ → Option Shape
shape_of types t = shape_by (slice_get types t)

abbrev pub words_by : Option TypeInfo → ℕ
words_by None = 0
words_by (Some t) = t.words

abbrev pub words_of : List TypeInfo → ℕ → ℕ
words_of types t = words_by (slice_get types t)

abbrev pub holds_by : Option TypeInfo → Bool
holds_by None = false
holds_by (Some t) = t.holds_signal

-- whether it is a signal or an array that holds signals
abbrev pub holds_signal : List TypeInfo → ℕ → Bool
holds_signal types t = holds_by (slice_get types t)

-- integer, Boolean, char, bits and enumerations
abbrev pub is_scalar_shape : Option Shape → Bool
is_scalar_shape None = false
is_scalar_shape (Some shape.Integer) = true
is_scalar_shape (Some shape.Boolean) = true
is_scalar_shape (Some shape.Char) = true
is_scalar_shape (Some shape.Bits) = true
is_scalar_shape (Some shape.Signal) = false
is_scalar_shape (Some (shape.Enumeration n)) = true
is_scalar_shape (Some (shape.Array index low high element)) = false
is_scalar_shape (Some (shape.Record fields)) = false

abbrev pub is_scalar : List TypeInfo → ℕ → Bool
is_scalar types t = is_scalar_shape (shape_of types t)

-- the types of indices, of choices and of what is ordered
abbrev pub is_ordered : List TypeInfo → ℕ → Bool
is_ordered types t = is_scalar types t && not (t == bits)

abbrev pub is_logical : ℕ → Bool
is_logical t = (t == boolean) || (t == bits)

-- an array of so many characters
abbrev pub is_text_shape : Option Shape → Bool
is_text_shape None = false
is_text_shape (Some shape.Integer) = false
is_text_shape (Some shape.Boolean) = false
is_text_shape (Some shape.Char) = false
is_text_shape (Some shape.Bits) = false
is_text_shape (Some shape.Signal) = false
is_text_shape (Some (shape.Enumeration n)) = false
is_text_shape (Some (shape.Array index low high element)) = element == char
is_text_shape (Some (shape.Record fields)) = false

-- whether texts are values of the type, where their length is that of the type
abbrev pub is_text_type : List TypeInfo → ℕ → Bool
is_text_type types t = is_text_shape (shape_of types t)
