-- What each piece of a declaration says and declares, and what all of them declare.
use Rattle.std.specs.Prelude.{ℕ, ◌-◌, List, [], ◌∷◌, ◌++◌, length, map, Option, Some, None, slice_get}
use Rattle.mc_tree.specs.declared.fault.Fault.{Fault}
use Rattle.mc_tree.specs.declared.place.Place.{Place}
use Rattle.mc_prog.specs.declared.scoped.Naming.{Naming}
use Rattle.mc_prog.specs.declared.program.TypeInfo.{TypeInfo}
use Rattle.mc_prog.specs.declared.typing.Answer.TheVariants as answer
use Rattle.mc_prog.specs.declared.typing.Entity.{Entity}
use Rattle.mc_prog.specs.declared.typing.Entity.TheVariants as entity
use Rattle.mc_prog.specs.declared.typing.Meaning.{Meaning}
use Rattle.mc_prog.specs.declared.typing.Meaning.TheVariants as meaning
use Rattle.mc_prog.specs.declared.typing.Typed.{Typed}
use Rattle.mc_prog.specs.Pieces.{Around, Piece, Construct}
use Rattle.mc_prog.specs.Pieces as piece
use Rattle.mc_prog.specs.Known.{Known, module_around, name_meaning, part, typed_at}
use Rattle.mc_prog.specs.declared.typing.Said.{Said}
use Rattle.mc_prog.specs.Said.{or_else}
use Rattle.mc_prog.specs.PieceTypes.{statement, text_piece, fixed_of, is_factor, arguments_of, place_of, more_by}
use Rattle.mc_prog.specs.ExpressionTypes.{all_fixed, greater, greatest_nest, most_arguments}
use Rattle.mc_prog.specs.Declarations.{Declared, Built, undeclared, known_by, type_named, enumeration, bounds_of, arrays, record_type, field_type, constant_fault, fixed_entity, type_entity, type_in, local_fault, local_type_fault, addresses_fault, address_of, with_variable, variable_entity, with_parameter, parameter_entity, parameter_fault, result_said, with_heading, heading_entity, heading_fault, with_ended, with_module, priority_fault}

abbrev pub said_of_built : Built → Said
said_of_built b = record { meaning = b.meaning; fault = b.fault }

-- what a piece says behind what is declared so far
abbrev pub declaration_piece : Known → List Piece → List Typed → Declared → Around → Place → List ℕ → List Typed → Construct → Said
declaration_piece known pieces typed d around place numbers parts (piece.Number w) = text_piece known pieces typed around place numbers parts (piece.Number w)
declaration_piece known pieces typed d around place numbers parts (piece.Character c) = text_piece known pieces typed around place numbers parts (piece.Character c)
declaration_piece known pieces typed d around place numbers parts (piece.Text t) = text_piece known pieces typed around place numbers parts (piece.Text t)
declaration_piece known pieces typed d around place numbers parts (piece.Name id) = text_piece known pieces typed around place numbers parts (piece.Name id)
declaration_piece known pieces typed d around place numbers parts (piece.Select id) = text_piece known pieces typed around place numbers parts (piece.Select id)
declaration_piece known pieces typed d around place numbers parts piece.Index = text_piece known pieces typed around place numbers parts piece.Index
declaration_piece known pieces typed d around place numbers parts piece.Designated = text_piece known pieces typed around place numbers parts piece.Designated
declaration_piece known pieces typed d around place numbers parts (piece.Calling id) = text_piece known pieces typed around place numbers parts (piece.Calling id)
declaration_piece known pieces typed d around place numbers parts piece.Group = text_piece known pieces typed around place numbers parts piece.Group
declaration_piece known pieces typed d around place numbers parts piece.Negation = text_piece known pieces typed around place numbers parts piece.Negation
declaration_piece known pieces typed d around place numbers parts piece.Bits = text_piece known pieces typed around place numbers parts piece.Bits
declaration_piece known pieces typed d around place numbers parts piece.Element = text_piece known pieces typed around place numbers parts piece.Element
declaration_piece known pieces typed d around place numbers parts (piece.Signed s) = text_piece known pieces typed around place numbers parts (piece.Signed s)
declaration_piece known pieces typed d around place numbers parts (piece.Sum o) = text_piece known pieces typed around place numbers parts (piece.Sum o)
declaration_piece known pieces typed d around place numbers parts (piece.Product o) = text_piece known pieces typed around place numbers parts (piece.Product o)
declaration_piece known pieces typed d around place numbers parts (piece.Comparison r) = text_piece known pieces typed around place numbers parts (piece.Comparison r)
declaration_piece known pieces typed d around place numbers parts piece.Assignment = text_piece known pieces typed around place numbers parts piece.Assignment
declaration_piece known pieces typed d around place numbers parts (piece.Statement id) = text_piece known pieces typed around place numbers parts (piece.Statement id)
declaration_piece known pieces typed d around place numbers parts piece.If = text_piece known pieces typed around place numbers parts piece.If
declaration_piece known pieces typed d around place numbers parts piece.While = text_piece known pieces typed around place numbers parts piece.While
declaration_piece known pieces typed d around place numbers parts piece.Repeat = text_piece known pieces typed around place numbers parts piece.Repeat
declaration_piece known pieces typed d around place numbers parts piece.Loop = text_piece known pieces typed around place numbers parts piece.Loop
declaration_piece known pieces typed d around place numbers parts piece.When = text_piece known pieces typed around place numbers parts piece.When
declaration_piece known pieces typed d around place numbers parts piece.Case = text_piece known pieces typed around place numbers parts piece.Case
declaration_piece known pieces typed d around place numbers parts piece.Arm = text_piece known pieces typed around place numbers parts piece.Arm
declaration_piece known pieces typed d around place numbers parts piece.Label = text_piece known pieces typed around place numbers parts piece.Label
declaration_piece known pieces typed d around place numbers parts piece.Body = text_piece known pieces typed around place numbers parts piece.Body
declaration_piece known pieces typed d around place numbers parts (piece.TypeName id) = type_named id.place (name_meaning known around id)
declaration_piece known pieces typed d around place numbers parts (piece.Enumeration n) = said_of_built (enumeration d.types place n)
declaration_piece known pieces typed d around place numbers parts (piece.EnumerationValue id) = statement None
declaration_piece known pieces typed d around place numbers parts piece.Range = bounds_of d.types (part typed numbers 0) (part typed numbers 1)
declaration_piece known pieces typed d around place numbers parts piece.Array = said_of_built (arrays d.types place parts)
declaration_piece known pieces typed d around place numbers parts piece.Record = said_of_built (record_type d.types place pieces typed numbers)
declaration_piece known pieces typed d around place numbers parts (piece.FieldGroup names) = field_type d.types (part typed numbers 0)
declaration_piece known pieces typed d around place numbers parts (piece.Constant id) = statement (constant_fault (part typed numbers 0))
declaration_piece known pieces typed d around place numbers parts (piece.TypeDeclaration id) = statement (local_type_fault around.code_at (part typed numbers 0))
declaration_piece known pieces typed d around place numbers parts (piece.Variable id) = statement (or_else (addresses_fault parts) (local_fault d.types around.code_at (part typed numbers 0)))
declaration_piece known pieces typed d around place numbers parts (piece.Parameter passing id) = statement (parameter_fault d.types id.place (type_in (part typed numbers 0).meaning))
declaration_piece known pieces typed d around place numbers parts piece.ResultType = result_said d.types (part typed numbers 0) (part typed numbers 0).meaning
declaration_piece known pieces typed d around place numbers parts (piece.Heading sort id) = statement (heading_fault d.types d.wanted sort (part typed numbers 0))
declaration_piece known pieces typed d around place numbers parts (piece.Ending sort id) = statement None
declaration_piece known pieces typed d around place numbers parts (piece.Module sort id) = statement (priority_fault parts)
declaration_piece known pieces typed d around place numbers parts piece.Running = text_piece known pieces typed around place numbers parts piece.Running

-- The values of an enumeration stand behind it and count from 0.
abbrev pub ordinal : ℕ → Option ℕ → ℕ
ordinal number None = 0
ordinal number (Some enumeration_) = number - enumeration_ - 1

abbrev pub value_of : ℕ → Meaning → Entity
value_of n (meaning.Type t) = entity.Constant t n
value_of n meaning.Nothing = entity.Faulty
value_of n meaning.Faulty = entity.Faulty
value_of n (meaning.Unknown ch) = entity.Faulty
value_of n meaning.NoValue = entity.Faulty
value_of n (meaning.Constant t w) = entity.Faulty
value_of n (meaning.Trap t) = entity.Faulty
value_of n (meaning.Value t) = entity.Faulty
value_of n (meaning.Text m p) = entity.Faulty
value_of n (meaning.Variable v) = entity.Faulty
value_of n (meaning.Bit c) = entity.Faulty
value_of n (meaning.Own c) = entity.Faulty
value_of n meaning.OwnBit = entity.Faulty
value_of n (meaning.Procedure c) = entity.Faulty
value_of n (meaning.Process m) = entity.Faulty
value_of n (meaning.Standard s) = entity.Faulty
value_of n (meaning.Bounds t l h) = entity.Faulty

abbrev pub value_entity : ℕ → List ℕ → Meaning → Entity
value_entity number numbers m = value_of (ordinal number (slice_get numbers 0)) m

-- the type of a result, where it is known and allowed
abbrev pub scalar_in : List TypeInfo → Typed → Option ℕ
scalar_in types t = type_in (result_said types t t.meaning).meaning

-- what a name stands for that a piece declares, with its place; `m` is the module around
abbrev pub declared_entity : ℕ → List Typed → Around → List ℕ → List Typed → Construct → Declared → Option (Place × Entity)
declared_entity m typed around numbers parts (piece.Number w) d = None
declared_entity m typed around numbers parts (piece.Character c) d = None
declared_entity m typed around numbers parts (piece.Text t) d = None
declared_entity m typed around numbers parts (piece.Name id) d = None
declared_entity m typed around numbers parts (piece.Select id) d = None
declared_entity m typed around numbers parts piece.Index d = None
declared_entity m typed around numbers parts piece.Designated d = None
declared_entity m typed around numbers parts (piece.Calling id) d = None
declared_entity m typed around numbers parts piece.Group d = None
declared_entity m typed around numbers parts piece.Negation d = None
declared_entity m typed around numbers parts piece.Bits d = None
declared_entity m typed around numbers parts piece.Element d = None
declared_entity m typed around numbers parts (piece.Signed s) d = None
declared_entity m typed around numbers parts (piece.Sum o) d = None
declared_entity m typed around numbers parts (piece.Product o) d = None
declared_entity m typed around numbers parts (piece.Comparison r) d = None
declared_entity m typed around numbers parts piece.Assignment d = None
declared_entity m typed around numbers parts (piece.Statement id) d = None
declared_entity m typed around numbers parts piece.If d = None
declared_entity m typed around numbers parts piece.While d = None
declared_entity m typed around numbers parts piece.Repeat d = None
declared_entity m typed around numbers parts piece.Loop d = None
declared_entity m typed around numbers parts piece.When d = None
declared_entity m typed around numbers parts piece.Case d = None
declared_entity m typed around numbers parts piece.Arm d = None
declared_entity m typed around numbers parts piece.Label d = None
declared_entity m typed around numbers parts piece.Body d = None
declared_entity m typed around numbers parts (piece.TypeName id) d = None
declared_entity m typed around numbers parts (piece.Enumeration n) d = None
declared_entity m typed around numbers parts (piece.EnumerationValue id) d = Some (id.place, value_entity (length typed) numbers (part typed numbers 0).meaning)
declared_entity m typed around numbers parts piece.Range d = None
declared_entity m typed around numbers parts piece.Array d = None
declared_entity m typed around numbers parts piece.Record d = None
declared_entity m typed around numbers parts (piece.FieldGroup names) d = None
declared_entity m typed around numbers parts (piece.Constant id) d = Some (id.place, fixed_entity (part typed numbers 0))
declared_entity m typed around numbers parts (piece.TypeDeclaration id) d = Some (id.place, type_entity (part typed numbers 0).meaning)
declared_entity m typed around numbers parts (piece.Variable id) d = Some (id.place, variable_entity m around.code_at (address_of parts) (type_in (part typed numbers 0).meaning) d)
declared_entity m typed around numbers parts (piece.Parameter passing id) d = Some (id.place, parameter_entity passing (type_in (part typed numbers 0).meaning) d)
declared_entity m typed around numbers parts piece.ResultType d = None
declared_entity m typed around numbers parts (piece.Heading sort id) d = Some (id.place, heading_entity sort d)
declared_entity m typed around numbers parts (piece.Ending sort id) d = None
declared_entity m typed around numbers parts (piece.Module sort id) d = Some (id.place, entity.Module (length d.modules))
declared_entity m typed around numbers parts piece.Running d = None

abbrev pub with_entity : Option (Place × Entity) → List (Place × Entity) → List (Place × Entity)
with_entity None entities = entities
with_entity (Some e) entities = e ∷ entities

-- what a piece declares besides
abbrev pub with_declaration : ℕ → List Piece → List Typed → Around → Place → List ℕ → List Typed → Construct → Declared → Declared
with_declaration m pieces typed around place numbers parts (piece.Number w) d = d
with_declaration m pieces typed around place numbers parts (piece.Character c) d = d
with_declaration m pieces typed around place numbers parts (piece.Text t) d = d
with_declaration m pieces typed around place numbers parts (piece.Name id) d = d
with_declaration m pieces typed around place numbers parts (piece.Select id) d = d
with_declaration m pieces typed around place numbers parts piece.Index d = d
with_declaration m pieces typed around place numbers parts piece.Designated d = d
with_declaration m pieces typed around place numbers parts (piece.Calling id) d = d
with_declaration m pieces typed around place numbers parts piece.Group d = d
with_declaration m pieces typed around place numbers parts piece.Negation d = d
with_declaration m pieces typed around place numbers parts piece.Bits d = d
with_declaration m pieces typed around place numbers parts piece.Element d = d
with_declaration m pieces typed around place numbers parts (piece.Signed s) d = d
with_declaration m pieces typed around place numbers parts (piece.Sum o) d = d
with_declaration m pieces typed around place numbers parts (piece.Product o) d = d
with_declaration m pieces typed around place numbers parts (piece.Comparison r) d = d
with_declaration m pieces typed around place numbers parts piece.Assignment d = d
with_declaration m pieces typed around place numbers parts (piece.Statement id) d = d
with_declaration m pieces typed around place numbers parts piece.If d = d
with_declaration m pieces typed around place numbers parts piece.While d = d
with_declaration m pieces typed around place numbers parts piece.Repeat d = d
with_declaration m pieces typed around place numbers parts piece.Loop d = d
with_declaration m pieces typed around place numbers parts piece.When d = d
with_declaration m pieces typed around place numbers parts piece.Case d = d
with_declaration m pieces typed around place numbers parts piece.Arm d = d
with_declaration m pieces typed around place numbers parts piece.Label d = d
with_declaration m pieces typed around place numbers parts piece.Body d = d
with_declaration m pieces typed around place numbers parts (piece.TypeName id) d = d
with_declaration m pieces typed around place numbers parts (piece.Enumeration n) d = record d { types = (enumeration d.types place n).types }
with_declaration m pieces typed around place numbers parts (piece.EnumerationValue id) d = d
with_declaration m pieces typed around place numbers parts piece.Range d = d
with_declaration m pieces typed around place numbers parts piece.Array d = record d { types = (arrays d.types place parts).types }
with_declaration m pieces typed around place numbers parts piece.Record d = record d { types = (record_type d.types place pieces typed numbers).types }
with_declaration m pieces typed around place numbers parts (piece.FieldGroup names) d = d
with_declaration m pieces typed around place numbers parts (piece.Constant id) d = d
with_declaration m pieces typed around place numbers parts (piece.TypeDeclaration id) d = d
with_declaration m pieces typed around place numbers parts (piece.Variable id) d = with_variable m around.code_at id.place (address_of parts) (type_in (part typed numbers 0).meaning) d
with_declaration m pieces typed around place numbers parts (piece.Parameter passing id) d = with_parameter passing id.place (type_in (part typed numbers 0).meaning) d
with_declaration m pieces typed around place numbers parts piece.ResultType d = record d { result = answer.Value (scalar_in d.types (part typed numbers 0)) }
with_declaration m pieces typed around place numbers parts (piece.Heading sort id) d = with_heading sort (part typed numbers 0) d
with_declaration m pieces typed around place numbers parts (piece.Ending sort id) d = with_ended sort m id.place d
with_declaration m pieces typed around place numbers parts (piece.Module sort id) d = with_module sort id.place m parts d
with_declaration m pieces typed around place numbers parts piece.Running d = d

-- what is known of a piece, by what is known of its parts and what is said of it
abbrev pub typed_by : Known → List Typed → Place → Around → Construct → ℕ → Said → Typed
typed_by known parts_ place_ around construct node_ said = record {
  place = place_;
  meaning = said.meaning;
  fixed = fixed_of known around (all_fixed parts_) construct;
  nest = more_by (is_factor construct) (greatest_nest parts_);
  arguments = greater (arguments_of (length parts_) construct) (most_arguments parts_);
  node = node_;
}

-- the parts of a piece
abbrev pub parts_of_piece : List Typed → Piece → List Typed
parts_of_piece typed p = map (typed_at typed) p.parts

-- where a piece stands: at its own first token, or at that of its first part
abbrev pub place_of_piece : List Typed → Piece → Place
place_of_piece typed p = place_of p.front (part typed p.parts 0)

-- what is declared, what is known of each piece, and what names stand for, the latest first
pub record Scope : Type 0 where
  pub declared : Declared
  pub typed : List Typed
  pub entities : List (Place × Entity)

abbrev pub nothing_declared : Scope
nothing_declared = record { declared = undeclared; typed = []; entities = [] }

abbrev pub known_of : List Naming → Scope → Known
known_of namings s = known_by namings s.entities s.declared

-- what a piece of the declarations says, where it stands at a place and has these parts
abbrev pub declaration_said : List Naming → List Piece → Scope → Around → Place → List ℕ → Construct → Said
declaration_said namings pieces s around place numbers construct =
    declaration_piece (known_of namings s) pieces s.typed s.declared around place numbers (map (typed_at s.typed) numbers) construct

-- what is declared, known and named behind it
abbrev pub scope_with : List Naming → List Piece → Scope → Around → Place → List ℕ → Construct → Scope
scope_with namings pieces s around place numbers construct =
    let m : ℕ = module_around (known_of namings s) around in
    let parts_ : List Typed = map (typed_at s.typed) numbers in
    record {
      declared = with_declaration m pieces s.typed around place numbers parts_ construct s.declared;
      typed = s.typed ++ (typed_by (known_of namings s) parts_ place around construct 0 (declaration_said namings pieces s around place numbers construct) ∷ []);
      entities = with_entity (declared_entity m s.typed around numbers parts_ construct s.declared) s.entities;
    }

-- the next piece of the declarations: its fault, and what stands behind it
abbrev pub declaration_fault : List Naming → List Piece → Scope → Piece → Option Fault
declaration_fault namings pieces s p = (declaration_said namings pieces s p.around (place_of_piece s.typed p) p.parts p.construct).fault

abbrev pub scope_behind : List Naming → List Piece → Scope → Piece → Scope
scope_behind namings pieces s p = scope_with namings pieces s p.around (place_of_piece s.typed p) p.parts p.construct
