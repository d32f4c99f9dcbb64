-- One more piece of the declarations.
use Rattle.std.specs.Prelude.{◌≡◌, ℕ, List, [], ◌∷◌, ◌++◌, map, Option, None}
use Rattle.std.proofs.Common.{ap, sym, ◌∙◌, subst}
use Rattle.mc_tree.specs.declared.place.Place.{Place}
use Rattle.mc_prog.specs.declared.scoped.Naming.{Naming}
use Rattle.mc_prog.specs.declared.typing.Entity.{Entity as EntityOf}
use Rattle.mc_prog.specs.declared.typing.Said.{Said}
use Rattle.mc_prog.specs.declared.typing.Typed.{Typed}
use Rattle.mc_prog.specs.declared.typing.Meaning.TheVariants as meaning
use Rattle.mc_prog.specs.Pieces.{Around, Construct, Piece}
use Rattle.mc_prog.specs.Known.{Known, module_around, typed_at}
use Rattle.mc_prog.specs.Declarations.{Declared}
use Rattle.mc_prog.specs.DeclarationTypes.{Scope, declaration_piece, declaration_said, declared_entity, known_of, scope_with, typed_by, with_declaration, with_entity}
use Rattle.mc_types.specs.NameTables.{AreEntities}
use Rattle.mc_types.specs.Knows.{Knows}
use Rattle.mc_types.specs.Stands.{Stands}
use Rattle.mc_types.specs.declared.names.Uses.{Uses}
use Rattle.mc_types.specs.declared.names.Entities.{Entities}

-- what is kept is what is known
pub knows : (namings : List Naming) (s : Scope) (uses : Uses) (entities : Entities) (declared : Declared) (typed : List Typed)
    → Stands namings s uses entities declared typed → Knows (known_of namings s) uses entities declared
knows namings s uses entities declared typed st = record {
  uses = st.uses;
  entities = st.entities;
  types = ap (λ (d : Declared). d.types) (sym st.declared);
  modules = ap (λ (d : Declared). d.modules) (sym st.declared);
  procedures = ap (λ (d : Declared). d.taken_by_procedures) (sym st.declared);
  processes = ap (λ (d : Declared). d.taken_by_processes) (sym st.declared);
}

pub next-stands : (namings : List Naming) (pieces : List Piece) (s : Scope) (uses : Uses) (old_entities new_entities : Entities) (old_declared new_declared : Declared) (old_typed new_typed : List Typed)
    → Stands namings s uses old_entities old_declared old_typed
    → (around : Around) (place : Place) (numbers : List ℕ) (construct : Construct) (parts : List Typed) (within : ℕ) (said : Said) (fixed : Typed)
    → parts ≡ map (typed_at old_typed) numbers
    → within ≡ module_around (known_of namings s) around
    → fixed ≡ typed_by (known_of namings s) parts place around construct 0 (record { meaning = meaning.Nothing; fault = None })
    → said ≡ declaration_piece (known_of namings s) pieces old_typed old_declared around place numbers parts construct
    → ((list : List (Place × EntityOf)) → AreEntities list old_entities.entities → AreEntities (with_entity (declared_entity within old_typed around numbers parts construct old_declared) list) new_entities.entities)
    → new_declared ≡ with_declaration within pieces old_typed around place numbers parts construct old_declared
    → new_typed ≡ old_typed ++ (record fixed { meaning = said.meaning } ∷ [])
    → Stands namings (scope_with namings pieces s around place numbers construct) uses new_entities new_declared new_typed
next-stands namings pieces s uses old_entities new_entities old_declared new_declared old_typed new_typed st around place numbers construct parts within said fixed parts_are within_is fixed_is said_is e d t =
    let k : Known = known_of namings s in
    let of : List Typed = map (typed_at s.typed) numbers in
    let parts_of : parts ≡ of = parts_are ∙ ap (λ (ts : List Typed). map (typed_at ts) numbers) st.typed in
    let said_of : said ≡ declaration_piece k pieces s.typed s.declared around place numbers of construct =
    said_is ∙ ap (λ (ts : List Typed). declaration_piece k pieces ts old_declared around place numbers parts construct) st.typed
    ∙ ap (λ (x : Declared). declaration_piece k pieces s.typed x around place numbers parts construct) st.declared
    ∙ ap (λ (ps : List Typed). declaration_piece k pieces s.typed s.declared around place numbers ps construct) parts_of in
    let entities_of : AreEntities (with_entity (declared_entity within old_typed around numbers parts construct old_declared) s.entities) new_entities.entities = e s.entities st.entities in
    record {
      uses = st.uses;
      entities = subst (λ (x : Option (Place × EntityOf)). AreEntities (with_entity x s.entities) new_entities.entities)
          (ap (λ (m : ℕ). declared_entity m old_typed around numbers parts construct old_declared) within_is
          ∙ ap (λ (ts : List Typed). declared_entity (module_around k around) ts around numbers parts construct old_declared) st.typed
          ∙ ap (λ (ps : List Typed). declared_entity (module_around k around) s.typed around numbers ps construct old_declared) parts_of
          ∙ ap (λ (x : Declared). declared_entity (module_around k around) s.typed around numbers of construct x) st.declared) entities_of;
      declared = d ∙ ap (λ (m : ℕ). with_declaration m pieces old_typed around place numbers parts construct old_declared) within_is
          ∙ ap (λ (ts : List Typed). with_declaration (module_around k around) pieces ts around place numbers parts construct old_declared) st.typed
          ∙ ap (λ (ps : List Typed). with_declaration (module_around k around) pieces s.typed around place numbers ps construct old_declared) parts_of
          ∙ ap (λ (x : Declared). with_declaration (module_around k around) pieces s.typed around place numbers of construct x) st.declared;
      typed = t ∙ ap (λ (ts : List Typed). ts ++ (record fixed { meaning = said.meaning } ∷ [])) st.typed
          ∙ ap (λ (x : Typed). s.typed ++ (x ∷ []))
          (ap (λ (x : Typed). record x { meaning = said.meaning }) fixed_is
          ∙ ap (λ (ps : List Typed). typed_by k ps place around construct 0 said) parts_of
          ∙ ap (λ (x : Said). typed_by k of place around construct 0 x) said_of);
    }

pub next-fault : (namings : List Naming) (pieces : List Piece) (s : Scope) (uses : Uses) (old_entities : Entities) (old_declared : Declared) (old_typed : List Typed)
    → Stands namings s uses old_entities old_declared old_typed
    → (around : Around) (place : Place) (numbers : List ℕ) (construct : Construct) (parts : List Typed) (said : Said)
    → parts ≡ map (typed_at old_typed) numbers
    → said ≡ declaration_piece (known_of namings s) pieces old_typed old_declared around place numbers parts construct
    → said.fault ≡ (declaration_said namings pieces s around place numbers construct).fault
next-fault namings pieces s uses old_entities old_declared old_typed st around place numbers construct parts said parts_are said_is =
    let k : Known = known_of namings s in
    ap (λ (x : Said). x.fault)
    (said_is ∙ ap (λ (ts : List Typed). declaration_piece k pieces ts old_declared around place numbers parts construct) st.typed
    ∙ ap (λ (x : Declared). declaration_piece k pieces s.typed x around place numbers parts construct) st.declared
    ∙ ap (λ (ps : List Typed). declaration_piece k pieces s.typed s.declared around place numbers ps construct)
    (parts_are ∙ ap (λ (ts : List Typed). map (typed_at ts) numbers) st.typed))
