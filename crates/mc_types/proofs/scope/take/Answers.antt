use Rattle.std.proofs.Common.{List, Option, None, ap, ◌∙◌, subst, map}
use Rattle.mc_tree.specs.declared.place.Place.{Place}
use Rattle.mc_prog.specs.declared.typing.Entity.{Entity as EntityOf}
use Rattle.mc_prog.specs.declared.typing.Typed.{Typed}
use Rattle.mc_prog.specs.Known.{Known, typed_at}
use Rattle.mc_prog.specs.DeclarationTypes.{known_of, declaration_piece, declared_entity, typed_by, with_declaration, with_entity}
use Rattle.mc_prog.specs.declared.typing.Meaning.TheVariants as meaning
use Rattle.mc_pieces.specs.Constructs.{around_of, construct_of}
use Rattle.mc_types.specs.IsKnown.{IsKnown}
use Rattle.mc_types.specs.Knows.{Knows}
use Rattle.mc_types.specs.NameTables.{AreEntities}
use Rattle.mc_types.proofs.ScopeLaws.{knows, next-stands, next-fault}
use Rattle.mc_types.proofs.scope.take.Goals as goal

-- src/scope.rt: what is declared behind the piece
pub returns-clause-stands : goal.returns-clause-stands
returns-clause-stands c = λ namings s st.
    let a = c.args in
    let k : Known = known_of namings s in
    let around = around_of a.around in
    let construct = construct_of a.construct in
    let known : Knows k a.uses.now a.entities.now a.declared.now = knows namings s a.uses.now a.entities.now a.declared.now a.typed.now.items st in
    let is : IsKnown k c.known-before.result = c.known-before.ensures k known in
    next-stands namings a.pieces.now s a.uses.now a.entities.now c.put_next.new.self a.declared.now c.declare.new.declared a.typed.now.items c.push.new.self.items st
    around a.place a.numbers.now construct c.in_ok-parts.parts.items c.module_around-within.result c.in_ok-said.said c.in_ok-fixed.fixed
    (c.in_ok-parts.ensures ∙ ap (λ (ts : List Typed). map (typed_at ts) a.numbers.now) c.as_slice.ensures.value)
    (c.module_around-within.ensures k is)
    (c.in_ok-fixed.ensures k is ∙ ap (λ (ps : List Typed). typed_by k ps a.place around construct 0 (record { meaning = meaning.Nothing; fault = None })) c.as_slice-3.ensures.value)
    (c.in_ok-said.ensures.said k known
    ∙ ap (λ (ts : List Typed). declaration_piece k a.pieces.now ts a.declared.now around a.place a.numbers.now c.as_slice-3.result.now construct) c.as_slice-2.ensures.value
    ∙ ap (λ (ps : List Typed). declaration_piece k a.pieces.now a.typed.now.items a.declared.now around a.place a.numbers.now ps construct) c.as_slice-3.ensures.value)
    (λ list h. subst (λ (e : Option (Place × EntityOf)). AreEntities (with_entity e list) c.put_next.new.self.entities)
    (c.in_ok-entity.ensures
    ∙ ap (λ (ts : List Typed). declared_entity c.module_around-within.result ts around a.numbers.now c.as_slice-3.result.now construct a.declared.now) c.as_slice-2.ensures.value
    ∙ ap (λ (ps : List Typed). declared_entity c.module_around-within.result a.typed.now.items around a.numbers.now ps construct a.declared.now) c.as_slice-3.ensures.value)
    (c.in_ok-put_next.ensures list h))
    (c.in_ok-said.ensures.new
    ∙ ap (λ (ts : List Typed). with_declaration c.module_around-within.result a.pieces.now ts around a.place a.numbers.now c.as_slice-3.result.now construct a.declared.now) c.as_slice-2.ensures.value
    ∙ ap (λ (ps : List Typed). with_declaration c.module_around-within.result a.pieces.now a.typed.now.items around a.place a.numbers.now ps construct a.declared.now) c.as_slice-3.ensures.value)
    c.in_ok-push.ensures.items

-- src/scope.rt: the fault of the piece
pub returns-clause-fault : goal.returns-clause-fault
returns-clause-fault c = λ namings s st.
    let a = c.args in
    let k : Known = known_of namings s in
    let around = around_of a.around in
    let construct = construct_of a.construct in
    let known : Knows k a.uses.now a.entities.now a.declared.now = knows namings s a.uses.now a.entities.now a.declared.now a.typed.now.items st in
    next-fault namings a.pieces.now s a.uses.now a.entities.now a.declared.now a.typed.now.items st around a.place a.numbers.now construct c.in_ok-parts.parts.items c.in_ok-said.said
    (c.in_ok-parts.ensures ∙ ap (λ (ts : List Typed). map (typed_at ts) a.numbers.now) c.as_slice.ensures.value)
    (c.in_ok-said.ensures.said k known
    ∙ ap (λ (ts : List Typed). declaration_piece k a.pieces.now ts a.declared.now around a.place a.numbers.now c.as_slice-3.result.now construct) c.as_slice-2.ensures.value
    ∙ ap (λ (ps : List Typed). declaration_piece k a.pieces.now a.typed.now.items a.declared.now around a.place a.numbers.now ps construct) c.as_slice-3.ensures.value)
