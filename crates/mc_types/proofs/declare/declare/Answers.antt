use Rattle.std.proofs.Common.{[], ap, sym, ◌∙◌}
use Rattle.mc_prog.specs.Known.{Known}
use Rattle.mc_prog.specs.Declarations.{type_named}
use Rattle.mc_prog.specs.DeclarationTypes.{declaration_piece}
use Rattle.mc_pieces.specs.Constructs.{around_of, construct_of}
use Rattle.mc_types.proofs.NoDeclarations.{if-ok, on-ok, no-declaration}
use Rattle.mc_types.proofs.declare.declare.Goals as goal

-- src/declare.rt: the name of a type
pub returns-in-TypeName-clause-said : goal.returns-in-TypeName-clause-said
returns-in-TypeName-clause-said c = λ k h.
    let s = c.args.site in
    c.type_named.ensures ∙ ap (type_named c.in-TypeName.id.now.place) (c.name_meaning.ensures k (c.known-known.ensures k h))
    ∙ ap (λ x. declaration_piece k c.args.pieces.now s.typed.now c.args.declared.now (around_of s.around) s.place s.numbers.now s.parts.now (construct_of x)) (sym c.in-TypeName.is)

-- src/declare.rt: a piece of an expression
pub returns-in_default : goal.returns-in_default
returns-in_default c =
    let s = c.args.site in
    let n = c.in_default in
    let same = λ (k : Known). no-declaration k c.args.within c.args.pieces.now s.typed.now c.args.declared.now (around_of s.around) s.place s.numbers.now s.parts.now c.args.construct
    n.not-TypeName n.not-Enumeration n.not-EnumerationValue n.not-Range n.not-Array n.not-Record n.not-FieldGroup n.not-Constant n.not-TypeDeclaration n.not-Variable n.not-Parameter n.not-ResultType n.not-Heading n.not-Ending n.not-Module in
    record {
      said = if-ok _ _ c.text_piece.result c.text_piece.ensures (λ said is k h. is k (c.known-known-in_default.ensures k h) ∙ (same k).0);
      new = on-ok c.text_piece.result _ ((same (record { namings = []; entities = []; types = []; modules = []; procedures = []; processes = [] })).1);
    }
