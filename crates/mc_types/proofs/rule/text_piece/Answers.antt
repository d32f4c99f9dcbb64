use Rattle.std.proofs.Common.{◌∙◌}
use Rattle.mc_pieces.specs.Constructs.{around_of}
use Rattle.mc_types.proofs.Otherwise.{otherwise}
use Rattle.mc_types.proofs.rule.text_piece.Goals as goal

-- src/rule.rt: a piece of an expression, or one of which nothing is said
pub returns-in_ok-expression_piece-in_default : goal.returns-in_ok-expression_piece-in_default
returns-in_ok-expression_piece-in_default c = λ k is.
    let d = c.in_default in
    c.in_ok-expression_piece-in_default.ensures k is
    ∙ otherwise k c.args.pieces.now c.args.site.typed.now (around_of c.args.site.around) c.args.site.place c.args.site.numbers.now c.args.site.parts.now c.args.construct
    d.not-Assignment d.not-Statement d.not-If d.not-While d.not-Repeat d.not-When d.not-Case d.not-Label
