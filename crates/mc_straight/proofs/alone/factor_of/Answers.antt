use Rattle.std.proofs.Common.{refl}
use Rattle.std.proofs.lemmas.Bool.{false≢true}
use Rattle.mc_straight.proofs.Leaves.{no_compared, no_sign, no_terms, no_factors, is_expr_of, nothing, something}
use Rattle.mc_straight.proofs.alone.factor_of.Goals as goal

pub returns-then-is_some : goal.returns-then-is_some
returns-then-is_some c = λ f e. something _ c.if-is_some.ensures (no_compared c.args.expr.now f e)

pub returns-then-is_some-2 : goal.returns-then-is_some-2
returns-then-is_some-2 c = λ f e. something _ c.if-is_some-2.ensures (no_sign c.args.expr.now f e)

pub returns-then-not-is_empty : goal.returns-then-not-is_empty
returns-then-not-is_empty c = λ f e. false≢true (c.if-not-is_empty.ensures.1 (no_terms c.args.expr.now f e))

pub returns-then-not-is_empty-2 : goal.returns-then-not-is_empty-2
returns-then-not-is_empty-2 c = λ f e. false≢true (c.if-not-is_empty-2.ensures.1 (no_factors c.args.expr.now f e))

pub returns : goal.returns
returns c = is_expr_of c.args.expr.now (nothing _ c.if-is_some.ensures) (nothing _ c.if-is_some-2.ensures) (c.if-not-is_empty.ensures.0 refl) (c.if-not-is_empty-2.ensures.0 refl)
