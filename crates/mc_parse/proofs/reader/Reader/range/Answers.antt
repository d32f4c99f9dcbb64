use Rattle.std.proofs.Common.{◌∙◌, sym, ap, arith}
use Rattle.mc_parse.specs.Steps.{past, stops, handed_on, read_same}
use Rattle.mc_parse.specs.Begins.{range_as_expr}
use Rattle.mc_tree.specs.declared.expression.Expr.{Expr}
use Rattle.mc_tree.specs.declared.tree.Range.{Range}
use Rattle.mc_parse.proofs.reader.Reader.range.Goals as goal

pub returns-in_err-low-clause-refused : goal.returns-in_err-low-clause-refused
returns-in_err-low-clause-refused c = handed_on c.from_residual.result c.in_err-low.field-0.0 c.from_residual.ensures.1 (record {
  refuses = λ h stack. range_as_expr c.args.self.end c.args.depth stack c.args.rest.now ∙ stops c.in_err-low.ensures.refused h _ _;
})

pub returns-in_err-colon-clause-refused : goal.returns-in_err-colon-clause-refused
returns-in_err-colon-clause-refused c = handed_on c.from_residual-in_err-colon.result c.in_err-colon.field-0.0 c.from_residual-in_err-colon.ensures.1 (record {
  refuses = λ h stack. range_as_expr c.args.self.end c.args.depth stack c.args.rest.now ∙ past c.in_ok-low.ensures.ok _ _ ∙ stops c.in_err-colon.ensures.refused h _ _;
})

pub returns-in_err-high-clause-refused : goal.returns-in_err-high-clause-refused
returns-in_err-high-clause-refused c = handed_on c.from_residual-in_err-high.result c.in_err-high.field-0.0 c.from_residual-in_err-high.ensures.1 (record {
  refuses = λ h stack. range_as_expr c.args.self.end c.args.depth stack c.args.rest.now ∙ past c.in_ok-low.ensures.ok _ _ ∙ past c.in_ok-colon.ensures.ok _ _ ∙ stops c.in_err-high.ensures.refused h _ _;
})

pub returns-clause-shorter : goal.returns-clause-shorter
returns-clause-shorter c = omega (arith, c.in_ok-low.ensures.shorter, c.in_ok-colon.ensures.shorter, c.in_ok-high.ensures.shorter)

pub returns-clause-ok : goal.returns-clause-ok
returns-clause-ok c = read_same (ap (λ (z : Expr). let r : Range = record { low = z; colon = c.in_ok-colon.colon.item; high = c.in_ok-high.high.item } in r) (sym c.into_inner.ensures)) (record {
  reads = λ stack. range_as_expr c.args.self.end c.args.depth stack c.args.rest.now ∙ past c.in_ok-low.ensures.ok _ _ ∙ past c.in_ok-colon.ensures.ok _ _ ∙ past c.in_ok-high.ensures.ok _ _;
})
