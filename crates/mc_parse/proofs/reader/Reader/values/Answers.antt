use Rattle.std.proofs.Common.{◌∙◌, arith}
use Rattle.mc_parse.specs.Steps.{past, stops, rule_first, handed_on, read_same}
use Rattle.mc_parse.specs.Deep.{deep_read, deep_refused, too_deep_at}
use Rattle.mc_tree.specs.Grammar.{ValuesType}
use Rattle.mc_tree.specs.declared.tree.TypeTree.TheViews.{rolls-Values}
use Rattle.mc_parse.proofs.reader.Reader.values.Goals as goal

pub returns-in_err-inner-clause-refused : goal.returns-in_err-inner-clause-refused
returns-in_err-inner-clause-refused c = handed_on c.from_residual.result c.in_err-inner.field-0.0 c.from_residual.ensures.1 (too_deep_at ValuesType _ c.requires.first (omega (arith, c.in_err-inner.ensures.refused.1)) c.place.ensures c.in_err-inner.ensures.refused.0)

pub returns-in_err-opening-clause-refused : goal.returns-in_err-opening-clause-refused
returns-in_err-opening-clause-refused c = handed_on c.from_residual-in_err-opening.result c.in_err-opening.field-0.0 c.from_residual-in_err-opening.ensures.1 (record {
  refuses = λ h stack. rule_first c.args.self.end ValuesType c.args.depth stack c.args.rest.now c.requires.first (omega (arith, c.in_ok-inner.ensures.ok.0, c.in_ok-inner.ensures.ok.1)) ∙ stops c.in_err-opening.ensures.refused h _ _;
})

pub returns-in_err-values-clause-refused : goal.returns-in_err-values-clause-refused
returns-in_err-values-clause-refused c = handed_on c.from_residual-in_err-values.result c.in_err-values.field-0.0 c.from_residual-in_err-values.ensures.1 (record {
  refuses = λ h stack. rule_first c.args.self.end ValuesType c.args.depth stack c.args.rest.now c.requires.first (omega (arith, c.in_ok-inner.ensures.ok.0, c.in_ok-inner.ensures.ok.1)) ∙ past c.in_ok-opening.ensures.ok _ _ ∙ stops (deep_refused c.in_ok-inner.ensures.ok.0 c.in_err-values.ensures.refused) h _ _;
})

pub returns-in_err-closing-clause-refused : goal.returns-in_err-closing-clause-refused
returns-in_err-closing-clause-refused c = handed_on c.from_residual-in_err-closing.result c.in_err-closing.field-0.0 c.from_residual-in_err-closing.ensures.1 (record {
  refuses = λ h stack. rule_first c.args.self.end ValuesType c.args.depth stack c.args.rest.now c.requires.first (omega (arith, c.in_ok-inner.ensures.ok.0, c.in_ok-inner.ensures.ok.1)) ∙ past c.in_ok-opening.ensures.ok _ _ ∙ past (deep_read c.in_ok-inner.ensures.ok.0 c.in_ok-values.ensures.ok) _ _ ∙ stops c.in_err-closing.ensures.refused h _ _;
})

pub returns-clause-shorter : goal.returns-clause-shorter
returns-clause-shorter c = omega (arith, c.in_ok-opening.ensures.shorter, c.in_ok-values.ensures.shorter, c.in_ok-closing.ensures.shorter)

pub returns-clause-ok : goal.returns-clause-ok
returns-clause-ok c = read_same (rolls-Values c.in_ok-opening.opening.item c.in_ok-values.values.item c.in_ok-closing.closing.item) (record {
  reads = λ stack. rule_first c.args.self.end ValuesType c.args.depth stack c.args.rest.now c.requires.first (omega (arith, c.in_ok-inner.ensures.ok.0, c.in_ok-inner.ensures.ok.1)) ∙ past c.in_ok-opening.ensures.ok _ _ ∙ past (deep_read c.in_ok-inner.ensures.ok.0 c.in_ok-values.ensures.ok) _ _ ∙ past c.in_ok-closing.ensures.ok _ _;
})
