use Rattle.std.proofs.Common.{◌∙◌, arith}
use Rattle.mc_parse.specs.Steps.{past, stops, rule_first, handed_on, read_same}
use Rattle.mc_parse.specs.Deep.{too_deep_at}
use Rattle.mc_tree.specs.Grammar.{NamedType}
use Rattle.mc_tree.specs.declared.tree.TypeTree.TheViews.{rolls-Name}
use Rattle.mc_parse.proofs.reader.Reader.named_type.Goals as goal

pub returns-in_err-deeper-clause-refused : goal.returns-in_err-deeper-clause-refused
returns-in_err-deeper-clause-refused c = handed_on c.from_residual.result c.in_err-deeper.field-0.0 c.from_residual.ensures.1 (too_deep_at NamedType _ c.requires.first (omega (arith, c.in_err-deeper.ensures.refused.1)) c.place.ensures c.in_err-deeper.ensures.refused.0)

pub returns-in_err-name-clause-refused : goal.returns-in_err-name-clause-refused
returns-in_err-name-clause-refused c = handed_on c.from_residual-in_err-name.result c.in_err-name.field-0.0 c.from_residual-in_err-name.ensures.1 (record {
  refuses = λ h stack. rule_first c.args.self.end NamedType c.args.depth stack c.args.rest.now c.requires.first (omega (arith, c.in_ok-deeper.ensures.ok.0, c.in_ok-deeper.ensures.ok.1)) ∙ stops c.in_err-name.ensures.refused h _ _;
})

pub returns-clause-ok : goal.returns-clause-ok
returns-clause-ok c = read_same (rolls-Name c.in_ok-name.name.item) (record {
  reads = λ stack. rule_first c.args.self.end NamedType c.args.depth stack c.args.rest.now c.requires.first (omega (arith, c.in_ok-deeper.ensures.ok.0, c.in_ok-deeper.ensures.ok.1)) ∙ past c.in_ok-name.ensures.ok _ _;
})
