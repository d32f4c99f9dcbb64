use Rattle.std.proofs.Common.{◌∙◌, arith}
use Rattle.mc_parse.specs.Steps.{past, stops, rule_first, handed_on}
use Rattle.mc_parse.specs.Views.{selector_same}
use Rattle.mc_tree.specs.Grammar.{FieldSelector, FieldTo}
use Rattle.mc_tree.specs.declared.expression.Factor.TheViews.{rolls-Field}
use Rattle.mc_parse.proofs.reader.Reader.field.Goals as goal

pub returns-in_err-dot-clause-refused : goal.returns-in_err-dot-clause-refused
returns-in_err-dot-clause-refused c = handed_on c.from_residual.result c.in_err-dot.field-0.0 c.from_residual.ensures.1 (record {
  refuses = λ h stack. rule_first c.args.self.end FieldSelector c.args.depth stack c.args.rest.now c.requires.first (omega arith) ∙ stops c.in_err-dot.ensures.refused h _ _;
})

pub returns-in_err-name-clause-refused : goal.returns-in_err-name-clause-refused
returns-in_err-name-clause-refused c = handed_on c.from_residual-in_err-name.result c.in_err-name.field-0.0 c.from_residual-in_err-name.ensures.1 (record {
  refuses = λ h stack. rule_first c.args.self.end FieldSelector c.args.depth stack c.args.rest.now c.requires.first (omega arith) ∙ past c.in_ok-dot.ensures.ok _ _ ∙ stops c.in_err-name.ensures.refused h _ _;
})

pub returns-in_err-dot-clause-assigns_not : goal.returns-in_err-dot-clause-assigns_not
returns-in_err-dot-clause-assigns_not c = handed_on c.from_residual.result c.in_err-dot.field-0.0 c.from_residual.ensures.1 (record {
  refuses = λ h stack. rule_first c.args.self.end FieldTo c.args.depth stack c.args.rest.now c.requires.first (omega arith) ∙ stops c.in_err-dot.ensures.refused h _ _;
})

pub returns-in_err-name-clause-assigns_not : goal.returns-in_err-name-clause-assigns_not
returns-in_err-name-clause-assigns_not c = handed_on c.from_residual-in_err-name.result c.in_err-name.field-0.0 c.from_residual-in_err-name.ensures.1 (record {
  refuses = λ h stack. rule_first c.args.self.end FieldTo c.args.depth stack c.args.rest.now c.requires.first (omega arith) ∙ past c.in_ok-dot.ensures.ok _ _ ∙ stops c.in_err-name.ensures.refused h _ _;
})

pub returns-clause-ok : goal.returns-clause-ok
returns-clause-ok c = selector_same (rolls-Field c.in_ok-dot.dot.item c.in_ok-name.name.item) (record {
  selects = record { reads = λ stack. rule_first c.args.self.end FieldSelector c.args.depth stack c.args.rest.now c.requires.first (omega arith) ∙ past c.in_ok-dot.ensures.ok _ _ ∙ past c.in_ok-name.ensures.ok _ _ };
  assigns = record { reads = λ stack. rule_first c.args.self.end FieldTo c.args.depth stack c.args.rest.now c.requires.first (omega arith) ∙ past c.in_ok-dot.ensures.ok _ _ ∙ past c.in_ok-name.ensures.ok _ _ };
})
