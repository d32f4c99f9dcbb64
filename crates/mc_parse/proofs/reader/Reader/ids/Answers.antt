use Rattle.std.proofs.Common.{◌∙◌, refl, arith}
use Rattle.mc_parse.specs.Steps.{past, stops, one_rule, handed_on}
use Rattle.mc_parse.specs.Only.{ids_by}
use Rattle.mc_tree.specs.Grammar.{FirstId}
use Rattle.mc_parse.proofs.reader.Reader.ids.Goals as goal

pub returns-in_err-first-clause-refused : goal.returns-in_err-first-clause-refused
returns-in_err-first-clause-refused c = handed_on c.from_residual.result c.in_err-first.field-0.0 c.from_residual.ensures.1 (record {
  refuses = λ h stack. one_rule c.args.self.end FirstId c.args.depth stack c.args.rest.now ids_by refl (omega arith) ∙ stops c.in_err-first.ensures.refused h _ _;
})

pub returns-in_err-more-clause-refused : goal.returns-in_err-more-clause-refused
returns-in_err-more-clause-refused c = handed_on c.from_residual-in_err-more.result c.in_err-more.field-0.0 c.from_residual-in_err-more.ensures.1 (record {
  refuses = λ h stack. one_rule c.args.self.end FirstId c.args.depth stack c.args.rest.now ids_by refl (omega arith) ∙ past c.in_ok-first.ensures.ok _ _ ∙ stops c.in_err-more.ensures.refused h _ _;
})

pub returns-clause-ok : goal.returns-clause-ok
returns-clause-ok c = record {
  reads = λ stack. one_rule c.args.self.end FirstId c.args.depth stack c.args.rest.now ids_by refl (omega arith) ∙ past c.in_ok-first.ensures.ok _ _ ∙ past c.in_ok-more.ensures.ok _ _;
}
