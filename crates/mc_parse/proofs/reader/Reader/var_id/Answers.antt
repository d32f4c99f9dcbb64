use Rattle.std.proofs.Common.{◌∙◌, refl, arith}
use Rattle.mc_parse.specs.Steps.{past, stops, one_rule, handed_on}
use Rattle.mc_parse.specs.Only.{var_id_by}
use Rattle.mc_tree.specs.Grammar.{OneVarId}
use Rattle.mc_parse.proofs.reader.Reader.var_id.Goals as goal

pub returns-in_err-name-clause-refused : goal.returns-in_err-name-clause-refused
returns-in_err-name-clause-refused c = handed_on c.from_residual.result c.in_err-name.field-0.0 c.from_residual.ensures.1 (record {
  refuses = λ h stack. one_rule c.args.self.end OneVarId c.args.depth stack c.args.rest.now var_id_by refl (omega arith) ∙ stops c.in_err-name.ensures.refused h _ _;
})

pub returns-in_err-address-clause-refused : goal.returns-in_err-address-clause-refused
returns-in_err-address-clause-refused c = handed_on c.from_residual-in_err-address.result c.in_err-address.field-0.0 c.from_residual-in_err-address.ensures.1 (record {
  refuses = λ h stack. one_rule c.args.self.end OneVarId c.args.depth stack c.args.rest.now var_id_by refl (omega arith) ∙ past c.in_ok-name.ensures.ok _ _ ∙ stops c.in_err-address.ensures.refused h _ _;
})

pub returns-clause-ok : goal.returns-clause-ok
returns-clause-ok c = record {
  reads = λ stack. one_rule c.args.self.end OneVarId c.args.depth stack c.args.rest.now var_id_by refl (omega arith) ∙ past c.in_ok-name.ensures.ok _ _ ∙ past c.in_ok-address.ensures.ok _ _;
}
