use Rattle.std.proofs.Common.{◌∙◌, sym, arith}
use Rattle.mc_parse.specs.Steps.{past, stops, handed_on, read_same}
use Rattle.mc_parse.specs.Begins.{var_as_var_id}
use Rattle.mc_parse.proofs.reader.Reader.variable.Goals as goal

pub returns-in_err-first-clause-refused : goal.returns-in_err-first-clause-refused
returns-in_err-first-clause-refused c = handed_on c.from_residual.result c.in_err-first.field-0.0 c.from_residual.ensures.1 (record {
  refuses = λ h stack. var_as_var_id c.args.self.end c.args.depth stack c.args.rest.now ∙ stops c.in_err-first.ensures.refused h _ _;
})

pub returns-in_err-more-clause-refused : goal.returns-in_err-more-clause-refused
returns-in_err-more-clause-refused c = handed_on c.from_residual-in_err-more.result c.in_err-more.field-0.0 c.from_residual-in_err-more.ensures.1 (record {
  refuses = λ h stack. var_as_var_id c.args.self.end c.args.depth stack c.args.rest.now ∙ past c.in_ok-first.ensures.ok _ _ ∙ stops c.in_err-more.ensures.refused h _ _;
})

pub returns-in_err-colon-clause-refused : goal.returns-in_err-colon-clause-refused
returns-in_err-colon-clause-refused c = handed_on c.from_residual-in_err-colon.result c.in_err-colon.field-0.0 c.from_residual-in_err-colon.ensures.1 (record {
  refuses = λ h stack. var_as_var_id c.args.self.end c.args.depth stack c.args.rest.now ∙ past c.in_ok-first.ensures.ok _ _ ∙ past c.in_ok-more.ensures.ok _ _ ∙ stops c.in_err-colon.ensures.refused h _ _;
})

pub returns-in_err-of-clause-refused : goal.returns-in_err-of-clause-refused
returns-in_err-of-clause-refused c = handed_on c.from_residual-in_err-of.result c.in_err-of.field-0.0 c.from_residual-in_err-of.ensures.1 (record {
  refuses = λ h stack. var_as_var_id c.args.self.end c.args.depth stack c.args.rest.now ∙ past c.in_ok-first.ensures.ok _ _ ∙ past c.in_ok-more.ensures.ok _ _ ∙ past c.in_ok-colon.ensures.ok _ _ ∙ stops c.in_err-of.ensures.refused h _ _;
})

pub returns-in_err-semicolon-clause-refused : goal.returns-in_err-semicolon-clause-refused
returns-in_err-semicolon-clause-refused c = handed_on c.from_residual-in_err-semicolon.result c.in_err-semicolon.field-0.0 c.from_residual-in_err-semicolon.ensures.1 (record {
  refuses = λ h stack. var_as_var_id c.args.self.end c.args.depth stack c.args.rest.now ∙ past c.in_ok-first.ensures.ok _ _ ∙ past c.in_ok-more.ensures.ok _ _ ∙ past c.in_ok-colon.ensures.ok _ _ ∙ past c.in_ok-of.ensures.ok _ _ ∙ stops c.in_err-semicolon.ensures.refused h _ _;
})

pub returns-clause-shorter : goal.returns-clause-shorter
returns-clause-shorter c = omega (arith, c.in_ok-first.ensures.shorter, c.in_ok-more.ensures.within, c.in_ok-colon.ensures.shorter, c.in_ok-of.ensures.shorter, c.in_ok-semicolon.ensures.shorter)

pub returns-clause-ok : goal.returns-clause-ok
returns-clause-ok c = read_same (sym c.variable_node.ensures) (record {
  reads = λ stack. var_as_var_id c.args.self.end c.args.depth stack c.args.rest.now ∙ past c.in_ok-first.ensures.ok _ _ ∙ past c.in_ok-more.ensures.ok _ _ ∙ past c.in_ok-colon.ensures.ok _ _ ∙ past c.in_ok-of.ensures.ok _ _ ∙ past c.in_ok-semicolon.ensures.ok _ _;
})
