use Rattle.std.proofs.Common.{◌∙◌, refl, sym, arith}
use Rattle.mc_parse.specs.Steps.{past, stops, one_rule, handed_on, read_same}
use Rattle.mc_parse.specs.Only.{type_decl_by}
use Rattle.mc_tree.specs.Grammar.{OneType}
use Rattle.mc_parse.proofs.reader.Reader.type_declaration.Goals as goal

pub returns-in_err-name-clause-refused : goal.returns-in_err-name-clause-refused
returns-in_err-name-clause-refused c = handed_on c.from_residual.result c.in_err-name.field-0.0 c.from_residual.ensures.1 (record {
  refuses = λ h stack. one_rule c.args.self.end OneType c.args.depth stack c.args.rest.now type_decl_by refl (omega arith) ∙ stops c.in_err-name.ensures.refused h _ _;
})

pub returns-in_err-equal-clause-refused : goal.returns-in_err-equal-clause-refused
returns-in_err-equal-clause-refused c = handed_on c.from_residual-in_err-equal.result c.in_err-equal.field-0.0 c.from_residual-in_err-equal.ensures.1 (record {
  refuses = λ h stack. one_rule c.args.self.end OneType c.args.depth stack c.args.rest.now type_decl_by refl (omega arith) ∙ past c.in_ok-name.ensures.ok _ _ ∙ stops c.in_err-equal.ensures.refused h _ _;
})

pub returns-in_err-meaning-clause-refused : goal.returns-in_err-meaning-clause-refused
returns-in_err-meaning-clause-refused c = handed_on c.from_residual-in_err-meaning.result c.in_err-meaning.field-0.0 c.from_residual-in_err-meaning.ensures.1 (record {
  refuses = λ h stack. one_rule c.args.self.end OneType c.args.depth stack c.args.rest.now type_decl_by refl (omega arith) ∙ past c.in_ok-name.ensures.ok _ _ ∙ past c.in_ok-equal.ensures.ok _ _ ∙ stops c.in_err-meaning.ensures.refused h _ _;
})

pub returns-in_err-semicolon-clause-refused : goal.returns-in_err-semicolon-clause-refused
returns-in_err-semicolon-clause-refused c = handed_on c.from_residual-in_err-semicolon.result c.in_err-semicolon.field-0.0 c.from_residual-in_err-semicolon.ensures.1 (record {
  refuses = λ h stack. one_rule c.args.self.end OneType c.args.depth stack c.args.rest.now type_decl_by refl (omega arith) ∙ past c.in_ok-name.ensures.ok _ _ ∙ past c.in_ok-equal.ensures.ok _ _ ∙ past c.in_ok-meaning.ensures.ok _ _ ∙ stops c.in_err-semicolon.ensures.refused h _ _;
})

pub returns-clause-shorter : goal.returns-clause-shorter
returns-clause-shorter c = omega (arith, c.in_ok-name.ensures.shorter, c.in_ok-equal.ensures.shorter, c.in_ok-meaning.ensures.shorter, c.in_ok-semicolon.ensures.shorter)

pub returns-clause-ok : goal.returns-clause-ok
returns-clause-ok c = read_same (sym c.type_node.ensures) (record {
  reads = λ stack. one_rule c.args.self.end OneType c.args.depth stack c.args.rest.now type_decl_by refl (omega arith) ∙ past c.in_ok-name.ensures.ok _ _ ∙ past c.in_ok-equal.ensures.ok _ _ ∙ past c.in_ok-meaning.ensures.ok _ _ ∙ past c.in_ok-semicolon.ensures.ok _ _;
})
