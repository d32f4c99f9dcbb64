use Rattle.std.proofs.Common.{◌∙◌, arith}
use Rattle.mc_parse.specs.Steps.{past, stops, rule_first, handed_on}
use Rattle.mc_tree.specs.Grammar.{ConstSection}
use Rattle.mc_parse.proofs.reader.Reader.const_section.Goals as goal

pub returns-in_err-word-clause-refused : goal.returns-in_err-word-clause-refused
returns-in_err-word-clause-refused c = handed_on c.from_residual.result c.in_err-word.field-0.0 c.from_residual.ensures.1 (record {
  refuses = λ h stack. rule_first c.args.self.end ConstSection c.args.depth stack c.args.rest.now c.requires.first (omega arith) ∙ stops c.in_err-word.ensures.refused h _ _;
})

pub returns-in_err-names-clause-refused : goal.returns-in_err-names-clause-refused
returns-in_err-names-clause-refused c = handed_on c.from_residual-in_err-names.result c.in_err-names.field-0.0 c.from_residual-in_err-names.ensures.1 (record {
  refuses = λ h stack. rule_first c.args.self.end ConstSection c.args.depth stack c.args.rest.now c.requires.first (omega arith) ∙ past c.in_ok-word.ensures.ok _ _ ∙ stops c.in_err-names.ensures.refused h _ _;
})

pub returns-in_err-colon-clause-refused : goal.returns-in_err-colon-clause-refused
returns-in_err-colon-clause-refused c = handed_on c.from_residual-in_err-colon.result c.in_err-colon.field-0.0 c.from_residual-in_err-colon.ensures.1 (record {
  refuses = λ h stack. rule_first c.args.self.end ConstSection c.args.depth stack c.args.rest.now c.requires.first (omega arith) ∙ past c.in_ok-word.ensures.ok _ _ ∙ past c.in_ok-names.ensures.ok _ _ ∙ stops c.in_err-colon.ensures.refused h _ _;
})

pub returns-in_err-of-clause-refused : goal.returns-in_err-of-clause-refused
returns-in_err-of-clause-refused c = handed_on c.from_residual-in_err-of.result c.in_err-of.field-0.0 c.from_residual-in_err-of.ensures.1 (record {
  refuses = λ h stack. rule_first c.args.self.end ConstSection c.args.depth stack c.args.rest.now c.requires.first (omega arith) ∙ past c.in_ok-word.ensures.ok _ _ ∙ past c.in_ok-names.ensures.ok _ _ ∙ past c.in_ok-colon.ensures.ok _ _ ∙ stops c.in_err-of.ensures.refused h _ _;
})

pub returns-clause-shorter : goal.returns-clause-shorter
returns-clause-shorter c = omega (arith, c.in_ok-word.ensures.shorter, c.in_ok-names.ensures.shorter, c.in_ok-colon.ensures.shorter, c.in_ok-of.ensures.shorter)

pub returns-clause-ok : goal.returns-clause-ok
returns-clause-ok c = record {
  reads = λ stack. rule_first c.args.self.end ConstSection c.args.depth stack c.args.rest.now c.requires.first (omega arith) ∙ past c.in_ok-word.ensures.ok _ _ ∙ past c.in_ok-names.ensures.ok _ _ ∙ past c.in_ok-colon.ensures.ok _ _ ∙ past c.in_ok-of.ensures.ok _ _;
}
