use Rattle.std.proofs.Common.{◌∙◌, None, refl, arith}
use Rattle.mc_parse.specs.Steps.{past, stops, rule_first, handed_on, goes_not_on, skips}
use Rattle.mc_parse.specs.Only.{answer_by}
use Rattle.mc_tree.specs.Grammar.{AnswerPhrase, SomeAnswer}
use Rattle.mc_parse.proofs.reader.Reader.answer.Goals as goal

pub returns-then-not-sees_symbol-clause-ok : goal.returns-then-not-sees_symbol-clause-ok
returns-then-not-sees_symbol-clause-ok c = skips c.args.self.end AnswerPhrase None c.args.depth c.args.rest.now (goes_not_on answer_by c.args.rest.now c.if-not-sees_symbol.ensures.no) refl

pub returns-in_err-mark-clause-refused : goal.returns-in_err-mark-clause-refused
returns-in_err-mark-clause-refused c = handed_on c.from_residual.result c.in_err-mark.field-0.0 c.from_residual.ensures.1 (record {
  refuses = λ h stack. rule_first c.args.self.end SomeAnswer c.args.depth stack c.args.rest.now c.if-not-sees_symbol.ensures.yes (omega arith) ∙ stops c.in_err-mark.ensures.refused h _ _;
})

pub returns-in_err-name-clause-refused : goal.returns-in_err-name-clause-refused
returns-in_err-name-clause-refused c = handed_on c.from_residual-in_err-name.result c.in_err-name.field-0.0 c.from_residual-in_err-name.ensures.1 (record {
  refuses = λ h stack. rule_first c.args.self.end SomeAnswer c.args.depth stack c.args.rest.now c.if-not-sees_symbol.ensures.yes (omega arith) ∙ past c.in_ok-mark.ensures.ok _ _ ∙ stops c.in_err-name.ensures.refused h _ _;
})

pub returns-clause-ok : goal.returns-clause-ok
returns-clause-ok c = record {
  reads = λ stack. rule_first c.args.self.end SomeAnswer c.args.depth stack c.args.rest.now c.if-not-sees_symbol.ensures.yes (omega arith) ∙ past c.in_ok-mark.ensures.ok _ _ ∙ past c.in_ok-name.ensures.ok _ _;
}
