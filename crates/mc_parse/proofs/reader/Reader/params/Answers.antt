use Rattle.std.proofs.Common.{◌∙◌, None, refl, arith}
use Rattle.mc_parse.specs.Steps.{past, stops, rule_first, handed_on, goes_not_on, skips}
use Rattle.mc_parse.specs.Only.{params_by}
use Rattle.mc_tree.specs.Grammar.{ParamsPhrase, SomeParams}
use Rattle.mc_parse.proofs.reader.Reader.params.Goals as goal

pub returns-then-not-sees_symbol-clause-ok : goal.returns-then-not-sees_symbol-clause-ok
returns-then-not-sees_symbol-clause-ok c = skips c.args.self.end ParamsPhrase None c.args.depth c.args.rest.now (goes_not_on params_by c.args.rest.now c.if-not-sees_symbol.ensures.no) refl

pub returns-in_err-opening-clause-refused : goal.returns-in_err-opening-clause-refused
returns-in_err-opening-clause-refused c = handed_on c.from_residual.result c.in_err-opening.field-0.0 c.from_residual.ensures.1 (record {
  refuses = λ h stack. rule_first c.args.self.end SomeParams c.args.depth stack c.args.rest.now c.if-not-sees_symbol.ensures.yes (omega arith) ∙ stops c.in_err-opening.ensures.refused h _ _;
})

pub returns-in_err-first-clause-refused : goal.returns-in_err-first-clause-refused
returns-in_err-first-clause-refused c = handed_on c.from_residual-in_err-first.result c.in_err-first.field-0.0 c.from_residual-in_err-first.ensures.1 (record {
  refuses = λ h stack. rule_first c.args.self.end SomeParams c.args.depth stack c.args.rest.now c.if-not-sees_symbol.ensures.yes (omega arith) ∙ past c.in_ok-opening.ensures.ok _ _ ∙ stops c.in_err-first.ensures.refused h _ _;
})

pub returns-in_err-more-clause-refused : goal.returns-in_err-more-clause-refused
returns-in_err-more-clause-refused c = handed_on c.from_residual-in_err-more.result c.in_err-more.field-0.0 c.from_residual-in_err-more.ensures.1 (record {
  refuses = λ h stack. rule_first c.args.self.end SomeParams c.args.depth stack c.args.rest.now c.if-not-sees_symbol.ensures.yes (omega arith) ∙ past c.in_ok-opening.ensures.ok _ _ ∙ past c.in_ok-first.ensures.ok _ _ ∙ stops c.in_err-more.ensures.refused h _ _;
})

pub returns-in_err-closing-clause-refused : goal.returns-in_err-closing-clause-refused
returns-in_err-closing-clause-refused c = handed_on c.from_residual-in_err-closing.result c.in_err-closing.field-0.0 c.from_residual-in_err-closing.ensures.1 (record {
  refuses = λ h stack. rule_first c.args.self.end SomeParams c.args.depth stack c.args.rest.now c.if-not-sees_symbol.ensures.yes (omega arith) ∙ past c.in_ok-opening.ensures.ok _ _ ∙ past c.in_ok-first.ensures.ok _ _ ∙ past c.in_ok-more.ensures.ok _ _ ∙ stops c.in_err-closing.ensures.refused h _ _;
})

pub returns-clause-within : goal.returns-clause-within
returns-clause-within c = omega (arith, c.in_ok-opening.ensures.shorter, c.in_ok-first.ensures.shorter, c.in_ok-more.ensures.within, c.in_ok-closing.ensures.shorter)

pub returns-clause-ok : goal.returns-clause-ok
returns-clause-ok c = record {
  reads = λ stack. rule_first c.args.self.end SomeParams c.args.depth stack c.args.rest.now c.if-not-sees_symbol.ensures.yes (omega arith) ∙ past c.in_ok-opening.ensures.ok _ _ ∙ past c.in_ok-first.ensures.ok _ _ ∙ past c.in_ok-more.ensures.ok _ _ ∙ past c.in_ok-closing.ensures.ok _ _;
}
