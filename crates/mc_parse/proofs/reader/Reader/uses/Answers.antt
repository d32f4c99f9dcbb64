use Rattle.std.proofs.Common.{◌∙◌, None, refl, arith}
use Rattle.mc_parse.specs.Steps.{past, stops, rule_first, handed_on, goes_not_on, skips}
use Rattle.mc_parse.specs.Only.{uses_by}
use Rattle.mc_tree.specs.Grammar.{SomeUses, UsesPhrase}
use Rattle.mc_parse.proofs.reader.Reader.uses.Goals as goal

pub returns-then-not-sees_word-clause-ok : goal.returns-then-not-sees_word-clause-ok
returns-then-not-sees_word-clause-ok c = skips c.args.self.end UsesPhrase None c.args.depth c.args.rest.now (goes_not_on uses_by c.args.rest.now c.if-not-sees_word.ensures.no) refl

pub returns-in_err-word-clause-refused : goal.returns-in_err-word-clause-refused
returns-in_err-word-clause-refused c = handed_on c.from_residual.result c.in_err-word.field-0.0 c.from_residual.ensures.1 (record {
  refuses = λ h stack. rule_first c.args.self.end SomeUses c.args.depth stack c.args.rest.now c.if-not-sees_word.ensures.yes (omega arith) ∙ stops c.in_err-word.ensures.refused h _ _;
})

pub returns-in_err-names-clause-refused : goal.returns-in_err-names-clause-refused
returns-in_err-names-clause-refused c = handed_on c.from_residual-in_err-names.result c.in_err-names.field-0.0 c.from_residual-in_err-names.ensures.1 (record {
  refuses = λ h stack. rule_first c.args.self.end SomeUses c.args.depth stack c.args.rest.now c.if-not-sees_word.ensures.yes (omega arith) ∙ past c.in_ok-word.ensures.ok _ _ ∙ stops c.in_err-names.ensures.refused h _ _;
})

pub returns-in_err-semicolon-clause-refused : goal.returns-in_err-semicolon-clause-refused
returns-in_err-semicolon-clause-refused c = handed_on c.from_residual-in_err-semicolon.result c.in_err-semicolon.field-0.0 c.from_residual-in_err-semicolon.ensures.1 (record {
  refuses = λ h stack. rule_first c.args.self.end SomeUses c.args.depth stack c.args.rest.now c.if-not-sees_word.ensures.yes (omega arith) ∙ past c.in_ok-word.ensures.ok _ _ ∙ past c.in_ok-names.ensures.ok _ _ ∙ stops c.in_err-semicolon.ensures.refused h _ _;
})

pub returns-clause-within : goal.returns-clause-within
returns-clause-within c = omega (arith, c.in_ok-word.ensures.shorter, c.in_ok-names.ensures.shorter, c.in_ok-semicolon.ensures.shorter)

pub returns-clause-ok : goal.returns-clause-ok
returns-clause-ok c = record {
  reads = λ stack. rule_first c.args.self.end SomeUses c.args.depth stack c.args.rest.now c.if-not-sees_word.ensures.yes (omega arith) ∙ past c.in_ok-word.ensures.ok _ _ ∙ past c.in_ok-names.ensures.ok _ _ ∙ past c.in_ok-semicolon.ensures.ok _ _;
}
