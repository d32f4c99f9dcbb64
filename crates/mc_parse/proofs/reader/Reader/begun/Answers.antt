use Rattle.std.proofs.Common.{Option, Some, ◌∙◌, None, refl, ap, arith}
use Rattle.mc_parse.specs.Steps.{past, stops, rule_first, handed_on, read_same, goes_not_on, skips}
use Rattle.mc_parse.specs.Only.{begun_by}
use Rattle.mc_tree.specs.Grammar.{BegunPhrase, SomeBegun}
use Rattle.mc_tree.specs.declared.statement.Statement.TheViews.{roll-out-Body}
use Rattle.mc_tree.specs.declared.statement.Body.{Body}
use Rattle.mc_tree.specs.declared.tree.Begun.{Begun}
use Rattle.mc_parse.proofs.reader.Reader.begun.Goals as goal

pub returns-then-not-sees_word-clause-ok : goal.returns-then-not-sees_word-clause-ok
returns-then-not-sees_word-clause-ok c = skips c.args.self.end BegunPhrase None c.args.depth c.args.rest.now (goes_not_on begun_by c.args.rest.now c.if-not-sees_word.ensures.no) refl

pub returns-in_err-begin-clause-refused : goal.returns-in_err-begin-clause-refused
returns-in_err-begin-clause-refused c = handed_on c.from_residual.result c.in_err-begin.field-0.0 c.from_residual.ensures.1 (record {
  refuses = λ h stack. rule_first c.args.self.end SomeBegun c.args.depth stack c.args.rest.now c.if-not-sees_word.ensures.yes (omega arith) ∙ stops c.in_err-begin.ensures.refused h _ _;
})

pub returns-in_err-body-clause-refused : goal.returns-in_err-body-clause-refused
returns-in_err-body-clause-refused c = handed_on c.from_residual-in_err-body.result c.in_err-body.field-0.0 c.from_residual-in_err-body.ensures.1 (record {
  refuses = λ h stack. rule_first c.args.self.end SomeBegun c.args.depth stack c.args.rest.now c.if-not-sees_word.ensures.yes (omega arith) ∙ past c.in_ok-begin.ensures.ok _ _ ∙ stops c.in_err-body.ensures.refused h _ _;
})

pub returns-clause-ok : goal.returns-clause-ok
returns-clause-ok c = read_same (ap (λ (z : Body). let o : Option Begun = Some (record { begin = c.in_ok-begin.begin.item; body = z }) in o) (roll-out-Body c.in_ok-body.body.item)) (record {
  reads = λ stack. rule_first c.args.self.end SomeBegun c.args.depth stack c.args.rest.now c.if-not-sees_word.ensures.yes (omega arith) ∙ past c.in_ok-begin.ensures.ok _ _ ∙ past c.in_ok-body.ensures.ok _ _;
})
