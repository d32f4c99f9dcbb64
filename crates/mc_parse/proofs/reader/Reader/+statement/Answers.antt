use Rattle.std.proofs.Common.{Option, Some, ◌∙◌, [], ◌∷◌, ◌++◌, None, refl, sym, ap, arith}
use Rattle.mc_parse.specs.Steps.{past, stops, rule_first, by_rule, handed_on, grown, read_same, whole_read, goes_not_on, skips}
use Rattle.std.proofs.lemmas.List.{append-nil}
use Rattle.mc_parse.specs.Views.{body_read}
use Rattle.mc_parse.specs.Only.{statements_by, elsifs_by, else_by, exits_by, last_body_by, arms_by}
use Rattle.mc_parse.specs.Begins.{arm_as_expr}
use Rattle.mc_parse.specs.Deep.{deep_read, deep_refused, too_deep_at, deep_body, deep_body_refused}
use Rattle.mc_tree.specs.Grammar.{CaseStatement, DoBody, ElseBody, ElsePhrase, IfStatement, LastBodyPhrase, LoopStatement, MoreArms, MoreElsifs, MoreExits, MoreStatements, RepeatStatement, StatementsPhrase, Sub, WhileStatement}
use Rattle.mc_tree.specs.declared.statement.Statement.TheViews.{roll-out-Body, roll-Statement, roll-If, roll-While, roll-Repeat, roll-Loop, roll-Arm, roll-Exit, roll-Elsif, rolls-Loop}
use Rattle.mc_tree.specs.declared.statement.Statement.TheOpen.{Statement-F}
use Rattle.mc_tree.specs.declared.statement.Body.{Body}
use Rattle.mc_tree.specs.declared.statement.Elsif.{Elsif}
use Rattle.mc_tree.specs.declared.statement.Exit.{Exit}
use Rattle.mc_tree.specs.declared.tree.After.{After}
use Rattle.mc_parse.proofs.reader.Reader.+statement.Goals as goal

pub body-returns-in_err-first-clause-refused : goal.body-returns-in_err-first-clause-refused
body-returns-in_err-first-clause-refused t c = handed_on c.from_residual.result c.in_err-first.field-0.0 c.from_residual.ensures.1 (record {
  refuses = λ h stack. c.in_err-first.ensures.refused.refuses h (Sub c.args.depth StatementsPhrase ∷ stack);
})

pub body-returns-in_err-more-clause-refused : goal.body-returns-in_err-more-clause-refused
body-returns-in_err-more-clause-refused t c = handed_on c.from_residual-in_err-more.result c.in_err-more.field-0.0 c.from_residual-in_err-more.ensures.1 (record {
  refuses = λ h stack. c.in_ok-first.ensures.ok.reads (Sub c.args.depth StatementsPhrase ∷ stack) ∙ stops c.in_err-more.ensures.refused h _ _;
})

pub body-returns-clause-ok : goal.body-returns-clause-ok
body-returns-clause-ok t c = body_read c.in_ok-first.first.item c.in_ok-more.more.item _ refl (record {
  reads = λ stack. c.in_ok-first.ensures.ok.reads (Sub c.args.depth StatementsPhrase ∷ stack) ∙ past c.in_ok-more.ensures.ok _ _;
})

pub statements-returns-in_err-mark-clause-refused : goal.statements-returns-in_err-mark-clause-refused
statements-returns-in_err-mark-clause-refused t c = handed_on c.from_residual.result c.in_err-mark.field-0.0 c.from_residual.ensures.1 (record {
  refuses = λ h stack. c.loop-self.invariant.read.reads stack ∙ by_rule c.args.self.end MoreStatements c.args.depth stack c.loop-self.left.now _ c.loop-self-test.ensures.yes (omega arith) ∙ stops c.in_err-mark.ensures.refused h _ _;
})

pub statements-returns-in_err-item-clause-refused : goal.statements-returns-in_err-item-clause-refused
statements-returns-in_err-item-clause-refused t c = handed_on c.from_residual-in_err-item.result c.in_err-item.field-0.0 c.from_residual-in_err-item.ensures.1 (record {
  refuses = λ h stack. c.loop-self.invariant.read.reads stack ∙ by_rule c.args.self.end MoreStatements c.args.depth stack c.loop-self.left.now _ c.loop-self-test.ensures.yes (omega arith) ∙ past c.in_ok-mark.ensures.ok _ _ ∙ stops c.in_err-item.ensures.refused h _ _;
})

pub statements-loop-self-preserved : goal.statements-loop-self-preserved
statements-loop-self-preserved t c = record {
  read = record { reads = λ stack. c.loop-self.invariant.read.reads stack ∙ by_rule c.args.self.end MoreStatements c.args.depth stack c.loop-self.left.now _ c.loop-self-test.ensures.yes (omega arith) ∙ past c.in_ok-mark.ensures.ok _ _ ∙ past c.in_ok-item.ensures.ok _ _ ∙ grown _ c.loop-self.items _ _ c.in_ok-push.ensures.ok };
  within = omega (arith, c.in_ok-mark.ensures.shorter, c.in_ok-item.ensures.within);
}

pub statements-returns-clause-ok : goal.statements-returns-clause-ok
statements-returns-clause-ok t c = whole_read c.loop-self.invariant.read [] (goes_not_on statements_by c.loop-self.left.now c.loop-self-test.ensures.no) refl _ (append-nil _)

pub elsifs-returns-in_err-word-clause-refused : goal.elsifs-returns-in_err-word-clause-refused
elsifs-returns-in_err-word-clause-refused t c = handed_on c.from_residual.result c.in_err-word.field-0.0 c.from_residual.ensures.1 (record {
  refuses = λ h stack. c.loop-self.invariant.read.reads stack ∙ by_rule c.args.self.end MoreElsifs c.args.depth stack c.loop-self.left.now _ c.loop-self-test.ensures.yes (omega arith) ∙ stops c.in_err-word.ensures.refused h _ _;
})

pub elsifs-returns-in_err-condition-clause-refused : goal.elsifs-returns-in_err-condition-clause-refused
elsifs-returns-in_err-condition-clause-refused t c = handed_on c.from_residual-in_err-condition.result c.in_err-condition.field-0.0 c.from_residual-in_err-condition.ensures.1 (record {
  refuses = λ h stack. c.loop-self.invariant.read.reads stack ∙ by_rule c.args.self.end MoreElsifs c.args.depth stack c.loop-self.left.now _ c.loop-self-test.ensures.yes (omega arith) ∙ past c.in_ok-word.ensures.ok _ _ ∙ stops c.in_err-condition.ensures.refused h _ _;
})

pub elsifs-returns-in_err-then-clause-refused : goal.elsifs-returns-in_err-then-clause-refused
elsifs-returns-in_err-then-clause-refused t c = handed_on c.from_residual-in_err-then.result c.in_err-then.field-0.0 c.from_residual-in_err-then.ensures.1 (record {
  refuses = λ h stack. c.loop-self.invariant.read.reads stack ∙ by_rule c.args.self.end MoreElsifs c.args.depth stack c.loop-self.left.now _ c.loop-self-test.ensures.yes (omega arith) ∙ past c.in_ok-word.ensures.ok _ _ ∙ past c.in_ok-condition.ensures.ok _ _ ∙ stops c.in_err-then.ensures.refused h _ _;
})

pub elsifs-returns-in_err-body-clause-refused : goal.elsifs-returns-in_err-body-clause-refused
elsifs-returns-in_err-body-clause-refused t c = handed_on c.from_residual-in_err-body.result c.in_err-body.field-0.0 c.from_residual-in_err-body.ensures.1 (record {
  refuses = λ h stack. c.loop-self.invariant.read.reads stack ∙ by_rule c.args.self.end MoreElsifs c.args.depth stack c.loop-self.left.now _ c.loop-self-test.ensures.yes (omega arith) ∙ past c.in_ok-word.ensures.ok _ _ ∙ past c.in_ok-condition.ensures.ok _ _ ∙ past c.in_ok-then.ensures.ok _ _ ∙ stops c.in_err-body.ensures.refused h _ _;
})

pub elsifs-loop-self-preserved : goal.elsifs-loop-self-preserved
elsifs-loop-self-preserved t c = record {
  read = record { reads = λ stack. c.loop-self.invariant.read.reads stack ∙ by_rule c.args.self.end MoreElsifs c.args.depth stack c.loop-self.left.now _ c.loop-self-test.ensures.yes (omega arith) ∙ past c.in_ok-word.ensures.ok _ _ ∙ past c.in_ok-condition.ensures.ok _ _ ∙ past c.in_ok-then.ensures.ok _ _ ∙ past c.in_ok-body.ensures.ok _ _ ∙ grown _ c.loop-self.items _ _ (c.in_ok-push.ensures.ok ∙ ap (λ (z : Elsif). c.loop-self.items ++ z ∷ []) c.elsif_node.ensures ∙ ap (λ (z : Body). c.loop-self.items ++ roll-Elsif (record { word = c.in_ok-word.word.item; condition = c.in_ok-condition.condition.item; then = c.in_ok-then.then.item; body = z }) ∷ []) (sym (roll-out-Body c.in_ok-body.body.item))) };
  within = omega (arith, c.in_ok-word.ensures.shorter, c.in_ok-condition.ensures.shorter, c.in_ok-then.ensures.shorter, c.in_ok-body.ensures.within);
}

pub elsifs-returns-clause-ok : goal.elsifs-returns-clause-ok
elsifs-returns-clause-ok t c = whole_read c.loop-self.invariant.read [] (goes_not_on elsifs_by c.loop-self.left.now c.loop-self-test.ensures.no) refl _ (append-nil _)

pub exits-returns-in_err-when-clause-refused : goal.exits-returns-in_err-when-clause-refused
exits-returns-in_err-when-clause-refused t c = handed_on c.from_residual.result c.in_err-when.field-0.0 c.from_residual.ensures.1 (record {
  refuses = λ h stack. c.loop-self.invariant.read.reads stack ∙ by_rule c.args.self.end MoreExits c.args.depth stack c.loop-self.left.now _ c.loop-self-test.ensures.yes (omega arith) ∙ stops c.in_err-when.ensures.refused h _ _;
})

pub exits-returns-in_err-condition-clause-refused : goal.exits-returns-in_err-condition-clause-refused
exits-returns-in_err-condition-clause-refused t c = handed_on c.from_residual-in_err-condition.result c.in_err-condition.field-0.0 c.from_residual-in_err-condition.ensures.1 (record {
  refuses = λ h stack. c.loop-self.invariant.read.reads stack ∙ by_rule c.args.self.end MoreExits c.args.depth stack c.loop-self.left.now _ c.loop-self-test.ensures.yes (omega arith) ∙ past c.in_ok-when.ensures.ok _ _ ∙ stops c.in_err-condition.ensures.refused h _ _;
})

pub exits-returns-in_err-last-clause-refused : goal.exits-returns-in_err-last-clause-refused
exits-returns-in_err-last-clause-refused t c = handed_on c.from_residual-in_err-last.result c.in_err-last.field-0.0 c.from_residual-in_err-last.ensures.1 (record {
  refuses = λ h stack. c.loop-self.invariant.read.reads stack ∙ by_rule c.args.self.end MoreExits c.args.depth stack c.loop-self.left.now _ c.loop-self-test.ensures.yes (omega arith) ∙ past c.in_ok-when.ensures.ok _ _ ∙ past c.in_ok-condition.ensures.ok _ _ ∙ stops c.in_err-last.ensures.refused h _ _;
})

pub exits-returns-in_err-exit-clause-refused : goal.exits-returns-in_err-exit-clause-refused
exits-returns-in_err-exit-clause-refused t c = handed_on c.from_residual-in_err-exit.result c.in_err-exit.field-0.0 c.from_residual-in_err-exit.ensures.1 (record {
  refuses = λ h stack. c.loop-self.invariant.read.reads stack ∙ by_rule c.args.self.end MoreExits c.args.depth stack c.loop-self.left.now _ c.loop-self-test.ensures.yes (omega arith) ∙ past c.in_ok-when.ensures.ok _ _ ∙ past c.in_ok-condition.ensures.ok _ _ ∙ past c.in_ok-last.ensures.ok _ _ ∙ stops c.in_err-exit.ensures.refused h _ _;
})

pub exits-returns-in_err-body-clause-refused : goal.exits-returns-in_err-body-clause-refused
exits-returns-in_err-body-clause-refused t c = handed_on c.from_residual-in_err-body.result c.in_err-body.field-0.0 c.from_residual-in_err-body.ensures.1 (record {
  refuses = λ h stack. c.loop-self.invariant.read.reads stack ∙ by_rule c.args.self.end MoreExits c.args.depth stack c.loop-self.left.now _ c.loop-self-test.ensures.yes (omega arith) ∙ past c.in_ok-when.ensures.ok _ _ ∙ past c.in_ok-condition.ensures.ok _ _ ∙ past c.in_ok-last.ensures.ok _ _ ∙ past c.in_ok-exit.ensures.ok _ _ ∙ stops c.in_err-body.ensures.refused h _ _;
})

pub exits-loop-self-preserved : goal.exits-loop-self-preserved
exits-loop-self-preserved t c = record {
  read = record { reads = λ stack. c.loop-self.invariant.read.reads stack ∙ by_rule c.args.self.end MoreExits c.args.depth stack c.loop-self.left.now _ c.loop-self-test.ensures.yes (omega arith) ∙ past c.in_ok-when.ensures.ok _ _ ∙ past c.in_ok-condition.ensures.ok _ _ ∙ past c.in_ok-last.ensures.ok _ _ ∙ past c.in_ok-exit.ensures.ok _ _ ∙ past c.in_ok-body.ensures.ok _ _ ∙ grown _ c.loop-self.items _ _ (c.in_ok-push.ensures.ok ∙ ap (λ (z : Exit). c.loop-self.items ++ z ∷ []) c.exit_node.ensures ∙ ap (λ (z : Body). c.loop-self.items ++ roll-Exit (record { when = c.in_ok-when.when.item; condition = c.in_ok-condition.condition.item; last = c.in_ok-last.last.item; exit = c.in_ok-exit.exit.item; body = z }) ∷ []) (sym (roll-out-Body c.in_ok-body.body.item))) };
  within = omega (arith, c.in_ok-when.ensures.shorter, c.in_ok-condition.ensures.shorter, c.in_ok-last.ensures.within, c.in_ok-exit.ensures.shorter, c.in_ok-body.ensures.within);
}

pub exits-returns-clause-ok : goal.exits-returns-clause-ok
exits-returns-clause-ok t c = whole_read c.loop-self.invariant.read [] (goes_not_on exits_by c.loop-self.left.now c.loop-self-test.ensures.no) refl _ (append-nil _)

pub arms-returns-in_err-mark-clause-refused : goal.arms-returns-in_err-mark-clause-refused
arms-returns-in_err-mark-clause-refused t c = handed_on c.from_residual.result c.in_err-mark.field-0.0 c.from_residual.ensures.1 (record {
  refuses = λ h stack. c.loop-self.invariant.read.reads stack ∙ by_rule c.args.self.end MoreArms c.args.depth stack c.loop-self.left.now _ c.loop-self-test.ensures.yes (omega arith) ∙ stops c.in_err-mark.ensures.refused h _ _;
})

pub arms-returns-in_err-item-clause-refused : goal.arms-returns-in_err-item-clause-refused
arms-returns-in_err-item-clause-refused t c = handed_on c.from_residual-in_err-item.result c.in_err-item.field-0.0 c.from_residual-in_err-item.ensures.1 (record {
  refuses = λ h stack. c.loop-self.invariant.read.reads stack ∙ by_rule c.args.self.end MoreArms c.args.depth stack c.loop-self.left.now _ c.loop-self-test.ensures.yes (omega arith) ∙ past c.in_ok-mark.ensures.ok _ _ ∙ stops c.in_err-item.ensures.refused h _ _;
})

pub arms-loop-self-preserved : goal.arms-loop-self-preserved
arms-loop-self-preserved t c = record {
  read = record { reads = λ stack. c.loop-self.invariant.read.reads stack ∙ by_rule c.args.self.end MoreArms c.args.depth stack c.loop-self.left.now _ c.loop-self-test.ensures.yes (omega arith) ∙ past c.in_ok-mark.ensures.ok _ _ ∙ past c.in_ok-item.ensures.ok _ _ ∙ grown _ c.loop-self.items _ _ c.in_ok-push.ensures.ok };
  within = omega (arith, c.in_ok-mark.ensures.shorter, c.in_ok-item.ensures.shorter);
}

pub arms-returns-clause-ok : goal.arms-returns-clause-ok
arms-returns-clause-ok t c = whole_read c.loop-self.invariant.read [] (goes_not_on arms_by c.loop-self.left.now c.loop-self-test.ensures.no) refl _ (append-nil _)

pub choice-returns-in_err-inner-clause-refused : goal.choice-returns-in_err-inner-clause-refused
choice-returns-in_err-inner-clause-refused t c = handed_on c.from_residual.result c.in_err-inner.field-0.0 c.from_residual.ensures.1 (too_deep_at IfStatement _ c.requires.first (omega (arith, c.in_err-inner.ensures.refused.1)) c.place.ensures c.in_err-inner.ensures.refused.0)

pub choice-returns-in_err-word-clause-refused : goal.choice-returns-in_err-word-clause-refused
choice-returns-in_err-word-clause-refused t c = handed_on c.from_residual-in_err-word.result c.in_err-word.field-0.0 c.from_residual-in_err-word.ensures.1 (record {
  refuses = λ h stack. rule_first c.args.self.end IfStatement c.args.depth stack c.args.rest.now c.requires.first (omega (arith, c.in_ok-inner.ensures.ok.0, c.in_ok-inner.ensures.ok.1)) ∙ stops c.in_err-word.ensures.refused h _ _;
})

pub choice-returns-in_err-condition-clause-refused : goal.choice-returns-in_err-condition-clause-refused
choice-returns-in_err-condition-clause-refused t c = handed_on c.from_residual-in_err-condition.result c.in_err-condition.field-0.0 c.from_residual-in_err-condition.ensures.1 (record {
  refuses = λ h stack. rule_first c.args.self.end IfStatement c.args.depth stack c.args.rest.now c.requires.first (omega (arith, c.in_ok-inner.ensures.ok.0, c.in_ok-inner.ensures.ok.1)) ∙ past c.in_ok-word.ensures.ok _ _ ∙ stops (deep_refused c.in_ok-inner.ensures.ok.0 c.in_err-condition.ensures.refused) h _ _;
})

pub choice-returns-in_err-then-clause-refused : goal.choice-returns-in_err-then-clause-refused
choice-returns-in_err-then-clause-refused t c = handed_on c.from_residual-in_err-then.result c.in_err-then.field-0.0 c.from_residual-in_err-then.ensures.1 (record {
  refuses = λ h stack. rule_first c.args.self.end IfStatement c.args.depth stack c.args.rest.now c.requires.first (omega (arith, c.in_ok-inner.ensures.ok.0, c.in_ok-inner.ensures.ok.1)) ∙ past c.in_ok-word.ensures.ok _ _ ∙ past (deep_read c.in_ok-inner.ensures.ok.0 c.in_ok-condition.ensures.ok) _ _ ∙ stops c.in_err-then.ensures.refused h _ _;
})

pub choice-returns-in_err-body-clause-refused : goal.choice-returns-in_err-body-clause-refused
choice-returns-in_err-body-clause-refused t c = handed_on c.from_residual-in_err-body.result c.in_err-body.field-0.0 c.from_residual-in_err-body.ensures.1 (record {
  refuses = λ h stack. rule_first c.args.self.end IfStatement c.args.depth stack c.args.rest.now c.requires.first (omega (arith, c.in_ok-inner.ensures.ok.0, c.in_ok-inner.ensures.ok.1)) ∙ past c.in_ok-word.ensures.ok _ _ ∙ past (deep_read c.in_ok-inner.ensures.ok.0 c.in_ok-condition.ensures.ok) _ _ ∙ past c.in_ok-then.ensures.ok _ _ ∙ stops (deep_body_refused c.in_ok-inner.ensures.ok.0 c.in_err-body.ensures.refused) h _ _;
})

pub choice-returns-in_err-elsifs-clause-refused : goal.choice-returns-in_err-elsifs-clause-refused
choice-returns-in_err-elsifs-clause-refused t c = handed_on c.from_residual-in_err-elsifs.result c.in_err-elsifs.field-0.0 c.from_residual-in_err-elsifs.ensures.1 (record {
  refuses = λ h stack. rule_first c.args.self.end IfStatement c.args.depth stack c.args.rest.now c.requires.first (omega (arith, c.in_ok-inner.ensures.ok.0, c.in_ok-inner.ensures.ok.1)) ∙ past c.in_ok-word.ensures.ok _ _ ∙ past (deep_read c.in_ok-inner.ensures.ok.0 c.in_ok-condition.ensures.ok) _ _ ∙ past c.in_ok-then.ensures.ok _ _ ∙ past (deep_body c.in_ok-body.body.item c.in_ok-inner.ensures.ok.0 c.in_ok-body.ensures.ok) _ _ ∙ stops (deep_refused c.in_ok-inner.ensures.ok.0 c.in_err-elsifs.ensures.refused) h _ _;
})

pub choice-returns-in_err-otherwise-clause-refused : goal.choice-returns-in_err-otherwise-clause-refused
choice-returns-in_err-otherwise-clause-refused t c = handed_on c.from_residual-in_err-otherwise.result c.in_err-otherwise.field-0.0 c.from_residual-in_err-otherwise.ensures.1 (record {
  refuses = λ h stack. rule_first c.args.self.end IfStatement c.args.depth stack c.args.rest.now c.requires.first (omega (arith, c.in_ok-inner.ensures.ok.0, c.in_ok-inner.ensures.ok.1)) ∙ past c.in_ok-word.ensures.ok _ _ ∙ past (deep_read c.in_ok-inner.ensures.ok.0 c.in_ok-condition.ensures.ok) _ _ ∙ past c.in_ok-then.ensures.ok _ _ ∙ past (deep_body c.in_ok-body.body.item c.in_ok-inner.ensures.ok.0 c.in_ok-body.ensures.ok) _ _ ∙ past (deep_read c.in_ok-inner.ensures.ok.0 c.in_ok-elsifs.ensures.ok) _ _ ∙ stops (deep_refused c.in_ok-inner.ensures.ok.0 c.in_err-otherwise.ensures.refused) h _ _;
})

pub choice-returns-in_err-end-clause-refused : goal.choice-returns-in_err-end-clause-refused
choice-returns-in_err-end-clause-refused t c = handed_on c.from_residual-in_err-end.result c.in_err-end.field-0.0 c.from_residual-in_err-end.ensures.1 (record {
  refuses = λ h stack. rule_first c.args.self.end IfStatement c.args.depth stack c.args.rest.now c.requires.first (omega (arith, c.in_ok-inner.ensures.ok.0, c.in_ok-inner.ensures.ok.1)) ∙ past c.in_ok-word.ensures.ok _ _ ∙ past (deep_read c.in_ok-inner.ensures.ok.0 c.in_ok-condition.ensures.ok) _ _ ∙ past c.in_ok-then.ensures.ok _ _ ∙ past (deep_body c.in_ok-body.body.item c.in_ok-inner.ensures.ok.0 c.in_ok-body.ensures.ok) _ _ ∙ past (deep_read c.in_ok-inner.ensures.ok.0 c.in_ok-elsifs.ensures.ok) _ _ ∙ past (deep_read c.in_ok-inner.ensures.ok.0 c.in_ok-otherwise.ensures.ok) _ _ ∙ stops c.in_err-end.ensures.refused h _ _;
})

pub choice-returns-clause-within : goal.choice-returns-clause-within
choice-returns-clause-within t c = omega (arith, c.in_ok-word.ensures.shorter, c.in_ok-condition.ensures.shorter, c.in_ok-then.ensures.shorter, c.in_ok-body.ensures.within, c.in_ok-elsifs.ensures.within, c.in_ok-otherwise.ensures.within, c.in_ok-end.ensures.shorter)

pub choice-returns-clause-ok : goal.choice-returns-clause-ok
choice-returns-clause-ok t c = read_same (ap (λ (z : Body). roll-Statement (Statement-F.If (roll-If (record { word = c.in_ok-word.word.item; condition = c.in_ok-condition.condition.item; then = c.in_ok-then.then.item; body = z; elsifs = c.in_ok-elsifs.elsifs.item; otherwise = c.in_ok-otherwise.otherwise.item; end = c.in_ok-end.end.item })))) (roll-out-Body c.in_ok-body.body.item) ∙ sym c.if_node.ensures) (record {
  reads = λ stack. rule_first c.args.self.end IfStatement c.args.depth stack c.args.rest.now c.requires.first (omega (arith, c.in_ok-inner.ensures.ok.0, c.in_ok-inner.ensures.ok.1)) ∙ past c.in_ok-word.ensures.ok _ _ ∙ past (deep_read c.in_ok-inner.ensures.ok.0 c.in_ok-condition.ensures.ok) _ _ ∙ past c.in_ok-then.ensures.ok _ _ ∙ past (deep_body c.in_ok-body.body.item c.in_ok-inner.ensures.ok.0 c.in_ok-body.ensures.ok) _ _ ∙ past (deep_read c.in_ok-inner.ensures.ok.0 c.in_ok-elsifs.ensures.ok) _ _ ∙ past (deep_read c.in_ok-inner.ensures.ok.0 c.in_ok-otherwise.ensures.ok) _ _ ∙ past c.in_ok-end.ensures.ok _ _;
})

pub while_loop-returns-in_err-inner-clause-refused : goal.while_loop-returns-in_err-inner-clause-refused
while_loop-returns-in_err-inner-clause-refused t c = handed_on c.from_residual.result c.in_err-inner.field-0.0 c.from_residual.ensures.1 (too_deep_at WhileStatement _ c.requires.first (omega (arith, c.in_err-inner.ensures.refused.1)) c.place.ensures c.in_err-inner.ensures.refused.0)

pub while_loop-returns-in_err-word-clause-refused : goal.while_loop-returns-in_err-word-clause-refused
while_loop-returns-in_err-word-clause-refused t c = handed_on c.from_residual-in_err-word.result c.in_err-word.field-0.0 c.from_residual-in_err-word.ensures.1 (record {
  refuses = λ h stack. rule_first c.args.self.end WhileStatement c.args.depth stack c.args.rest.now c.requires.first (omega (arith, c.in_ok-inner.ensures.ok.0, c.in_ok-inner.ensures.ok.1)) ∙ stops c.in_err-word.ensures.refused h _ _;
})

pub while_loop-returns-in_err-condition-clause-refused : goal.while_loop-returns-in_err-condition-clause-refused
while_loop-returns-in_err-condition-clause-refused t c = handed_on c.from_residual-in_err-condition.result c.in_err-condition.field-0.0 c.from_residual-in_err-condition.ensures.1 (record {
  refuses = λ h stack. rule_first c.args.self.end WhileStatement c.args.depth stack c.args.rest.now c.requires.first (omega (arith, c.in_ok-inner.ensures.ok.0, c.in_ok-inner.ensures.ok.1)) ∙ past c.in_ok-word.ensures.ok _ _ ∙ stops (deep_refused c.in_ok-inner.ensures.ok.0 c.in_err-condition.ensures.refused) h _ _;
})

pub while_loop-returns-in_err-do_-clause-refused : goal.while_loop-returns-in_err-do_-clause-refused
while_loop-returns-in_err-do_-clause-refused t c = handed_on c.from_residual-in_err-do_.result c.in_err-do_.field-0.0 c.from_residual-in_err-do_.ensures.1 (record {
  refuses = λ h stack. rule_first c.args.self.end WhileStatement c.args.depth stack c.args.rest.now c.requires.first (omega (arith, c.in_ok-inner.ensures.ok.0, c.in_ok-inner.ensures.ok.1)) ∙ past c.in_ok-word.ensures.ok _ _ ∙ past (deep_read c.in_ok-inner.ensures.ok.0 c.in_ok-condition.ensures.ok) _ _ ∙ stops c.in_err-do_.ensures.refused h _ _;
})

pub while_loop-returns-in_err-body-clause-refused : goal.while_loop-returns-in_err-body-clause-refused
while_loop-returns-in_err-body-clause-refused t c = handed_on c.from_residual-in_err-body.result c.in_err-body.field-0.0 c.from_residual-in_err-body.ensures.1 (record {
  refuses = λ h stack. rule_first c.args.self.end WhileStatement c.args.depth stack c.args.rest.now c.requires.first (omega (arith, c.in_ok-inner.ensures.ok.0, c.in_ok-inner.ensures.ok.1)) ∙ past c.in_ok-word.ensures.ok _ _ ∙ past (deep_read c.in_ok-inner.ensures.ok.0 c.in_ok-condition.ensures.ok) _ _ ∙ past c.in_ok-do_.ensures.ok _ _ ∙ stops (deep_body_refused c.in_ok-inner.ensures.ok.0 c.in_err-body.ensures.refused) h _ _;
})

pub while_loop-returns-in_err-end-clause-refused : goal.while_loop-returns-in_err-end-clause-refused
while_loop-returns-in_err-end-clause-refused t c = handed_on c.from_residual-in_err-end.result c.in_err-end.field-0.0 c.from_residual-in_err-end.ensures.1 (record {
  refuses = λ h stack. rule_first c.args.self.end WhileStatement c.args.depth stack c.args.rest.now c.requires.first (omega (arith, c.in_ok-inner.ensures.ok.0, c.in_ok-inner.ensures.ok.1)) ∙ past c.in_ok-word.ensures.ok _ _ ∙ past (deep_read c.in_ok-inner.ensures.ok.0 c.in_ok-condition.ensures.ok) _ _ ∙ past c.in_ok-do_.ensures.ok _ _ ∙ past (deep_body c.in_ok-body.body.item c.in_ok-inner.ensures.ok.0 c.in_ok-body.ensures.ok) _ _ ∙ stops c.in_err-end.ensures.refused h _ _;
})

pub while_loop-returns-clause-within : goal.while_loop-returns-clause-within
while_loop-returns-clause-within t c = omega (arith, c.in_ok-word.ensures.shorter, c.in_ok-condition.ensures.shorter, c.in_ok-do_.ensures.shorter, c.in_ok-body.ensures.within, c.in_ok-end.ensures.shorter)

pub while_loop-returns-clause-ok : goal.while_loop-returns-clause-ok
while_loop-returns-clause-ok t c = read_same (ap (λ (z : Body). roll-Statement (Statement-F.While (roll-While (record { word = c.in_ok-word.word.item; condition = c.in_ok-condition.condition.item; do_ = c.in_ok-do_.do_.item; body = z; end = c.in_ok-end.end.item })))) (roll-out-Body c.in_ok-body.body.item) ∙ sym c.while_node.ensures) (record {
  reads = λ stack. rule_first c.args.self.end WhileStatement c.args.depth stack c.args.rest.now c.requires.first (omega (arith, c.in_ok-inner.ensures.ok.0, c.in_ok-inner.ensures.ok.1)) ∙ past c.in_ok-word.ensures.ok _ _ ∙ past (deep_read c.in_ok-inner.ensures.ok.0 c.in_ok-condition.ensures.ok) _ _ ∙ past c.in_ok-do_.ensures.ok _ _ ∙ past (deep_body c.in_ok-body.body.item c.in_ok-inner.ensures.ok.0 c.in_ok-body.ensures.ok) _ _ ∙ past c.in_ok-end.ensures.ok _ _;
})

pub repeat-returns-in_err-inner-clause-refused : goal.repeat-returns-in_err-inner-clause-refused
repeat-returns-in_err-inner-clause-refused t c = handed_on c.from_residual.result c.in_err-inner.field-0.0 c.from_residual.ensures.1 (too_deep_at RepeatStatement _ c.requires.first (omega (arith, c.in_err-inner.ensures.refused.1)) c.place.ensures c.in_err-inner.ensures.refused.0)

pub repeat-returns-in_err-word-clause-refused : goal.repeat-returns-in_err-word-clause-refused
repeat-returns-in_err-word-clause-refused t c = handed_on c.from_residual-in_err-word.result c.in_err-word.field-0.0 c.from_residual-in_err-word.ensures.1 (record {
  refuses = λ h stack. rule_first c.args.self.end RepeatStatement c.args.depth stack c.args.rest.now c.requires.first (omega (arith, c.in_ok-inner.ensures.ok.0, c.in_ok-inner.ensures.ok.1)) ∙ stops c.in_err-word.ensures.refused h _ _;
})

pub repeat-returns-in_err-body-clause-refused : goal.repeat-returns-in_err-body-clause-refused
repeat-returns-in_err-body-clause-refused t c = handed_on c.from_residual-in_err-body.result c.in_err-body.field-0.0 c.from_residual-in_err-body.ensures.1 (record {
  refuses = λ h stack. rule_first c.args.self.end RepeatStatement c.args.depth stack c.args.rest.now c.requires.first (omega (arith, c.in_ok-inner.ensures.ok.0, c.in_ok-inner.ensures.ok.1)) ∙ past c.in_ok-word.ensures.ok _ _ ∙ stops (deep_body_refused c.in_ok-inner.ensures.ok.0 c.in_err-body.ensures.refused) h _ _;
})

pub repeat-returns-in_err-until-clause-refused : goal.repeat-returns-in_err-until-clause-refused
repeat-returns-in_err-until-clause-refused t c = handed_on c.from_residual-in_err-until.result c.in_err-until.field-0.0 c.from_residual-in_err-until.ensures.1 (record {
  refuses = λ h stack. rule_first c.args.self.end RepeatStatement c.args.depth stack c.args.rest.now c.requires.first (omega (arith, c.in_ok-inner.ensures.ok.0, c.in_ok-inner.ensures.ok.1)) ∙ past c.in_ok-word.ensures.ok _ _ ∙ past (deep_body c.in_ok-body.body.item c.in_ok-inner.ensures.ok.0 c.in_ok-body.ensures.ok) _ _ ∙ stops c.in_err-until.ensures.refused h _ _;
})

pub repeat-returns-in_err-condition-clause-refused : goal.repeat-returns-in_err-condition-clause-refused
repeat-returns-in_err-condition-clause-refused t c = handed_on c.from_residual-in_err-condition.result c.in_err-condition.field-0.0 c.from_residual-in_err-condition.ensures.1 (record {
  refuses = λ h stack. rule_first c.args.self.end RepeatStatement c.args.depth stack c.args.rest.now c.requires.first (omega (arith, c.in_ok-inner.ensures.ok.0, c.in_ok-inner.ensures.ok.1)) ∙ past c.in_ok-word.ensures.ok _ _ ∙ past (deep_body c.in_ok-body.body.item c.in_ok-inner.ensures.ok.0 c.in_ok-body.ensures.ok) _ _ ∙ past c.in_ok-until.ensures.ok _ _ ∙ stops (deep_refused c.in_ok-inner.ensures.ok.0 c.in_err-condition.ensures.refused) h _ _;
})

pub repeat-returns-clause-within : goal.repeat-returns-clause-within
repeat-returns-clause-within t c = omega (arith, c.in_ok-word.ensures.shorter, c.in_ok-body.ensures.within, c.in_ok-until.ensures.shorter, c.in_ok-condition.ensures.shorter)

pub repeat-returns-clause-ok : goal.repeat-returns-clause-ok
repeat-returns-clause-ok t c = read_same (ap (λ (z : Body). roll-Statement (Statement-F.Repeat (roll-Repeat (record { word = c.in_ok-word.word.item; body = z; until = c.in_ok-until.until.item; condition = c.in_ok-condition.condition.item })))) (roll-out-Body c.in_ok-body.body.item) ∙ sym c.repeat_node.ensures) (record {
  reads = λ stack. rule_first c.args.self.end RepeatStatement c.args.depth stack c.args.rest.now c.requires.first (omega (arith, c.in_ok-inner.ensures.ok.0, c.in_ok-inner.ensures.ok.1)) ∙ past c.in_ok-word.ensures.ok _ _ ∙ past (deep_body c.in_ok-body.body.item c.in_ok-inner.ensures.ok.0 c.in_ok-body.ensures.ok) _ _ ∙ past c.in_ok-until.ensures.ok _ _ ∙ past (deep_read c.in_ok-inner.ensures.ok.0 c.in_ok-condition.ensures.ok) _ _;
})

pub plain_loop-returns-in_err-inner-clause-refused : goal.plain_loop-returns-in_err-inner-clause-refused
plain_loop-returns-in_err-inner-clause-refused t c = handed_on c.from_residual.result c.in_err-inner.field-0.0 c.from_residual.ensures.1 (too_deep_at LoopStatement _ c.requires.first (omega (arith, c.in_err-inner.ensures.refused.1)) c.place.ensures c.in_err-inner.ensures.refused.0)

pub plain_loop-returns-in_err-word-clause-refused : goal.plain_loop-returns-in_err-word-clause-refused
plain_loop-returns-in_err-word-clause-refused t c = handed_on c.from_residual-in_err-word.result c.in_err-word.field-0.0 c.from_residual-in_err-word.ensures.1 (record {
  refuses = λ h stack. rule_first c.args.self.end LoopStatement c.args.depth stack c.args.rest.now c.requires.first (omega (arith, c.in_ok-inner.ensures.ok.0, c.in_ok-inner.ensures.ok.1)) ∙ stops c.in_err-word.ensures.refused h _ _;
})

pub plain_loop-returns-in_err-body-clause-refused : goal.plain_loop-returns-in_err-body-clause-refused
plain_loop-returns-in_err-body-clause-refused t c = handed_on c.from_residual-in_err-body.result c.in_err-body.field-0.0 c.from_residual-in_err-body.ensures.1 (record {
  refuses = λ h stack. rule_first c.args.self.end LoopStatement c.args.depth stack c.args.rest.now c.requires.first (omega (arith, c.in_ok-inner.ensures.ok.0, c.in_ok-inner.ensures.ok.1)) ∙ past c.in_ok-word.ensures.ok _ _ ∙ stops (deep_body_refused c.in_ok-inner.ensures.ok.0 c.in_err-body.ensures.refused) h _ _;
})

pub plain_loop-returns-in_err-exits-clause-refused : goal.plain_loop-returns-in_err-exits-clause-refused
plain_loop-returns-in_err-exits-clause-refused t c = handed_on c.from_residual-in_err-exits.result c.in_err-exits.field-0.0 c.from_residual-in_err-exits.ensures.1 (record {
  refuses = λ h stack. rule_first c.args.self.end LoopStatement c.args.depth stack c.args.rest.now c.requires.first (omega (arith, c.in_ok-inner.ensures.ok.0, c.in_ok-inner.ensures.ok.1)) ∙ past c.in_ok-word.ensures.ok _ _ ∙ past (deep_body c.in_ok-body.body.item c.in_ok-inner.ensures.ok.0 c.in_ok-body.ensures.ok) _ _ ∙ stops (deep_refused c.in_ok-inner.ensures.ok.0 c.in_err-exits.ensures.refused) h _ _;
})

pub plain_loop-returns-in_err-end-clause-refused : goal.plain_loop-returns-in_err-end-clause-refused
plain_loop-returns-in_err-end-clause-refused t c = handed_on c.from_residual-in_err-end.result c.in_err-end.field-0.0 c.from_residual-in_err-end.ensures.1 (record {
  refuses = λ h stack. rule_first c.args.self.end LoopStatement c.args.depth stack c.args.rest.now c.requires.first (omega (arith, c.in_ok-inner.ensures.ok.0, c.in_ok-inner.ensures.ok.1)) ∙ past c.in_ok-word.ensures.ok _ _ ∙ past (deep_body c.in_ok-body.body.item c.in_ok-inner.ensures.ok.0 c.in_ok-body.ensures.ok) _ _ ∙ past (deep_read c.in_ok-inner.ensures.ok.0 c.in_ok-exits.ensures.ok) _ _ ∙ stops c.in_err-end.ensures.refused h _ _;
})

pub plain_loop-returns-clause-within : goal.plain_loop-returns-clause-within
plain_loop-returns-clause-within t c = omega (arith, c.in_ok-word.ensures.shorter, c.in_ok-body.ensures.within, c.in_ok-exits.ensures.within, c.in_ok-end.ensures.shorter)

pub plain_loop-returns-clause-ok : goal.plain_loop-returns-clause-ok
plain_loop-returns-clause-ok t c = read_same (ap (λ (z : Body). roll-Statement (Statement-F.Loop (roll-Loop (record { word = c.in_ok-word.word.item; body = z; exits = c.in_ok-exits.exits.item; end = c.in_ok-end.end.item })))) (roll-out-Body c.in_ok-body.body.item) ∙ rolls-Loop _) (record {
  reads = λ stack. rule_first c.args.self.end LoopStatement c.args.depth stack c.args.rest.now c.requires.first (omega (arith, c.in_ok-inner.ensures.ok.0, c.in_ok-inner.ensures.ok.1)) ∙ past c.in_ok-word.ensures.ok _ _ ∙ past (deep_body c.in_ok-body.body.item c.in_ok-inner.ensures.ok.0 c.in_ok-body.ensures.ok) _ _ ∙ past (deep_read c.in_ok-inner.ensures.ok.0 c.in_ok-exits.ensures.ok) _ _ ∙ past c.in_ok-end.ensures.ok _ _;
})

pub case-returns-in_err-inner-clause-refused : goal.case-returns-in_err-inner-clause-refused
case-returns-in_err-inner-clause-refused t c = handed_on c.from_residual.result c.in_err-inner.field-0.0 c.from_residual.ensures.1 (too_deep_at CaseStatement _ c.requires.first (omega (arith, c.in_err-inner.ensures.refused.1)) c.place.ensures c.in_err-inner.ensures.refused.0)

pub case-returns-in_err-word-clause-refused : goal.case-returns-in_err-word-clause-refused
case-returns-in_err-word-clause-refused t c = handed_on c.from_residual-in_err-word.result c.in_err-word.field-0.0 c.from_residual-in_err-word.ensures.1 (record {
  refuses = λ h stack. rule_first c.args.self.end CaseStatement c.args.depth stack c.args.rest.now c.requires.first (omega (arith, c.in_ok-inner.ensures.ok.0, c.in_ok-inner.ensures.ok.1)) ∙ stops c.in_err-word.ensures.refused h _ _;
})

pub case-returns-in_err-choice-clause-refused : goal.case-returns-in_err-choice-clause-refused
case-returns-in_err-choice-clause-refused t c = handed_on c.from_residual-in_err-choice.result c.in_err-choice.field-0.0 c.from_residual-in_err-choice.ensures.1 (record {
  refuses = λ h stack. rule_first c.args.self.end CaseStatement c.args.depth stack c.args.rest.now c.requires.first (omega (arith, c.in_ok-inner.ensures.ok.0, c.in_ok-inner.ensures.ok.1)) ∙ past c.in_ok-word.ensures.ok _ _ ∙ stops (deep_refused c.in_ok-inner.ensures.ok.0 c.in_err-choice.ensures.refused) h _ _;
})

pub case-returns-in_err-of-clause-refused : goal.case-returns-in_err-of-clause-refused
case-returns-in_err-of-clause-refused t c = handed_on c.from_residual-in_err-of.result c.in_err-of.field-0.0 c.from_residual-in_err-of.ensures.1 (record {
  refuses = λ h stack. rule_first c.args.self.end CaseStatement c.args.depth stack c.args.rest.now c.requires.first (omega (arith, c.in_ok-inner.ensures.ok.0, c.in_ok-inner.ensures.ok.1)) ∙ past c.in_ok-word.ensures.ok _ _ ∙ past (deep_read c.in_ok-inner.ensures.ok.0 c.in_ok-choice.ensures.ok) _ _ ∙ stops c.in_err-of.ensures.refused h _ _;
})

pub case-returns-in_err-first-clause-refused : goal.case-returns-in_err-first-clause-refused
case-returns-in_err-first-clause-refused t c = handed_on c.from_residual-in_err-first.result c.in_err-first.field-0.0 c.from_residual-in_err-first.ensures.1 (record {
  refuses = λ h stack. rule_first c.args.self.end CaseStatement c.args.depth stack c.args.rest.now c.requires.first (omega (arith, c.in_ok-inner.ensures.ok.0, c.in_ok-inner.ensures.ok.1)) ∙ past c.in_ok-word.ensures.ok _ _ ∙ past (deep_read c.in_ok-inner.ensures.ok.0 c.in_ok-choice.ensures.ok) _ _ ∙ past c.in_ok-of.ensures.ok _ _ ∙ stops (deep_refused c.in_ok-inner.ensures.ok.0 c.in_err-first.ensures.refused) h _ _;
})

pub case-returns-in_err-more-clause-refused : goal.case-returns-in_err-more-clause-refused
case-returns-in_err-more-clause-refused t c = handed_on c.from_residual-in_err-more.result c.in_err-more.field-0.0 c.from_residual-in_err-more.ensures.1 (record {
  refuses = λ h stack. rule_first c.args.self.end CaseStatement c.args.depth stack c.args.rest.now c.requires.first (omega (arith, c.in_ok-inner.ensures.ok.0, c.in_ok-inner.ensures.ok.1)) ∙ past c.in_ok-word.ensures.ok _ _ ∙ past (deep_read c.in_ok-inner.ensures.ok.0 c.in_ok-choice.ensures.ok) _ _ ∙ past c.in_ok-of.ensures.ok _ _ ∙ past (deep_read c.in_ok-inner.ensures.ok.0 c.in_ok-first.ensures.ok) _ _ ∙ stops (deep_refused c.in_ok-inner.ensures.ok.0 c.in_err-more.ensures.refused) h _ _;
})

pub case-returns-in_err-end-clause-refused : goal.case-returns-in_err-end-clause-refused
case-returns-in_err-end-clause-refused t c = handed_on c.from_residual-in_err-end.result c.in_err-end.field-0.0 c.from_residual-in_err-end.ensures.1 (record {
  refuses = λ h stack. rule_first c.args.self.end CaseStatement c.args.depth stack c.args.rest.now c.requires.first (omega (arith, c.in_ok-inner.ensures.ok.0, c.in_ok-inner.ensures.ok.1)) ∙ past c.in_ok-word.ensures.ok _ _ ∙ past (deep_read c.in_ok-inner.ensures.ok.0 c.in_ok-choice.ensures.ok) _ _ ∙ past c.in_ok-of.ensures.ok _ _ ∙ past (deep_read c.in_ok-inner.ensures.ok.0 c.in_ok-first.ensures.ok) _ _ ∙ past (deep_read c.in_ok-inner.ensures.ok.0 c.in_ok-more.ensures.ok) _ _ ∙ stops c.in_err-end.ensures.refused h _ _;
})

pub case-returns-clause-within : goal.case-returns-clause-within
case-returns-clause-within t c = omega (arith, c.in_ok-word.ensures.shorter, c.in_ok-choice.ensures.shorter, c.in_ok-of.ensures.shorter, c.in_ok-first.ensures.shorter, c.in_ok-more.ensures.within, c.in_ok-end.ensures.shorter)

pub case-returns-clause-ok : goal.case-returns-clause-ok
case-returns-clause-ok t c = read_same (sym c.case_node.ensures) (record {
  reads = λ stack. rule_first c.args.self.end CaseStatement c.args.depth stack c.args.rest.now c.requires.first (omega (arith, c.in_ok-inner.ensures.ok.0, c.in_ok-inner.ensures.ok.1)) ∙ past c.in_ok-word.ensures.ok _ _ ∙ past (deep_read c.in_ok-inner.ensures.ok.0 c.in_ok-choice.ensures.ok) _ _ ∙ past c.in_ok-of.ensures.ok _ _ ∙ past (deep_read c.in_ok-inner.ensures.ok.0 c.in_ok-first.ensures.ok) _ _ ∙ past (deep_read c.in_ok-inner.ensures.ok.0 c.in_ok-more.ensures.ok) _ _ ∙ past c.in_ok-end.ensures.ok _ _;
})

pub arm-returns-in_err-first-clause-refused : goal.arm-returns-in_err-first-clause-refused
arm-returns-in_err-first-clause-refused t c = handed_on c.from_residual.result c.in_err-first.field-0.0 c.from_residual.ensures.1 (record {
  refuses = λ h stack. arm_as_expr c.args.self.end c.args.depth stack c.args.rest.now ∙ stops c.in_err-first.ensures.refused h _ _;
})

pub arm-returns-in_err-more-clause-refused : goal.arm-returns-in_err-more-clause-refused
arm-returns-in_err-more-clause-refused t c = handed_on c.from_residual-in_err-more.result c.in_err-more.field-0.0 c.from_residual-in_err-more.ensures.1 (record {
  refuses = λ h stack. arm_as_expr c.args.self.end c.args.depth stack c.args.rest.now ∙ past c.in_ok-first.ensures.ok _ _ ∙ stops c.in_err-more.ensures.refused h _ _;
})

pub arm-returns-in_err-colon-clause-refused : goal.arm-returns-in_err-colon-clause-refused
arm-returns-in_err-colon-clause-refused t c = handed_on c.from_residual-in_err-colon.result c.in_err-colon.field-0.0 c.from_residual-in_err-colon.ensures.1 (record {
  refuses = λ h stack. arm_as_expr c.args.self.end c.args.depth stack c.args.rest.now ∙ past c.in_ok-first.ensures.ok _ _ ∙ past c.in_ok-more.ensures.ok _ _ ∙ stops c.in_err-colon.ensures.refused h _ _;
})

pub arm-returns-in_err-begin-clause-refused : goal.arm-returns-in_err-begin-clause-refused
arm-returns-in_err-begin-clause-refused t c = handed_on c.from_residual-in_err-begin.result c.in_err-begin.field-0.0 c.from_residual-in_err-begin.ensures.1 (record {
  refuses = λ h stack. arm_as_expr c.args.self.end c.args.depth stack c.args.rest.now ∙ past c.in_ok-first.ensures.ok _ _ ∙ past c.in_ok-more.ensures.ok _ _ ∙ past c.in_ok-colon.ensures.ok _ _ ∙ stops c.in_err-begin.ensures.refused h _ _;
})

pub arm-returns-in_err-body-clause-refused : goal.arm-returns-in_err-body-clause-refused
arm-returns-in_err-body-clause-refused t c = handed_on c.from_residual-in_err-body.result c.in_err-body.field-0.0 c.from_residual-in_err-body.ensures.1 (record {
  refuses = λ h stack. arm_as_expr c.args.self.end c.args.depth stack c.args.rest.now ∙ past c.in_ok-first.ensures.ok _ _ ∙ past c.in_ok-more.ensures.ok _ _ ∙ past c.in_ok-colon.ensures.ok _ _ ∙ past c.in_ok-begin.ensures.ok _ _ ∙ stops c.in_err-body.ensures.refused h _ _;
})

pub arm-returns-in_err-end-clause-refused : goal.arm-returns-in_err-end-clause-refused
arm-returns-in_err-end-clause-refused t c = handed_on c.from_residual-in_err-end.result c.in_err-end.field-0.0 c.from_residual-in_err-end.ensures.1 (record {
  refuses = λ h stack. arm_as_expr c.args.self.end c.args.depth stack c.args.rest.now ∙ past c.in_ok-first.ensures.ok _ _ ∙ past c.in_ok-more.ensures.ok _ _ ∙ past c.in_ok-colon.ensures.ok _ _ ∙ past c.in_ok-begin.ensures.ok _ _ ∙ past c.in_ok-body.ensures.ok _ _ ∙ stops c.in_err-end.ensures.refused h _ _;
})

pub arm-returns-clause-shorter : goal.arm-returns-clause-shorter
arm-returns-clause-shorter t c = omega (arith, c.in_ok-first.ensures.shorter, c.in_ok-more.ensures.within, c.in_ok-colon.ensures.shorter, c.in_ok-begin.ensures.shorter, c.in_ok-body.ensures.within, c.in_ok-end.ensures.shorter)

pub arm-returns-clause-ok : goal.arm-returns-clause-ok
arm-returns-clause-ok t c = read_same (ap (λ (z : Body). roll-Arm (record { first = c.in_ok-first.first.item; more = c.in_ok-more.more.item; colon = c.in_ok-colon.colon.item; begin = c.in_ok-begin.begin.item; body = z; end = c.in_ok-end.end.item })) (roll-out-Body c.in_ok-body.body.item) ∙ sym c.arm_node.ensures) (record {
  reads = λ stack. arm_as_expr c.args.self.end c.args.depth stack c.args.rest.now ∙ past c.in_ok-first.ensures.ok _ _ ∙ past c.in_ok-more.ensures.ok _ _ ∙ past c.in_ok-colon.ensures.ok _ _ ∙ past c.in_ok-begin.ensures.ok _ _ ∙ past c.in_ok-body.ensures.ok _ _ ∙ past c.in_ok-end.ensures.ok _ _;
})

pub otherwise-returns-then-not-sees_word-clause-ok : goal.otherwise-returns-then-not-sees_word-clause-ok
otherwise-returns-then-not-sees_word-clause-ok t c = skips c.args.self.end ElsePhrase None c.args.depth c.args.rest.now (goes_not_on else_by c.args.rest.now c.if-not-sees_word.ensures.no) refl

pub otherwise-returns-in_err-mark-clause-refused : goal.otherwise-returns-in_err-mark-clause-refused
otherwise-returns-in_err-mark-clause-refused t c = handed_on c.from_residual.result c.in_err-mark.field-0.0 c.from_residual.ensures.1 (record {
  refuses = λ h stack. rule_first c.args.self.end ElseBody c.args.depth stack c.args.rest.now c.if-not-sees_word.ensures.yes (omega arith) ∙ stops c.in_err-mark.ensures.refused h _ _;
})

pub otherwise-returns-in_err-body-clause-refused : goal.otherwise-returns-in_err-body-clause-refused
otherwise-returns-in_err-body-clause-refused t c = handed_on c.from_residual-in_err-body.result c.in_err-body.field-0.0 c.from_residual-in_err-body.ensures.1 (record {
  refuses = λ h stack. rule_first c.args.self.end ElseBody c.args.depth stack c.args.rest.now c.if-not-sees_word.ensures.yes (omega arith) ∙ past c.in_ok-mark.ensures.ok _ _ ∙ stops c.in_err-body.ensures.refused h _ _;
})

pub otherwise-returns-clause-ok : goal.otherwise-returns-clause-ok
otherwise-returns-clause-ok t c = read_same (ap (λ (z : Body). let o : Option (After Body) = Some (record { mark = c.in_ok-mark.mark.item; item = z }) in o) (roll-out-Body c.in_ok-body.body.item)) (record {
  reads = λ stack. rule_first c.args.self.end ElseBody c.args.depth stack c.args.rest.now c.if-not-sees_word.ensures.yes (omega arith) ∙ past c.in_ok-mark.ensures.ok _ _ ∙ past c.in_ok-body.ensures.ok _ _;
})

pub last_body-returns-then-not-sees_word-clause-ok : goal.last_body-returns-then-not-sees_word-clause-ok
last_body-returns-then-not-sees_word-clause-ok t c = skips c.args.self.end LastBodyPhrase None c.args.depth c.args.rest.now (goes_not_on last_body_by c.args.rest.now c.if-not-sees_word.ensures.no) refl

pub last_body-returns-in_err-mark-clause-refused : goal.last_body-returns-in_err-mark-clause-refused
last_body-returns-in_err-mark-clause-refused t c = handed_on c.from_residual.result c.in_err-mark.field-0.0 c.from_residual.ensures.1 (record {
  refuses = λ h stack. rule_first c.args.self.end DoBody c.args.depth stack c.args.rest.now c.if-not-sees_word.ensures.yes (omega arith) ∙ stops c.in_err-mark.ensures.refused h _ _;
})

pub last_body-returns-in_err-body-clause-refused : goal.last_body-returns-in_err-body-clause-refused
last_body-returns-in_err-body-clause-refused t c = handed_on c.from_residual-in_err-body.result c.in_err-body.field-0.0 c.from_residual-in_err-body.ensures.1 (record {
  refuses = λ h stack. rule_first c.args.self.end DoBody c.args.depth stack c.args.rest.now c.if-not-sees_word.ensures.yes (omega arith) ∙ past c.in_ok-mark.ensures.ok _ _ ∙ stops c.in_err-body.ensures.refused h _ _;
})

pub last_body-returns-clause-ok : goal.last_body-returns-clause-ok
last_body-returns-clause-ok t c = read_same (ap (λ (z : Body). let o : Option (After Body) = Some (record { mark = c.in_ok-mark.mark.item; item = z }) in o) (roll-out-Body c.in_ok-body.body.item)) (record {
  reads = λ stack. rule_first c.args.self.end DoBody c.args.depth stack c.args.rest.now c.if-not-sees_word.ensures.yes (omega arith) ∙ past c.in_ok-mark.ensures.ok _ _ ∙ past c.in_ok-body.ensures.ok _ _;
})
