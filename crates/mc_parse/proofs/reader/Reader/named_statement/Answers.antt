use Rattle.std.proofs.Common.{suc, Some, ◌∙◌, List, None, refl, ap, arith, inl}
use Rattle.mc_parse.specs.Steps.{past, stops, rule_first, by_rule, handed_on, read_same, skips}
use Rattle.std.proofs.lemmas.List.{append-nil}
use Rattle.mc_parse.specs.Begins.{no_statement_tail, statement_tail_then, assigning_then}
use Rattle.mc_parse.specs.Deep.{deep_read, deep_refused, too_deep_at, deep_args, deep_args_refused}
use Rattle.mc_tree.specs.Grammar.{CallStatement, NameStatement, StatementTailPhrase}
use Rattle.mc_tree.specs.declared.expression.Factor.TheViews.{roll-out-Args, roll-Designator}
use Rattle.mc_tree.specs.declared.statement.Statement.TheViews.{roll-Statement, rolls-Assignment, rolls-Call}
use Rattle.mc_tree.specs.declared.statement.Statement.TheOpen.{Statement-F}
use Rattle.mc_tree.specs.declared.expression.Args.{Args}
use Rattle.mc_tree.specs.declared.expression.Selector.{Selector}
use Rattle.mc_parse.specs.Views.{target_then}
use Rattle.mc_tree.specs.declared.expression.Factor.TheViews.{roll-out-Args, roll-Designator}
use Rattle.mc_parse.proofs.reader.Reader.named_statement.Goals as goal

pub returns-in_err-inner-clause-refused : goal.returns-in_err-inner-clause-refused
returns-in_err-inner-clause-refused c = handed_on c.from_residual.result c.in_err-inner.field-0.0 c.from_residual.ensures.1 (too_deep_at NameStatement _ c.requires.first (omega (arith, c.in_err-inner.ensures.refused.1)) c.place.ensures c.in_err-inner.ensures.refused.0)

pub returns-in_err-name-clause-refused : goal.returns-in_err-name-clause-refused
returns-in_err-name-clause-refused c = handed_on c.from_residual-in_err-name.result c.in_err-name.field-0.0 c.from_residual-in_err-name.ensures.1 (record {
  refuses = λ h stack. rule_first c.args.self.end NameStatement c.args.depth stack c.args.rest.now c.requires.first (omega (arith, c.in_ok-inner.ensures.ok.0, c.in_ok-inner.ensures.ok.1)) ∙ stops c.in_err-name.ensures.refused h _ _;
})

pub returns-in_err-args-clause-refused : goal.returns-in_err-args-clause-refused
returns-in_err-args-clause-refused c = handed_on c.from_residual-in_err-args.result c.in_err-args.field-0.0 c.from_residual-in_err-args.ensures.1 (record {
  refuses = λ h stack. rule_first c.args.self.end NameStatement c.args.depth stack c.args.rest.now c.requires.first (omega (arith, c.in_ok-inner.ensures.ok.0, c.in_ok-inner.ensures.ok.1)) ∙ past c.in_ok-name.ensures.ok _ _ ∙ by_rule c.args.self.end CallStatement (suc c.args.depth) stack c.in_ok-name.name.rest.now _ c.if-sees_symbol.ensures.yes (omega arith) ∙ stops (deep_args_refused c.in_ok-inner.ensures.ok.0 c.in_err-args.ensures.refused) h _ _;
})

pub returns-in_err-selectors-clause-refused : goal.returns-in_err-selectors-clause-refused
returns-in_err-selectors-clause-refused c = handed_on c.from_residual-in_err-selectors.result c.in_err-selectors.field-0.0 c.from_residual-in_err-selectors.ensures.1 (record {
  refuses = λ h stack. rule_first c.args.self.end NameStatement c.args.depth stack c.args.rest.now c.requires.first (omega (arith, c.in_ok-inner.ensures.ok.0, c.in_ok-inner.ensures.ok.1)) ∙ past c.in_ok-name.ensures.ok _ _ ∙ statement_tail_then c.args.self.end (suc c.args.depth) stack c.in_ok-name.name.rest.now c.if-not-begins_assigning.ensures.yes _ ∙ stops (deep_refused c.in_ok-inner.ensures.ok.0 c.in_err-selectors.ensures.assigns_not) h _ _;
})

pub returns-in_err-becomes-clause-refused : goal.returns-in_err-becomes-clause-refused
returns-in_err-becomes-clause-refused c = handed_on c.from_residual-in_err-becomes.result c.in_err-becomes.field-0.0 c.from_residual-in_err-becomes.ensures.1 (record {
  refuses = λ h stack. rule_first c.args.self.end NameStatement c.args.depth stack c.args.rest.now c.requires.first (omega (arith, c.in_ok-inner.ensures.ok.0, c.in_ok-inner.ensures.ok.1)) ∙ past c.in_ok-name.ensures.ok _ _ ∙ statement_tail_then c.args.self.end (suc c.args.depth) stack c.in_ok-name.name.rest.now c.if-not-begins_assigning.ensures.yes _ ∙ target_then c.args.depth c.in_ok-inner.ensures.ok.0 c.in_ok-selectors.ensures.assigns stack _ ∙ assigning_then c.args.self.end (suc c.args.depth) stack c.in_ok-selectors.selectors.rest.now c.in_ok-selectors.ensures.assigns.no_dot c.in_ok-selectors.ensures.assigns.no_index _ ∙ stops c.in_err-becomes.ensures.refused h _ _;
})

pub returns-in_err-value-clause-refused : goal.returns-in_err-value-clause-refused
returns-in_err-value-clause-refused c = handed_on c.from_residual-in_err-value.result c.in_err-value.field-0.0 c.from_residual-in_err-value.ensures.1 (record {
  refuses = λ h stack. rule_first c.args.self.end NameStatement c.args.depth stack c.args.rest.now c.requires.first (omega (arith, c.in_ok-inner.ensures.ok.0, c.in_ok-inner.ensures.ok.1)) ∙ past c.in_ok-name.ensures.ok _ _ ∙ statement_tail_then c.args.self.end (suc c.args.depth) stack c.in_ok-name.name.rest.now c.if-not-begins_assigning.ensures.yes _ ∙ target_then c.args.depth c.in_ok-inner.ensures.ok.0 c.in_ok-selectors.ensures.assigns stack _ ∙ assigning_then c.args.self.end (suc c.args.depth) stack c.in_ok-selectors.selectors.rest.now c.in_ok-selectors.ensures.assigns.no_dot c.in_ok-selectors.ensures.assigns.no_index _ ∙ past c.in_ok-becomes.ensures.ok _ _ ∙ stops (deep_refused c.in_ok-inner.ensures.ok.0 c.in_err-value.ensures.refused) h _ _;
})

pub returns-then-sees_symbol-clause-ok : goal.returns-then-sees_symbol-clause-ok
returns-then-sees_symbol-clause-ok c = read_same (ap (λ (z : Args). roll-Statement (Statement-F.Call c.in_ok-name.name.item (Some z))) (roll-out-Args c.in_ok-args.args.item) ∙ rolls-Call _ _) (record {
  reads = λ stack. rule_first c.args.self.end NameStatement c.args.depth stack c.args.rest.now c.requires.first (omega (arith, c.in_ok-inner.ensures.ok.0, c.in_ok-inner.ensures.ok.1)) ∙ past c.in_ok-name.ensures.ok _ _ ∙ by_rule c.args.self.end CallStatement (suc c.args.depth) stack c.in_ok-name.name.rest.now _ c.if-sees_symbol.ensures.yes (omega arith) ∙ past (deep_args c.in_ok-args.args.item c.in_ok-inner.ensures.ok.0 c.in_ok-args.ensures.ok) _ _;
})

pub returns-then-not-begins_assigning-clause-ok : goal.returns-then-not-begins_assigning-clause-ok
returns-then-not-begins_assigning-clause-ok c = read_same (rolls-Call _ _) (record {
  reads = λ stack. rule_first c.args.self.end NameStatement c.args.depth stack c.args.rest.now c.requires.first (omega (arith, c.in_ok-inner.ensures.ok.0, c.in_ok-inner.ensures.ok.1)) ∙ past c.in_ok-name.ensures.ok _ _ ∙ past (skips c.args.self.end StatementTailPhrase (inl None) (suc c.args.depth) c.in_ok-name.name.rest.now (no_statement_tail c.in_ok-name.name.rest.now c.if-sees_symbol.ensures.no c.if-not-begins_assigning.ensures.no.0 c.if-not-begins_assigning.ensures.no.1 c.if-not-begins_assigning.ensures.no.2) refl) _ _;
})

pub returns-clause-ok : goal.returns-clause-ok
returns-clause-ok c = read_same (ap (λ (z : List Selector). roll-Statement (Statement-F.Assignment (roll-Designator (record { name = c.in_ok-name.name.item; selectors = z })) c.in_ok-becomes.becomes.item c.in_ok-value.value.item)) (append-nil _) ∙ rolls-Assignment _ _ _) (record {
  reads = λ stack. rule_first c.args.self.end NameStatement c.args.depth stack c.args.rest.now c.requires.first (omega (arith, c.in_ok-inner.ensures.ok.0, c.in_ok-inner.ensures.ok.1)) ∙ past c.in_ok-name.ensures.ok _ _ ∙ statement_tail_then c.args.self.end (suc c.args.depth) stack c.in_ok-name.name.rest.now c.if-not-begins_assigning.ensures.yes _ ∙ target_then c.args.depth c.in_ok-inner.ensures.ok.0 c.in_ok-selectors.ensures.assigns stack _ ∙ assigning_then c.args.self.end (suc c.args.depth) stack c.in_ok-selectors.selectors.rest.now c.in_ok-selectors.ensures.assigns.no_dot c.in_ok-selectors.ensures.assigns.no_index _ ∙ past c.in_ok-becomes.ensures.ok _ _ ∙ past (deep_read c.in_ok-inner.ensures.ok.0 c.in_ok-value.ensures.ok) _ _;
})
