use Rattle.std.proofs.Common.{suc, ◌∙◌, [], ◌∷◌, None, refl, sym, ap, arith}
use Rattle.mc_parse.specs.Steps.{past, stops, rule_first, by_rule, handed_on, grown, read_same, whole_read, goes_not_on, skips}
use Rattle.mc_parse.specs.Heads.{first_is}
use Rattle.std.proofs.lemmas.List.{append-nil}
use Rattle.mc_parse.specs.Views.{args_read, selector_same}
use Rattle.mc_parse.specs.Only.{comma_exprs_by, comma_elements_by, element_tail_by}
use Rattle.mc_parse.specs.Begins.{expr_as_simple, simple_as_term, term_as_factor, bits_as_element, element_as_expr, no_selectors, factor_tail_then}
use Rattle.mc_parse.specs.Deep.{deep_read, deep_refused, too_deep_at, deep_args, deep_args_refused}
use Rattle.mc_tree.specs.Grammar.{Add, BitsFactor, CallFactor, CommaExprsPhrase, Compare, ElementTailPhrase, ExprPhrase, ExprTailPhrase, GroupFactor, IndexSelector, IndexTo, LastElement, MoreElements, MoreExprs, Multiply, NameFactor, NoBits, NotFactor, Signed, Sub, Take}
use Rattle.mc_tree.specs.declared.expression.Factor.TheViews.{roll-out-Args, roll-Factor, roll-Designator, roll-Element, rolls-Bits, rolls-Call, rolls-Designator, rolls-Group, rolls-Index, rolls-Not}
use Rattle.mc_tree.specs.declared.expression.Factor.TheOpen.{Factor-F}
use Rattle.mc_tree.specs.declared.expression.Expr.{Expr}
use Rattle.mc_tree.specs.declared.expression.Factor.{Factor}
use Rattle.mc_tree.specs.declared.expression.Args.{Args}
use Rattle.mc_tree.specs.Expressions.{relation_symbol, sign_symbol, adding_kind, multiplying_kind}
use Rattle.mc_tree.specs.Classes.{SymbolClass}
use Rattle.mc_tree.specs.declared.token.Symbol.TheVariants.{RightParen}
use Rattle.mc_tree.specs.declared.token.Kind.TheVariants.{Symbol as SymbolKind}
use Rattle.mc_parse.proofs.reader.Reader.+expression.Goals as goal

pub expr-returns-in_err-left-clause-refused : goal.expr-returns-in_err-left-clause-refused
expr-returns-in_err-left-clause-refused t c = handed_on c.from_residual.result c.in_err-left.field-0.0 c.from_residual.ensures.1 (record {
  refuses = λ h stack. expr_as_simple c.args.self.end c.args.depth stack c.args.rest.now ∙ stops c.in_err-left.ensures.refused h _ _;
})

pub expr-returns-in_err-compared-clause-refused : goal.expr-returns-in_err-compared-clause-refused
expr-returns-in_err-compared-clause-refused t c = handed_on c.from_residual-in_err-compared.result c.in_err-compared.field-0.0 c.from_residual-in_err-compared.ensures.1 (record {
  refuses = λ h stack. expr_as_simple c.args.self.end c.args.depth stack c.args.rest.now ∙ past c.in_ok-left.ensures.ok _ _ ∙ stops c.in_err-compared.ensures.refused h _ _;
})

pub expr-returns-clause-ok : goal.expr-returns-clause-ok
expr-returns-clause-ok t c = record {
  reads = λ stack. expr_as_simple c.args.self.end c.args.depth stack c.args.rest.now ∙ past c.in_ok-left.ensures.ok _ _ ∙ past c.in_ok-compared.ensures.ok _ _;
}

pub compared-returns-in_err-mark-clause-refused : goal.compared-returns-in_err-mark-clause-refused
compared-returns-in_err-mark-clause-refused t c = handed_on c.from_residual.result c.in_err-mark.field-0.0 c.from_residual.ensures.1 (record {
  refuses = λ h stack. rule_first c.args.self.end (Compare c.in-Some.relation) c.args.depth stack c.args.rest.now (first_is (SymbolKind (relation_symbol c.in-Some.relation)) c.args.rest.now c.in-Some.ensures.found) (omega arith) ∙ stops (c.in_err-mark.ensures.refused _) h _ _;
})

pub compared-returns-in_err-right-clause-refused : goal.compared-returns-in_err-right-clause-refused
compared-returns-in_err-right-clause-refused t c = handed_on c.from_residual-in_err-right.result c.in_err-right.field-0.0 c.from_residual-in_err-right.ensures.1 (record {
  refuses = λ h stack. rule_first c.args.self.end (Compare c.in-Some.relation) c.args.depth stack c.args.rest.now (first_is (SymbolKind (relation_symbol c.in-Some.relation)) c.args.rest.now c.in-Some.ensures.found) (omega arith) ∙ past (c.in_ok-mark.ensures.ok (SymbolKind (relation_symbol c.in-Some.relation)) c.in-Some.ensures.found) _ _ ∙ stops c.in_err-right.ensures.refused h _ _;
})

pub compared-returns-clause-ok : goal.compared-returns-clause-ok
compared-returns-clause-ok t c = record {
  reads = λ stack. rule_first c.args.self.end (Compare c.in-Some.relation) c.args.depth stack c.args.rest.now (first_is (SymbolKind (relation_symbol c.in-Some.relation)) c.args.rest.now c.in-Some.ensures.found) (omega arith) ∙ past (c.in_ok-mark.ensures.ok (SymbolKind (relation_symbol c.in-Some.relation)) c.in-Some.ensures.found) _ _ ∙ past c.in_ok-right.ensures.ok _ _;
}

pub compared-returns-in_default-clause-ok : goal.compared-returns-in_default-clause-ok
compared-returns-in_default-clause-ok t c = skips c.args.self.end ExprTailPhrase None c.args.depth c.args.rest.now c.in_default.ensures.none refl

pub signed-returns-in_err-mark-clause-refused : goal.signed-returns-in_err-mark-clause-refused
signed-returns-in_err-mark-clause-refused t c = handed_on c.from_residual.result c.in_err-mark.field-0.0 c.from_residual.ensures.1 (record {
  refuses = λ h stack. rule_first c.args.self.end (Signed c.args.sign) c.args.depth stack c.args.rest.now (first_is (SymbolKind (sign_symbol c.args.sign)) c.args.rest.now c.requires.first) (omega arith) ∙ stops (c.in_err-mark.ensures.refused _) h _ _;
})

pub signed-returns-in_err-first-clause-refused : goal.signed-returns-in_err-first-clause-refused
signed-returns-in_err-first-clause-refused t c = handed_on c.from_residual-in_err-first.result c.in_err-first.field-0.0 c.from_residual-in_err-first.ensures.1 (record {
  refuses = λ h stack. rule_first c.args.self.end (Signed c.args.sign) c.args.depth stack c.args.rest.now (first_is (SymbolKind (sign_symbol c.args.sign)) c.args.rest.now c.requires.first) (omega arith) ∙ past (c.in_ok-mark.ensures.ok (SymbolKind (sign_symbol c.args.sign)) c.requires.first) _ _ ∙ stops c.in_err-first.ensures.refused h _ _;
})

pub signed-returns-in_err-more-clause-refused : goal.signed-returns-in_err-more-clause-refused
signed-returns-in_err-more-clause-refused t c = handed_on c.from_residual-in_err-more.result c.in_err-more.field-0.0 c.from_residual-in_err-more.ensures.1 (record {
  refuses = λ h stack. rule_first c.args.self.end (Signed c.args.sign) c.args.depth stack c.args.rest.now (first_is (SymbolKind (sign_symbol c.args.sign)) c.args.rest.now c.requires.first) (omega arith) ∙ past (c.in_ok-mark.ensures.ok (SymbolKind (sign_symbol c.args.sign)) c.requires.first) _ _ ∙ past c.in_ok-first.ensures.ok _ _ ∙ stops c.in_err-more.ensures.refused h _ _;
})

pub signed-returns-clause-ok : goal.signed-returns-clause-ok
signed-returns-clause-ok t c = record {
  reads = λ stack. rule_first c.args.self.end (Signed c.args.sign) c.args.depth stack c.args.rest.now (first_is (SymbolKind (sign_symbol c.args.sign)) c.args.rest.now c.requires.first) (omega arith) ∙ past (c.in_ok-mark.ensures.ok (SymbolKind (sign_symbol c.args.sign)) c.requires.first) _ _ ∙ past c.in_ok-first.ensures.ok _ _ ∙ past c.in_ok-more.ensures.ok _ _;
}

pub unsigned-returns-in_err-first-clause-refused : goal.unsigned-returns-in_err-first-clause-refused
unsigned-returns-in_err-first-clause-refused t c = handed_on c.from_residual.result c.in_err-first.field-0.0 c.from_residual.ensures.1 (record {
  refuses = λ h stack. simple_as_term c.args.self.end c.args.depth stack c.args.rest.now c.requires.plus c.requires.minus ∙ stops c.in_err-first.ensures.refused h _ _;
})

pub unsigned-returns-in_err-more-clause-refused : goal.unsigned-returns-in_err-more-clause-refused
unsigned-returns-in_err-more-clause-refused t c = handed_on c.from_residual-in_err-more.result c.in_err-more.field-0.0 c.from_residual-in_err-more.ensures.1 (record {
  refuses = λ h stack. simple_as_term c.args.self.end c.args.depth stack c.args.rest.now c.requires.plus c.requires.minus ∙ past c.in_ok-first.ensures.ok _ _ ∙ stops c.in_err-more.ensures.refused h _ _;
})

pub unsigned-returns-clause-ok : goal.unsigned-returns-clause-ok
unsigned-returns-clause-ok t c = record {
  reads = λ stack. simple_as_term c.args.self.end c.args.depth stack c.args.rest.now c.requires.plus c.requires.minus ∙ past c.in_ok-first.ensures.ok _ _ ∙ past c.in_ok-more.ensures.ok _ _;
}

pub added_terms-returns-in_err-mark-clause-refused : goal.added_terms-returns-in_err-mark-clause-refused
added_terms-returns-in_err-mark-clause-refused t c = handed_on c.from_residual.result c.in_err-mark.field-0.0 c.from_residual.ensures.1 (record {
  refuses = λ h stack. c.loop-operator.invariant.read.reads stack ∙ by_rule c.args.self.end (Add c.in-Some.operator) c.args.depth stack c.loop-operator.left.now _ (first_is (adding_kind c.in-Some.operator) c.loop-operator.left.now c.in-Some.ensures.found) (omega arith) ∙ stops (c.in_err-mark.ensures.refused _) h _ _;
})

pub added_terms-returns-in_err-term-clause-refused : goal.added_terms-returns-in_err-term-clause-refused
added_terms-returns-in_err-term-clause-refused t c = handed_on c.from_residual-in_err-term.result c.in_err-term.field-0.0 c.from_residual-in_err-term.ensures.1 (record {
  refuses = λ h stack. c.loop-operator.invariant.read.reads stack ∙ by_rule c.args.self.end (Add c.in-Some.operator) c.args.depth stack c.loop-operator.left.now _ (first_is (adding_kind c.in-Some.operator) c.loop-operator.left.now c.in-Some.ensures.found) (omega arith) ∙ past (c.in_ok-mark.ensures.ok (adding_kind c.in-Some.operator) c.in-Some.ensures.found) _ _ ∙ stops c.in_err-term.ensures.refused h _ _;
})

pub added_terms-loop-operator-preserved : goal.added_terms-loop-operator-preserved
added_terms-loop-operator-preserved t c = record {
  read = record { reads = λ stack. c.loop-operator.invariant.read.reads stack ∙ by_rule c.args.self.end (Add c.in-Some.operator) c.args.depth stack c.loop-operator.left.now _ (first_is (adding_kind c.in-Some.operator) c.loop-operator.left.now c.in-Some.ensures.found) (omega arith) ∙ past (c.in_ok-mark.ensures.ok (adding_kind c.in-Some.operator) c.in-Some.ensures.found) _ _ ∙ past c.in_ok-term.ensures.ok _ _ ∙ grown _ c.loop-operator.items _ _ c.in_ok-push.ensures.ok };
  within = omega (arith, c.in_ok-mark.ensures.shorter, c.in_ok-term.ensures.shorter);
}

pub added_terms-returns-clause-ok : goal.added_terms-returns-clause-ok
added_terms-returns-clause-ok t c = whole_read c.loop-operator.invariant.read [] c.in_default.ensures.none refl _ (append-nil _)

pub multiplied_factors-returns-in_err-mark-clause-refused : goal.multiplied_factors-returns-in_err-mark-clause-refused
multiplied_factors-returns-in_err-mark-clause-refused t c = handed_on c.from_residual.result c.in_err-mark.field-0.0 c.from_residual.ensures.1 (record {
  refuses = λ h stack. c.loop-operator.invariant.read.reads stack ∙ by_rule c.args.self.end (Multiply c.in-Some.operator) c.args.depth stack c.loop-operator.left.now _ (first_is (multiplying_kind c.in-Some.operator) c.loop-operator.left.now c.in-Some.ensures.found) (omega arith) ∙ stops (c.in_err-mark.ensures.refused _) h _ _;
})

pub multiplied_factors-returns-in_err-factor-clause-refused : goal.multiplied_factors-returns-in_err-factor-clause-refused
multiplied_factors-returns-in_err-factor-clause-refused t c = handed_on c.from_residual-in_err-factor.result c.in_err-factor.field-0.0 c.from_residual-in_err-factor.ensures.1 (record {
  refuses = λ h stack. c.loop-operator.invariant.read.reads stack ∙ by_rule c.args.self.end (Multiply c.in-Some.operator) c.args.depth stack c.loop-operator.left.now _ (first_is (multiplying_kind c.in-Some.operator) c.loop-operator.left.now c.in-Some.ensures.found) (omega arith) ∙ past (c.in_ok-mark.ensures.ok (multiplying_kind c.in-Some.operator) c.in-Some.ensures.found) _ _ ∙ stops c.in_err-factor.ensures.refused h _ _;
})

pub multiplied_factors-loop-operator-preserved : goal.multiplied_factors-loop-operator-preserved
multiplied_factors-loop-operator-preserved t c = record {
  read = record { reads = λ stack. c.loop-operator.invariant.read.reads stack ∙ by_rule c.args.self.end (Multiply c.in-Some.operator) c.args.depth stack c.loop-operator.left.now _ (first_is (multiplying_kind c.in-Some.operator) c.loop-operator.left.now c.in-Some.ensures.found) (omega arith) ∙ past (c.in_ok-mark.ensures.ok (multiplying_kind c.in-Some.operator) c.in-Some.ensures.found) _ _ ∙ past c.in_ok-factor.ensures.ok _ _ ∙ grown _ c.loop-operator.items _ _ c.in_ok-push.ensures.ok };
  within = omega (arith, c.in_ok-mark.ensures.shorter, c.in_ok-factor.ensures.shorter);
}

pub multiplied_factors-returns-clause-ok : goal.multiplied_factors-returns-clause-ok
multiplied_factors-returns-clause-ok t c = whole_read c.loop-operator.invariant.read [] c.in_default.ensures.none refl _ (append-nil _)

pub term-returns-in_err-first-clause-refused : goal.term-returns-in_err-first-clause-refused
term-returns-in_err-first-clause-refused t c = handed_on c.from_residual.result c.in_err-first.field-0.0 c.from_residual.ensures.1 (record {
  refuses = λ h stack. term_as_factor c.args.self.end c.args.depth stack c.args.rest.now ∙ stops c.in_err-first.ensures.refused h _ _;
})

pub term-returns-in_err-more-clause-refused : goal.term-returns-in_err-more-clause-refused
term-returns-in_err-more-clause-refused t c = handed_on c.from_residual-in_err-more.result c.in_err-more.field-0.0 c.from_residual-in_err-more.ensures.1 (record {
  refuses = λ h stack. term_as_factor c.args.self.end c.args.depth stack c.args.rest.now ∙ past c.in_ok-first.ensures.ok _ _ ∙ stops c.in_err-more.ensures.refused h _ _;
})

pub term-returns-clause-ok : goal.term-returns-clause-ok
term-returns-clause-ok t c = record {
  reads = λ stack. term_as_factor c.args.self.end c.args.depth stack c.args.rest.now ∙ past c.in_ok-first.ensures.ok _ _ ∙ past c.in_ok-more.ensures.ok _ _;
}

pub group-returns-in_err-inner-clause-refused : goal.group-returns-in_err-inner-clause-refused
group-returns-in_err-inner-clause-refused t c = handed_on c.from_residual.result c.in_err-inner.field-0.0 c.from_residual.ensures.1 (too_deep_at GroupFactor _ c.requires.first (omega (arith, c.in_err-inner.ensures.refused.1)) c.place.ensures c.in_err-inner.ensures.refused.0)

pub group-returns-in_err-opening-clause-refused : goal.group-returns-in_err-opening-clause-refused
group-returns-in_err-opening-clause-refused t c = handed_on c.from_residual-in_err-opening.result c.in_err-opening.field-0.0 c.from_residual-in_err-opening.ensures.1 (record {
  refuses = λ h stack. rule_first c.args.self.end GroupFactor c.args.depth stack c.args.rest.now c.requires.first (omega (arith, c.in_ok-inner.ensures.ok.0, c.in_ok-inner.ensures.ok.1)) ∙ stops c.in_err-opening.ensures.refused h _ _;
})

pub group-returns-in_err-value-clause-refused : goal.group-returns-in_err-value-clause-refused
group-returns-in_err-value-clause-refused t c = handed_on c.from_residual-in_err-value.result c.in_err-value.field-0.0 c.from_residual-in_err-value.ensures.1 (record {
  refuses = λ h stack. rule_first c.args.self.end GroupFactor c.args.depth stack c.args.rest.now c.requires.first (omega (arith, c.in_ok-inner.ensures.ok.0, c.in_ok-inner.ensures.ok.1)) ∙ past c.in_ok-opening.ensures.ok _ _ ∙ stops (deep_refused c.in_ok-inner.ensures.ok.0 c.in_err-value.ensures.refused) h _ _;
})

pub group-returns-in_err-closing-clause-refused : goal.group-returns-in_err-closing-clause-refused
group-returns-in_err-closing-clause-refused t c = handed_on c.from_residual-in_err-closing.result c.in_err-closing.field-0.0 c.from_residual-in_err-closing.ensures.1 (record {
  refuses = λ h stack. rule_first c.args.self.end GroupFactor c.args.depth stack c.args.rest.now c.requires.first (omega (arith, c.in_ok-inner.ensures.ok.0, c.in_ok-inner.ensures.ok.1)) ∙ past c.in_ok-opening.ensures.ok _ _ ∙ past (deep_read c.in_ok-inner.ensures.ok.0 c.in_ok-value.ensures.ok) _ _ ∙ stops c.in_err-closing.ensures.refused h _ _;
})

pub group-returns-clause-ok : goal.group-returns-clause-ok
group-returns-clause-ok t c = read_same (rolls-Group c.in_ok-opening.opening.item c.in_ok-value.value.item c.in_ok-closing.closing.item) (record {
  reads = λ stack. rule_first c.args.self.end GroupFactor c.args.depth stack c.args.rest.now c.requires.first (omega (arith, c.in_ok-inner.ensures.ok.0, c.in_ok-inner.ensures.ok.1)) ∙ past c.in_ok-opening.ensures.ok _ _ ∙ past (deep_read c.in_ok-inner.ensures.ok.0 c.in_ok-value.ensures.ok) _ _ ∙ past c.in_ok-closing.ensures.ok _ _;
})

pub negation-returns-in_err-inner-clause-refused : goal.negation-returns-in_err-inner-clause-refused
negation-returns-in_err-inner-clause-refused t c = handed_on c.from_residual.result c.in_err-inner.field-0.0 c.from_residual.ensures.1 (too_deep_at NotFactor _ c.requires.first (omega (arith, c.in_err-inner.ensures.refused.1)) c.place.ensures c.in_err-inner.ensures.refused.0)

pub negation-returns-in_err-word-clause-refused : goal.negation-returns-in_err-word-clause-refused
negation-returns-in_err-word-clause-refused t c = handed_on c.from_residual-in_err-word.result c.in_err-word.field-0.0 c.from_residual-in_err-word.ensures.1 (record {
  refuses = λ h stack. rule_first c.args.self.end NotFactor c.args.depth stack c.args.rest.now c.requires.first (omega (arith, c.in_ok-inner.ensures.ok.0, c.in_ok-inner.ensures.ok.1)) ∙ stops c.in_err-word.ensures.refused h _ _;
})

pub negation-returns-in_err-factor-clause-refused : goal.negation-returns-in_err-factor-clause-refused
negation-returns-in_err-factor-clause-refused t c = handed_on c.from_residual-in_err-factor.result c.in_err-factor.field-0.0 c.from_residual-in_err-factor.ensures.1 (record {
  refuses = λ h stack. rule_first c.args.self.end NotFactor c.args.depth stack c.args.rest.now c.requires.first (omega (arith, c.in_ok-inner.ensures.ok.0, c.in_ok-inner.ensures.ok.1)) ∙ past c.in_ok-word.ensures.ok _ _ ∙ stops (deep_refused c.in_ok-inner.ensures.ok.0 c.in_err-factor.ensures.refused) h _ _;
})

pub negation-returns-clause-ok : goal.negation-returns-clause-ok
negation-returns-clause-ok t c = read_same (ap (λ (z : Factor). roll-Factor (Factor-F.Not c.in_ok-word.word.item z)) (sym c.in_ok-new.ensures) ∙ rolls-Not c.in_ok-word.word.item c.in_ok-new.field-0) (record {
  reads = λ stack. rule_first c.args.self.end NotFactor c.args.depth stack c.args.rest.now c.requires.first (omega (arith, c.in_ok-inner.ensures.ok.0, c.in_ok-inner.ensures.ok.1)) ∙ past c.in_ok-word.ensures.ok _ _ ∙ past (deep_read c.in_ok-inner.ensures.ok.0 c.in_ok-factor.ensures.ok) _ _;
})

pub bits-returns-in_err-inner-clause-refused : goal.bits-returns-in_err-inner-clause-refused
bits-returns-in_err-inner-clause-refused t c = handed_on c.from_residual.result c.in_err-inner.field-0.0 c.from_residual.ensures.1 (too_deep_at BitsFactor _ c.requires.first (omega (arith, c.in_err-inner.ensures.refused.1)) c.place.ensures c.in_err-inner.ensures.refused.0)

pub bits-returns-in_err-opening-clause-refused : goal.bits-returns-in_err-opening-clause-refused
bits-returns-in_err-opening-clause-refused t c = handed_on c.from_residual-in_err-opening.result c.in_err-opening.field-0.0 c.from_residual-in_err-opening.ensures.1 (record {
  refuses = λ h stack. rule_first c.args.self.end BitsFactor c.args.depth stack c.args.rest.now c.requires.first (omega (arith, c.in_ok-inner.ensures.ok.0, c.in_ok-inner.ensures.ok.1)) ∙ stops c.in_err-opening.ensures.refused h _ _;
})

pub bits-returns-in_err-tail-clause-refused : goal.bits-returns-in_err-tail-clause-refused
bits-returns-in_err-tail-clause-refused t c = handed_on c.from_residual-in_err-tail.result c.in_err-tail.field-0.0 c.from_residual-in_err-tail.ensures.1 (record {
  refuses = λ h stack. rule_first c.args.self.end BitsFactor c.args.depth stack c.args.rest.now c.requires.first (omega (arith, c.in_ok-inner.ensures.ok.0, c.in_ok-inner.ensures.ok.1)) ∙ past c.in_ok-opening.ensures.ok _ _ ∙ stops (deep_refused c.in_ok-inner.ensures.ok.0 c.in_err-tail.ensures.refused) h _ _;
})

pub bits-returns-clause-ok : goal.bits-returns-clause-ok
bits-returns-clause-ok t c = read_same (rolls-Bits c.in_ok-opening.opening.item c.in_ok-tail.tail.item.0 c.in_ok-tail.tail.item.1) (record {
  reads = λ stack. rule_first c.args.self.end BitsFactor c.args.depth stack c.args.rest.now c.requires.first (omega (arith, c.in_ok-inner.ensures.ok.0, c.in_ok-inner.ensures.ok.1)) ∙ past c.in_ok-opening.ensures.ok _ _ ∙ past (deep_read c.in_ok-inner.ensures.ok.0 c.in_ok-tail.ensures.ok) _ _;
})

pub bits_tail-returns-in_err-closing-clause-refused : goal.bits_tail-returns-in_err-closing-clause-refused
bits_tail-returns-in_err-closing-clause-refused t c = handed_on c.from_residual.result c.in_err-closing.field-0.0 c.from_residual.ensures.1 (record {
  refuses = λ h stack. rule_first c.args.self.end NoBits c.args.depth stack c.args.rest.now c.if-not-sees_symbol.ensures.yes (omega arith) ∙ stops c.in_err-closing.ensures.refused h _ _;
})

pub bits_tail-returns-clause-ok : goal.bits_tail-returns-clause-ok
bits_tail-returns-clause-ok t c = record {
  reads = λ stack. rule_first c.args.self.end NoBits c.args.depth stack c.args.rest.now c.if-not-sees_symbol.ensures.yes (omega arith) ∙ past c.in_ok-closing.ensures.ok _ _;
}

pub elements-returns-in_err-first-clause-refused : goal.elements-returns-in_err-first-clause-refused
elements-returns-in_err-first-clause-refused t c = handed_on c.from_residual.result c.in_err-first.field-0.0 c.from_residual.ensures.1 (record {
  refuses = λ h stack. bits_as_element c.args.self.end c.args.depth stack c.args.rest.now c.requires.some ∙ stops c.in_err-first.ensures.refused h _ _;
})

pub elements-returns-in_err-more-clause-refused : goal.elements-returns-in_err-more-clause-refused
elements-returns-in_err-more-clause-refused t c = handed_on c.from_residual-in_err-more.result c.in_err-more.field-0.0 c.from_residual-in_err-more.ensures.1 (record {
  refuses = λ h stack. bits_as_element c.args.self.end c.args.depth stack c.args.rest.now c.requires.some ∙ past c.in_ok-first.ensures.ok _ _ ∙ stops c.in_err-more.ensures.refused h _ _;
})

pub elements-returns-in_err-closing-clause-refused : goal.elements-returns-in_err-closing-clause-refused
elements-returns-in_err-closing-clause-refused t c = handed_on c.from_residual-in_err-closing.result c.in_err-closing.field-0.0 c.from_residual-in_err-closing.ensures.1 (record {
  refuses = λ h stack. bits_as_element c.args.self.end c.args.depth stack c.args.rest.now c.requires.some ∙ past c.in_ok-first.ensures.ok _ _ ∙ past c.in_ok-more.ensures.ok _ _ ∙ stops c.in_err-closing.ensures.refused h _ _;
})

pub elements-returns-clause-ok : goal.elements-returns-clause-ok
elements-returns-clause-ok t c = record {
  reads = λ stack. bits_as_element c.args.self.end c.args.depth stack c.args.rest.now c.requires.some ∙ past c.in_ok-first.ensures.ok _ _ ∙ past c.in_ok-more.ensures.ok _ _ ∙ past c.in_ok-closing.ensures.ok _ _;
}

pub comma_elements-returns-in_err-mark-clause-refused : goal.comma_elements-returns-in_err-mark-clause-refused
comma_elements-returns-in_err-mark-clause-refused t c = handed_on c.from_residual.result c.in_err-mark.field-0.0 c.from_residual.ensures.1 (record {
  refuses = λ h stack. c.loop-self.invariant.read.reads stack ∙ by_rule c.args.self.end MoreElements c.args.depth stack c.loop-self.left.now _ c.loop-self-test.ensures.yes (omega arith) ∙ stops c.in_err-mark.ensures.refused h _ _;
})

pub comma_elements-returns-in_err-item-clause-refused : goal.comma_elements-returns-in_err-item-clause-refused
comma_elements-returns-in_err-item-clause-refused t c = handed_on c.from_residual-in_err-item.result c.in_err-item.field-0.0 c.from_residual-in_err-item.ensures.1 (record {
  refuses = λ h stack. c.loop-self.invariant.read.reads stack ∙ by_rule c.args.self.end MoreElements c.args.depth stack c.loop-self.left.now _ c.loop-self-test.ensures.yes (omega arith) ∙ past c.in_ok-mark.ensures.ok _ _ ∙ stops c.in_err-item.ensures.refused h _ _;
})

pub comma_elements-loop-self-preserved : goal.comma_elements-loop-self-preserved
comma_elements-loop-self-preserved t c = record {
  read = record { reads = λ stack. c.loop-self.invariant.read.reads stack ∙ by_rule c.args.self.end MoreElements c.args.depth stack c.loop-self.left.now _ c.loop-self-test.ensures.yes (omega arith) ∙ past c.in_ok-mark.ensures.ok _ _ ∙ past c.in_ok-item.ensures.ok _ _ ∙ grown _ c.loop-self.items _ _ c.in_ok-push.ensures.ok };
  within = omega (arith, c.in_ok-mark.ensures.shorter, c.in_ok-item.ensures.shorter);
}

pub comma_elements-returns-clause-ok : goal.comma_elements-returns-clause-ok
comma_elements-returns-clause-ok t c = whole_read c.loop-self.invariant.read [] (goes_not_on comma_elements_by c.loop-self.left.now c.loop-self-test.ensures.no) refl _ (append-nil _)

pub comma_exprs-returns-in_err-mark-clause-refused : goal.comma_exprs-returns-in_err-mark-clause-refused
comma_exprs-returns-in_err-mark-clause-refused t c = handed_on c.from_residual.result c.in_err-mark.field-0.0 c.from_residual.ensures.1 (record {
  refuses = λ h stack. c.loop-self.invariant.read.reads stack ∙ by_rule c.args.self.end MoreExprs c.args.depth stack c.loop-self.left.now _ c.loop-self-test.ensures.yes (omega arith) ∙ stops c.in_err-mark.ensures.refused h _ _;
})

pub comma_exprs-returns-in_err-item-clause-refused : goal.comma_exprs-returns-in_err-item-clause-refused
comma_exprs-returns-in_err-item-clause-refused t c = handed_on c.from_residual-in_err-item.result c.in_err-item.field-0.0 c.from_residual-in_err-item.ensures.1 (record {
  refuses = λ h stack. c.loop-self.invariant.read.reads stack ∙ by_rule c.args.self.end MoreExprs c.args.depth stack c.loop-self.left.now _ c.loop-self-test.ensures.yes (omega arith) ∙ past c.in_ok-mark.ensures.ok _ _ ∙ stops c.in_err-item.ensures.refused h _ _;
})

pub comma_exprs-loop-self-preserved : goal.comma_exprs-loop-self-preserved
comma_exprs-loop-self-preserved t c = record {
  read = record { reads = λ stack. c.loop-self.invariant.read.reads stack ∙ by_rule c.args.self.end MoreExprs c.args.depth stack c.loop-self.left.now _ c.loop-self-test.ensures.yes (omega arith) ∙ past c.in_ok-mark.ensures.ok _ _ ∙ past c.in_ok-item.ensures.ok _ _ ∙ grown _ c.loop-self.items _ _ c.in_ok-push.ensures.ok };
  within = omega (arith, c.in_ok-mark.ensures.shorter, c.in_ok-item.ensures.shorter);
}

pub comma_exprs-returns-clause-ok : goal.comma_exprs-returns-clause-ok
comma_exprs-returns-clause-ok t c = whole_read c.loop-self.invariant.read [] (goes_not_on comma_exprs_by c.loop-self.left.now c.loop-self-test.ensures.no) refl _ (append-nil _)

pub element-returns-in_err-first-clause-refused : goal.element-returns-in_err-first-clause-refused
element-returns-in_err-first-clause-refused t c = handed_on c.from_residual.result c.in_err-first.field-0.0 c.from_residual.ensures.1 (record {
  refuses = λ h stack. element_as_expr c.args.self.end c.args.depth stack c.args.rest.now ∙ stops c.in_err-first.ensures.refused h _ _;
})

pub element-returns-in_err-last-clause-refused : goal.element-returns-in_err-last-clause-refused
element-returns-in_err-last-clause-refused t c = handed_on c.from_residual-in_err-last.result c.in_err-last.field-0.0 c.from_residual-in_err-last.ensures.1 (record {
  refuses = λ h stack. element_as_expr c.args.self.end c.args.depth stack c.args.rest.now ∙ past c.in_ok-first.ensures.ok _ _ ∙ stops c.in_err-last.ensures.refused h _ _;
})

pub element-returns-clause-ok : goal.element-returns-clause-ok
element-returns-clause-ok t c = read_same (ap (λ (z : Expr). roll-Element (record { first = z; last = c.in_ok-last.last.item })) (sym c.into_inner.ensures)) (record {
  reads = λ stack. element_as_expr c.args.self.end c.args.depth stack c.args.rest.now ∙ past c.in_ok-first.ensures.ok _ _ ∙ past c.in_ok-last.ensures.ok _ _;
})

pub last_element-returns-then-not-sees_symbol-clause-ok : goal.last_element-returns-then-not-sees_symbol-clause-ok
last_element-returns-then-not-sees_symbol-clause-ok t c = skips c.args.self.end ElementTailPhrase None c.args.depth c.args.rest.now (goes_not_on element_tail_by c.args.rest.now c.if-not-sees_symbol.ensures.no) refl

pub last_element-returns-in_err-mark-clause-refused : goal.last_element-returns-in_err-mark-clause-refused
last_element-returns-in_err-mark-clause-refused t c = handed_on c.from_residual.result c.in_err-mark.field-0.0 c.from_residual.ensures.1 (record {
  refuses = λ h stack. rule_first c.args.self.end LastElement c.args.depth stack c.args.rest.now c.if-not-sees_symbol.ensures.yes (omega arith) ∙ stops c.in_err-mark.ensures.refused h _ _;
})

pub last_element-returns-in_err-item-clause-refused : goal.last_element-returns-in_err-item-clause-refused
last_element-returns-in_err-item-clause-refused t c = handed_on c.from_residual-in_err-item.result c.in_err-item.field-0.0 c.from_residual-in_err-item.ensures.1 (record {
  refuses = λ h stack. rule_first c.args.self.end LastElement c.args.depth stack c.args.rest.now c.if-not-sees_symbol.ensures.yes (omega arith) ∙ past c.in_ok-mark.ensures.ok _ _ ∙ stops c.in_err-item.ensures.refused h _ _;
})

pub last_element-returns-clause-ok : goal.last_element-returns-clause-ok
last_element-returns-clause-ok t c = record {
  reads = λ stack. rule_first c.args.self.end LastElement c.args.depth stack c.args.rest.now c.if-not-sees_symbol.ensures.yes (omega arith) ∙ past c.in_ok-mark.ensures.ok _ _ ∙ past c.in_ok-item.ensures.ok _ _;
}

pub args-returns-in_err-opening-clause-refused : goal.args-returns-in_err-opening-clause-refused
args-returns-in_err-opening-clause-refused t c = handed_on c.from_residual.result c.in_err-opening.field-0.0 c.from_residual.ensures.1 (record {
  refuses = λ h stack. c.in_err-opening.ensures.refused.refuses h (Sub c.args.depth ExprPhrase ∷ Sub c.args.depth CommaExprsPhrase ∷ Take (SymbolClass RightParen) ∷ stack);
})

pub args-returns-in_err-first-clause-refused : goal.args-returns-in_err-first-clause-refused
args-returns-in_err-first-clause-refused t c = handed_on c.from_residual-in_err-first.result c.in_err-first.field-0.0 c.from_residual-in_err-first.ensures.1 (record {
  refuses = λ h stack. c.in_ok-opening.ensures.ok.reads (Sub c.args.depth ExprPhrase ∷ Sub c.args.depth CommaExprsPhrase ∷ Take (SymbolClass RightParen) ∷ stack) ∙ stops c.in_err-first.ensures.refused h _ _;
})

pub args-returns-in_err-more-clause-refused : goal.args-returns-in_err-more-clause-refused
args-returns-in_err-more-clause-refused t c = handed_on c.from_residual-in_err-more.result c.in_err-more.field-0.0 c.from_residual-in_err-more.ensures.1 (record {
  refuses = λ h stack. c.in_ok-opening.ensures.ok.reads (Sub c.args.depth ExprPhrase ∷ Sub c.args.depth CommaExprsPhrase ∷ Take (SymbolClass RightParen) ∷ stack) ∙ past c.in_ok-first.ensures.ok _ _ ∙ stops c.in_err-more.ensures.refused h _ _;
})

pub args-returns-in_err-closing-clause-refused : goal.args-returns-in_err-closing-clause-refused
args-returns-in_err-closing-clause-refused t c = handed_on c.from_residual-in_err-closing.result c.in_err-closing.field-0.0 c.from_residual-in_err-closing.ensures.1 (record {
  refuses = λ h stack. c.in_ok-opening.ensures.ok.reads (Sub c.args.depth ExprPhrase ∷ Sub c.args.depth CommaExprsPhrase ∷ Take (SymbolClass RightParen) ∷ stack) ∙ past c.in_ok-first.ensures.ok _ _ ∙ past c.in_ok-more.ensures.ok _ _ ∙ stops c.in_err-closing.ensures.refused h _ _;
})

pub args-returns-clause-ok : goal.args-returns-clause-ok
args-returns-clause-ok t c = args_read c.in_ok-opening.opening.item c.in_ok-first.first.item c.in_ok-more.more.item c.in_ok-closing.closing.item _ refl (record {
  reads = λ stack. c.in_ok-opening.ensures.ok.reads (Sub c.args.depth ExprPhrase ∷ Sub c.args.depth CommaExprsPhrase ∷ Take (SymbolClass RightParen) ∷ stack) ∙ past c.in_ok-first.ensures.ok _ _ ∙ past c.in_ok-more.ensures.ok _ _ ∙ past c.in_ok-closing.ensures.ok _ _;
})

pub named_factor-returns-in_err-inner-clause-refused : goal.named_factor-returns-in_err-inner-clause-refused
named_factor-returns-in_err-inner-clause-refused t c = handed_on c.from_residual.result c.in_err-inner.field-0.0 c.from_residual.ensures.1 (too_deep_at NameFactor _ c.requires.first (omega (arith, c.in_err-inner.ensures.refused.1)) c.place.ensures c.in_err-inner.ensures.refused.0)

pub named_factor-returns-in_err-name-clause-refused : goal.named_factor-returns-in_err-name-clause-refused
named_factor-returns-in_err-name-clause-refused t c = handed_on c.from_residual-in_err-name.result c.in_err-name.field-0.0 c.from_residual-in_err-name.ensures.1 (record {
  refuses = λ h stack. rule_first c.args.self.end NameFactor c.args.depth stack c.args.rest.now c.requires.first (omega (arith, c.in_ok-inner.ensures.ok.0, c.in_ok-inner.ensures.ok.1)) ∙ stops c.in_err-name.ensures.refused h _ _;
})

pub named_factor-returns-in_err-args-clause-refused : goal.named_factor-returns-in_err-args-clause-refused
named_factor-returns-in_err-args-clause-refused t c = handed_on c.from_residual-in_err-args.result c.in_err-args.field-0.0 c.from_residual-in_err-args.ensures.1 (record {
  refuses = λ h stack. rule_first c.args.self.end NameFactor c.args.depth stack c.args.rest.now c.requires.first (omega (arith, c.in_ok-inner.ensures.ok.0, c.in_ok-inner.ensures.ok.1)) ∙ past c.in_ok-name.ensures.ok _ _ ∙ by_rule c.args.self.end CallFactor (suc c.args.depth) stack c.in_ok-name.name.rest.now _ c.if-sees_symbol.ensures.yes (omega arith) ∙ stops (deep_args_refused c.in_ok-inner.ensures.ok.0 c.in_err-args.ensures.refused) h _ _;
})

pub named_factor-returns-in_err-selectors-clause-refused : goal.named_factor-returns-in_err-selectors-clause-refused
named_factor-returns-in_err-selectors-clause-refused t c = handed_on c.from_residual-in_err-selectors.result c.in_err-selectors.field-0.0 c.from_residual-in_err-selectors.ensures.1 (record {
  refuses = λ h stack. rule_first c.args.self.end NameFactor c.args.depth stack c.args.rest.now c.requires.first (omega (arith, c.in_ok-inner.ensures.ok.0, c.in_ok-inner.ensures.ok.1)) ∙ past c.in_ok-name.ensures.ok _ _ ∙ factor_tail_then c.args.self.end (suc c.args.depth) stack c.in_ok-name.name.rest.now c.if-sees_symbol.ensures.no _ ∙ stops (deep_refused c.in_ok-inner.ensures.ok.0 c.in_err-selectors.ensures.refused) h _ _;
})

pub named_factor-returns-then-sees_symbol-clause-ok : goal.named_factor-returns-then-sees_symbol-clause-ok
named_factor-returns-then-sees_symbol-clause-ok t c = read_same (ap (λ (z : Args). roll-Factor (Factor-F.Call c.in_ok-name.name.item z)) (roll-out-Args c.in_ok-args.args.item) ∙ rolls-Call c.in_ok-name.name.item c.in_ok-args.args.item) (record {
  reads = λ stack. rule_first c.args.self.end NameFactor c.args.depth stack c.args.rest.now c.requires.first (omega (arith, c.in_ok-inner.ensures.ok.0, c.in_ok-inner.ensures.ok.1)) ∙ past c.in_ok-name.ensures.ok _ _ ∙ by_rule c.args.self.end CallFactor (suc c.args.depth) stack c.in_ok-name.name.rest.now _ c.if-sees_symbol.ensures.yes (omega arith) ∙ past (deep_args c.in_ok-args.args.item c.in_ok-inner.ensures.ok.0 c.in_ok-args.ensures.ok) _ _;
})

pub named_factor-returns-clause-ok : goal.named_factor-returns-clause-ok
named_factor-returns-clause-ok t c = read_same (rolls-Designator (roll-Designator (record { name = c.in_ok-name.name.item; selectors = c.in_ok-selectors.selectors.item }))) (record {
  reads = λ stack. rule_first c.args.self.end NameFactor c.args.depth stack c.args.rest.now c.requires.first (omega (arith, c.in_ok-inner.ensures.ok.0, c.in_ok-inner.ensures.ok.1)) ∙ past c.in_ok-name.ensures.ok _ _ ∙ factor_tail_then c.args.self.end (suc c.args.depth) stack c.in_ok-name.name.rest.now c.if-sees_symbol.ensures.no _ ∙ past (deep_read c.in_ok-inner.ensures.ok.0 c.in_ok-selectors.ensures.ok) _ _;
})

pub index-returns-in_err-opening-clause-refused : goal.index-returns-in_err-opening-clause-refused
index-returns-in_err-opening-clause-refused t c = handed_on c.from_residual.result c.in_err-opening.field-0.0 c.from_residual.ensures.1 (record {
  refuses = λ h stack. rule_first c.args.self.end IndexSelector c.args.depth stack c.args.rest.now c.requires.first (omega arith) ∙ stops c.in_err-opening.ensures.refused h _ _;
})

pub index-returns-in_err-first-clause-refused : goal.index-returns-in_err-first-clause-refused
index-returns-in_err-first-clause-refused t c = handed_on c.from_residual-in_err-first.result c.in_err-first.field-0.0 c.from_residual-in_err-first.ensures.1 (record {
  refuses = λ h stack. rule_first c.args.self.end IndexSelector c.args.depth stack c.args.rest.now c.requires.first (omega arith) ∙ past c.in_ok-opening.ensures.ok _ _ ∙ stops c.in_err-first.ensures.refused h _ _;
})

pub index-returns-in_err-more-clause-refused : goal.index-returns-in_err-more-clause-refused
index-returns-in_err-more-clause-refused t c = handed_on c.from_residual-in_err-more.result c.in_err-more.field-0.0 c.from_residual-in_err-more.ensures.1 (record {
  refuses = λ h stack. rule_first c.args.self.end IndexSelector c.args.depth stack c.args.rest.now c.requires.first (omega arith) ∙ past c.in_ok-opening.ensures.ok _ _ ∙ past c.in_ok-first.ensures.ok _ _ ∙ stops c.in_err-more.ensures.refused h _ _;
})

pub index-returns-in_err-closing-clause-refused : goal.index-returns-in_err-closing-clause-refused
index-returns-in_err-closing-clause-refused t c = handed_on c.from_residual-in_err-closing.result c.in_err-closing.field-0.0 c.from_residual-in_err-closing.ensures.1 (record {
  refuses = λ h stack. rule_first c.args.self.end IndexSelector c.args.depth stack c.args.rest.now c.requires.first (omega arith) ∙ past c.in_ok-opening.ensures.ok _ _ ∙ past c.in_ok-first.ensures.ok _ _ ∙ past c.in_ok-more.ensures.ok _ _ ∙ stops c.in_err-closing.ensures.refused h _ _;
})

pub index-returns-in_err-opening-clause-assigns_not : goal.index-returns-in_err-opening-clause-assigns_not
index-returns-in_err-opening-clause-assigns_not t c = handed_on c.from_residual.result c.in_err-opening.field-0.0 c.from_residual.ensures.1 (record {
  refuses = λ h stack. rule_first c.args.self.end IndexTo c.args.depth stack c.args.rest.now c.requires.first (omega arith) ∙ stops c.in_err-opening.ensures.refused h _ _;
})

pub index-returns-in_err-first-clause-assigns_not : goal.index-returns-in_err-first-clause-assigns_not
index-returns-in_err-first-clause-assigns_not t c = handed_on c.from_residual-in_err-first.result c.in_err-first.field-0.0 c.from_residual-in_err-first.ensures.1 (record {
  refuses = λ h stack. rule_first c.args.self.end IndexTo c.args.depth stack c.args.rest.now c.requires.first (omega arith) ∙ past c.in_ok-opening.ensures.ok _ _ ∙ stops c.in_err-first.ensures.refused h _ _;
})

pub index-returns-in_err-more-clause-assigns_not : goal.index-returns-in_err-more-clause-assigns_not
index-returns-in_err-more-clause-assigns_not t c = handed_on c.from_residual-in_err-more.result c.in_err-more.field-0.0 c.from_residual-in_err-more.ensures.1 (record {
  refuses = λ h stack. rule_first c.args.self.end IndexTo c.args.depth stack c.args.rest.now c.requires.first (omega arith) ∙ past c.in_ok-opening.ensures.ok _ _ ∙ past c.in_ok-first.ensures.ok _ _ ∙ stops c.in_err-more.ensures.refused h _ _;
})

pub index-returns-in_err-closing-clause-assigns_not : goal.index-returns-in_err-closing-clause-assigns_not
index-returns-in_err-closing-clause-assigns_not t c = handed_on c.from_residual-in_err-closing.result c.in_err-closing.field-0.0 c.from_residual-in_err-closing.ensures.1 (record {
  refuses = λ h stack. rule_first c.args.self.end IndexTo c.args.depth stack c.args.rest.now c.requires.first (omega arith) ∙ past c.in_ok-opening.ensures.ok _ _ ∙ past c.in_ok-first.ensures.ok _ _ ∙ past c.in_ok-more.ensures.ok _ _ ∙ stops c.in_err-closing.ensures.refused h _ _;
})

pub index-returns-clause-ok : goal.index-returns-clause-ok
index-returns-clause-ok t c = selector_same (rolls-Index c.in_ok-opening.opening.item c.in_ok-first.first.item c.in_ok-more.more.item c.in_ok-closing.closing.item) (record {
  selects = record { reads = λ stack. rule_first c.args.self.end IndexSelector c.args.depth stack c.args.rest.now c.requires.first (omega arith) ∙ past c.in_ok-opening.ensures.ok _ _ ∙ past c.in_ok-first.ensures.ok _ _ ∙ past c.in_ok-more.ensures.ok _ _ ∙ past c.in_ok-closing.ensures.ok _ _ };
  assigns = record { reads = λ stack. rule_first c.args.self.end IndexTo c.args.depth stack c.args.rest.now c.requires.first (omega arith) ∙ past c.in_ok-opening.ensures.ok _ _ ∙ past c.in_ok-first.ensures.ok _ _ ∙ past c.in_ok-more.ensures.ok _ _ ∙ past c.in_ok-closing.ensures.ok _ _ };
})

pub selectors-returns-clause-ok : goal.selectors-returns-clause-ok
selectors-returns-clause-ok t c =
    let none = rw c.in_default.is at c.in_ok-selector.ensures.none in
    whole_read c.loop-items.invariant.read [] (no_selectors c.loop-items.left.now none.0 none.1) refl _ (append-nil _)
