use Rattle.std.proofs.Common.{◌∙◌, [], refl, sym, ap, arith}
use Rattle.mc_parse.specs.Steps.{past, stops, rule_first, by_rule, handed_on, grown, read_same, whole_read, goes_not_on}
use Rattle.std.proofs.lemmas.List.{append-nil}
use Rattle.mc_parse.specs.Only.{more_fields_by}
use Rattle.mc_parse.specs.Begins.{fields_as_ids}
use Rattle.mc_parse.specs.Deep.{deep_read, deep_refused, too_deep_at}
use Rattle.mc_tree.specs.Grammar.{ArrayType, NextFields, RecordType}
use Rattle.mc_tree.specs.declared.tree.Range.{Range}
use Rattle.mc_tree.specs.declared.tree.TypeTree.TheOpen.{TypeTree-F}
use Rattle.mc_tree.specs.declared.tree.TypeTree.TheViews.{roll-TypeTree, rolls-Array, rolls-Record}
use Rattle.mc_parse.proofs.reader.Reader.+type_tree.Goals as goal

pub array-returns-in_err-inner-clause-refused : goal.array-returns-in_err-inner-clause-refused
array-returns-in_err-inner-clause-refused t c = handed_on c.from_residual.result c.in_err-inner.field-0.0 c.from_residual.ensures.1 (too_deep_at ArrayType _ c.requires.first (omega (arith, c.in_err-inner.ensures.refused.1)) c.place.ensures c.in_err-inner.ensures.refused.0)

pub array-returns-in_err-word-clause-refused : goal.array-returns-in_err-word-clause-refused
array-returns-in_err-word-clause-refused t c = handed_on c.from_residual-in_err-word.result c.in_err-word.field-0.0 c.from_residual-in_err-word.ensures.1 (record {
  refuses = λ h stack. rule_first c.args.self.end ArrayType c.args.depth stack c.args.rest.now c.requires.first (omega (arith, c.in_ok-inner.ensures.ok.0, c.in_ok-inner.ensures.ok.1)) ∙ stops c.in_err-word.ensures.refused h _ _;
})

pub array-returns-in_err-first-clause-refused : goal.array-returns-in_err-first-clause-refused
array-returns-in_err-first-clause-refused t c = handed_on c.from_residual-in_err-first.result c.in_err-first.field-0.0 c.from_residual-in_err-first.ensures.1 (record {
  refuses = λ h stack. rule_first c.args.self.end ArrayType c.args.depth stack c.args.rest.now c.requires.first (omega (arith, c.in_ok-inner.ensures.ok.0, c.in_ok-inner.ensures.ok.1)) ∙ past c.in_ok-word.ensures.ok _ _ ∙ stops (deep_refused c.in_ok-inner.ensures.ok.0 c.in_err-first.ensures.refused) h _ _;
})

pub array-returns-in_err-more-clause-refused : goal.array-returns-in_err-more-clause-refused
array-returns-in_err-more-clause-refused t c = handed_on c.from_residual-in_err-more.result c.in_err-more.field-0.0 c.from_residual-in_err-more.ensures.1 (record {
  refuses = λ h stack. rule_first c.args.self.end ArrayType c.args.depth stack c.args.rest.now c.requires.first (omega (arith, c.in_ok-inner.ensures.ok.0, c.in_ok-inner.ensures.ok.1)) ∙ past c.in_ok-word.ensures.ok _ _ ∙ past (deep_read c.in_ok-inner.ensures.ok.0 c.in_ok-first.ensures.ok) _ _ ∙ stops (deep_refused c.in_ok-inner.ensures.ok.0 c.in_err-more.ensures.refused) h _ _;
})

pub array-returns-in_err-of-clause-refused : goal.array-returns-in_err-of-clause-refused
array-returns-in_err-of-clause-refused t c = handed_on c.from_residual-in_err-of.result c.in_err-of.field-0.0 c.from_residual-in_err-of.ensures.1 (record {
  refuses = λ h stack. rule_first c.args.self.end ArrayType c.args.depth stack c.args.rest.now c.requires.first (omega (arith, c.in_ok-inner.ensures.ok.0, c.in_ok-inner.ensures.ok.1)) ∙ past c.in_ok-word.ensures.ok _ _ ∙ past (deep_read c.in_ok-inner.ensures.ok.0 c.in_ok-first.ensures.ok) _ _ ∙ past (deep_read c.in_ok-inner.ensures.ok.0 c.in_ok-more.ensures.ok) _ _ ∙ stops c.in_err-of.ensures.refused h _ _;
})

pub array-returns-in_err-element-clause-refused : goal.array-returns-in_err-element-clause-refused
array-returns-in_err-element-clause-refused t c = handed_on c.from_residual-in_err-element.result c.in_err-element.field-0.0 c.from_residual-in_err-element.ensures.1 (record {
  refuses = λ h stack. rule_first c.args.self.end ArrayType c.args.depth stack c.args.rest.now c.requires.first (omega (arith, c.in_ok-inner.ensures.ok.0, c.in_ok-inner.ensures.ok.1)) ∙ past c.in_ok-word.ensures.ok _ _ ∙ past (deep_read c.in_ok-inner.ensures.ok.0 c.in_ok-first.ensures.ok) _ _ ∙ past (deep_read c.in_ok-inner.ensures.ok.0 c.in_ok-more.ensures.ok) _ _ ∙ past c.in_ok-of.ensures.ok _ _ ∙ stops (deep_refused c.in_ok-inner.ensures.ok.0 c.in_err-element.ensures.refused) h _ _;
})

pub array-returns-clause-shorter : goal.array-returns-clause-shorter
array-returns-clause-shorter t c = omega (arith, c.in_ok-word.ensures.shorter, c.in_ok-first.ensures.shorter, c.in_ok-more.ensures.within, c.in_ok-of.ensures.shorter, c.in_ok-element.ensures.shorter)

pub array-returns-clause-ok : goal.array-returns-clause-ok
array-returns-clause-ok t c = read_same (ap (λ (z : Range). roll-TypeTree (TypeTree-F.Array c.in_ok-word.word.item z c.in_ok-more.more.item c.in_ok-of.of.item c.in_ok-element.element.item)) (sym c.into_inner.ensures) ∙ rolls-Array c.in_ok-word.word.item c.into_inner.result c.in_ok-more.more.item c.in_ok-of.of.item c.in_ok-element.element.item) (record {
  reads = λ stack. rule_first c.args.self.end ArrayType c.args.depth stack c.args.rest.now c.requires.first (omega (arith, c.in_ok-inner.ensures.ok.0, c.in_ok-inner.ensures.ok.1)) ∙ past c.in_ok-word.ensures.ok _ _ ∙ past (deep_read c.in_ok-inner.ensures.ok.0 c.in_ok-first.ensures.ok) _ _ ∙ past (deep_read c.in_ok-inner.ensures.ok.0 c.in_ok-more.ensures.ok) _ _ ∙ past c.in_ok-of.ensures.ok _ _ ∙ past (deep_read c.in_ok-inner.ensures.ok.0 c.in_ok-element.ensures.ok) _ _;
})

pub record-returns-in_err-inner-clause-refused : goal.record-returns-in_err-inner-clause-refused
record-returns-in_err-inner-clause-refused t c = handed_on c.from_residual.result c.in_err-inner.field-0.0 c.from_residual.ensures.1 (too_deep_at RecordType _ c.requires.first (omega (arith, c.in_err-inner.ensures.refused.1)) c.place.ensures c.in_err-inner.ensures.refused.0)

pub record-returns-in_err-word-clause-refused : goal.record-returns-in_err-word-clause-refused
record-returns-in_err-word-clause-refused t c = handed_on c.from_residual-in_err-word.result c.in_err-word.field-0.0 c.from_residual-in_err-word.ensures.1 (record {
  refuses = λ h stack. rule_first c.args.self.end RecordType c.args.depth stack c.args.rest.now c.requires.first (omega (arith, c.in_ok-inner.ensures.ok.0, c.in_ok-inner.ensures.ok.1)) ∙ stops c.in_err-word.ensures.refused h _ _;
})

pub record-returns-in_err-first-clause-refused : goal.record-returns-in_err-first-clause-refused
record-returns-in_err-first-clause-refused t c = handed_on c.from_residual-in_err-first.result c.in_err-first.field-0.0 c.from_residual-in_err-first.ensures.1 (record {
  refuses = λ h stack. rule_first c.args.self.end RecordType c.args.depth stack c.args.rest.now c.requires.first (omega (arith, c.in_ok-inner.ensures.ok.0, c.in_ok-inner.ensures.ok.1)) ∙ past c.in_ok-word.ensures.ok _ _ ∙ stops (deep_refused c.in_ok-inner.ensures.ok.0 c.in_err-first.ensures.refused) h _ _;
})

pub record-returns-in_err-more-clause-refused : goal.record-returns-in_err-more-clause-refused
record-returns-in_err-more-clause-refused t c = handed_on c.from_residual-in_err-more.result c.in_err-more.field-0.0 c.from_residual-in_err-more.ensures.1 (record {
  refuses = λ h stack. rule_first c.args.self.end RecordType c.args.depth stack c.args.rest.now c.requires.first (omega (arith, c.in_ok-inner.ensures.ok.0, c.in_ok-inner.ensures.ok.1)) ∙ past c.in_ok-word.ensures.ok _ _ ∙ past (deep_read c.in_ok-inner.ensures.ok.0 c.in_ok-first.ensures.ok) _ _ ∙ stops (deep_refused c.in_ok-inner.ensures.ok.0 c.in_err-more.ensures.refused) h _ _;
})

pub record-returns-in_err-end-clause-refused : goal.record-returns-in_err-end-clause-refused
record-returns-in_err-end-clause-refused t c = handed_on c.from_residual-in_err-end.result c.in_err-end.field-0.0 c.from_residual-in_err-end.ensures.1 (record {
  refuses = λ h stack. rule_first c.args.self.end RecordType c.args.depth stack c.args.rest.now c.requires.first (omega (arith, c.in_ok-inner.ensures.ok.0, c.in_ok-inner.ensures.ok.1)) ∙ past c.in_ok-word.ensures.ok _ _ ∙ past (deep_read c.in_ok-inner.ensures.ok.0 c.in_ok-first.ensures.ok) _ _ ∙ past (deep_read c.in_ok-inner.ensures.ok.0 c.in_ok-more.ensures.ok) _ _ ∙ stops c.in_err-end.ensures.refused h _ _;
})

pub record-returns-clause-shorter : goal.record-returns-clause-shorter
record-returns-clause-shorter t c = omega (arith, c.in_ok-word.ensures.shorter, c.in_ok-first.ensures.shorter, c.in_ok-more.ensures.within, c.in_ok-end.ensures.shorter)

pub record-returns-clause-ok : goal.record-returns-clause-ok
record-returns-clause-ok t c = read_same (rolls-Record c.in_ok-word.word.item c.in_ok-first.first.item c.in_ok-more.more.item c.in_ok-end.end.item) (record {
  reads = λ stack. rule_first c.args.self.end RecordType c.args.depth stack c.args.rest.now c.requires.first (omega (arith, c.in_ok-inner.ensures.ok.0, c.in_ok-inner.ensures.ok.1)) ∙ past c.in_ok-word.ensures.ok _ _ ∙ past (deep_read c.in_ok-inner.ensures.ok.0 c.in_ok-first.ensures.ok) _ _ ∙ past (deep_read c.in_ok-inner.ensures.ok.0 c.in_ok-more.ensures.ok) _ _ ∙ past c.in_ok-end.ensures.ok _ _;
})

pub fields-returns-in_err-names-clause-refused : goal.fields-returns-in_err-names-clause-refused
fields-returns-in_err-names-clause-refused t c = handed_on c.from_residual.result c.in_err-names.field-0.0 c.from_residual.ensures.1 (record {
  refuses = λ h stack. fields_as_ids c.args.self.end c.args.depth stack c.args.rest.now ∙ stops c.in_err-names.ensures.refused h _ _;
})

pub fields-returns-in_err-colon-clause-refused : goal.fields-returns-in_err-colon-clause-refused
fields-returns-in_err-colon-clause-refused t c = handed_on c.from_residual-in_err-colon.result c.in_err-colon.field-0.0 c.from_residual-in_err-colon.ensures.1 (record {
  refuses = λ h stack. fields_as_ids c.args.self.end c.args.depth stack c.args.rest.now ∙ past c.in_ok-names.ensures.ok _ _ ∙ stops c.in_err-colon.ensures.refused h _ _;
})

pub fields-returns-in_err-of-clause-refused : goal.fields-returns-in_err-of-clause-refused
fields-returns-in_err-of-clause-refused t c = handed_on c.from_residual-in_err-of.result c.in_err-of.field-0.0 c.from_residual-in_err-of.ensures.1 (record {
  refuses = λ h stack. fields_as_ids c.args.self.end c.args.depth stack c.args.rest.now ∙ past c.in_ok-names.ensures.ok _ _ ∙ past c.in_ok-colon.ensures.ok _ _ ∙ stops c.in_err-of.ensures.refused h _ _;
})

pub fields-returns-clause-shorter : goal.fields-returns-clause-shorter
fields-returns-clause-shorter t c = omega (arith, c.in_ok-names.ensures.shorter, c.in_ok-colon.ensures.shorter, c.in_ok-of.ensures.shorter)

pub fields-returns-clause-ok : goal.fields-returns-clause-ok
fields-returns-clause-ok t c = record {
  reads = λ stack. fields_as_ids c.args.self.end c.args.depth stack c.args.rest.now ∙ past c.in_ok-names.ensures.ok _ _ ∙ past c.in_ok-colon.ensures.ok _ _ ∙ past c.in_ok-of.ensures.ok _ _;
}

pub more_fields-returns-in_err-mark-clause-refused : goal.more_fields-returns-in_err-mark-clause-refused
more_fields-returns-in_err-mark-clause-refused t c = handed_on c.from_residual.result c.in_err-mark.field-0.0 c.from_residual.ensures.1 (record {
  refuses = λ h stack. c.loop-self.invariant.read.reads stack ∙ by_rule c.args.self.end NextFields c.args.depth stack c.loop-self.left.now _ c.loop-self-test.ensures.yes (omega arith) ∙ stops c.in_err-mark.ensures.refused h _ _;
})

pub more_fields-returns-in_err-item-clause-refused : goal.more_fields-returns-in_err-item-clause-refused
more_fields-returns-in_err-item-clause-refused t c = handed_on c.from_residual-in_err-item.result c.in_err-item.field-0.0 c.from_residual-in_err-item.ensures.1 (record {
  refuses = λ h stack. c.loop-self.invariant.read.reads stack ∙ by_rule c.args.self.end NextFields c.args.depth stack c.loop-self.left.now _ c.loop-self-test.ensures.yes (omega arith) ∙ past c.in_ok-mark.ensures.ok _ _ ∙ stops c.in_err-item.ensures.refused h _ _;
})

pub more_fields-loop-self-preserved : goal.more_fields-loop-self-preserved
more_fields-loop-self-preserved t c = record {
  read = record { reads = λ stack. c.loop-self.invariant.read.reads stack ∙ by_rule c.args.self.end NextFields c.args.depth stack c.loop-self.left.now _ c.loop-self-test.ensures.yes (omega arith) ∙ past c.in_ok-mark.ensures.ok _ _ ∙ past c.in_ok-item.ensures.ok _ _ ∙ grown _ c.loop-self.items _ _ c.in_ok-push.ensures.ok };
  within = omega (arith, c.in_ok-mark.ensures.shorter, c.in_ok-item.ensures.shorter);
}

pub more_fields-returns-clause-ok : goal.more_fields-returns-clause-ok
more_fields-returns-clause-ok t c = whole_read c.loop-self.invariant.read [] (goes_not_on more_fields_by c.loop-self.left.now c.loop-self-test.ensures.no) refl _ (append-nil _)
