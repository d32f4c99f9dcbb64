use Rattle.std.proofs.Common.{◌∙◌, [], refl, arith}
use Rattle.mc_parse.specs.Steps.{past, stops, by_rule, handed_on, grown, whole_read, goes_not_on}
use Rattle.std.proofs.lemmas.List.{append-nil}
use Rattle.mc_parse.specs.Only.{comma_ids_by}
use Rattle.mc_tree.specs.Grammar.{MoreIds}
use Rattle.mc_parse.proofs.reader.Reader.comma_ids.Goals as goal

pub returns-in_err-mark-clause-refused : goal.returns-in_err-mark-clause-refused
returns-in_err-mark-clause-refused c = handed_on c.from_residual.result c.in_err-mark.field-0.0 c.from_residual.ensures.1 (record {
  refuses = λ h stack. c.loop-self.invariant.read.reads stack ∙ by_rule c.args.self.end MoreIds c.args.depth stack c.loop-self.left.now _ c.loop-self-test.ensures.yes (omega arith) ∙ stops c.in_err-mark.ensures.refused h _ _;
})

pub returns-in_err-item-clause-refused : goal.returns-in_err-item-clause-refused
returns-in_err-item-clause-refused c = handed_on c.from_residual-in_err-item.result c.in_err-item.field-0.0 c.from_residual-in_err-item.ensures.1 (record {
  refuses = λ h stack. c.loop-self.invariant.read.reads stack ∙ by_rule c.args.self.end MoreIds c.args.depth stack c.loop-self.left.now _ c.loop-self-test.ensures.yes (omega arith) ∙ past c.in_ok-mark.ensures.ok _ _ ∙ stops c.in_err-item.ensures.refused h _ _;
})

pub loop-self-preserved : goal.loop-self-preserved
loop-self-preserved c = record {
  read = record { reads = λ stack. c.loop-self.invariant.read.reads stack ∙ by_rule c.args.self.end MoreIds c.args.depth stack c.loop-self.left.now _ c.loop-self-test.ensures.yes (omega arith) ∙ past c.in_ok-mark.ensures.ok _ _ ∙ past c.in_ok-item.ensures.ok _ _ ∙ grown _ c.loop-self.items _ _ c.in_ok-push.ensures.ok };
  within = omega (arith, c.in_ok-mark.ensures.shorter, c.in_ok-item.ensures.shorter);
}

pub returns-clause-ok : goal.returns-clause-ok
returns-clause-ok c = whole_read c.loop-self.invariant.read [] (goes_not_on comma_ids_by c.loop-self.left.now c.loop-self-test.ensures.no) refl _ (append-nil _)
