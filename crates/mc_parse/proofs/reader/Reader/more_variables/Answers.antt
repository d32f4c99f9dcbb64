use Rattle.std.proofs.Common.{◌∙◌, [], refl, arith}
use Rattle.mc_parse.specs.Steps.{past, stops, handed_on, grown, whole_read, goes_not_on}
use Rattle.std.proofs.lemmas.List.{append-nil}
use Rattle.mc_parse.specs.Only.{vars_by}
use Rattle.mc_parse.specs.Begins.{vars_then}
use Rattle.mc_parse.proofs.reader.Reader.more_variables.Goals as goal

pub returns-in_err-item-clause-refused : goal.returns-in_err-item-clause-refused
returns-in_err-item-clause-refused c = handed_on c.from_residual.result c.in_err-item.field-0.0 c.from_residual.ensures.1 (record {
  refuses = λ h stack. c.loop-self.invariant.read.reads stack ∙ vars_then c.args.self.end c.args.depth stack c.loop-self.left.now c.loop-self-test.ensures.yes _ ∙ stops c.in_err-item.ensures.refused h _ _;
})

pub loop-self-preserved : goal.loop-self-preserved
loop-self-preserved c = record {
  read = record { reads = λ stack. c.loop-self.invariant.read.reads stack ∙ vars_then c.args.self.end c.args.depth stack c.loop-self.left.now c.loop-self-test.ensures.yes _ ∙ past c.in_ok-item.ensures.ok _ _ ∙ grown _ c.loop-self.items _ _ c.in_ok-push.ensures.ok };
  within = omega (arith, c.in_ok-item.ensures.shorter);
}

pub returns-clause-ok : goal.returns-clause-ok
returns-clause-ok c = whole_read c.loop-self.invariant.read [] (goes_not_on vars_by c.loop-self.left.now c.loop-self-test.ensures.no) refl _ (append-nil _)
