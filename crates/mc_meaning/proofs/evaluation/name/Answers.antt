use Rattle.mc_meaning.specs.Kept.{configuration_of}
use Rattle.mc_meaning.proofs.EvaluationLaws.{ok-then}
use Rattle.mc_meaning.proofs.FormLaws.{named-by-parts}
use Rattle.mc_meaning.proofs.evaluation.name.Goals as goal

-- src/evaluation.rt: no name and no text
pub returns-in_default-form : goal.returns-in_default-form
returns-in_default-form c = record {
  ok = ok-then c.goes_on_with_names.result _ _ (λ step. named-by-parts c.args.program.now (configuration_of c.args.config.now) (configuration_of c.goes_on_with_names.new.config) c.args.n c.args.q.now c.args.node c.args.rest.now.items c.in-Some.form.now _ c.in-Some.ensures c.in_default-form.not-Literal c.in_default-form.not-Cell c.in_default-form.not-Slot step) c.goes_on_with_names.ensures.ok;
  err = c.goes_on_with_names.ensures.err;
}
