use Rattle.mc_meaning.specs.Kept.{configuration_of}
use Rattle.mc_meaning.proofs.EvaluationLaws.{ok-then}
use Rattle.mc_meaning.proofs.FormLaws.{evaluated-by-parts}
use Rattle.mc_meaning.proofs.evaluation.evaluate.Goals as goal

-- src/evaluation.rt: no constant
pub returns-in_default-form : goal.returns-in_default-form
returns-in_default-form c = record {
  ok = ok-then c.goes_on_with_parts.result _ _ (λ step. evaluated-by-parts c.args.program.now (configuration_of c.args.config.now) (configuration_of c.goes_on_with_parts.new.config) c.args.n c.args.q.now c.args.node c.args.rest.now.items c.in-Some.form.now _ c.in-Some.ensures c.in_default-form.not-Constant step) c.goes_on_with_parts.ensures.ok;
  err = c.goes_on_with_parts.ensures.err;
}
