use Rattle.mc_meaning.specs.Kept.{configuration_of}
use Rattle.mc_meaning.proofs.EvaluationLaws.{put-in-front}
use Rattle.mc_meaning.proofs.evaluation.replaced.Goals as goal

-- src/evaluation.rt
pub returns-clause-ok : goal.returns-clause-ok
returns-clause-ok c = put-in-front (configuration_of c.args.config.now) (configuration_of c.goes_on.new.self) c.args.n c.args.q.now c.args.items.now c.args.rest.now.items _ c.in_ok-put_in_front.ensures c.goes_on.ensures
