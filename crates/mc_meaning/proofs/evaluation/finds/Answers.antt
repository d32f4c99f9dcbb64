use Rattle.mc_meaning.specs.Kept.{configuration_of}
use Rattle.mc_meaning.proofs.EvaluationLaws.{found-more}
use Rattle.mc_meaning.proofs.evaluation.finds.Goals as goal

-- src/evaluation.rt
pub returns-clause-ok : goal.returns-clause-ok
returns-clause-ok c = found-more (configuration_of c.args.config.now) (configuration_of c.goes_on.new.self) c.args.n c.args.q.now _ c.args.found c.args.rest.now.items c.in_ok-push_found.ensures c.goes_on.ensures
