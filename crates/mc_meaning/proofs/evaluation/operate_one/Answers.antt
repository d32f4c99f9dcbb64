use Rattle.mc_meaning.specs.Kept.{configuration_of, outcome_of}
use Rattle.mc_meaning.proofs.EvaluationLaws.{ok-then, operated-one}
use Rattle.mc_meaning.proofs.evaluation.operate_one.Goals as goal

-- src/evaluation.rt
pub returns-in-Some-Value-clause-ok : goal.returns-in-Some-Value-clause-ok
returns-in-Some-Value-clause-ok c =
    ok-then c.gives.result _ _ (λ step. operated-one c.args.program.now (configuration_of c.args.config.now) (configuration_of c.gives.new.config) c.args.n c.args.node c.args.q.now c.pop_found.new.self c.in-Some-Value.a (outcome_of c.unary_at-outcome.result) c.args.rest.now.items
    (rw c.in-Some-Value.field-0-is at c.in-Some-Value.ensures) c.unary_at-outcome.ensures step) c.gives.ensures.ok
