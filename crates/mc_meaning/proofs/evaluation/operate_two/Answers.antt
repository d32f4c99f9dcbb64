use Rattle.mc_meaning.specs.Kept.{configuration_of, outcome_of}
use Rattle.mc_meaning.proofs.EvaluationLaws.{ok-then, operated-two}
use Rattle.mc_meaning.proofs.evaluation.operate_two.Goals as goal

-- src/evaluation.rt
pub returns-in-Some-Value-pop_found-clause-ok : goal.returns-in-Some-Value-pop_found-clause-ok
returns-in-Some-Value-pop_found-clause-ok c =
    ok-then c.gives.result _ _ (λ step. operated-two c.args.program.now (configuration_of c.args.config.now) (configuration_of c.gives.new.config) c.args.n c.args.node c.args.q.now c.pop_found.new.self c.pop_found-in-Some-Value.new.self c.in-Some-Value-pop_found.a c.in-Some-Value.b (outcome_of c.binary_at-outcome.result) c.args.rest.now.items
    (rw c.in-Some-Value.field-0-is at c.in-Some-Value.ensures) (rw c.in-Some-Value-pop_found.field-0-is at c.in-Some-Value-pop_found.ensures) c.binary_at-outcome.ensures step) c.gives.ensures.ok
