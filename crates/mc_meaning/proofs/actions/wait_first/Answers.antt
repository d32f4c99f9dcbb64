use Rattle.mc_meaning.specs.Kept.{configuration_of}
use Rattle.mc_meaning.proofs.ActionLaws.{waits-first}
use Rattle.mc_meaning.proofs.EvaluationLaws.{ok-then}
use Rattle.mc_meaning.proofs.actions.wait_first.Goals as goal

-- src/actions.rt
pub returns-in-Some-Named-Stored-clause-ok : goal.returns-in-Some-Named-Stored-clause-ok
returns-in-Some-Named-Stored-clause-ok c =
    ok-then c.delay.result _ _ (λ step. waits-first (configuration_of c.args.config.now) (configuration_of c.delay.new.config) c.args.n c.args.q.now c.pop_found.new.self c.in-Some-Named-Stored.signal c.args.rest.now.items
    (rw (c.in-Some-Named-Stored.field-0-is, c.in-Some-Named-Stored.field-0-0-is) at c.in-Some-Named-Stored.ensures) step) c.delay.ensures.ok
