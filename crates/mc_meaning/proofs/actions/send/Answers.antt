use Rattle.mc_meaning.specs.Kept.{configuration_of}
use Rattle.mc_meaning.proofs.ActionLaws.{sent-to, sent-to-none}
use Rattle.mc_meaning.proofs.EvaluationLaws.{ok-then}
use Rattle.mc_meaning.proofs.actions.send.Goals as goal

-- src/actions.rt: a waiter was chosen
pub returns-in-Some-clause-ok : goal.returns-in-Some-clause-ok
returns-in-Some-clause-ok c =
    ok-then c.send_to.result _ _ (λ step. sent-to (configuration_of c.args.config.now) (configuration_of c.send_to.new.config) c.args.n c.args.q.now c.pop_found.new.self c.in-Some-Named-Stored.signal c.waiters.result.now c.chosen.result c.in-Some.waiter c.args.rest.now.items
    (rw (c.in-Some-Named-Stored.field-0-is, c.in-Some-Named-Stored.field-0-0-is) at c.in-Some-Named-Stored.ensures) c.waiters.ensures c.chosen.ensures c.in-Some.is step) c.send_to.ensures.ok

-- src/actions.rt: nobody waits
pub returns-in-None-clause-ok : goal.returns-in-None-clause-ok
returns-in-None-clause-ok c =
    sent-to-none (configuration_of c.args.config.now) (configuration_of c.goes_on.new.self) c.args.n c.args.q.now c.pop_found.new.self c.in-Some-Named-Stored.signal c.waiters.result.now c.chosen.result c.args.rest.now.items
    (rw (c.in-Some-Named-Stored.field-0-is, c.in-Some-Named-Stored.field-0-0-is) at c.in-Some-Named-Stored.ensures) c.waiters.ensures c.chosen.ensures c.in-None.is c.goes_on.ensures
