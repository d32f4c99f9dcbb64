use Rattle.mc_meaning.specs.Kept.{configuration_of}
use Rattle.mc_meaning.proofs.ActionLaws.{waits-negative, waits-ranked}
use Rattle.mc_meaning.proofs.EvaluationLaws.{ok-then}
use Rattle.mc_meaning.proofs.actions.wait_ranked.Goals as goal

-- src/actions.rt: a negative rank
pub returns-then-rank-gt32767-clause-ok : goal.returns-then-rank-gt32767-clause-ok
returns-then-rank-gt32767-clause-ok c =
    waits-negative (configuration_of c.args.config.now) (configuration_of c.traps.new.self) c.args.n c.args.q.now c.pop_found.new.self c.pop_found-in-Some-Value.new.self c.in-Some-Named-Stored.signal c.in-Some-Value.rank c.args.rest.now.items c.if-rank-gt32767.true
    (rw c.in-Some-Value.field-0-is at c.in-Some-Value.ensures) (rw (c.in-Some-Named-Stored.field-0-is, c.in-Some-Named-Stored.field-0-0-is) at c.in-Some-Named-Stored.ensures) c.traps.ensures

-- src/actions.rt
pub returns-else-rank-gt32767-clause-ok : goal.returns-else-rank-gt32767-clause-ok
returns-else-rank-gt32767-clause-ok c =
    ok-then c.delay.result _ _ (λ step. waits-ranked (configuration_of c.args.config.now) (configuration_of c.delay.new.config) c.args.n c.args.q.now c.pop_found.new.self c.pop_found-in-Some-Value.new.self c.in-Some-Named-Stored.signal c.in-Some-Value.rank c.args.rest.now.items c.if-rank-gt32767.false
    (rw c.in-Some-Value.field-0-is at c.in-Some-Value.ensures) (rw (c.in-Some-Named-Stored.field-0-is, c.in-Some-Named-Stored.field-0-0-is) at c.in-Some-Named-Stored.ensures) step) c.delay.ensures.ok
