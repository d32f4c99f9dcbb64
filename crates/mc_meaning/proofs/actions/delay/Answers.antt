use Rattle.mc_meaning.specs.Kept.{configuration_of}
use Rattle.mc_meaning.proofs.ActionLaws.{delayed-by, on-err}
use Rattle.mc_meaning.proofs.actions.delay.Goals as goal

-- src/actions.rt: the waiters as they were
pub returns-in_err-adds_waiter-clause-err : goal.returns-in_err-adds_waiter-clause-err
returns-in_err-adds_waiter-clause-err c = on-err c.from_residual.result _ c.in_err-adds_waiter.ensures.err

-- src/actions.rt: the process waits and has left its place
pub returns-clause-ok : goal.returns-clause-ok
returns-clause-ok c =
    delayed-by (configuration_of c.args.config.now) (configuration_of c.adds_waiter.new.self) (configuration_of c.goes_on.new.self) (configuration_of c.vacates.new.self) c.args.n c.args.q.now c.set_state.new.self c.args.signal c.args.rank c.args.rest.now.items
    c.in_ok-adds_waiter.ensures.ok c.set_state.ensures c.goes_on.ensures c.vacates.ensures
