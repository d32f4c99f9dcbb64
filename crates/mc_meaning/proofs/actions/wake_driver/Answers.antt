use Rattle.std.proofs.Common.{ap, ◌∙◌}
use Rattle.mc_meaning.specs.declared.process.State.TheVariants.{Acting}
use Rattle.mc_meaning.specs.Actions.{released, set_state}
use Rattle.mc_meaning.specs.Configuration.{Configuration}
use Rattle.mc_meaning.specs.Steps.{goes_on}
use Rattle.mc_meaning.proofs.ActionLaws.{on-err}
use Rattle.mc_meaning.proofs.actions.wake_driver.Goals as goal

-- src/actions.rt: the nest as it was
pub returns-in_err-joins-clause-err : goal.returns-in_err-joins-clause-err
returns-in_err-joins-clause-err c = on-err c.from_residual.result _ c.in_err-joins.ensures.err

-- src/actions.rt: the receiver acts above the sender
pub returns-clause-ok : goal.returns-clause-ok
returns-clause-ok c =
    c.sets_state.ensures ∙ ap (λ (d : Configuration). set_state d c.args.waiter Acting)
    (c.release.ensures ∙ ap (λ (d : Configuration). released (goes_on d c.args.n c.args.q.now c.args.q.now.found c.args.rest.now.items) c.args.waiter) c.in_ok-joins.ensures.ok)
