use Rattle.std.proofs.Common.{ap, ◌∙◌}
use Rattle.mc_meaning.specs.declared.process.State.TheVariants.{Ready}
use Rattle.mc_meaning.specs.Actions.{set_state}
use Rattle.mc_meaning.specs.Configuration.{Configuration}
use Rattle.mc_meaning.proofs.actions.from_driver.Goals as goal

-- src/actions.rt: a regular process is ready
pub returns-then-not-to_driver : goal.returns-then-not-to_driver
returns-then-not-to_driver c = rw c.if-not-to_driver.true (c.sets_state.ensures ∙ ap (λ (d : Configuration). set_state d c.args.waiter Ready) c.release.ensures)

-- src/actions.rt: a device process stays as it is
pub returns-else-not-to_driver : goal.returns-else-not-to_driver
returns-else-not-to_driver c = rw c.if-not-to_driver.false c.release.ensures
