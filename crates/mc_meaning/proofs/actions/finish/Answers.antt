use Rattle.mc_meaning.specs.declared.process.State.TheVariants.{Ended}
use Rattle.mc_meaning.specs.Kept.{configuration_of}
use Rattle.mc_meaning.proofs.ActionLaws.{left-in}
use Rattle.mc_meaning.proofs.actions.finish.Goals as goal

-- src/actions.rt
pub returns : goal.returns
returns c =
    left-in (configuration_of c.args.config.now) (configuration_of c.goes_on.new.self) (configuration_of c.vacates.new.self) c.args.n Ended c.args.q.now c.set_state.new.self c.args.rest.now.items
    c.set_state.ensures c.goes_on.ensures c.vacates.ensures
