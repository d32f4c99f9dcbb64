use Rattle.mc_meaning.specs.Kept.{configuration_of}
use Rattle.mc_meaning.proofs.ActionLaws.{granted-acting}
use Rattle.mc_meaning.proofs.configuration.Config.grants.Goals as goal

-- src/configuration/moves.rt: a process stands at its doio
pub returns-in-Some-clause-ok : goal.returns-in-Some-clause-ok
returns-in-Some-clause-ok c =
    granted-acting (configuration_of c.args.self.now) (configuration_of c.sets_state.new.self) c.args.request c.in-Some.n c.in_ok-n.n c.in_ok-nest.nest.items c.granted.new.self c.push.new.self.items
    c.in_ok-n.ensures c.in-Some.is c.in_ok-nest.ensures c.granted.ensures c.in_ok-push.ensures.items c.sets_state.ensures
