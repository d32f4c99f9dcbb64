use Rattle.mc_meaning.specs.Kept.{configuration_of}
use Rattle.mc_meaning.proofs.LeavingLaws.{vacated-popped}
use Rattle.mc_meaning.proofs.configuration.Config.vacates.Goals as goal

-- src/configuration.rt: the last of the nest has left
pub returns-else-is_none : goal.returns-else-is_none
returns-else-is_none c = vacated-popped (configuration_of c.args.self.now) c.pop.new.self.items c.pop.result c.pop.ensures.items c.if-is_none.ensures
