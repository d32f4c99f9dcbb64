use Rattle.mc_straight.proofs.Forced.{address_from}
use Rattle.mc_straight.proofs.parts.address_of.Goals as goal

pub returns-in-Some : goal.returns-in-Some
returns-in-Some c = address_from c.args.id.now c.in-Some.bracket c.number_of.result c.in-Some.is c.number_of.ensures
