use Rattle.mc_straight.proofs.Paired.{device_from}
use Rattle.mc_straight.proofs.read.straight_line.Goals as goal

pub returns-in-Device : goal.returns-in-Device
returns-in-Device c = device_from c.args.tree.now c.in-Device.program c.device_line.result c.in-Device.is c.device_line.ensures
