-- Why the machine stops.
use Rattle.std.specs.Prelude.{Option, Some, None}
use Rattle.pdp_def.specs.declared.outcome.Outcome.{Outcome}
use Rattle.pdp_def.specs.declared.outcome.Outcome.TheVariants.{Ran, Idle, Halt as Halted, BusFault as Fault, Reserved as Unknown}
use Rattle.pdp_machine.specs.declared.stop.Stop.{Stop}
use Rattle.pdp_machine.specs.declared.stop.Stop.TheVariants.{Halt, BusFault, Reserved}

abbrev pub stop_of : Outcome → Option Stop
stop_of Ran = None
stop_of Idle = None
stop_of Halted = Some Halt
stop_of (Fault a) = Some (BusFault a)
stop_of (Unknown w) = Some (Reserved w)
