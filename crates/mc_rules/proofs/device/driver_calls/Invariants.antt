use Rattle.std.proofs.Common.{[], take}
use Rattle.mc_rules.specs.Following.{IsDriverCall}
use Rattle.mc_rules.specs.Gathering.{Adds}
use Rattle.mc_rules.proofs.device.driver_calls.Given as goal

-- those of the processes so far
abbrev pub invariant-loop-process : goal.invariant-loop-process
invariant-loop-process l = Adds (IsDriverCall l.nodes (take l.process-index l.processes)) [] l.calls.items
