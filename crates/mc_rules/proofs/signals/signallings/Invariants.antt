use Rattle.std.proofs.Common.{take}
use Rattle.mc_rules.specs.Signals.{AreSignallings}
use Rattle.mc_rules.proofs.signals.signallings.Given as goal

abbrev pub invariant-loop-call : goal.invariant-loop-call
invariant-loop-call l = AreSignallings l.nodes l.way (take l.call-index l.calls) l.found.items
