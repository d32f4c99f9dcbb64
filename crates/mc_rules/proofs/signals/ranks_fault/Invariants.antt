use Rattle.std.proofs.Common.{take}
use Rattle.mc_rules.specs.AnyOf.{AnyOf, IsFirstOf}
use Rattle.mc_rules.specs.Signals.{IsRankFaultOf}
use Rattle.mc_rules.proofs.signals.ranks_fault.Given as goal

abbrev pub invariant-loop-call : goal.invariant-loop-call
invariant-loop-call l = IsFirstOf (AnyOf IsRankFaultOf (take l.call-index l.calls)) l.first
