use Rattle.std.proofs.Common.{take}
use Rattle.mc_rules.specs.AnyOf.{AnyOf, IsFirstOf}
use Rattle.mc_rules.specs.FirstPlaces.{HasSentFault}
use Rattle.mc_rules.proofs.signals.both_ways_fault.Given as goal

-- the first fault of the sendings so far
abbrev pub invariant-loop-send : goal.invariant-loop-send
invariant-loop-send l = IsFirstOf (AnyOf (HasSentFault l.waits) (take l.send-index l.sends)) l.first
