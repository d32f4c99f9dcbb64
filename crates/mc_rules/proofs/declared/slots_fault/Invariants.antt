use Rattle.std.proofs.Common.{take}
use Rattle.mc_rules.specs.AnyOf.{AnyOf, IsFirstOf}
use Rattle.mc_rules.specs.RuleFaults.{IsSlotFault}
use Rattle.mc_rules.proofs.declared.slots_fault.Given as goal

abbrev pub invariant-loop-slot : goal.invariant-loop-slot
invariant-loop-slot l = IsFirstOf (AnyOf IsSlotFault (take l.slot-index l.slots)) l.first
