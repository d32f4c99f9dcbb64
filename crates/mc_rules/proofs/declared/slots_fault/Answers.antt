use Rattle.std.proofs.Common.{arith}
use Rattle.mc_rules.specs.Rules.{slot_fault}
use Rattle.mc_rules.specs.RuleFaults.{IsSlotFault}
use Rattle.mc_rules.proofs.AnyLaws.{own-more, first-all}
use Rattle.mc_rules.proofs.declared.slots_fault.Goals as goal

-- src/declared.rt: one more
pub loop-slot-preserved : goal.loop-slot-preserved
loop-slot-preserved c = own-more slot_fault c.args.slots.now c.loop-slot.slot-index _ c.loop-slot.first c.slot_fault.result c.earlier-first.result
    (omega (arith, c.loop-slot-test.true, c.loop-slot.auto.slot-index-end)) c.slot_fault.ensures c.loop-slot.invariant c.earlier-first.ensures

-- src/declared.rt: all
pub returns : goal.returns
returns c = first-all (IsSlotFault) c.args.slots.now c.loop-slot.slot-index c.loop-slot.first (omega (arith, c.loop-slot-test.false)) c.loop-slot.invariant
