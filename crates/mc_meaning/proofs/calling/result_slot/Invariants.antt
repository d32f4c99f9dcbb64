use Rattle.std.proofs.Common.{◌≡◌, ◌-◌, drop, length}
use Rattle.mc_meaning.specs.Calling.{result_slot}
use Rattle.mc_meaning.proofs.calling.result_slot.Given as goal

-- the slots before it are none of a result
abbrev pub invariant-loop-k : goal.invariant-loop-k
invariant-loop-k l = result_slot l.k (drop l.k l.slots) ≡ result_slot 0 l.slots

abbrev pub decreases-loop-k : goal.decreases-loop-k
decreases-loop-k l = length l.slots - l.k
