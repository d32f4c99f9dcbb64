use Rattle.std.proofs.Common.{◌≡◌, ◌-◌, ◌++◌, drop, length}
use Rattle.mc_meaning.specs.Calling.{local_clears}
use Rattle.mc_meaning.proofs.calling.local_clears.Given as goal

-- the words so far, and those of the slots that are left
abbrev pub invariant-loop-k : goal.invariant-loop-k
invariant-loop-k l = l.items.items ++ local_clears l.program l.n l.activation l.k (drop l.k l.slots) ≡ l.initial.items.items ++ local_clears l.program l.n l.activation 0 l.slots

abbrev pub decreases-loop-k : goal.decreases-loop-k
decreases-loop-k l = length l.slots - l.k
