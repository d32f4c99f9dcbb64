use Rattle.std.proofs.Common.{◌≡◌, ◌-◌, ◌++◌, drop, length}
use Rattle.mc_meaning.specs.Calling.{copies}
use Rattle.mc_meaning.proofs.calling.copies.Given as goal

-- the moves so far, and those of the arguments that are left
abbrev pub invariant-loop-k : goal.invariant-loop-k
invariant-loop-k l = l.items.items ++ copies l.program l.n l.activation l.k (drop l.k l.slots) (drop l.k l.arguments) ≡ l.initial.items.items ++ copies l.program l.n l.activation 0 l.slots l.arguments

abbrev pub decreases-loop-k : goal.decreases-loop-k
decreases-loop-k l = length l.slots - l.k
