use Rattle.std.proofs.Common.{◌≡◌, ◌-◌, ◌++◌, drop, length}
use Rattle.mc_meaning.specs.Calling.{references_for}
use Rattle.mc_meaning.proofs.calling.references_for.Given as goal

-- the references so far, and those of the arguments that are left
abbrev pub invariant-loop-k : goal.invariant-loop-k
invariant-loop-k l = l.references.items ++ references_for l.k (drop l.k l.slots) (drop l.k l.arguments) ≡ references_for 0 l.slots l.arguments

abbrev pub decreases-loop-k : goal.decreases-loop-k
decreases-loop-k l = length l.slots - l.k
