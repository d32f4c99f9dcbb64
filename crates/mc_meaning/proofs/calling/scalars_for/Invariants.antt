use Rattle.std.proofs.Common.{◌≡◌, ◌-◌, ◌++◌, drop, length}
use Rattle.mc_meaning.specs.Calling.{scalars_for}
use Rattle.mc_meaning.proofs.calling.scalars_for.Given as goal

-- the words so far, and those of the arguments that are left
abbrev pub invariant-loop-k : goal.invariant-loop-k
invariant-loop-k l = l.words.items ++ scalars_for l.n l.activation l.k (drop l.k l.slots) (drop l.k l.arguments) ≡ l.initial.words.items ++ scalars_for l.n l.activation 0 l.slots l.arguments

abbrev pub decreases-loop-k : goal.decreases-loop-k
decreases-loop-k l = length l.slots - l.k
