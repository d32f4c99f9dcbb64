use Rattle.std.proofs.Common.{◌≡◌, ◌-◌, ◌++◌, drop, length}
use Rattle.mc_meaning.specs.Calling.{byte_moves}
use Rattle.mc_meaning.proofs.calling.byte_moves.Given as goal

-- the moves so far, and those that are left
abbrev pub invariant-loop-k : goal.invariant-loop-k
invariant-loop-k l = l.items.items ++ byte_moves l.to l.k (drop l.k l.bytes) ≡ l.initial.items.items ++ byte_moves l.to 0 l.bytes

abbrev pub decreases-loop-k : goal.decreases-loop-k
decreases-loop-k l = length l.bytes - l.k
