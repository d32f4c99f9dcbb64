use Rattle.std.proofs.Common.{◌≡◌, ◌-◌, ◌≤◌, ◌++◌}
use Rattle.mc_meaning.specs.Calling.{clears}
use Rattle.mc_meaning.proofs.calling.clears.Given as goal

-- the words so far, and those that are left
abbrev pub invariant-loop-k : goal.invariant-loop-k
invariant-loop-k l = record { within : l.k ≤ l.words; so_far : l.items.items ++ clears l.name l.k (l.words - l.k) ≡ l.initial.items.items ++ clears l.name 0 l.words }

abbrev pub decreases-loop-k : goal.decreases-loop-k
decreases-loop-k l = l.words - l.k
