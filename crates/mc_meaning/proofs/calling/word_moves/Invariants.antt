use Rattle.std.proofs.Common.{◌≡◌, ◌-◌, ◌≤◌, ◌++◌}
use Rattle.mc_meaning.specs.Calling.{word_moves}
use Rattle.mc_meaning.proofs.calling.word_moves.Given as goal

-- the moves so far, and those that are left
abbrev pub invariant-loop-k : goal.invariant-loop-k
invariant-loop-k l = record { within : l.k ≤ l.words; so_far : l.items.items ++ word_moves l.to l.from l.k (l.words - l.k) ≡ l.initial.items.items ++ word_moves l.to l.from 0 l.words }

abbrev pub decreases-loop-k : goal.decreases-loop-k
decreases-loop-k l = l.words - l.k
