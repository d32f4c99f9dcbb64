use Rattle.std.proofs.Common.{◌≡◌, ◌≤◌, drop, length}
use Rattle.mc_meaning.specs.Actions.{least_rank}
use Rattle.mc_meaning.proofs.actions.least_rank.Given as goal

-- the least rank from i on
abbrev pub invariant-loop-i : goal.invariant-loop-i
invariant-loop-i l = record { within : l.i ≤ length l.waiters; so_far : l.least ≡ least_rank (drop l.i l.waiters) l.signal }

abbrev pub decreases-loop-i : goal.decreases-loop-i
decreases-loop-i l = l.i
