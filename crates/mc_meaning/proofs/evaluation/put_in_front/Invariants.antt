use Rattle.std.proofs.Common.{◌≡◌, ◌≤◌, ◌++◌, drop, length}
use Rattle.mc_meaning.proofs.evaluation.put_in_front.Given as goal

-- the items from i on are in front
abbrev pub invariant-loop-i : goal.invariant-loop-i
invariant-loop-i l = record { within : l.i ≤ length l.items; so_far : l.rest.items ≡ drop l.i l.items ++ l.initial.rest.items }

abbrev pub decreases-loop-i : goal.decreases-loop-i
decreases-loop-i l = l.i
