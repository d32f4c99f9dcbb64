use Rattle.std.proofs.Common.{◌≡◌, Some, drop}
use Rattle.mc_meaning.specs.Actions.{first_of_rank}
use Rattle.mc_meaning.proofs.actions.first_of_rank.Given as goal

-- those before it are no such waiters
abbrev pub invariant-loop-waiter : goal.invariant-loop-waiter
invariant-loop-waiter l = first_of_rank (drop l.waiter-index l.waiters) l.signal (Some l.rank) ≡ first_of_rank l.waiters l.signal (Some l.rank)
