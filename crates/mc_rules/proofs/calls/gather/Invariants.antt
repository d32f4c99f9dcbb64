use Rattle.std.proofs.Common.{◌^◌}
use Rattle.mc_rules.proofs.CallLaws.{Gathers}
use Rattle.mc_rules.proofs.Weights.{weigh}
use Rattle.mc_rules.proofs.calls.gather.Given as goal

-- what is ahead has the calls that are still missing
abbrev pub invariant-loop-next : goal.invariant-loop-next
invariant-loop-next l = Gathers l.nodes l.fn.n l.ahead.items l.fn.calls.items l.calls.items

-- A node may put many parts ahead, but each stands in front of it, and they are no more than fit.
abbrev pub decreases-loop-next : goal.decreases-loop-next
decreases-loop-next l = weigh (2 ^ 64) l.ahead.items
