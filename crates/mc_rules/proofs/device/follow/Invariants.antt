use Rattle.std.proofs.Common.{◌+◌, ◌*◌, ◌-◌, ◌^◌, length}
use Rattle.mc_rules.proofs.FollowLaws.{Follows}
use Rattle.mc_rules.proofs.Marks.{unmarked}
use Rattle.mc_rules.proofs.device.follow.Given as goal

abbrev pub invariant-loop-next : goal.invariant-loop-next
invariant-loop-next l = Follows l.nodes l.procedures l.fn.found.items l.marks l.next l.found.items

-- A procedure that is entered may add many calls, but no more than fit.
abbrev pub decreases-loop-next : goal.decreases-loop-next
decreases-loop-next l = unmarked l.marks * 2 ^ 64 + (length l.found.items - l.next)
