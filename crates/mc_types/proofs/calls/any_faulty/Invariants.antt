use Rattle.std.proofs.Common.{◌≡◌, length}
use Rattle.mc_prog.specs.Calls.{any_faulty}
use Rattle.mc_types.proofs.calls.any_faulty.Given as goal

-- those so far have none
abbrev pub invariant-loop-left : goal.invariant-loop-left
invariant-loop-left l = any_faulty l.left ≡ any_faulty l.arguments

abbrev pub decreases-loop-left : goal.decreases-loop-left
decreases-loop-left l = length l.left
