use Rattle.std.proofs.Common.{◌≡◌, ◌++◌, map, length}
use Rattle.mc_prog.specs.Known.{typed_at}
use Rattle.mc_prog.specs.StatementTypes.{but_last}
use Rattle.mc_types.proofs.rule.add_labels.Given as goal

-- with those that are left they are all labels
abbrev pub invariant-loop-left : goal.invariant-loop-left
invariant-loop-left l = l.labels.items ++ map (typed_at l.typed) (but_last l.left) ≡ l.fn.labels.items ++ map (typed_at l.typed) (but_last l.parts)

abbrev pub decreases-loop-left : goal.decreases-loop-left
decreases-loop-left l = length l.left
