use Rattle.std.proofs.Common.{◌≡◌, ◌++◌, map, drop}
use Rattle.mc_prog.specs.Known.{typed_at}
use Rattle.mc_prog.specs.StatementTypes.{labels_of}
use Rattle.mc_types.proofs.rule.labels_of.Given as goal

-- with those of the arms that are left they are all labels
abbrev pub invariant-loop-arm : goal.invariant-loop-arm
invariant-loop-arm l = l.labels.items ++ map (typed_at l.typed) (labels_of l.pieces (drop l.arm-index l.arms)) ≡ map (typed_at l.typed) (labels_of l.pieces l.arms)
