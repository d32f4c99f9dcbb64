use Rattle.std.proofs.Common.{◌≡◌, ◌-◌, ◌++◌, drop, length}
use Rattle.mc_meaning.specs.Steps.{labels_of}
use Rattle.mc_meaning.proofs.statements.labels_of.Given as goal

-- the labels so far, and those of the arms that are left
abbrev pub invariant-loop-i : goal.invariant-loop-i
invariant-loop-i l = l.labels.items ++ labels_of l.program (drop l.i l.arms) ≡ labels_of l.program l.arms

abbrev pub decreases-loop-i : goal.decreases-loop-i
decreases-loop-i l = length l.arms - l.i
