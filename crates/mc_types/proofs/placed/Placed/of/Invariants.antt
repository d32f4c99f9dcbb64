use Rattle.std.proofs.Common.{◌≤◌, drop, length}
use Rattle.mc_types.specs.Assembled.{AreTexts}
use Rattle.mc_types.proofs.placed.Placed.of.Given as goal

-- the table has the texts behind those that are left
abbrev pub invariant-loop-left : goal.invariant-loop-left
invariant-loop-left l = (l.left ≤ length l.texts) × AreTexts (drop l.left l.texts) l.placed.texts

abbrev pub decreases-loop-left : goal.decreases-loop-left
decreases-loop-left l = l.left
