use Rattle.std.proofs.Common.{◌≡◌, take, replicate}
use Rattle.mc_image.proofs.read.finish.Given as goal

abbrev pub invariant-loop-i : goal.invariant-loop-i
invariant-loop-i l = take l.i l.left ≡ replicate l.i 0
