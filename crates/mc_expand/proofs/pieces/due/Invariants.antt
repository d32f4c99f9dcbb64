use Rattle.std.proofs.Common.{◌≡◌, ◌+◌, drop}
use Rattle.mc_expand.specs.Pieces.{due}
use Rattle.mc_expand.proofs.pieces.due.Given as goal

abbrev pub invariant-loop-k : goal.invariant-loop-k
invariant-loop-k l = l.k + due l.c (drop l.k l.entries) ≡ due l.c l.entries
