use Rattle.std.proofs.Common.{◌≡◌, ◌+◌, ◌++◌, drop}
use Rattle.mc_expand.specs.Pieces.{fronts}
use Rattle.mc_expand.proofs.pieces.push_fronts.Given as goal

abbrev pub invariant-loop-k : goal.invariant-loop-k
invariant-loop-k l = l.pieces.items ++ fronts l.c (l.n + l.k) (drop l.k l.entries) ≡ l.initial.pieces.items ++ fronts l.c l.n l.entries
