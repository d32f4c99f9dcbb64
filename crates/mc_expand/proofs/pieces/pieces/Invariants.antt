use Rattle.std.proofs.Common.{◌≡◌, ◌≤◌, ◌++◌, drop, length}
use Rattle.mc_expand.specs.Pieces.{pieces_from, pieces_of}
use Rattle.mc_expand.proofs.pieces.pieces.Given as goal

abbrev pub invariant-loop-c : goal.invariant-loop-c
invariant-loop-c l = record {
  rest : l.pieces.items ++ pieces_from l.c l.on l.n (drop l.n l.entries) (drop l.c l.p.code) ≡ pieces_of l.p;
  within : l.n ≤ length l.entries;
}
