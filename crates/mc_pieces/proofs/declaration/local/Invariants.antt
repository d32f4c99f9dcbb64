use Rattle.std.proofs.Common.{◌≡◌, drop}
use Rattle.mc_prog.specs.Pieces.{each}
use Rattle.mc_prog.specs.DeclarationPieces.{declaration}
use Rattle.mc_pieces.proofs.declaration.local.Given as goal

abbrev pub invariant-loop-one : goal.invariant-loop-one
invariant-loop-one l = each declaration (drop l.one-index l.one-items) l.walk ≡ each declaration l.one-items l.initial.walk
