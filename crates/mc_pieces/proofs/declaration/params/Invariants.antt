use Rattle.std.proofs.Common.{◌≡◌, drop}
use Rattle.mc_prog.specs.Pieces.{each, after}
use Rattle.mc_prog.specs.DeclarationPieces.{section}
use Rattle.mc_pieces.proofs.declaration.params.Given as goal

abbrev pub invariant-loop-next : goal.invariant-loop-next
invariant-loop-next l = each (after section) (drop l.next-index l.next-items) l.walk ≡ each (after section) l.next-items l.initial.walk
