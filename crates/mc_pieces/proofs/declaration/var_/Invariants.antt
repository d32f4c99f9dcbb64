use Rattle.std.proofs.Common.{◌≡◌, drop}
use Rattle.mc_prog.specs.Pieces.{each, after}
use Rattle.mc_prog.specs.DeclarationPieces.{var_id}
use Rattle.mc_pieces.proofs.declaration.var_.Given as goal

abbrev pub invariant-loop-next : goal.invariant-loop-next
invariant-loop-next l = each (after var_id) (drop l.next-index l.next-items) l.walk ≡ each (after var_id) l.next-items l.initial.walk
