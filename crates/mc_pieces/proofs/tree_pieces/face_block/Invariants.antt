use Rattle.std.proofs.Common.{◌≡◌, drop}
use Rattle.mc_prog.specs.Pieces.{each}
use Rattle.mc_prog.specs.TreePieces.{face_one}
use Rattle.mc_pieces.proofs.tree_pieces.face_block.Given as goal

abbrev pub invariant-loop-part : goal.invariant-loop-part
invariant-loop-part l = each face_one (drop l.part-index l.part-items) l.walk ≡ each face_one l.part-items l.initial.walk
