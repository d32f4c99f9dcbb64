use Rattle.std.proofs.Common.{◌≡◌, drop}
use Rattle.mc_prog.specs.Pieces.{each}
use Rattle.mc_prog.specs.TextPieces.{face_one}
use Rattle.mc_pieces.proofs.text_pieces.interface_module.Given as goal

abbrev pub invariant-loop-part : goal.invariant-loop-part
invariant-loop-part l = each face_one (drop l.part-index l.part-items) l.walk ≡ each face_one l.part-items l.initial.walk
