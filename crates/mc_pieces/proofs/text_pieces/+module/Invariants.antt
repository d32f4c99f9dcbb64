use Rattle.std.proofs.Common.{◌≡◌, drop}
use Rattle.mc_prog.specs.Pieces.{each}
use Rattle.mc_prog.specs.TextPieces.{plain_part}
use Rattle.mc_pieces.proofs.text_pieces.+module.Given as goal

abbrev pub invariant-plain-loop-part : goal.invariant-plain-loop-part
invariant-plain-loop-part l = each plain_part (drop l.part-index l.part-items) l.walk ≡ each plain_part l.part-items l.initial.walk
