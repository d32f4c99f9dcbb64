use Rattle.std.proofs.Common.{◌≡◌, drop}
use Rattle.mc_prog.specs.Pieces.{each}
use Rattle.mc_prog.specs.TextPieces.{device_one}
use Rattle.mc_pieces.proofs.text_pieces.device_block.Given as goal

abbrev pub invariant-loop-part : goal.invariant-loop-part
invariant-loop-part l = each device_one (drop l.part-index l.part-items) l.walk ≡ each device_one l.part-items l.initial.walk
