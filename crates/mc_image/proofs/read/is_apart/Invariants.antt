use Rattle.std.proofs.Common.{take}
use Rattle.mc_image.specs.Blocks.{IsApartFrom}
use Rattle.mc_image.proofs.read.is_apart.Given as goal

abbrev pub invariant-loop-block : goal.invariant-loop-block
invariant-loop-block l = IsApartFrom (record { address = l.address; bytes = l.fn.bytes }) (take l.block-index l.blocks)
