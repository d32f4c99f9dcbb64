use Rattle.std.proofs.Common.{◌≡◌, take}
use Rattle.std.specs.List.{flat_map}
use Rattle.mc_image.specs.Format.{data_bytes}
use Rattle.mc_image.proofs.write.write_image.Given as goal

abbrev pub invariant-loop-block : goal.invariant-loop-block
invariant-loop-block l = l.out.items ≡ flat_map data_bytes (take l.block-index l.block-items)
