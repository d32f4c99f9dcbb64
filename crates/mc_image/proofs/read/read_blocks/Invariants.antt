use Rattle.std.proofs.Common.{◌-◌, ◌≤◌, length}
use Rattle.mc_image.specs.Steps.{IsRead}
use Rattle.mc_image.proofs.read.read_blocks.Given as goal

abbrev pub invariant-loop-at : goal.invariant-loop-at
invariant-loop-at l = record {
  within : l.at ≤ length l.bytes;
  is_read : IsRead l.at l.blocks.items l.bytes;
}

abbrev pub decreases-loop-at : goal.decreases-loop-at
decreases-loop-at l = length l.bytes - l.at
