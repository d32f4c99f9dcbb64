use Rattle.std.proofs.Common.{take}
use Rattle.pdp_machine.specs.Put.{HasBlocks}
use Rattle.pdp_machine.proofs.opening.open_core.Given as goal

abbrev pub invariant-loop-block : goal.invariant-loop-block
invariant-loop-block l = HasBlocks (take l.block-index l.block-items) l.core
