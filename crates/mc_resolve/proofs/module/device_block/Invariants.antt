use Rattle.std.proofs.Common.{◌≡◌, List, ◌++◌, drop}
use Rattle.mc_prog.specs.Notes.{Item, each, maybe}
use Rattle.mc_prog.specs.Names.{begun, device_block, device_one}
use Rattle.mc_resolve.proofs.module.device_block.Given as goal

abbrev pub invariant-loop-part : goal.invariant-loop-part
invariant-loop-part l =
    (rest : List Item) → l.out.items ++ each device_one (drop l.part-index l.part-items) (maybe begun l.tree.body rest) ≡ l.fn.out.items ++ device_block l.tree rest
