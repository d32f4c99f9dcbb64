use Rattle.std.proofs.Common.{◌≡◌, List, ◌++◌, drop}
use Rattle.mc_prog.specs.Notes.{Item, each, maybe}
use Rattle.mc_prog.specs.Names.{begun, face_block, face_one}
use Rattle.mc_resolve.proofs.module.face_block.Given as goal

abbrev pub invariant-loop-part : goal.invariant-loop-part
invariant-loop-part l =
    (rest : List Item) → l.out.items ++ each face_one (drop l.part-index l.part-items) (maybe begun l.tree.body rest) ≡ l.fn.out.items ++ face_block l.tree rest
