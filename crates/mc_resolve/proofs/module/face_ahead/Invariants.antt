use Rattle.std.proofs.Common.{◌≡◌, List, ◌++◌, drop}
use Rattle.mc_prog.specs.Notes.{Item, each}
use Rattle.mc_prog.specs.Names.{face_ahead}
use Rattle.mc_resolve.proofs.module.face_ahead.Given as goal

abbrev pub invariant-loop-part : goal.invariant-loop-part
invariant-loop-part l =
    (rest : List Item) → l.out.items ++ each face_ahead (drop l.part-index l.part-items) rest ≡ l.fn.out.items ++ each face_ahead l.tree.parts rest
