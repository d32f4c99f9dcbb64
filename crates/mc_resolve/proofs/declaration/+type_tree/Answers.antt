use Rattle.std.proofs.Common.{◌∷◌}
use Rattle.std.proofs.lemmas.Result.{on_ok_weaker}
use Rattle.mc_prog.specs.Notes.{Closes, after}
use Rattle.mc_prog.specs.DeclarationNames.{fields, range}
use Rattle.mc_resolve.proofs.AddsLaws.{after_loop}
use Rattle.mc_resolve.proofs.declaration.+type_tree.Goals as goal

pub type_tree-returns-after-loop-index : goal.type_tree-returns-after-loop-index
type_tree-returns-after-loop-index t c =
    on_ok_weaker c.type_tree.result (after_loop (after range) _ _ _ _ _ _ _ c.loop-index.invariant c.loop-index-test.false) (rw c.get.ensures at c.type_tree.ensures)

pub type_tree-returns-after-loop-next : goal.type_tree-returns-after-loop-next
type_tree-returns-after-loop-next t c =
    on_ok_weaker c.put-in-Record-2.result (after_loop (after fields) _ _ _ _ _ (λ rest. Closes ∷ rest) _ c.loop-next.invariant c.loop-next-test.false) c.put-in-Record-2.ensures
