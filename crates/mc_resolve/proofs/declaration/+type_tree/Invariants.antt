use Rattle.std.proofs.Common.{◌≡◌, List, ◌∷◌, ◌++◌, drop}
use Rattle.mc_prog.specs.Notes.{Item, Closes, each, after}
use Rattle.mc_prog.specs.DeclarationNames.{fields, range, type_tree}
use Rattle.mc_resolve.proofs.declaration.+type_tree.Given as goal

abbrev pub invariant-type_tree-loop-index : goal.invariant-type_tree-loop-index
invariant-type_tree-loop-index l =
    (rest : List Item) → l.out.items ++ each (after range) (drop l.index-index l.index-items) (type_tree l.element rest) ≡ l.fn.out.items ++ type_tree l.tree rest

abbrev pub invariant-type_tree-loop-next : goal.invariant-type_tree-loop-next
invariant-type_tree-loop-next l =
    (rest : List Item) → l.out.items ++ each (after fields) (drop l.next-index l.next-items) (Closes ∷ rest) ≡ l.fn.out.items ++ type_tree l.tree rest
