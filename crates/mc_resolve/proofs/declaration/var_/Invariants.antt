use Rattle.std.proofs.Common.{◌≡◌, List, ◌++◌, drop}
use Rattle.mc_prog.specs.Notes.{Item, each, after}
use Rattle.mc_prog.specs.DeclarationNames.{known_var, type_tree, var_, var_id}
use Rattle.mc_resolve.proofs.declaration.var_.Given as goal

abbrev pub invariant-loop-next : goal.invariant-loop-next
invariant-loop-next l =
    (rest : List Item) → l.out.items ++ each (after var_id) (drop l.next-index l.next-items) (type_tree l.tree.of (known_var l.tree.first (each (after known_var) l.tree.more rest)))
    ≡ l.fn.out.items ++ var_ l.tree rest

abbrev pub invariant-loop-known : goal.invariant-loop-known
invariant-loop-known l =
    (rest : List Item) → l.out.items ++ each (after known_var) (drop l.known-index l.known-items) rest ≡ l.fn.out.items ++ var_ l.tree rest
