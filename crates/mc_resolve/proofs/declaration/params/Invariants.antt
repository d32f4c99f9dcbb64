use Rattle.std.proofs.Common.{◌≡◌, List, ◌++◌, drop}
use Rattle.mc_prog.specs.Notes.{Item, each, after}
use Rattle.mc_prog.specs.DeclarationNames.{params, section}
use Rattle.mc_resolve.proofs.declaration.params.Given as goal

abbrev pub invariant-loop-next : goal.invariant-loop-next
invariant-loop-next l =
    (rest : List Item) → l.out.items ++ each (after section) (drop l.next-index l.next-items) rest ≡ l.fn.out.items ++ params l.tree rest
