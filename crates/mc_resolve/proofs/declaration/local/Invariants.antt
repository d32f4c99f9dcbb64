use Rattle.std.proofs.Common.{◌≡◌, List, ◌++◌, drop}
use Rattle.mc_prog.specs.Notes.{Item, each}
use Rattle.mc_prog.specs.StatementNames.{body}
use Rattle.mc_prog.specs.DeclarationNames.{declaration, local}
use Rattle.mc_resolve.proofs.declaration.local.Given as goal

abbrev pub invariant-loop-one : goal.invariant-loop-one
invariant-loop-one l =
    (rest : List Item) → l.out.items ++ each declaration (drop l.one-index l.one-items) (body l.tree.body rest) ≡ l.fn.out.items ++ local l.tree rest
