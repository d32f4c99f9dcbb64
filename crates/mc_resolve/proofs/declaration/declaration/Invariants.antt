use Rattle.std.proofs.Common.{◌≡◌, List, ◌++◌, drop}
use Rattle.mc_prog.specs.Notes.{Item, each}
use Rattle.mc_prog.specs.DeclarationNames.{const_, declaration, type_decl, var_}
use Rattle.mc_resolve.proofs.declaration.declaration.Given as goal

abbrev pub invariant-loop-constant : goal.invariant-loop-constant
invariant-loop-constant l =
    (rest : List Item) → l.out.items ++ each const_ (drop l.constant-index l.constant-items) rest ≡ l.fn.out.items ++ declaration l.tree rest

abbrev pub invariant-loop-named : goal.invariant-loop-named
invariant-loop-named l =
    (rest : List Item) → l.out.items ++ each type_decl (drop l.named-index l.named-items) rest ≡ l.fn.out.items ++ declaration l.tree rest

abbrev pub invariant-loop-variables : goal.invariant-loop-variables
invariant-loop-variables l =
    (rest : List Item) → l.out.items ++ each var_ (drop l.variables-index l.variables-items) rest ≡ l.fn.out.items ++ declaration l.tree rest
