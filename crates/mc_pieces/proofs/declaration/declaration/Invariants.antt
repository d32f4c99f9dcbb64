use Rattle.std.proofs.Common.{◌≡◌, drop}
use Rattle.mc_prog.specs.Pieces.{each}
use Rattle.mc_prog.specs.DeclarationPieces.{const_, type_decl, var_}
use Rattle.mc_pieces.proofs.declaration.declaration.Given as goal

abbrev pub invariant-loop-constant : goal.invariant-loop-constant
invariant-loop-constant l = each const_ (drop l.constant-index l.constant-items) l.walk ≡ each const_ l.constant-items l.initial.walk

abbrev pub invariant-loop-named : goal.invariant-loop-named
invariant-loop-named l = each type_decl (drop l.named-index l.named-items) l.walk ≡ each type_decl l.named-items l.initial.walk

abbrev pub invariant-loop-variables : goal.invariant-loop-variables
invariant-loop-variables l = each var_ (drop l.variables-index l.variables-items) l.walk ≡ each var_ l.variables-items l.initial.walk
