use Rattle.std.proofs.Common.{◌≡◌, drop}
use Rattle.mc_prog.specs.Pieces.{each, after}
use Rattle.mc_prog.specs.DeclarationPieces.{fields, range}
use Rattle.mc_pieces.proofs.declaration.+type_tree.Given as goal

abbrev pub invariant-type_tree-loop-index : goal.invariant-type_tree-loop-index
invariant-type_tree-loop-index l = each (after range) (drop l.index-index l.index-items) l.walk ≡ each (after range) l.index-items l.initial.walk

abbrev pub invariant-type_tree-loop-next : goal.invariant-type_tree-loop-next
invariant-type_tree-loop-next l = each (after fields) (drop l.next-index l.next-items) l.walk ≡ each (after fields) l.next-items l.initial.walk
