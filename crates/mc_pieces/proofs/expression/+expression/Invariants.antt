use Rattle.std.proofs.Common.{◌≡◌, drop}
use Rattle.mc_prog.specs.Pieces.{each, after}
use Rattle.mc_prog.specs.ExpressionPieces.{added_term, element, expr, multiplied_factor, selector}
use Rattle.mc_pieces.specs.Walks.{indexed}
use Rattle.mc_pieces.proofs.expression.+expression.Given as goal

abbrev pub invariant-args-loop-next : goal.invariant-args-loop-next
invariant-args-loop-next l = each (after expr) (drop l.next-index l.next-items) l.walk ≡ each (after expr) l.next-items l.initial.walk

abbrev pub invariant-designator-loop-inner : goal.invariant-designator-loop-inner
invariant-designator-loop-inner l = each selector (drop l.inner-index l.inner-items) l.walk ≡ each selector l.inner-items l.initial.walk

abbrev pub invariant-elements-loop-next : goal.invariant-elements-loop-next
invariant-elements-loop-next l = each (after element) (drop l.next-index l.next-items) l.walk ≡ each (after element) l.next-items l.initial.walk

abbrev pub invariant-selector-loop-next : goal.invariant-selector-loop-next
invariant-selector-loop-next l = each (after indexed) (drop l.next-index l.next-items) l.walk ≡ each (after indexed) l.next-items l.initial.walk

abbrev pub invariant-simple-loop-added : goal.invariant-simple-loop-added
invariant-simple-loop-added l = each added_term (drop l.added-index l.added-items) l.walk ≡ each added_term l.added-items l.initial.walk

abbrev pub invariant-term-loop-multiplied : goal.invariant-term-loop-multiplied
invariant-term-loop-multiplied l = each multiplied_factor (drop l.multiplied-index l.multiplied-items) l.walk ≡ each multiplied_factor l.multiplied-items l.initial.walk
