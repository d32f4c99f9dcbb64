use Rattle.std.proofs.Common.{◌≡◌, List, ◌++◌, drop}
use Rattle.mc_prog.specs.Notes.{Item, each, after}
use Rattle.mc_prog.specs.ExpressionNames.{added_term, args, designator, element, elements, expr, multiplied_factor, selector, simple, term}
use Rattle.mc_resolve.proofs.expression.+expression.Given as goal

abbrev pub invariant-args-loop-next : goal.invariant-args-loop-next
invariant-args-loop-next l =
    (rest : List Item) → l.out.items ++ each (after expr) (drop l.next-index l.next-items) rest ≡ l.fn.out.items ++ args l.tree rest

abbrev pub invariant-designator-loop-inner : goal.invariant-designator-loop-inner
invariant-designator-loop-inner l =
    (rest : List Item) → l.out.items ++ each selector (drop l.inner-index l.inner-items) rest ≡ l.fn.out.items ++ designator l.tree rest

abbrev pub invariant-elements-loop-next : goal.invariant-elements-loop-next
invariant-elements-loop-next l =
    (rest : List Item) → l.out.items ++ each (after element) (drop l.next-index l.next-items) rest ≡ l.fn.out.items ++ elements l.tree rest

abbrev pub invariant-selector-loop-next : goal.invariant-selector-loop-next
invariant-selector-loop-next l =
    (rest : List Item) → l.out.items ++ each (after expr) (drop l.next-index l.next-items) rest ≡ l.fn.out.items ++ selector l.tree rest

abbrev pub invariant-simple-loop-added : goal.invariant-simple-loop-added
invariant-simple-loop-added l =
    (rest : List Item) → l.out.items ++ each added_term (drop l.added-index l.added-items) rest ≡ l.fn.out.items ++ simple l.tree rest

abbrev pub invariant-term-loop-multiplied : goal.invariant-term-loop-multiplied
invariant-term-loop-multiplied l =
    (rest : List Item) → l.out.items ++ each multiplied_factor (drop l.multiplied-index l.multiplied-items) rest ≡ l.fn.out.items ++ term l.tree rest
