use Rattle.std.proofs.Common.{◌≤◌, ◌+◌, ◌++◌, List}
use Rattle.mc_parse.specs.Reads.{IsReadUpTo}
use Rattle.mc_tree.specs.Grammar.{AssigningPhrase, CommaElementsPhrase, CommaExprsPhrase, SelectorsPhrase, SimpleTailPhrase, TermTailPhrase}
use Rattle.mc_tree.specs.declared.expression.Expr.{Expr}
use Rattle.mc_tree.specs.declared.expression.Element.{Element}
use Rattle.mc_tree.specs.declared.expression.Selector.{Selector}
use Rattle.mc_tree.specs.declared.tree.After.{After}
use Rattle.mc_tree.specs.declared.expression.AddedTerm.{AddedTerm}
use Rattle.mc_tree.specs.declared.expression.MultipliedFactor.{MultipliedFactor}
use Rattle.mc_parse.specs.Slots.{target_of}
use Rattle.std.proofs.Common.{◌-◌, ◌*◌, length}
use Rattle.mc_parse.proofs.reader.Reader.+expression.Given as goal

abbrev pub decreases-expr : goal.decreases-expr
decreases-expr l = (64 - l.depth) * 16 + 8

abbrev pub decreases-boxed_expr : goal.decreases-boxed_expr
decreases-boxed_expr l = (64 - l.depth) * 16 + 9

abbrev pub decreases-compared : goal.decreases-compared
decreases-compared l = (64 - l.depth) * 16 + 7

abbrev pub decreases-simple : goal.decreases-simple
decreases-simple l = (64 - l.depth) * 16 + 6

abbrev pub decreases-signed : goal.decreases-signed
decreases-signed l = (64 - l.depth) * 16 + 5

abbrev pub decreases-unsigned : goal.decreases-unsigned
decreases-unsigned l = (64 - l.depth) * 16 + 5

abbrev pub decreases-added_terms : goal.decreases-added_terms
decreases-added_terms l = (64 - l.depth) * 16 + 4

abbrev pub decreases-term : goal.decreases-term
decreases-term l = (64 - l.depth) * 16 + 3

abbrev pub decreases-multiplied_factors : goal.decreases-multiplied_factors
decreases-multiplied_factors l = (64 - l.depth) * 16 + 2

abbrev pub decreases-factor : goal.decreases-factor
decreases-factor l = (64 - l.depth) * 16 + 1

abbrev pub decreases-named_factor : goal.decreases-named_factor
decreases-named_factor l = (64 - l.depth) * 16 + 0

abbrev pub decreases-group : goal.decreases-group
decreases-group l = (64 - l.depth) * 16 + 0

abbrev pub decreases-negation : goal.decreases-negation
decreases-negation l = (64 - l.depth) * 16 + 0

abbrev pub decreases-bits : goal.decreases-bits
decreases-bits l = (64 - l.depth) * 16 + 0

abbrev pub decreases-bits_tail : goal.decreases-bits_tail
decreases-bits_tail l = (64 - l.depth) * 16 + 13

abbrev pub decreases-elements : goal.decreases-elements
decreases-elements l = (64 - l.depth) * 16 + 12

abbrev pub decreases-comma_elements : goal.decreases-comma_elements
decreases-comma_elements l = (64 - l.depth) * 16 + 11

abbrev pub decreases-element : goal.decreases-element
decreases-element l = (64 - l.depth) * 16 + 10

abbrev pub decreases-boxed_element : goal.decreases-boxed_element
decreases-boxed_element l = (64 - l.depth) * 16 + 11

abbrev pub decreases-last_element : goal.decreases-last_element
decreases-last_element l = (64 - l.depth) * 16 + 9

abbrev pub decreases-args : goal.decreases-args
decreases-args l = (64 - l.depth) * 16 + 10

abbrev pub decreases-comma_exprs : goal.decreases-comma_exprs
decreases-comma_exprs l = (64 - l.depth) * 16 + 9

abbrev pub decreases-selectors : goal.decreases-selectors
decreases-selectors l = (64 - l.depth) * 16 + 12

abbrev pub decreases-selector : goal.decreases-selector
decreases-selector l = (64 - l.depth) * 16 + 11

abbrev pub decreases-index : goal.decreases-index
decreases-index l = (64 - l.depth) * 16 + 10

abbrev pub invariant-added_terms-loop-operator : goal.invariant-added_terms-loop-operator
invariant-added_terms-loop-operator l = record { read : IsReadUpTo l.self.end l.depth SimpleTailPhrase l.fn.rest (λ (more : List AddedTerm). l.items ++ more) l.left; within : length l.left ≤ length l.fn.rest }

abbrev pub decreases-added_terms-loop-operator : goal.decreases-added_terms-loop-operator
decreases-added_terms-loop-operator l = length l.left

abbrev pub invariant-multiplied_factors-loop-operator : goal.invariant-multiplied_factors-loop-operator
invariant-multiplied_factors-loop-operator l = record { read : IsReadUpTo l.self.end l.depth TermTailPhrase l.fn.rest (λ (more : List MultipliedFactor). l.items ++ more) l.left; within : length l.left ≤ length l.fn.rest }

abbrev pub decreases-multiplied_factors-loop-operator : goal.decreases-multiplied_factors-loop-operator
decreases-multiplied_factors-loop-operator l = length l.left

abbrev pub invariant-comma_elements-loop-self : goal.invariant-comma_elements-loop-self
invariant-comma_elements-loop-self l = record { read : IsReadUpTo l.self.end l.depth CommaElementsPhrase l.fn.rest (λ (more : List (After Element)). l.items ++ more) l.left; within : length l.left ≤ length l.fn.rest }

abbrev pub decreases-comma_elements-loop-self : goal.decreases-comma_elements-loop-self
decreases-comma_elements-loop-self l = length l.left

abbrev pub invariant-comma_exprs-loop-self : goal.invariant-comma_exprs-loop-self
invariant-comma_exprs-loop-self l = record { read : IsReadUpTo l.self.end l.depth CommaExprsPhrase l.fn.rest (λ (more : List (After Expr)). l.items ++ more) l.left; within : length l.left ≤ length l.fn.rest }

abbrev pub decreases-comma_exprs-loop-self : goal.decreases-comma_exprs-loop-self
decreases-comma_exprs-loop-self l = length l.left

abbrev pub invariant-selectors-loop-items : goal.invariant-selectors-loop-items
invariant-selectors-loop-items l = record { read : IsReadUpTo l.self.end l.depth SelectorsPhrase l.fn.rest (λ (more : List Selector). l.items ++ more) l.left; assigns : IsReadUpTo l.self.end l.depth AssigningPhrase l.fn.rest (target_of l.items) l.left; within : length l.left ≤ length l.fn.rest }

abbrev pub decreases-selectors-loop-items : goal.decreases-selectors-loop-items
decreases-selectors-loop-items l = length l.left
