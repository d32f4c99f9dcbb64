use Rattle.std.proofs.Common.{◌≤◌, ◌++◌, List}
use Rattle.mc_parse.specs.Reads.{IsReadUpTo}
use Rattle.mc_tree.specs.Grammar.{CommaRangesPhrase}
use Rattle.mc_tree.specs.declared.tree.After.{After}
use Rattle.mc_tree.specs.declared.tree.Range.{Range}
use Rattle.mc_tree.specs.declared.tree.After.{After}
use Rattle.std.proofs.Common.{length}
use Rattle.mc_parse.proofs.reader.Reader.comma_ranges.Given as goal

abbrev pub invariant-loop-self : goal.invariant-loop-self
invariant-loop-self l = record { read : IsReadUpTo l.self.end l.depth CommaRangesPhrase l.fn.rest (λ (more : List (After Range)). l.items ++ more) l.left; within : length l.left ≤ length l.fn.rest }

abbrev pub decreases-loop-self : goal.decreases-loop-self
decreases-loop-self l = length l.left
