use Rattle.std.proofs.Common.{◌≤◌, ◌++◌, List}
use Rattle.mc_parse.specs.Reads.{IsReadUpTo}
use Rattle.mc_tree.specs.Grammar.{SectionsPhrase}
use Rattle.mc_tree.specs.declared.tree.After.{After}
use Rattle.mc_tree.specs.declared.tree.Section.{Section}
use Rattle.mc_tree.specs.declared.tree.After.{After}
use Rattle.std.proofs.Common.{length}
use Rattle.mc_parse.proofs.reader.Reader.more_sections.Given as goal

abbrev pub invariant-loop-self : goal.invariant-loop-self
invariant-loop-self l = record { read : IsReadUpTo l.self.end l.depth SectionsPhrase l.fn.rest (λ (more : List (After Section)). l.items ++ more) l.left; within : length l.left ≤ length l.fn.rest }

abbrev pub decreases-loop-self : goal.decreases-loop-self
decreases-loop-self l = length l.left
