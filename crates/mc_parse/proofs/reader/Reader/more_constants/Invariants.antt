use Rattle.std.proofs.Common.{◌≤◌, ◌++◌, List}
use Rattle.mc_parse.specs.Reads.{IsReadUpTo}
use Rattle.mc_tree.specs.Grammar.{ConstsPhrase}
use Rattle.mc_tree.specs.declared.tree.Const.{Const}
use Rattle.std.proofs.Common.{length}
use Rattle.mc_parse.proofs.reader.Reader.more_constants.Given as goal

abbrev pub invariant-loop-self : goal.invariant-loop-self
invariant-loop-self l = record { read : IsReadUpTo l.self.end l.depth ConstsPhrase l.fn.rest (λ (more : List Const). l.items ++ more) l.left; within : length l.left ≤ length l.fn.rest }

abbrev pub decreases-loop-self : goal.decreases-loop-self
decreases-loop-self l = length l.left
