use Rattle.std.proofs.Common.{◌≤◌, ◌+◌, ◌++◌, List}
use Rattle.mc_parse.specs.Reads.{IsReadUpTo}
use Rattle.mc_tree.specs.Grammar.{ArmsPhrase, ElsifsPhrase, ExitsPhrase, StatementsPhrase}
use Rattle.mc_tree.specs.declared.statement.Statement.{Statement}
use Rattle.mc_tree.specs.declared.statement.Elsif.{Elsif}
use Rattle.mc_tree.specs.declared.statement.Exit.{Exit}
use Rattle.mc_tree.specs.declared.tree.After.{After}
use Rattle.mc_tree.specs.declared.statement.Arm.{Arm}
use Rattle.std.proofs.Common.{◌-◌, ◌*◌, length}
use Rattle.mc_parse.proofs.reader.Reader.+statement.Given as goal

abbrev pub decreases-choice : goal.decreases-choice
decreases-choice l = (64 - l.depth) * 16 + 0

abbrev pub decreases-while_loop : goal.decreases-while_loop
decreases-while_loop l = (64 - l.depth) * 16 + 0

abbrev pub decreases-repeat : goal.decreases-repeat
decreases-repeat l = (64 - l.depth) * 16 + 0

abbrev pub decreases-plain_loop : goal.decreases-plain_loop
decreases-plain_loop l = (64 - l.depth) * 16 + 0

abbrev pub decreases-case : goal.decreases-case
decreases-case l = (64 - l.depth) * 16 + 0

abbrev pub decreases-statement : goal.decreases-statement
decreases-statement l = (64 - l.depth) * 16 + 1

abbrev pub decreases-boxed_statement : goal.decreases-boxed_statement
decreases-boxed_statement l = (64 - l.depth) * 16 + 2

abbrev pub decreases-statements : goal.decreases-statements
decreases-statements l = (64 - l.depth) * 16 + 2

abbrev pub decreases-body : goal.decreases-body
decreases-body l = (64 - l.depth) * 16 + 3

abbrev pub decreases-elsifs : goal.decreases-elsifs
decreases-elsifs l = (64 - l.depth) * 16 + 4

abbrev pub decreases-otherwise : goal.decreases-otherwise
decreases-otherwise l = (64 - l.depth) * 16 + 4

abbrev pub decreases-last_body : goal.decreases-last_body
decreases-last_body l = (64 - l.depth) * 16 + 4

abbrev pub decreases-exits : goal.decreases-exits
decreases-exits l = (64 - l.depth) * 16 + 5

abbrev pub decreases-arm : goal.decreases-arm
decreases-arm l = (64 - l.depth) * 16 + 4

abbrev pub decreases-boxed_arm : goal.decreases-boxed_arm
decreases-boxed_arm l = (64 - l.depth) * 16 + 5

abbrev pub decreases-arms : goal.decreases-arms
decreases-arms l = (64 - l.depth) * 16 + 5

abbrev pub invariant-statements-loop-self : goal.invariant-statements-loop-self
invariant-statements-loop-self l = record { read : IsReadUpTo l.self.end l.depth StatementsPhrase l.fn.rest (λ (more : List (After Statement)). l.items ++ more) l.left; within : length l.left ≤ length l.fn.rest }

abbrev pub decreases-statements-loop-self : goal.decreases-statements-loop-self
decreases-statements-loop-self l = length l.left

abbrev pub invariant-elsifs-loop-self : goal.invariant-elsifs-loop-self
invariant-elsifs-loop-self l = record { read : IsReadUpTo l.self.end l.depth ElsifsPhrase l.fn.rest (λ (more : List Elsif). l.items ++ more) l.left; within : length l.left ≤ length l.fn.rest }

abbrev pub decreases-elsifs-loop-self : goal.decreases-elsifs-loop-self
decreases-elsifs-loop-self l = length l.left

abbrev pub invariant-exits-loop-self : goal.invariant-exits-loop-self
invariant-exits-loop-self l = record { read : IsReadUpTo l.self.end l.depth ExitsPhrase l.fn.rest (λ (more : List Exit). l.items ++ more) l.left; within : length l.left ≤ length l.fn.rest }

abbrev pub decreases-exits-loop-self : goal.decreases-exits-loop-self
decreases-exits-loop-self l = length l.left

abbrev pub invariant-arms-loop-self : goal.invariant-arms-loop-self
invariant-arms-loop-self l = record { read : IsReadUpTo l.self.end l.depth ArmsPhrase l.fn.rest (λ (more : List (After Arm)). l.items ++ more) l.left; within : length l.left ≤ length l.fn.rest }

abbrev pub decreases-arms-loop-self : goal.decreases-arms-loop-self
decreases-arms-loop-self l = length l.left
