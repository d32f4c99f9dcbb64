use Rattle.std.proofs.Common.{◌≤◌, ◌+◌, ◌++◌, List}
use Rattle.mc_parse.specs.Reads.{IsReadUpTo}
use Rattle.mc_tree.specs.Grammar.{PlainPartsPhrase}
use Rattle.mc_tree.specs.declared.tree.PlainPart.{PlainPart}
use Rattle.std.proofs.Common.{◌-◌, ◌*◌, length}
use Rattle.mc_parse.proofs.reader.Reader.+module.Given as goal

abbrev pub decreases-plain_module : goal.decreases-plain_module
decreases-plain_module l = (64 - l.depth) * 16 + 0

abbrev pub decreases-module : goal.decreases-module
decreases-module l = (64 - l.depth) * 16 + 1

abbrev pub decreases-inner_module : goal.decreases-inner_module
decreases-inner_module l = (64 - l.depth) * 16 + 2

abbrev pub decreases-plain_part : goal.decreases-plain_part
decreases-plain_part l = (64 - l.depth) * 16 + 3

abbrev pub decreases-plain_parts : goal.decreases-plain_parts
decreases-plain_parts l = (64 - l.depth) * 16 + 4

abbrev pub decreases-plain : goal.decreases-plain
decreases-plain l = (64 - l.depth) * 16 + 5

abbrev pub invariant-plain_parts-loop-items : goal.invariant-plain_parts-loop-items
invariant-plain_parts-loop-items l = record { read : IsReadUpTo l.self.end l.depth PlainPartsPhrase l.fn.rest (λ (more : List PlainPart). l.items ++ more) l.left; within : length l.left ≤ length l.fn.rest }

abbrev pub decreases-plain_parts-loop-items : goal.decreases-plain_parts-loop-items
decreases-plain_parts-loop-items l = length l.left
