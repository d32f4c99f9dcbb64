use Rattle.std.proofs.Common.{◌≤◌, ◌+◌, ◌++◌, List}
use Rattle.mc_parse.specs.Reads.{IsReadUpTo}
use Rattle.mc_tree.specs.Grammar.{MoreFieldsPhrase}
use Rattle.mc_tree.specs.declared.tree.After.{After}
use Rattle.mc_tree.specs.declared.tree.Fields.{Fields}
use Rattle.mc_tree.specs.declared.tree.Fields.{Fields}
use Rattle.mc_tree.specs.declared.tree.After.{After}
use Rattle.std.proofs.Common.{◌-◌, ◌*◌, length}
use Rattle.mc_parse.proofs.reader.Reader.+type_tree.Given as goal

abbrev pub decreases-array : goal.decreases-array
decreases-array l = (64 - l.depth) * 16 + 0

abbrev pub decreases-record : goal.decreases-record
decreases-record l = (64 - l.depth) * 16 + 0

abbrev pub decreases-type_tree : goal.decreases-type_tree
decreases-type_tree l = (64 - l.depth) * 16 + 1

abbrev pub decreases-boxed_type : goal.decreases-boxed_type
decreases-boxed_type l = (64 - l.depth) * 16 + 2

abbrev pub decreases-fields : goal.decreases-fields
decreases-fields l = (64 - l.depth) * 16 + 2

abbrev pub decreases-more_fields : goal.decreases-more_fields
decreases-more_fields l = (64 - l.depth) * 16 + 3

abbrev pub decreases-boxed_fields : goal.decreases-boxed_fields
decreases-boxed_fields l = (64 - l.depth) * 16 + 3

abbrev pub invariant-more_fields-loop-self : goal.invariant-more_fields-loop-self
invariant-more_fields-loop-self l = record { read : IsReadUpTo l.self.end l.depth MoreFieldsPhrase l.fn.rest (λ (more : List (After Fields)). l.items ++ more) l.left; within : length l.left ≤ length l.fn.rest }

abbrev pub decreases-more_fields-loop-self : goal.decreases-more_fields-loop-self
decreases-more_fields-loop-self l = length l.left
