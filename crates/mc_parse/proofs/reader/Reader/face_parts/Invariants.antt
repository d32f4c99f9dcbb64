use Rattle.std.proofs.Common.{◌≤◌, ◌++◌, List}
use Rattle.mc_parse.specs.Reads.{IsReadUpTo}
use Rattle.mc_tree.specs.Grammar.{FacePartsPhrase}
use Rattle.mc_tree.specs.declared.tree.FacePart.{FacePart}
use Rattle.std.proofs.Common.{length}
use Rattle.mc_parse.proofs.reader.Reader.face_parts.Given as goal

abbrev pub invariant-loop-items : goal.invariant-loop-items
invariant-loop-items l = record { read : IsReadUpTo l.self.end l.depth FacePartsPhrase l.fn.rest (λ (more : List FacePart). l.items ++ more) l.left; within : length l.left ≤ length l.fn.rest }

abbrev pub decreases-loop-items : goal.decreases-loop-items
decreases-loop-items l = length l.left
