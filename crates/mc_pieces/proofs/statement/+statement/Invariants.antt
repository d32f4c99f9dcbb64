use Rattle.std.proofs.Common.{◌≡◌, drop}
use Rattle.mc_prog.specs.Pieces.{each, after}
use Rattle.mc_prog.specs.StatementPieces.{arm, elsif, exit, label, statement}
use Rattle.mc_pieces.proofs.statement.+statement.Given as goal

abbrev pub invariant-body-loop-next : goal.invariant-body-loop-next
invariant-body-loop-next l = each (after statement) (drop l.next-index l.next-items) l.walk ≡ each (after statement) l.next-items l.initial.walk

abbrev pub invariant-if_-loop-part : goal.invariant-if_-loop-part
invariant-if_-loop-part l = each elsif (drop l.part-index l.part-items) l.walk ≡ each elsif l.part-items l.initial.walk

abbrev pub invariant-loop_-loop-way_out : goal.invariant-loop_-loop-way_out
invariant-loop_-loop-way_out l = each exit (drop l.way_out-index l.way_out-items) l.walk ≡ each exit l.way_out-items l.initial.walk

abbrev pub invariant-case_-loop-next : goal.invariant-case_-loop-next
invariant-case_-loop-next l = each (after arm) (drop l.next-index l.next-items) l.walk ≡ each (after arm) l.next-items l.initial.walk

abbrev pub invariant-arm-loop-next : goal.invariant-arm-loop-next
invariant-arm-loop-next l = each (after label) (drop l.next-index l.next-items) l.walk ≡ each (after label) l.next-items l.initial.walk
