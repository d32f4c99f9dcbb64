use Rattle.std.proofs.Common.{◌≡◌, List, ◌++◌, drop}
use Rattle.mc_prog.specs.Notes.{Item, each, maybe, after}
use Rattle.mc_prog.specs.ExpressionNames.{expr}
use Rattle.mc_prog.specs.StatementNames.{arm, body, case_, elsif, exit, if_, loop_, statement}
use Rattle.mc_tree.specs.declared.statement.Statement.TheViews.{out-If}
use Rattle.mc_resolve.proofs.statement.+statement.Given as goal

abbrev pub invariant-body-loop-next : goal.invariant-body-loop-next
invariant-body-loop-next l =
    (rest : List Item) → l.out.items ++ each (after statement) (drop l.next-index l.next-items) rest ≡ l.fn.out.items ++ body l.tree rest

abbrev pub invariant-if_-loop-elsif : goal.invariant-if_-loop-elsif
invariant-if_-loop-elsif l =
    (rest : List Item) → l.out.items ++ each elsif (drop l.elsif-index l.elsif-items) (maybe (after body) (out-If l.tree).otherwise rest) ≡ l.fn.out.items ++ if_ l.tree rest

abbrev pub invariant-loop_-loop-way_out : goal.invariant-loop_-loop-way_out
invariant-loop_-loop-way_out l =
    (rest : List Item) → l.out.items ++ each exit (drop l.way_out-index l.way_out-items) rest ≡ l.fn.out.items ++ loop_ l.tree rest

abbrev pub invariant-case_-loop-next : goal.invariant-case_-loop-next
invariant-case_-loop-next l =
    (rest : List Item) → l.out.items ++ each (after arm) (drop l.next-index l.next-items) rest ≡ l.fn.out.items ++ case_ l.tree rest

abbrev pub invariant-arm-loop-next : goal.invariant-arm-loop-next
invariant-arm-loop-next l =
    (rest : List Item) → l.out.items ++ each (after expr) (drop l.next-index l.next-items) (body l.tree.body rest) ≡ l.fn.out.items ++ arm l.tree rest
