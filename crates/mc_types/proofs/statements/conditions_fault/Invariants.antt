use Rattle.std.proofs.Common.{◌≡◌, length}
use Rattle.mc_prog.specs.StatementTypes.{conditions_fault}
use Rattle.mc_types.proofs.statements.conditions_fault.Given as goal

abbrev pub invariant-loop-left : goal.invariant-loop-left
invariant-loop-left l = conditions_fault l.types l.left ≡ conditions_fault l.types l.parts

abbrev pub decreases-loop-left : goal.decreases-loop-left
decreases-loop-left l = length l.left
