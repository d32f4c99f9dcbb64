use Rattle.std.proofs.Common.{take}
use Rattle.mc_rules.specs.AnyOf.{AnyOf, IsFirstOf}
use Rattle.mc_rules.specs.RuleFaults.{IsCellFault}
use Rattle.mc_rules.proofs.declared.cells_fault.Given as goal

abbrev pub invariant-loop-cell : goal.invariant-loop-cell
invariant-loop-cell l = IsFirstOf (AnyOf (IsCellFault l.modules) (take l.cell-index l.cells)) l.first
