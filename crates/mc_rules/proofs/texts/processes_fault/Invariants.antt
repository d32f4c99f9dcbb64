use Rattle.std.proofs.Common.{take}
use Rattle.mc_rules.specs.AnyOf.{AnyOf, IsFirstOf}
use Rattle.mc_rules.specs.RuleFaults.{IsProcessFault}
use Rattle.mc_rules.proofs.texts.processes_fault.Given as goal

abbrev pub invariant-loop-process : goal.invariant-loop-process
invariant-loop-process l = IsFirstOf (AnyOf (IsProcessFault l.program) (take l.process-index l.processes)) l.first
