use Rattle.std.proofs.Common.{take}
use Rattle.mc_rules.specs.AnyOf.{AnyOf, IsFirstOf}
use Rattle.mc_rules.specs.RuleFaults.{IsModuleFault}
use Rattle.mc_rules.proofs.texts.modules_fault.Given as goal

abbrev pub invariant-loop-module : goal.invariant-loop-module
invariant-loop-module l = IsFirstOf (AnyOf (IsModuleFault l.program) (take l.module-index l.modules)) l.first
