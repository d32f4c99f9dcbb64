use Rattle.std.proofs.Common.{take}
use Rattle.mc_rules.specs.AnyOf.{AnyOf, IsFirstOf}
use Rattle.mc_rules.specs.RuleFaults.{IsProcedureFault}
use Rattle.mc_rules.proofs.texts.procedures_fault.Given as goal

abbrev pub invariant-loop-code : goal.invariant-loop-code
invariant-loop-code l = IsFirstOf (AnyOf (IsProcedureFault l.program) (take l.code-index l.procedures)) l.first
