use Rattle.std.proofs.Common.{take}
use Rattle.mc_rules.specs.AnyOf.{AnyOf, IsFirstOf}
use Rattle.mc_rules.specs.RuleFaults.{IsCallFault}
use Rattle.mc_rules.proofs.texts.calls_fault.Given as goal

abbrev pub invariant-loop-call : goal.invariant-loop-call
invariant-loop-call l = IsFirstOf (AnyOf (IsCallFault l.program l.site) (take l.call-index l.calls)) l.first
