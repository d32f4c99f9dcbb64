use Rattle.std.proofs.Common.{◌≡◌, [], take}
use Rattle.mc_prog.specs.Passes.{passed}
use Rattle.mc_rules.specs.AnyOf.{IsFirstOf}
use Rattle.mc_rules.specs.Rules.{vectors_behind}
use Rattle.mc_rules.specs.RuleFaults.{IsTwiceFault}
use Rattle.mc_rules.proofs.vectors.vectors_fault.Given as goal

abbrev pub invariant-loop-process : goal.invariant-loop-process
invariant-loop-process l = (l.vectors.items ≡ passed vectors_behind [] (take l.process-index l.processes)) × IsFirstOf (IsTwiceFault (take l.process-index l.processes)) l.first
