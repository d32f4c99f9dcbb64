use Rattle.std.proofs.Common.{sym, arith}
use Rattle.mc_rules.specs.RuleFaults.{IsModuleFault}
use Rattle.mc_rules.proofs.AnyLaws.{first-more, first-all}
use Rattle.mc_rules.proofs.texts.modules_fault.Goals as goal

-- one more
pub loop-module-preserved : goal.loop-module-preserved
loop-module-preserved c = first-more (IsModuleFault c.args.program.now) c.args.modules.now c.loop-module.module-index c.module-item.result c.loop-module.first c.in_ok-module_fault.field-0 c.earlier-first.result
    (omega (arith, c.loop-module-test.true, c.loop-module.auto.module-index-end)) (sym c.module-item.is) c.loop-module.invariant c.in_ok-module_fault.ensures c.earlier-first.ensures

-- all
pub returns : goal.returns
returns c = first-all (IsModuleFault c.args.program.now) c.args.modules.now c.loop-module.module-index c.loop-module.first (omega (arith, c.loop-module-test.false)) c.loop-module.invariant
