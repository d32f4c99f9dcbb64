use Rattle.std.proofs.Common.{sym, arith}
use Rattle.mc_rules.specs.RuleFaults.{IsProcedureFault}
use Rattle.mc_rules.proofs.AnyLaws.{first-more, first-all}
use Rattle.mc_rules.proofs.texts.procedures_fault.Goals as goal

-- one more
pub loop-code-preserved : goal.loop-code-preserved
loop-code-preserved c = first-more (IsProcedureFault c.args.program.now) c.args.procedures.now c.loop-code.code-index c.code-item.result c.loop-code.first c.in_ok-text_fault.field-0 c.earlier-first.result
    (omega (arith, c.loop-code-test.true, c.loop-code.auto.code-index-end)) (sym c.code-item.is) c.loop-code.invariant c.in_ok-text_fault.ensures c.earlier-first.ensures

-- all
pub returns : goal.returns
returns c = first-all (IsProcedureFault c.args.program.now) c.args.procedures.now c.loop-code.code-index c.loop-code.first (omega (arith, c.loop-code-test.false)) c.loop-code.invariant
