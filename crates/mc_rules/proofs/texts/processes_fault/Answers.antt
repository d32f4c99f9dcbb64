use Rattle.std.proofs.Common.{sym, arith}
use Rattle.mc_rules.specs.RuleFaults.{IsProcessFault}
use Rattle.mc_rules.proofs.AnyLaws.{first-more, first-all}
use Rattle.mc_rules.proofs.texts.processes_fault.Goals as goal

-- one more
pub loop-process-preserved : goal.loop-process-preserved
loop-process-preserved c = first-more (IsProcessFault c.args.program.now) c.args.processes.now c.loop-process.process-index c.process-item.result c.loop-process.first c.in_ok-one_process_fault.field-0 c.earlier-first.result
    (omega (arith, c.loop-process-test.true, c.loop-process.auto.process-index-end)) (sym c.process-item.is) c.loop-process.invariant c.in_ok-one_process_fault.ensures c.earlier-first.ensures

-- all
pub returns : goal.returns
returns c = first-all (IsProcessFault c.args.program.now) c.args.processes.now c.loop-process.process-index c.loop-process.first (omega (arith, c.loop-process-test.false)) c.loop-process.invariant
