use Rattle.std.proofs.Common.{arith}
use Rattle.mc_rules.specs.Rules.{cell_fault}
use Rattle.mc_rules.specs.RuleFaults.{IsCellFault}
use Rattle.mc_rules.proofs.AnyLaws.{own-more, first-all}
use Rattle.mc_rules.proofs.declared.cells_fault.Goals as goal

-- src/declared.rt: one more
pub loop-cell-preserved : goal.loop-cell-preserved
loop-cell-preserved c = own-more (cell_fault c.args.modules.now) c.args.cells.now c.loop-cell.cell-index _ c.loop-cell.first c.cell_fault.result c.earlier-first.result
    (omega (arith, c.loop-cell-test.true, c.loop-cell.auto.cell-index-end)) c.cell_fault.ensures c.loop-cell.invariant c.earlier-first.ensures

-- src/declared.rt: all
pub returns : goal.returns
returns c = first-all (IsCellFault c.args.modules.now) c.args.cells.now c.loop-cell.cell-index c.loop-cell.first (omega (arith, c.loop-cell-test.false)) c.loop-cell.invariant
