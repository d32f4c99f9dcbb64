use Rattle.std.specs.Prelude.{List}
use Rattle.std.proofs.Common.{subst}
use Rattle.mc_prog.specs.declared.program.CellInfo.{CellInfo}
use Rattle.mc_prog.specs.declared.program.ModuleInfo.{ModuleInfo}
use Rattle.mc_prog.specs.declared.program.ProcessInfo.{ProcessInfo}
use Rattle.mc_rules.specs.AnyOf.{AnyOf, IsFirstOf}
use Rattle.mc_rules.specs.RuleFaults.{IsCellFault, IsTwiceFault}
use Rattle.mc_rules.proofs.AnyLaws.{first-either}
use Rattle.mc_rules.proofs.declared_fault.Goals as goal

pub returns : goal.returns
returns c =
    let p = c.args.program.now in
    first-either (IsTwiceFault p.processes) (AnyOf (IsCellFault p.modules) p.cells) c.in_ok-vectors.vectors c.cells_fault-cells.result c.earlier.result
    (subst (λ (list : List ProcessInfo). IsFirstOf (IsTwiceFault list) c.in_ok-vectors.vectors) c.processes.ensures c.in_ok-vectors.ensures)
    (subst (λ (modules : List ModuleInfo). IsFirstOf (AnyOf (IsCellFault modules) p.cells) c.cells_fault-cells.result) c.modules.ensures
    (subst (λ (cells : List CellInfo). IsFirstOf (AnyOf (IsCellFault c.modules.result.now) cells) c.cells_fault-cells.result) c.cells.ensures c.cells_fault-cells.ensures))
    c.earlier.ensures
