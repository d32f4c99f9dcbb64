use Rattle.std.specs.Prelude.{◌⊎◌, List}
use Rattle.std.proofs.Common.{subst}
use Rattle.mc_tree.specs.declared.fault.Fault.{Fault}
use Rattle.mc_prog.specs.declared.program.CodeInfo.{CodeInfo}
use Rattle.mc_prog.specs.declared.program.ModuleInfo.{ModuleInfo}
use Rattle.mc_prog.specs.declared.program.ProcessInfo.{ProcessInfo}
use Rattle.mc_rules.specs.AnyOf.{AnyOf, IsFirstOf}
use Rattle.mc_rules.specs.RuleFaults.{IsModuleFault, IsProcedureFault, IsProcessFault}
use Rattle.mc_rules.proofs.AnyLaws.{first-either}
use Rattle.mc_rules.proofs.texts_fault.Goals as goal

pub returns : goal.returns
returns c =
    let p = c.args.program.now in
    let Modules : Fault → Type 0 = AnyOf (IsModuleFault p) p.modules in
    let Procedures : Fault → Type 0 = AnyOf (IsProcedureFault p) p.procedures in
    let Processes : Fault → Type 0 = AnyOf (IsProcessFault p) p.processes in
    first-either Modules (λ f. Procedures f ⊎ Processes f) c.in_ok-modules.modules c.earlier.result c.earlier-2.result
    (subst (λ (list : List ModuleInfo). IsFirstOf (AnyOf (IsModuleFault p) list) c.in_ok-modules.modules) c.modules.ensures c.in_ok-modules.ensures)
    (first-either Procedures Processes c.in_ok-procedures.procedures c.in_ok-processes.processes c.earlier.result
    (subst (λ (list : List CodeInfo). IsFirstOf (AnyOf (IsProcedureFault p) list) c.in_ok-procedures.procedures) c.procedures.ensures c.in_ok-procedures.ensures)
    (subst (λ (list : List ProcessInfo). IsFirstOf (AnyOf (IsProcessFault p) list) c.in_ok-processes.processes) c.processes.ensures c.in_ok-processes.ensures)
    c.earlier.ensures)
    c.earlier-2.ensures
