use Rattle.std.specs.Prelude.{◌≡◌, Some}
use Rattle.mc_tree.specs.declared.fault.Fault.{Fault}
use Rattle.mc_rules.specs.declared.call.SiteKind.TheVariants as site
use Rattle.mc_rules.specs.Rules.{priority_fault}
use Rattle.mc_rules.specs.RuleFaults.{IsTextFault}
use Rattle.mc_rules.proofs.AnyLaws.{first-either, own-is}
use Rattle.mc_rules.proofs.texts.module_fault.Goals as goal

pub returns : goal.returns
returns c =
    let m = c.args.«module».now in
    first-either (λ (f : Fault). priority_fault m ≡ Some f) (IsTextFault c.args.program.now m.body site.Body) c.priority_fault.result c.in_ok-text.text c.earlier.result
    (own-is (priority_fault m) c.priority_fault.result c.priority_fault.ensures) c.in_ok-text.ensures c.earlier.ensures
