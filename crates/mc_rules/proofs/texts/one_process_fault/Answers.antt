use Rattle.std.specs.Prelude.{◌≡◌, Some}
use Rattle.std.proofs.Common.{subst}
use Rattle.mc_tree.specs.declared.fault.Fault.{Fault}
use Rattle.mc_rules.specs.declared.call.SiteKind.{SiteKind}
use Rattle.mc_rules.specs.AnyOf.{IsFirstOf}
use Rattle.mc_rules.specs.Rules.{process_fault}
use Rattle.mc_rules.specs.RuleFaults.{IsTextFault, process_kind}
use Rattle.mc_rules.proofs.AnyLaws.{first-either, own-is}
use Rattle.mc_rules.proofs.texts.one_process_fault.Goals as goal

pub returns : goal.returns
returns c =
    let p = c.args.program.now in
    let q = c.args.process.now in
    first-either (λ (f : Fault). process_fault p.modules q ≡ Some f) (IsTextFault p q.code (process_kind q.vector)) c.process_fault.result c.in_ok-text.text c.earlier.result
    (own-is (process_fault p.modules q) c.process_fault.result (subst (λ (ms : _). c.process_fault.result ≡ process_fault ms q) c.modules.ensures c.process_fault.ensures))
    (subst (λ (k : SiteKind). IsFirstOf (IsTextFault p q.code k) c.in_ok-text.text) c.process_kind-kind.ensures c.in_ok-text.ensures)
    c.earlier.ensures
