use Rattle.std.specs.Prelude.{List}
use Rattle.std.proofs.Common.{subst}
use Rattle.mc_prog.specs.declared.program.Node.{Node}
use Rattle.mc_prog.specs.declared.program.Slot.{Slot}
use Rattle.mc_rules.specs.declared.call.Call.{Call}
use Rattle.mc_rules.specs.AnyOf.{AnyOf, IsFirstOf}
use Rattle.mc_rules.specs.Calls.{AreCalls}
use Rattle.mc_rules.specs.RuleFaults.{HasCallFault, IsCallFault, IsSlotFault, site_of}
use Rattle.mc_rules.proofs.AnyLaws.{first-either}
use Rattle.mc_rules.proofs.TextLaws.{calls-first}
use Rattle.mc_rules.proofs.texts.text_fault.Goals as goal

pub returns : goal.returns
returns c =
    let p = c.args.program.now in
    let text = c.args.text.now in
    let site = site_of text c.args.kind in
    first-either (AnyOf IsSlotFault text.slots) (HasCallFault p site text.body) c.slots_fault-locals.result c.calls_fault.result c.earlier.result
    (subst (λ (slots : List Slot). IsFirstOf (AnyOf IsSlotFault slots) c.slots_fault-locals.result) c.slots_of.ensures c.slots_fault-locals.ensures)
    (calls-first p site text.body c.in_ok-calls.calls.items c.calls_fault.result
    (subst (λ (nodes : List Node). AreCalls nodes text.body c.in_ok-calls.calls.items) c.nodes.ensures c.in_ok-calls.ensures)
    (subst (λ (calls : List Call). IsFirstOf (AnyOf (IsCallFault p site) calls) c.calls_fault.result) c.as_slice.ensures.value c.calls_fault.ensures))
    c.earlier.ensures
