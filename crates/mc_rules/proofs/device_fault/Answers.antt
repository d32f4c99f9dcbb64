use Rattle.std.specs.Prelude.{List}
use Rattle.std.proofs.Common.{subst}
use Rattle.mc_prog.specs.declared.program.Node.{Node}
use Rattle.mc_rules.specs.declared.call.Call.{Call}
use Rattle.mc_rules.specs.declared.call.Signalling.{Signalling}
use Rattle.mc_rules.specs.declared.call.Way.TheVariants as ways
use Rattle.mc_rules.specs.AnyOf.{AnyOf, IsFirstOf}
use Rattle.mc_rules.specs.RuleFaults.{IsBothWaysFault, IsRankFault}
use Rattle.mc_rules.specs.Signals.{AreSignallings, HasBothFault, IsRankFaultOf}
use Rattle.mc_rules.proofs.AnyLaws.{first-either}
use Rattle.mc_rules.proofs.SignalFaults.{both-first, ranks-first}
use Rattle.mc_rules.proofs.device_fault.Goals as goal

pub returns : goal.returns
returns c =
    let p = c.args.program.now in
    let calls : List Call = c.in_ok-calls.calls.items in
    let waits : List Signalling = c.in_ok-waits.waits.items in
    let sends : List Signalling = c.in_ok-sends.sends.items in
    let waited : AreSignallings p.nodes ways.Wait calls waits =
    subst (λ (nodes : List Node). AreSignallings nodes ways.Wait calls waits) c.nodes.ensures
    (subst (λ (list : List Call). AreSignallings c.nodes.result.now ways.Wait list waits) c.as_slice.ensures.value c.in_ok-waits.ensures) in
    let sent : AreSignallings p.nodes ways.Send calls sends =
    subst (λ (nodes : List Node). AreSignallings nodes ways.Send calls sends) c.nodes-2.ensures
    (subst (λ (list : List Call). AreSignallings c.nodes-2.result.now ways.Send list sends) c.as_slice-2.ensures.value c.in_ok-sends.ensures) in
    let ranks : IsFirstOf (AnyOf IsRankFaultOf calls) c.ranks_fault-ranks.result =
    subst (λ (list : List Call). IsFirstOf (AnyOf IsRankFaultOf list) c.ranks_fault-ranks.result) c.as_slice-3.ensures.value c.ranks_fault-ranks.ensures in
    let both : IsFirstOf (AnyOf (HasBothFault sends) waits) c.in_ok-both.both =
    subst (λ (list : List Signalling). IsFirstOf (AnyOf (HasBothFault sends) list) c.in_ok-both.both) c.as_slice-4.ensures.value
    (subst (λ (list : List Signalling). IsFirstOf (AnyOf (HasBothFault list) c.as_slice-4.result.now) c.in_ok-both.both) c.as_slice-5.ensures.value c.in_ok-both.ensures) in
    first-either (IsRankFault p) (IsBothWaysFault p) c.ranks_fault-ranks.result c.in_ok-both.both c.earlier.result
    (ranks-first p calls c.ranks_fault-ranks.result c.in_ok-calls.ensures ranks)
    (both-first p calls waits sends c.in_ok-both.both c.in_ok-calls.ensures waited sent both)
    c.earlier.ensures
