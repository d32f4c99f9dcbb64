use Rattle.std.specs.Prelude.{◌+◌, take, List}
use Rattle.std.proofs.Common.{subst, sym, arith}
use Rattle.mc_rules.specs.declared.call.Signalling.{Signalling}
use Rattle.mc_rules.specs.Signals.{AreSignallings}
use Rattle.mc_rules.proofs.SignalLaws.{signallings-more, signallings-all}
use Rattle.mc_rules.proofs.signals.signallings.Goals as goal

-- one more call
pub loop-call-preserved : goal.loop-call-preserved
loop-call-preserved c = subst (λ (list : List Signalling). AreSignallings c.args.nodes.now c.args.way (take (c.loop-call.call-index + 1) c.args.calls.now) list) (sym c.in_ok-note.ensures)
    (signallings-more c.args.nodes.now c.args.way c.args.calls.now c.loop-call.call-index _ c.loop-call.found.items c.signalling_of.result
    (omega (arith, c.loop-call-test.true, c.loop-call.auto.call-index-end)) c.loop-call.invariant c.signalling_of.ensures)

-- all calls
pub returns : goal.returns
returns c = signallings-all c.args.nodes.now c.args.way c.args.calls.now c.loop-call.call-index c.loop-call.found.items (omega (arith, c.loop-call-test.false)) c.loop-call.invariant
