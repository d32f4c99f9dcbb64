use Rattle.std.proofs.Common.{arith}
use Rattle.mc_rules.specs.FirstPlaces.{HasSentFault}
use Rattle.mc_rules.proofs.AnyLaws.{first-at, first-all}
use Rattle.mc_rules.proofs.FirstLaws.{sent-both}
use Rattle.mc_rules.proofs.signals.both_ways_fault.Goals as goal

-- one more sending
pub loop-send-preserved : goal.loop-send-preserved
loop-send-preserved c = first-at (HasSentFault c.args.waits.now) c.args.sends.now c.loop-send.send-index _ c.loop-send.first c.send_fault.result c.earlier-first.result
    (omega (arith, c.loop-send-test.true, c.loop-send.auto.send-index-end)) c.loop-send.invariant
    (c.send_fault.ensures c.args.waits.now c.in_ok-firsts.ensures) c.earlier-first.ensures

-- all of them
pub returns : goal.returns
returns c = sent-both c.args.waits.now c.args.sends.now c.loop-send.first
    (first-all (HasSentFault c.args.waits.now) c.args.sends.now c.loop-send.send-index c.loop-send.first (omega (arith, c.loop-send-test.false)) c.loop-send.invariant)
