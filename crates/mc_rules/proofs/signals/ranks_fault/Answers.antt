use Rattle.std.proofs.Common.{arith}
use Rattle.mc_rules.specs.Rules.{rank_fault}
use Rattle.mc_rules.specs.Signals.{IsRankFaultOf}
use Rattle.mc_rules.proofs.AnyLaws.{own-more, first-all}
use Rattle.mc_rules.proofs.signals.ranks_fault.Goals as goal

-- one more call
pub loop-call-preserved : goal.loop-call-preserved
loop-call-preserved c = own-more rank_fault c.args.calls.now c.loop-call.call-index _ c.loop-call.first c.rank_fault.result c.earlier-first.result
    (omega (arith, c.loop-call-test.true, c.loop-call.auto.call-index-end)) c.rank_fault.ensures c.loop-call.invariant c.earlier-first.ensures

-- all calls
pub returns : goal.returns
returns c = first-all IsRankFaultOf c.args.calls.now c.loop-call.call-index c.loop-call.first (omega (arith, c.loop-call-test.false)) c.loop-call.invariant
