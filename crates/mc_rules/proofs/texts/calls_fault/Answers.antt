use Rattle.std.proofs.Common.{arith}
use Rattle.mc_rules.specs.RuleFaults.{IsCallFault}
use Rattle.mc_rules.proofs.AnyLaws.{first-at, first-all}
use Rattle.mc_rules.proofs.texts.calls_fault.Goals as goal

-- one more call
pub loop-call-preserved : goal.loop-call-preserved
loop-call-preserved c = first-at (IsCallFault c.args.program.now c.args.site) c.args.calls.now c.loop-call.call-index _ c.loop-call.first c.call_fault.result c.earlier-first.result
    (omega (arith, c.loop-call-test.true, c.loop-call.auto.call-index-end)) c.loop-call.invariant c.call_fault.ensures c.earlier-first.ensures

-- all calls
pub returns : goal.returns
returns c = first-all (IsCallFault c.args.program.now c.args.site) c.args.calls.now c.loop-call.call-index c.loop-call.first (omega (arith, c.loop-call-test.false)) c.loop-call.invariant
