use Rattle.std.proofs.Common.{refl, arith}
use Rattle.std.proofs.lemmas.Bool.{false≢true}
use Rattle.mc_straight.proofs.Forced.{own_head, own_rest, own_from, own_past}
use Rattle.mc_straight.proofs.names.have_own.Goals as goal

pub returns-then-not-is_own : goal.returns-then-not-is_own
returns-then-not-is_own c = (
  λ t. absurd (false≢true t),
  λ h. c.if-not-is_own.ensures.1 (own_head c.args.vars.now c.loop-i.i c.index-vars-i.result c.index-vars-i.result c.as_slice.result.now c.index-vars-i.is (omega arith) c.as_slice.ensures (c.loop-i.invariant.from_all h)),
)

pub loop-i-preserved : goal.loop-i-preserved
loop-i-preserved c = record {
  to_all = λ rest. c.loop-i.invariant.to_all (own_from c.args.vars.now c.loop-i.i c.index-vars-i.result c.index-vars-i.result c.as_slice.result.now c.index-vars-i.is (omega arith) c.as_slice.ensures (c.if-not-is_own.ensures.0 refl) rest);
  from_all = λ h. own_rest c.args.vars.now c.loop-i.i c.index-vars-i.result c.index-vars-i.result c.as_slice.result.now c.index-vars-i.is (omega arith) c.as_slice.ensures (c.loop-i.invariant.from_all h);
}

pub returns : goal.returns
returns c = (λ t. c.loop-i.invariant.to_all (own_past c.args.vars.now c.loop-i.i (omega arith)), λ h. refl)
