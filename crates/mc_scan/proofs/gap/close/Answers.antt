use Rattle.std.proofs.Common.{arith}
use Rattle.mc_scan.proofs.Comments.{closes_at, no_close}
use Rattle.mc_scan.proofs.gap.close.Goals as goal

pub returns-then-bytes-i-eq41 : goal.returns-then-bytes-i-eq41
returns-then-bytes-i-eq41 c = closes_at c.args.bytes.now c.loop-i.i c.if-i-bytes.true c.if-b-eq42.true c.if-bytes-i-eq41.true c.loop-i.invariant

pub returns : goal.returns
returns c = no_close c.args.bytes.now c.loop-i.i (omega arith) c.loop-i.invariant
