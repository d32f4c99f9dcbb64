use Rattle.std.proofs.Common.{arith}
use Rattle.mc_image.proofs.Reading.{trailing_there}
use Rattle.mc_image.proofs.read.finish.Goals as goal

pub returns-then-b-ne0-clause-refused : goal.returns-then-b-ne0-clause-refused
returns-then-b-ne0-clause-refused c = trailing_there c.args.at c.args.start c.args.left.now c.loop-i.i c.loop-i-test.true c.loop-i.invariant c.if-b-ne0.true (omega arith)
