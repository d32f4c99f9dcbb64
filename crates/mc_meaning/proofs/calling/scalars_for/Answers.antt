use Rattle.std.proofs.Common.{drop}
use Rattle.mc_meaning.proofs.ItemLaws.{scalar-slots-end}
use Rattle.mc_meaning.proofs.calling.scalars_for.Goals as goal

-- src/calling.rt: no slot is left
pub returns-after-loop-k : goal.returns-after-loop-k
returns-after-loop-k c = scalar-slots-end c.args.n c.args.activation c.loop-k.k c.args.slots.now (drop c.loop-k.k c.args.arguments.now) c.loop-k.words.items _ c.loop-k-test.false c.loop-k.invariant
