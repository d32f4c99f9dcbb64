use Rattle.std.proofs.Common.{drop}
use Rattle.mc_meaning.proofs.ItemLaws.{reference-slots-end, reference-arguments-end}
use Rattle.mc_meaning.proofs.calling.references_for.Goals as goal
use Rattle.mc_meaning.proofs.calling.references_for.Goals.{then-loop-k-test+else-k-arguments, else-loop-k-test}

-- src/calling.rt: no slot or no argument is left
pub returns : goal.returns
returns c = elim c.loop-k-test.branch [
  | then-loop-k-test+else-k-arguments w ↦ reference-arguments-end c.loop-k.k (drop c.loop-k.k c.args.slots.now) c.args.arguments.now c.loop-k.references.items _ w.if-k-arguments.false c.loop-k.invariant
  | else-loop-k-test w ↦ reference-slots-end c.loop-k.k c.args.slots.now (drop c.loop-k.k c.args.arguments.now) c.loop-k.references.items _ w.loop-k-test.false c.loop-k.invariant
]
