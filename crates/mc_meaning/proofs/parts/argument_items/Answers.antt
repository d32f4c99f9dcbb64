use Rattle.std.proofs.Common.{drop}
use Rattle.mc_meaning.proofs.ItemLaws.{slots-end, arguments-end}
use Rattle.mc_meaning.proofs.parts.argument_items.Goals as goal
use Rattle.mc_meaning.proofs.parts.argument_items.Goals.{then-loop-i-test+else-i-arguments, else-loop-i-test}

-- src/parts.rt: no slot or no argument is left
pub returns : goal.returns
returns c = elim c.loop-i-test.branch [
  | then-loop-i-test+else-i-arguments w ↦ arguments-end c.args.program.now (drop c.loop-i.i c.args.slots.now) c.args.arguments.now c.loop-i.i c.loop-i.items.items _ w.if-i-arguments.false c.loop-i.invariant
  | else-loop-i-test w ↦ slots-end c.args.program.now c.args.slots.now (drop c.loop-i.i c.args.arguments.now) c.loop-i.i c.loop-i.items.items _ w.loop-i-test.false c.loop-i.invariant
]
