-- The two modes whose step depends on the width.
use Rattle.pdp_def.specs.Operands.{address}
use Rattle.pdp_cpu.proofs.locate.address.Goals as goal

pub returns-in-2-clause-ok : goal.returns-in-2-clause-ok
unfolding address
returns-in-2-clause-ok c = λ said.
    rw (c.in-2.is, ← c.step_of.ensures.value) (c.step_on.ensures.gives c.args.devices.now said)

pub returns-in-4-clause-ok : goal.returns-in-4-clause-ok
unfolding address
returns-in-4-clause-ok c = λ said.
    rw (c.in-4.is, ← c.step_of-in-4.ensures.value) (c.step_back.ensures.gives c.args.devices.now said)
