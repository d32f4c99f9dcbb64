use Rattle.mc_meaning.proofs.parts.standard_parts.Goals as goal

-- src/parts.rt: the parts of a wait
pub returns-in-Wait : goal.returns-in-Wait
returns-in-Wait c = rw c.in-Wait.is (c.wait_parts.ensures c.args.n)
