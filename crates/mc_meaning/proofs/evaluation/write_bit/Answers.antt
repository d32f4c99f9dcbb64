use Rattle.mc_meaning.specs.Kept.{configuration_of}
use Rattle.mc_meaning.proofs.EvaluationLaws.{bit-written}
use Rattle.mc_meaning.proofs.evaluation.write_bit.Goals as goal

-- src/evaluation.rt
pub returns-in_ok-writes_bit-in-Some-Bit-clause-ok : goal.returns-in_ok-writes_bit-in-Some-Bit-clause-ok
returns-in_ok-writes_bit-in-Some-Bit-clause-ok c =
    bit-written (configuration_of c.args.config.now) (configuration_of c.writes_bit.new.self) (configuration_of c.goes_on.new.self) c.args.n c.in-Some-Bit.i c.args.q.now c.pop_found.new.self c.pop_found-in-Some-Value.new.self c.in-Some-Bit.there c.in-Some-Value.word c.args.rest.now.items
    (rw c.in-Some-Value.field-0-is at c.in-Some-Value.ensures) (rw c.in-Some-Bit.field-0-is at c.in-Some-Bit.ensures) c.in_ok-writes_bit-in-Some-Bit.ensures.ok c.goes_on.ensures
