use Rattle.mc_meaning.specs.Kept.{configuration_of}
use Rattle.mc_meaning.proofs.EvaluationLaws.{bit-read}
use Rattle.mc_meaning.proofs.evaluation.read_bit.Goals as goal

-- src/evaluation.rt: a bit of what is named
pub returns-in_ok-push_found-in-Some-Bit-clause-ok : goal.returns-in_ok-push_found-in-Some-Bit-clause-ok
returns-in_ok-push_found-in-Some-Bit-clause-ok c =
    bit-read (configuration_of c.args.config.now) (configuration_of c.reads.new.self) (configuration_of c.goes_on.new.self) c.args.n c.in-Some-Bit.i c.args.q.now c.pop_found.new.self c.push_found.new.self c.in-Some-Bit.there c.word_at-word.result c.bit_of.result c.args.rest.now.items
    (rw c.in-Some-Bit.field-0-is at c.in-Some-Bit.ensures) c.word_at-word.ensures c.bit_of.ensures c.in_ok-push_found-in-Some-Bit.ensures c.reads.ensures c.goes_on.ensures
