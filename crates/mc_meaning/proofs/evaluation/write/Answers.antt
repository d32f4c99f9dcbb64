use Rattle.mc_meaning.specs.Kept.{configuration_of}
use Rattle.mc_meaning.proofs.EvaluationLaws.{word-written}
use Rattle.mc_meaning.proofs.evaluation.write.Goals as goal

-- src/evaluation.rt: the word that was found, written to what was named
pub returns-in_ok-writes-in-Some-Named-clause-ok : goal.returns-in_ok-writes-in-Some-Named-clause-ok
returns-in_ok-writes-in-Some-Named-clause-ok c =
    word-written (configuration_of c.args.config.now) (configuration_of c.writes.new.self) (configuration_of c.goes_on.new.self) c.args.n c.args.q.now c.pop_found.new.self c.pop_found-in-Some-Value.new.self
    c.in-Some-Named.there c.in-Some-Value.word c.args.rest.now.items
    (rw c.in-Some-Value.field-0-is at c.in-Some-Value.ensures) (rw c.in-Some-Named.field-0-is at c.in-Some-Named.ensures) c.in_ok-writes-in-Some-Named.ensures.ok c.goes_on.ensures
