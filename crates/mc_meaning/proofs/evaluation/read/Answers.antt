use Rattle.mc_meaning.specs.Kept.{configuration_of}
use Rattle.mc_meaning.proofs.EvaluationLaws.{word-read}
use Rattle.mc_meaning.proofs.evaluation.read.Goals as goal

-- src/evaluation.rt: the word of what was named
pub returns-in_ok-push_found-in-Some-Named-clause-ok : goal.returns-in_ok-push_found-in-Some-Named-clause-ok
returns-in_ok-push_found-in-Some-Named-clause-ok c =
    word-read (configuration_of c.args.config.now) (configuration_of c.reads.new.self) (configuration_of c.goes_on.new.self) c.args.n c.args.type_of c.args.q.now c.pop_found.new.self c.push_found.new.self
    c.in-Some-Named.there c.word_at-word.result c.value_of.result c.args.rest.now.items
    (rw c.in-Some-Named.field-0-is at c.in-Some-Named.ensures) c.word_at-word.ensures c.value_of.ensures c.in_ok-push_found-in-Some-Named.ensures c.reads.ensures c.goes_on.ensures
