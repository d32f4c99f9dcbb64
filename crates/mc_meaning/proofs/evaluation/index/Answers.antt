use Rattle.mc_meaning.specs.Kept.{configuration_of}
use Rattle.mc_meaning.proofs.EvaluationLaws.{no-element}
use Rattle.mc_meaning.proofs.evaluation.index.Goals as goal

-- src/evaluation.rt: an index outside the bounds
pub returns-in-None-clause-ok : goal.returns-in-None-clause-ok
returns-in-None-clause-ok c =
    no-element c.args.program.now (configuration_of c.args.config.now) (configuration_of c.traps.new.self) c.args.n c.args.node c.args.q.now c.pop_found.new.self c.pop_found-in-Some-Value.new.self
    c.in-Some-Named.there c.in-Some-Value.word c.element_offset.result c.args.rest.now.items
    (rw c.in-Some-Value.field-0-is at c.in-Some-Value.ensures) (rw c.in-Some-Named.field-0-is at c.in-Some-Named.ensures) c.element_offset.ensures c.in-None.is c.traps.ensures
