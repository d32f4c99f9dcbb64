use Rattle.mc_meaning.specs.Kept.{configuration_of}
use Rattle.mc_meaning.proofs.LabelLaws.{label-matches}
use Rattle.mc_meaning.proofs.statements.try_label.Goals as goal

-- src/statements.rt: no label is left
pub returns-in_default-clause-ok : goal.returns-in_default-clause-ok
returns-in_default-clause-ok c = rw c.in_default.is c.traps.ensures

-- src/statements.rt: the label is the value
pub returns-then-word_at-word-clause-ok : goal.returns-then-word_at-word-clause-ok
returns-then-word_at-word-clause-ok c =
    label-matches c.args.program.now (configuration_of c.args.config.now) (configuration_of c.goes_on.new.self) c.args.n c.args.q.now c.args.node c.args.k c.args.rest.now.items c.push_front.new.self.items c.args.word c.word_at.result c.in-Some.at c.in-Some.body c.args.label
    c.in-Some.is c.word_at.ensures c.if-word_at-word.true c.in_ok-push_front.ensures.items c.goes_on.ensures
