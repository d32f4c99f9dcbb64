use Rattle.mc_meaning.specs.Kept.{configuration_of}
use Rattle.mc_meaning.proofs.ActionLaws.{left, left-none, left-with}
use Rattle.mc_meaning.proofs.calling.leave.Goals as goal

-- src/calling.rt: no activation
pub returns-then-not-returns-clause-ok : goal.returns-then-not-returns-clause-ok
returns-then-not-returns-clause-ok c = left-none (configuration_of c.args.config.now) c.args.n c.args.q.now c.args.slot c.if-not-returns.ensures.none

-- src/calling.rt: no result
pub returns-in_default-clause-ok : goal.returns-in_default-clause-ok
returns-in_default-clause-ok c =
    left (configuration_of c.args.config.now) (configuration_of c.put_process.new.self) c.args.n c.args.q.now c.returns.new.self c.args.slot c.args.q.now.activations
    c.if-not-returns.ensures.one c.returns.ensures.back c.in_default.is c.put_process.ensures

-- src/calling.rt: a result
pub returns-clause-ok : goal.returns-clause-ok
returns-clause-ok c =
    left-with (configuration_of c.args.config.now) (configuration_of c.put_process-2.new.self) c.args.n c.args.q.now c.returns.new.self c.push_found.new.self c.args.slot c.in-Some.slot c.word-word.result c.depth.result c.args.q.now.activations
    c.if-not-returns.ensures.one c.returns.ensures.back c.in-Some.is c.depth.ensures c.word-word.ensures c.in_ok-push_found.ensures c.put_process-2.ensures
