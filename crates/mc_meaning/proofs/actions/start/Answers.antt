use Rattle.mc_meaning.specs.Kept.{configuration_of}
use Rattle.mc_meaning.proofs.ActionLaws.{started-once, started-twice}
use Rattle.mc_meaning.proofs.EvaluationLaws.{ok-then}
use Rattle.mc_meaning.proofs.actions.start.Goals as goal

-- src/actions.rt: a device process again
pub returns-then-is_twice-clause-ok : goal.returns-then-is_twice-clause-ok
returns-then-is_twice-clause-ok c =
    started-twice c.args.program.now (configuration_of c.args.config.now) (configuration_of c.traps.new.self) c.args.n c.args.q.now c.args.k c.args.count c.args.rest.now.items c.in-Some.info.now
    c.in-Some.ensures c.if-is_twice.ensures c.traps.ensures

-- src/actions.rt
pub returns-clause-ok : goal.returns-clause-ok
returns-clause-ok c =
    ok-then c.start_with.result _ _ (λ step. started-once c.args.program.now (configuration_of c.args.config.now) (configuration_of c.start_with.new.config) c.args.n c.args.q.now c.take_arguments.new.self c.args.k c.args.count c.args.rest.now.items c.in-Some.info.now c.as_slice.result.now c.in_ok-arguments.arguments.items
    c.in-Some.ensures c.if-is_twice.ensures c.in_ok-arguments.ensures.0 c.in_ok-arguments.ensures.1 c.as_slice.ensures.value step) c.start_with.ensures.ok
