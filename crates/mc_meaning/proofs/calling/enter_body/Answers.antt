use Rattle.std.proofs.Common.{◌∙◌}
use Rattle.mc_meaning.specs.Kept.{configuration_of}
use Rattle.mc_meaning.proofs.ActionLaws.{entered-body}
use Rattle.mc_meaning.proofs.calling.enter_body.Goals as goal

-- src/calling.rt
pub returns-clause-ok : goal.returns-clause-ok
returns-clause-ok c =
    entered-body c.args.program.now (configuration_of c.args.config.now) (configuration_of c.goes_on.new.self) c.args.n c.args.m c.args.q.now c.enters.new.self c.in-Some.info.now c.args.rest.now.items c.from_vec-items.result.items c.none-references.result c.priority.result c.priority_inside-priority.result
    c.in-Some.ensures c.none-references.ensures c.priority.ensures c.priority_inside-priority.ensures c.in_ok-enters.ensures (c.from_vec-items.ensures.items ∙ c.in_ok-vec.ensures.items) c.goes_on.ensures
