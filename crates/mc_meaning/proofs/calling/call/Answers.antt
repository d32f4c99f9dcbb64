use Rattle.std.proofs.Common.{ap, ◌∙◌}
use Rattle.mc_prog.specs.declared.program.CodeInfo.{CodeInfo}
use Rattle.mc_meaning.specs.Kept.{configuration_of}
use Rattle.mc_meaning.proofs.ActionLaws.{called-by}
use Rattle.mc_meaning.proofs.calling.call.Goals as goal

-- src/calling.rt
pub returns-clause-ok : goal.returns-clause-ok
returns-clause-ok c =
    called-by c.args.program.now (configuration_of c.args.config.now) (configuration_of c.binds.new.self) (configuration_of c.goes_on.new.self) c.args.n c.args.k c.args.q.now c.enters.new.self c.args.code.now c.args.arguments.now c.args.rest.now.items c.in_ok-items.items.items c.in_ok-references.references c.priority.result c.priority_in-priority.result c.depth-depth.result _ c.from-module.result _ c.as_slice-slots.result.now
    (c.as_slice-slots.ensures.value ∙ ap (λ (code : CodeInfo). code.slots) c.code.view_is) (ap (λ (code : CodeInfo). code.«module») c.code.view_is) c.from-module.ensures (ap (λ (code : CodeInfo). code.frame) c.code.view_is)
    c.depth-depth.ensures c.in_ok-items.ensures c.in_ok-references.ensures c.priority.ensures c.priority_in-priority.ensures c.in_ok-enters.ensures c.in_ok-binds.ensures.ok c.goes_on.ensures
