use Rattle.std.proofs.Common.{◌∙◌}
use Rattle.mc_prog.specs.Resolved.{completed_module}
use Rattle.mc_types.proofs.Maps.{mapped-next}
use Rattle.mc_types.proofs.assembly.all_modules.Goals as goal

-- src/assembly.rt: one more of them
pub loop-module-preserved : goal.loop-module-preserved
loop-module-preserved c = λ texts are.
    c.in_ok-push.ensures.items
    ∙ mapped-next (completed_module texts) c.loop-module.done.items c.loop-module.yielded c.in-Some.module c.in_ok-completed_module.field-0 (c.loop-module.invariant texts are) (c.in_ok-completed_module.ensures texts are)
