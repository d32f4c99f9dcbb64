use Rattle.std.proofs.Common.{◌∙◌}
use Rattle.mc_prog.specs.Resolved.{completed_process}
use Rattle.mc_types.proofs.Maps.{mapped-next}
use Rattle.mc_types.proofs.assembly.all_processes.Goals as goal

-- src/assembly.rt: one more of them
pub loop-process-preserved : goal.loop-process-preserved
loop-process-preserved c = λ texts are.
    c.in_ok-push.ensures.items
    ∙ mapped-next (completed_process texts) c.loop-process.done.items c.loop-process.yielded c.in-Some.process c.in_ok-completed_process.field-0 (c.loop-process.invariant texts are) (c.in_ok-completed_process.ensures texts are)
