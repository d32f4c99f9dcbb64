use Rattle.std.proofs.Common.{◌≡◌, ◌++◌}
use Rattle.mc_kernel.specs.Memory.{descriptors}
use Rattle.mc_kernel.proofs.memory.push_descriptors.Given as goal

abbrev pub invariant-loop-i : goal.invariant-loop-i
invariant-loop-i l = l.words.items ≡ l.initial.words.items ++ descriptors l.workspace l.work_at l.live l.i
