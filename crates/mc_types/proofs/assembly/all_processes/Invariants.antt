use Rattle.std.proofs.Common.{◌≡◌, List, map}
use Rattle.mc_prog.specs.Resolved.{Text, completed_process}
use Rattle.mc_types.specs.Assembled.{AreTexts}
use Rattle.mc_types.proofs.assembly.all_processes.Given as goal

abbrev pub invariant-loop-process : goal.invariant-loop-process
invariant-loop-process l = (texts : List Text) → AreTexts texts l.placed.texts → l.done.items ≡ map (completed_process texts) l.yielded
