use Rattle.std.proofs.Common.{◌≡◌, List, map}
use Rattle.mc_prog.specs.Resolved.{Text, completed}
use Rattle.mc_types.specs.Assembled.{AreTexts}
use Rattle.mc_types.proofs.assembly.all_completed.Given as goal

abbrev pub invariant-loop-code : goal.invariant-loop-code
invariant-loop-code l = (texts : List Text) → AreTexts texts l.placed.texts → l.done.items ≡ map (completed texts) l.yielded
