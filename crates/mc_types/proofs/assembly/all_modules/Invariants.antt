use Rattle.std.proofs.Common.{◌≡◌, List, map}
use Rattle.mc_prog.specs.Resolved.{Text, completed_module}
use Rattle.mc_types.specs.Assembled.{AreTexts}
use Rattle.mc_types.proofs.assembly.all_modules.Given as goal

abbrev pub invariant-loop-module : goal.invariant-loop-module
invariant-loop-module l = (texts : List Text) → AreTexts texts l.placed.texts → l.done.items ≡ map (completed_module texts) l.yielded
