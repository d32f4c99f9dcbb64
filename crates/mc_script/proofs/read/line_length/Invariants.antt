use Rattle.std.proofs.Common.{take}
use Rattle.mc_script.specs.Steps.{HasNoFeed}
use Rattle.mc_script.proofs.read.line_length.Given as goal

abbrev pub invariant-loop-i : goal.invariant-loop-i
invariant-loop-i l = HasNoFeed (take l.i l.text)
