use Rattle.std.proofs.Common.{◌≡◌, ◌-◌, ◌++◌, drop, length}
use Rattle.mc_meaning.specs.Parts.{argument_items}
use Rattle.mc_meaning.proofs.parts.argument_items.Given as goal

-- the items so far, and those of what is left
abbrev pub invariant-loop-i : goal.invariant-loop-i
invariant-loop-i l = l.items.items ++ argument_items l.program (drop l.i l.slots) (drop l.i l.arguments) ≡ argument_items l.program l.slots l.arguments

abbrev pub decreases-loop-i : goal.decreases-loop-i
decreases-loop-i l = length l.slots - l.i
