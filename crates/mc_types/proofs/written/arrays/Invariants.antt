use Rattle.std.proofs.Common.{◌≡◌, ◌<◌, length, drop}
use Rattle.mc_prog.specs.Declarations.{arrays}
use Rattle.mc_types.specs.Views.{built_of}
use Rattle.mc_types.proofs.written.arrays.Given as goal

-- the arrays over the ranges behind are made
abbrev pub invariant-loop-left : goal.invariant-loop-left
invariant-loop-left l = (built_of l.said l.types.items ≡ arrays l.fn.types.items l.place (drop l.left l.parts)) × (l.left < length l.parts)

abbrev pub decreases-loop-left : goal.decreases-loop-left
decreases-loop-left l = l.left
