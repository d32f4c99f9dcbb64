use Rattle.std.proofs.Common.{◌≡◌, map, take}
use Rattle.mc_prog.specs.Known.{typed_at}
use Rattle.mc_types.proofs.parts.typed_of.Given as goal

abbrev pub invariant-loop-number : goal.invariant-loop-number
invariant-loop-number l = l.parts.items ≡ map (typed_at l.typed) (take l.number-index l.numbers)
