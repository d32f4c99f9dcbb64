use Rattle.std.proofs.Common.{◌≡◌, ◌++◌, drop, take}
use Rattle.mc_meaning.proofs.process.take_front.Given as goal

-- what was taken, and what is still to be taken
abbrev pub invariant-loop-left : goal.invariant-loop-left
invariant-loop-left l = record {
  so_far : l.taken.items ++ take l.left l.found.items ≡ l.initial.taken.items ++ take l.count l.initial.found.items;
  others : drop l.left l.found.items ≡ drop l.count l.initial.found.items;
}

abbrev pub decreases-loop-left : goal.decreases-loop-left
decreases-loop-left l = l.left
