use Rattle.std.proofs.Common.{◌≡◌, map, take}
use Rattle.mc_meaning.specs.declared.process.Item.TheVariants.{Names}
use Rattle.mc_meaning.proofs.parts.namings.Given as goal

-- the items so far
abbrev pub invariant-loop-n : goal.invariant-loop-n
invariant-loop-n l = l.items.items ≡ map Names (take l.n-index l.designators)
