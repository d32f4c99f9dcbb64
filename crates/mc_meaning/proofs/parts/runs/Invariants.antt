use Rattle.std.proofs.Common.{◌≡◌, map, take}
use Rattle.mc_meaning.specs.declared.process.Item.TheVariants.{Runs}
use Rattle.mc_meaning.proofs.parts.runs.Given as goal

-- the items so far
abbrev pub invariant-loop-n : goal.invariant-loop-n
invariant-loop-n l = l.items.items ≡ map Runs (take l.n-index l.statements)
