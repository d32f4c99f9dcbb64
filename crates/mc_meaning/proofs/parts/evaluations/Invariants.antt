use Rattle.std.proofs.Common.{◌≡◌, map, take}
use Rattle.mc_meaning.specs.declared.process.Item.TheVariants.{Evaluates}
use Rattle.mc_meaning.proofs.parts.evaluations.Given as goal

-- the items so far
abbrev pub invariant-loop-n : goal.invariant-loop-n
invariant-loop-n l = l.items.items ≡ map Evaluates (take l.n-index l.expressions)
