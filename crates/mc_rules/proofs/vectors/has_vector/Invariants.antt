use Rattle.std.proofs.Common.{◌≡◌, drop}
use Rattle.mc_rules.specs.Rules.{has_vector}
use Rattle.mc_rules.proofs.vectors.has_vector.Given as goal

abbrev pub invariant-loop-other : goal.invariant-loop-other
invariant-loop-other l = has_vector (drop l.other-index l.vectors) l.vector ≡ has_vector l.vectors l.vector
