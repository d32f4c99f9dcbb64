use Rattle.std.proofs.Common.{◌≡◌, drop}
use Rattle.mc_meaning.specs.Access.{reference_of}
use Rattle.mc_meaning.proofs.access.reference_of.Given as goal

-- those before it are of other slots
abbrev pub invariant-loop-reference : goal.invariant-loop-reference
invariant-loop-reference l = reference_of (drop l.reference-index l.references) l.slot l.own ≡ reference_of l.references l.slot l.own
