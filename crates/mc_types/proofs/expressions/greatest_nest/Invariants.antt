use Rattle.std.proofs.Common.{◌≡◌, drop}
use Rattle.mc_prog.specs.ExpressionTypes.{greater, greatest_nest}
use Rattle.mc_types.proofs.expressions.greatest_nest.Given as goal

abbrev pub invariant-loop-part : goal.invariant-loop-part
invariant-loop-part l = greater l.greatest (greatest_nest (drop l.part-index l.parts)) ≡ greatest_nest l.parts
