use Rattle.std.proofs.Common.{◌≡◌, drop}
use Rattle.mc_prog.specs.ExpressionTypes.{greater, most_arguments}
use Rattle.mc_types.proofs.expressions.most_arguments.Given as goal

abbrev pub invariant-loop-part : goal.invariant-loop-part
invariant-loop-part l = greater l.most (most_arguments (drop l.part-index l.parts)) ≡ most_arguments l.parts
