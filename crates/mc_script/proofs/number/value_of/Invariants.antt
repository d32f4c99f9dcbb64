use Rattle.std.proofs.Common.{◌≡◌, take, min}
use Rattle.mc_script.specs.Forms.{value}
use Rattle.mc_script.proofs.number.value_of.Given as goal

abbrev pub invariant-loop-digit : goal.invariant-loop-digit
invariant-loop-digit l = l.value ≡ min (value l.base (take l.digit-index l.digits)) 20000001
