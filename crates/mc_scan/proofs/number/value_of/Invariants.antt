use Rattle.std.proofs.Common.{◌≡◌, take, min}
use Rattle.mc_tree.specs.Spellings.{value_of}
use Rattle.mc_scan.proofs.number.value_of.Given as goal

abbrev pub invariant-loop-digit : goal.invariant-loop-digit
invariant-loop-digit l = l.value ≡ min (value_of l.base (take l.digit-index l.digits)) 65536
