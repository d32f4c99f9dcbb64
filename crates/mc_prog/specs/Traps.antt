-- The numbers of the traps of single values.
use Rattle.std.specs.Prelude.{ℕ}
use Rattle.mc_prog.specs.declared.values.Trap.{Trap}
use Rattle.mc_prog.specs.declared.values.Trap.TheVariants.{Overflow, Divide, Range}
use Rattle.mc_prog.specs.Values.{overflow, zero_divisor, range}

abbrev pub number_of : Trap → ℕ
number_of Overflow = overflow
number_of Divide = zero_divisor
number_of Range = range
