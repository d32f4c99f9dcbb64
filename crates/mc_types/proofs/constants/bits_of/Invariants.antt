use Rattle.std.proofs.Common.{◌≡◌, drop}
use Rattle.mc_prog.specs.declared.typing.Meaning.TheVariants.{Constant}
use Rattle.mc_prog.specs.Known.{bits}
use Rattle.mc_prog.specs.Constants.{bits_of}
use Rattle.mc_types.proofs.constants.bits_of.Given as goal

abbrev pub invariant-loop-part : goal.invariant-loop-part
invariant-loop-part l = bits_of l.so_far (drop l.part-index l.parts) ≡ bits_of (Constant bits 0) l.parts
