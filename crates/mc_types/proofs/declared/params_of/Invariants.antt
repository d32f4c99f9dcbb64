use Rattle.std.proofs.Common.{◌≡◌, ◌+◌, drop}
use Rattle.mc_prog.specs.Declarations.{params_of}
use Rattle.mc_types.proofs.declared.params_of.Given as goal

-- with the slots that are left they are the words of all
abbrev pub invariant-loop-slot : goal.invariant-loop-slot
invariant-loop-slot l = l.words + params_of l.types (drop l.slot-index l.slots) ≡ params_of l.types l.slots
