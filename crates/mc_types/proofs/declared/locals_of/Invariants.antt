use Rattle.std.proofs.Common.{◌≡◌, ◌+◌, drop}
use Rattle.mc_prog.specs.Declarations.{locals_of}
use Rattle.mc_types.proofs.declared.locals_of.Given as goal

-- with the slots that are left they are the words of all
abbrev pub invariant-loop-slot : goal.invariant-loop-slot
invariant-loop-slot l = l.words + locals_of l.types (drop l.slot-index l.slots) ≡ locals_of l.types l.slots
