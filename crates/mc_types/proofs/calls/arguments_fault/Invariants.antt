use Rattle.std.proofs.Common.{◌≡◌, drop, length}
use Rattle.mc_prog.specs.Calls.{arguments_fault}
use Rattle.mc_types.proofs.calls.arguments_fault.Given as goal

abbrev pub invariant-loop-taken : goal.invariant-loop-taken
invariant-loop-taken l = arguments_fault l.types (drop (length l.yielded) l.wanted) (drop (length l.yielded) l.arguments) ≡ arguments_fault l.types l.wanted l.arguments
