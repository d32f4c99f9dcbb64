use Rattle.std.proofs.Common.{◌≡◌, drop}
use Rattle.mc_prog.specs.Declarations.{process_fault}
use Rattle.mc_types.proofs.declaring.process_fault.Given as goal

-- those so far have no fault
abbrev pub invariant-loop-parameter : goal.invariant-loop-parameter
invariant-loop-parameter l = process_fault l.types (drop l.parameter-index l.wanted) ≡ process_fault l.types l.wanted
