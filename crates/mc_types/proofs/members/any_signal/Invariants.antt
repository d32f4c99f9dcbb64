use Rattle.std.proofs.Common.{◌≡◌, drop}
use Rattle.mc_prog.specs.Declarations.{any_signal}
use Rattle.mc_types.proofs.members.any_signal.Given as goal

-- those so far have none
abbrev pub invariant-loop-number : goal.invariant-loop-number
invariant-loop-number l = any_signal l.types l.typed (drop l.number-index l.groups) ≡ any_signal l.types l.typed l.groups
