use Rattle.std.proofs.Common.{◌≡◌, ◌++◌, drop}
use Rattle.mc_prog.specs.Resolved.{bodies_of}
use Rattle.mc_types.proofs.assembly.bodies_of.Given as goal

-- with the bodies among the texts that are left they are all
abbrev pub invariant-loop-text : goal.invariant-loop-text
invariant-loop-text l = l.bodies.items ++ bodies_of (drop l.text-index l.texts) ≡ bodies_of l.texts
