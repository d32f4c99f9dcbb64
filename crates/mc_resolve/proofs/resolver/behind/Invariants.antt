use Rattle.std.proofs.Common.{[], take}
use Rattle.mc_prog.specs.Scopes.{placed}
use Rattle.mc_resolve.specs.Stands.{Stands}
use Rattle.mc_resolve.proofs.resolver.behind.Given as goal

abbrev pub invariant-loop-number : goal.invariant-loop-number
invariant-loop-number l = Stands (placed [] (take l.number l.fn.items)) l.resolver
