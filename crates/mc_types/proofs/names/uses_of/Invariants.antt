use Rattle.std.proofs.Common.{[], take}
use Rattle.mc_prog.specs.Resolved.{latest_first}
use Rattle.mc_types.specs.NameTables.{AreUses}
use Rattle.mc_types.proofs.names.uses_of.Given as goal

-- the uses so far
abbrev pub invariant-loop-naming : goal.invariant-loop-naming
invariant-loop-naming l = AreUses (latest_first [] (take l.naming-index l.names)) l.uses.declarations
