use Rattle.std.proofs.Common.{List, take}
use Rattle.mc_prog.specs.declared.scoped.Naming.{Naming}
use Rattle.mc_types.specs.NameTables.{AreUses}
use Rattle.mc_types.specs.Stands.{IsScopeOf}
use Rattle.mc_types.proofs.scope.scope_of.Given as goal

-- so far it stands for the pieces so far
abbrev pub invariant-loop-piece : goal.invariant-loop-piece
invariant-loop-piece l =
    (namings : List Naming) → AreUses namings l.uses.declarations
    → IsScopeOf namings l.uses l.pieces (take l.piece-index l.pieces) l.entities l.declared l.typed.items l.fault
