-- What the code keeps behind some declarations.
use Rattle.std.specs.Prelude.{◌≡◌, List, Option}
use Rattle.mc_tree.specs.declared.fault.Fault.{Fault}
use Rattle.mc_prog.specs.declared.scoped.Naming.{Naming}
use Rattle.mc_prog.specs.declared.typing.Typed.{Typed}
use Rattle.mc_prog.specs.Declarations.{Declared}
use Rattle.mc_prog.specs.DeclarationTypes.{Scope, declaration_fault, nothing_declared, scope_behind}
use Rattle.mc_prog.specs.Passes.{passed, HasFaultOf}
use Rattle.mc_prog.specs.Pieces.{Piece}
use Rattle.mc_types.specs.Ranks.{IsLeastOf}
use Rattle.mc_types.specs.NameTables.{AreUses, AreEntities}
use Rattle.mc_types.specs.declared.names.Uses.{Uses}
use Rattle.mc_types.specs.declared.names.Entities.{Entities}

pub record Stands (namings : List Naming) (s : Scope) (uses_ : Uses) (entities_ : Entities) (declared_ : Declared) (typed_ : List Typed) : Type 0 where
  pub uses : AreUses namings uses_.declarations
  pub entities : AreEntities s.entities entities_.entities
  pub declared : declared_ ≡ s.declared
  pub typed : typed_ ≡ s.typed

-- what the code keeps behind some of all pieces, and its first fault so far
pub record IsScopeOf (namings : List Naming) (uses_ : Uses) (pieces some : List Piece) (entities_ : Entities) (declared_ : Declared) (typed_ : List Typed) (fault_ : Option Fault) : Type 0 where
  pub stands : Stands namings (passed (scope_behind namings pieces) nothing_declared some) uses_ entities_ declared_ typed_
  pub fault : IsLeastOf (HasFaultOf (scope_behind namings pieces) (declaration_fault namings pieces) nothing_declared some) fault_
