-- What the code keeps stands for what is known behind some declarations.
use Rattle.std.specs.Prelude.{◌≡◌}
use Rattle.mc_prog.specs.Known.{Known}
use Rattle.mc_prog.specs.Declarations.{Declared}
use Rattle.mc_types.specs.NameTables.{AreUses, AreEntities}
use Rattle.mc_types.specs.declared.names.Uses.{Uses}
use Rattle.mc_types.specs.declared.names.Entities.{Entities}

pub record Knows (known : Known) (uses_ : Uses) (entities_ : Entities) (d : Declared) : Type 0 where
  pub uses : AreUses known.namings uses_.declarations
  pub entities : AreEntities known.entities entities_.entities
  pub types : known.types ≡ d.types
  pub modules : known.modules ≡ d.modules
  pub procedures : known.procedures ≡ d.taken_by_procedures
  pub processes : known.processes ≡ d.taken_by_processes
