-- What the code knows where a piece stands.
use Rattle.std.specs.Prelude.{◌≡◌}
use Rattle.mc_prog.specs.Known.{Known}
use Rattle.mc_types.specs.NameTables.{AreUses, AreEntities}
use Rattle.mc_types.specs.declared.lookup.Known.{Known as KnownThere}

pub record IsKnown (known : Known) (k : KnownThere) : Type 0 where
  pub uses : AreUses known.namings k.uses.now.declarations
  pub entities : AreEntities known.entities k.entities.now.entities
  pub types : known.types ≡ k.types.now
  pub modules : known.modules ≡ k.modules.now
  pub procedures : known.procedures ≡ k.procedures.now
  pub processes : known.processes ≡ k.processes.now
