-- What the tables of names have at a place.
use Rattle.std.specs.Prelude.{◌≡◌, ℕ, List, Bool, Option, unwrap_or}
use Rattle.std.specs.Map.{lookup}
use Rattle.std.specs.BTreeMap.{BTreeMap}
use Rattle.std.specs.Ordering.{nat_cmp, ordering_then, is_eq}
use Rattle.mc_tree.specs.declared.place.Place.{Place}
use Rattle.mc_prog.specs.declared.scoped.Naming.{Naming}
use Rattle.mc_prog.specs.declared.typing.Entity.{Entity}
use Rattle.mc_prog.specs.declared.typing.Entity.TheVariants as entity
use Rattle.mc_prog.specs.Known.{declaration_in, entity_in}
use Rattle.mc_prog.specs.Declarations.{nowhere}

abbrev pub Key : Type 0
Key = ℕ × ℕ

abbrev pub is_key : Place → Key → Bool
is_key place k = is_eq (ordering_then (nat_cmp place.line k.0) (nat_cmp place.column k.1))

abbrev pub found : {V : Type 0} → BTreeMap Key V → Place → Option V
found values place = lookup (is_key place) values.entries

-- the table of uses stands for these, the last first
abbrev pub AreUses : List Naming → BTreeMap Key Place → Type 0
AreUses namings declarations = (place : Place) → unwrap_or (found declarations place) nowhere ≡ declaration_in namings place

-- the table of declarations stands for these, the latest first
abbrev pub AreEntities : List (Place × Entity) → BTreeMap Key Entity → Type 0
AreEntities list entities = (place : Place) → unwrap_or (found entities place) entity.Ahead ≡ entity_in list place
