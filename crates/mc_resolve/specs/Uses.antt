-- The naming of an item that is a use.
use Rattle.std.specs.Prelude.{List, [], ◌∷◌, unwrap_or}
use Rattle.std.specs.BTreeMap.{BTreeMap}
use Rattle.mc_tree.specs.declared.place.Place.{Place}
use Rattle.mc_prog.specs.declared.scoped.Naming.{Naming}
use Rattle.mc_prog.specs.Notes.{Item, Opens, Closes, Declares, Field, Knows, Lists, Defines, Uses, Ends}
use Rattle.mc_prog.specs.Scopes.{Scope, near}
use Rattle.mc_prog.specs.Namings.{nowhere}
use Rattle.mc_resolve.specs.Table.{Key, first_found}

abbrev pub naming_of : BTreeMap Key Place → List Scope → Item → List Naming
naming_of known around (Opens kind) = []
naming_of known around Closes = []
naming_of known around (Declares name) = []
naming_of known around (Field name) = []
naming_of known around (Knows name) = []
naming_of known around (Lists name) = []
naming_of known around (Defines name) = []
naming_of known around (Uses name) = record { at = name.place; declared = unwrap_or (first_found known (near around) name.text) nowhere } ∷ []
naming_of known around (Ends name end) = []
