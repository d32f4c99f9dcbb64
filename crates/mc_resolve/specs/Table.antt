-- What a table of names has at a scope and a name.
use Rattle.std.specs.Prelude.{ℕ, List, [], ◌∷◌, Bool, false, Option, Some, None, unwrap_or}
use Rattle.std.specs.Borrow.{Bor}
use Rattle.std.specs.Map.{lookup}
use Rattle.std.specs.BTreeMap.{BTreeMap}
use Rattle.std.specs.Ordering.{nat_cmp, ordering_then, is_eq}
use Rattle.std.specs.Cmp.Lexicographic.{slice_cmp}
use Rattle.mc_tree.specs.declared.place.Place.{Place}
use Rattle.mc_prog.specs.Notes.{Item, Opens, Closes, Declares, Field, Knows, Lists, Defines, Uses, Ends}
use Rattle.mc_prog.specs.Scopes.{Named, Scope, innermost, outer, known_by}
use Rattle.mc_prog.specs.Namings.{nowhere}

abbrev pub Key : Type 0
Key = ℕ × Bor (List ℕ)

-- a key is at this scope and has this name
abbrev pub is_this : ℕ → List ℕ → ℕ → List ℕ → Bool
is_this scope name s x = is_eq (ordering_then (nat_cmp scope s) (slice_cmp nat_cmp name x))

abbrev pub found_in : BTreeMap Key Place → ℕ → List ℕ → Option Place
found_in places scope name = lookup (λ (k : Key). is_this scope name k.0 k.1.now) places.entries

-- the same in a scope that there may not be
abbrev pub found_of : BTreeMap Key Place → Option ℕ → List ℕ → Option Place
found_of places None name = None
found_of places (Some scope) name = found_in places scope name

-- where there is a place, this
abbrev pub if_there : Option Place → Option Named → Option Named
if_there None named = None
if_there (Some place) named = named

-- what an item makes known: a name of a define list where the module knows it
abbrev pub made_known : BTreeMap Key Place → List Scope → Item → Option Named
made_known known around (Opens kind) = None
made_known known around Closes = None
made_known known around (Declares name) = None
made_known known around (Field name) = None
made_known known around (Knows name) = known_by (Knows name) around
made_known known around (Lists name) = known_by (Lists name) around
made_known known around (Defines name) = if_there (found_of known (innermost around) name.text) (known_by (Defines name) around)
made_known known around (Uses name) = None
made_known known around (Ends name end) = None

-- the place of what comes to be known by an item
abbrev pub known_place : BTreeMap Key Place → List Scope → Item → Place
known_place known around (Opens kind) = nowhere
known_place known around Closes = nowhere
known_place known around (Declares name) = nowhere
known_place known around (Field name) = nowhere
known_place known around (Knows name) = name.place
known_place known around (Lists name) = unwrap_or (found_of known (innermost (outer around)) name.text) nowhere
known_place known around (Defines name) = unwrap_or (found_of known (innermost around) name.text) nowhere
known_place known around (Uses name) = nowhere
known_place known around (Ends name end) = nowhere

-- the first of two answers that is there
abbrev pub or_else : Option Place → Option Place → Option Place
or_else None other = other
or_else (Some place) other = Some place

-- what the table has at the name in the first of these scopes that have it
abbrev pub first_found : BTreeMap Key Place → List ℕ → List ℕ → Option Place
first_found places [] name = None
first_found places (scope ∷ more) name = or_else (found_in places scope name) (first_found places more name)

-- a name in a scope is that of a key
abbrev pub is_named : Option Named → ℕ → List ℕ → Bool
is_named None s x = false
is_named (Some n) s x = is_this n.scope n.name.text s x

abbrev pub own_place : Option Named → Option Place
own_place None = None
own_place (Some n) = Some n.name.place
