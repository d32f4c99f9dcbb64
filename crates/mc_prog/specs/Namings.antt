-- Where the names that a text uses are declared.
use Rattle.std.specs.Prelude.{◌≡◌, ◌⊎◌, ◌++◌, ℕ, List, [], ◌∷◌, Option, Some, None}
use Rattle.mc_tree.specs.declared.place.Place.{Place}
use Rattle.mc_tree.specs.declared.tree.Id.{Id}
use Rattle.mc_tree.specs.declared.tree.Tree.{Tree}
use Rattle.mc_prog.specs.declared.scoped.Naming.{Naming}
use Rattle.mc_prog.specs.Notes.{Item, Opens, Closes, Declares, Field, Knows, Lists, Defines, Uses, Ends}
use Rattle.mc_prog.specs.Names.{names_of}
use Rattle.mc_prog.specs.Scopes.{Scope, Named, Before, Of, IsMadeKnown, IsKnown, IsStandard, Is, named_in, near, innermost, outer, home, placed}

-- the place of a standard name's declaration
abbrev pub nowhere : Place
nowhere = record { line = 0; column = 0 }

-- this scope and this name, declared at this place
abbrev pub IsAt : Option Named → ℕ → List ℕ → Place → Type 0
IsAt None scope name place = ⊥
IsAt (Some n) scope name place = (n.scope ≡ scope) × (n.name.text ≡ name) × (n.name.place ≡ place)

-- An item makes a name known in a scope, as what is declared at this place: a name of the module's use list as it is
-- known around the module, and one of a define list as it is known in the module.
abbrev pub IsMadeKnownAt : (ℕ → Type 0) → Item → List Scope → ℕ → List ℕ → Place → Type 0
IsMadeKnownAt KnownIn (Opens kind) around scope name place = ⊥
IsMadeKnownAt KnownIn Closes around scope name place = ⊥
IsMadeKnownAt KnownIn (Declares id) around scope name place = ⊥
IsMadeKnownAt KnownIn (Field id) around scope name place = ⊥
IsMadeKnownAt KnownIn (Knows id) around scope name place = IsAt (named_in (home around) id) scope name place
IsMadeKnownAt KnownIn (Lists id) around scope name place = Is (named_in (innermost around) id) scope name × Of (innermost (outer around)) KnownIn
IsMadeKnownAt KnownIn (Defines id) around scope name place = Is (named_in (innermost (outer around)) id) scope name × Of (innermost around) KnownIn
IsMadeKnownAt KnownIn (Uses id) around scope name place = ⊥
IsMadeKnownAt KnownIn (Ends id end) around scope name place = ⊥

-- A name is known in a scope, as what is declared at this place: the latest that makes it known there decides.
abbrev pub IsKnownAt : Before → ℕ → List ℕ → Place → Type 0
IsKnownAt [] scope name place = ⊥
IsKnownAt (p ∷ before) scope name place =
    IsMadeKnownAt (λ (s : ℕ). IsKnownAt before s name place) p.item p.around scope name place
    ⊎ ((IsMadeKnown (λ (s : ℕ). IsKnown before s name) p.item p.around scope name → ⊥) × IsKnownAt before scope name place)

-- A name is found in the first of these scopes where it is known, or it is a standard name.
abbrev pub IsFoundIn : Before → List ℕ → List ℕ → Place → Type 0
IsFoundIn before [] name place = IsStandard name × (place ≡ nowhere)
IsFoundIn before (scope ∷ more) name place = IsKnownAt before scope name place ⊎ ((IsKnown before scope name → ⊥) × IsFoundIn before more name place)

-- the last of the namings is that of this use
pub record IsLastNaming (before : Before) (around : List Scope) (id : Id) (NamesBefore : List Naming → Type 0) (names : List Naming) : Type 0 where
  pub earlier : List Naming
  pub naming : Naming
  pub names_are : names ≡ earlier ++ (naming ∷ [])
  pub at : naming.at ≡ id.place
  pub found : IsFoundIn before (near around) id.text naming.declared
  pub before_it : NamesBefore earlier

abbrev pub AreNamingsWith : Before → List Scope → (List Naming → Type 0) → Item → List Naming → Type 0
AreNamingsWith before around NamesBefore (Opens kind) names = NamesBefore names
AreNamingsWith before around NamesBefore Closes names = NamesBefore names
AreNamingsWith before around NamesBefore (Declares id) names = NamesBefore names
AreNamingsWith before around NamesBefore (Field id) names = NamesBefore names
AreNamingsWith before around NamesBefore (Knows id) names = NamesBefore names
AreNamingsWith before around NamesBefore (Lists id) names = NamesBefore names
AreNamingsWith before around NamesBefore (Defines id) names = NamesBefore names
AreNamingsWith before around NamesBefore (Uses id) names = IsLastNaming before around id NamesBefore names
AreNamingsWith before around NamesBefore (Ends id end) names = NamesBefore names

-- These are the uses in the order of the text, each with the place where its name is declared.
abbrev pub AreNamings : Before → List Naming → Type 0
AreNamings [] names = names ≡ []
AreNamings (p ∷ before) names = AreNamingsWith before p.around (AreNamings before) p.item names

abbrev pub AreNamingsOf : Tree → List Naming → Type 0
AreNamingsOf tree names = AreNamings (placed [] (names_of tree)) names
