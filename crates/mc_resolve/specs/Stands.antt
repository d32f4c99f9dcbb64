-- What the resolver keeps, behind some items of a text.
use Rattle.std.specs.Prelude.{◌≡◌, ℕ, List, ◌∷◌, Option, Some, None, MatchOption}
use Rattle.std.specs.BTreeMap.{BTreeMap}
use Rattle.mc_tree.specs.declared.place.Place.{Place}
use Rattle.mc_tree.specs.declared.fault.Fault.{Fault}
use Rattle.mc_prog.specs.Notes.{Item}
use Rattle.mc_prog.specs.Scopes.{Before, scopes, IsMadeKnown, IsDeclared, IsOwn, IsKnown, HasFault}
use Rattle.mc_prog.specs.Namings.{IsKnownAt, IsMadeKnownAt, AreNamings}
use Rattle.mc_prog.specs.First.{IsFirst}
use Rattle.mc_resolve.specs.Around.{around}
use Rattle.mc_resolve.specs.Table.{Key, found_in}
use Rattle.mc_resolve.specs.declared.resolver.Resolver.{Resolver}

-- A table has a place exactly where this holds of the scope and the name, and the place is as this says.
abbrev pub IsTableOf : (ℕ → List ℕ → Type 0) → (ℕ → List ℕ → Place → Type 0) → BTreeMap Key Place → Type 0
IsTableOf Has HasAt places = (scope : ℕ) (name : List ℕ) → MatchOption (found_in places scope name) (Has scope name → ⊥) (λ place. HasAt scope name place)

-- the first fault, where there is one
abbrev pub IsLeastOf : (Fault → Type 0) → Option Fault → Type 0
IsLeastOf IsFault None = (f : Fault) → IsFault f → ⊥
IsLeastOf IsFault (Some f) = IsFirst IsFault f

-- the one fault, where there is one
abbrev pub IsOnly : (Fault → Type 0) → Option Fault → Type 0
IsOnly IsFault None = (f : Fault) → IsFault f → ⊥
IsOnly IsFault (Some f) = IsFault f × ((g : Fault) → IsFault g → g ≡ f)

pub record Stands (before : Before) (r : Resolver) : Type 0 where
  pub scopes_are : around r.scopes.items ≡ scopes before
  pub declared : IsTableOf (IsDeclared before) (λ scope name place. IsDeclared before scope name) r.declared.places
  pub own : IsTableOf (IsOwn before) (λ scope name place. IsOwn before scope name) r.own.places
  pub known : IsTableOf (IsKnown before) (λ scope name place. IsKnown before scope name × (r.fault ≡ None → IsKnownAt before scope name place)) r.known.places
  pub fault : IsLeastOf (HasFault before) r.fault
  pub names : r.fault ≡ None → AreNamings before r.names.items

-- one more item
abbrev pub with_item : Item → Before → Before
with_item item before = record { item = item; around = scopes before } ∷ before

-- An item without faults makes its name known as what is declared at this place.
abbrev pub IsKnownPlace : Before → Item → Place → Type 0
IsKnownPlace before item place =
    (scope : ℕ) (name : List ℕ) → IsMadeKnown (λ (s : ℕ). IsKnown before s name) item (scopes before) scope name
    → IsMadeKnownAt (λ (s : ℕ). IsKnownAt before s name place) item (scopes before) scope name place
