-- The innermost scope is the last of the list: what the words on scopes say of it and of those further out.
use Rattle.std.specs.Prelude.{◌≡◌, ◌⊎◌, ℕ, List, [], ◌∷◌, ◌++◌, Some, None}
use Rattle.std.specs.List.{IsLastAndRest}
use Rattle.std.specs.BTreeMap.{BTreeMap}
use Rattle.std.proofs.Common.{ap, ◌∙◌, refl, inl, inr}
use Rattle.mc_tree.specs.declared.place.Place.{Place}
use Rattle.mc_prog.specs.Scopes.{innermost, outer, home, home_by, near, near_by, far, far_by, numbers}
use Rattle.mc_resolve.specs.declared.item.ScopeKind.{ScopeKind}
use Rattle.mc_resolve.specs.declared.item.ScopeKind.TheVariants.{Block, Code, Record}
use Rattle.mc_resolve.specs.declared.scope.Scope.{Scope}
use Rattle.mc_resolve.specs.Around.{around, scope_of}
use Rattle.mc_resolve.specs.Items.{kind_of}
use Rattle.mc_resolve.specs.Table.{Key, found_in, first_found, or_else}

pub around-last : (scopes : List Scope) (s : Scope) → around (scopes ++ (s ∷ [])) ≡ scope_of s ∷ around scopes
around-last [] s = refl
around-last (t ∷ scopes) s = ap (λ a. a ++ (scope_of t ∷ [])) (around-last scopes s)

pub around-split : (scopes : List Scope) (s : Scope) (rest : List Scope) → IsLastAndRest scopes s rest → around scopes ≡ scope_of s ∷ around rest
around-split scopes s rest h = ap around h.0 ∙ around-last rest s

pub innermost-split : (scopes : List Scope) (s : Scope) (rest : List Scope) → IsLastAndRest scopes s rest → innermost (around scopes) ≡ Some s.number
innermost-split scopes s rest h = ap innermost (around-split scopes s rest h)

pub outer-split : (scopes : List Scope) (s : Scope) (rest : List Scope) → IsLastAndRest scopes s rest → outer (around scopes) ≡ around rest
outer-split scopes s rest h = ap outer (around-split scopes s rest h)

pub home-record : (scopes : List Scope) (s : Scope) (rest : List Scope) → IsLastAndRest scopes s rest → s.kind ≡ Record → home (around scopes) ≡ home (around rest)
home-record scopes s rest h k = ap home (around-split scopes s rest h) ∙ ap (λ (x : ScopeKind). home_by (kind_of x) s.number (home (around rest))) k

pub home-other : (scopes : List Scope) (s : Scope) (rest : List Scope) → IsLastAndRest scopes s rest → (s.kind ≡ Block) ⊎ (s.kind ≡ Code) → home (around scopes) ≡ Some s.number
home-other scopes s rest h (inl k) = ap home (around-split scopes s rest h) ∙ ap (λ (x : ScopeKind). home_by (kind_of x) s.number (home (around rest))) k
home-other scopes s rest h (inr k) = ap home (around-split scopes s rest h) ∙ ap (λ (x : ScopeKind). home_by (kind_of x) s.number (home (around rest))) k

near_by-other : (k : ScopeKind) (further : List ℕ) → (k ≡ Code) ⊎ (k ≡ Record) → near_by (kind_of k) further ≡ further
near_by-other k further (inl e) = ap (λ (x : ScopeKind). near_by (kind_of x) further) e
near_by-other k further (inr e) = ap (λ (x : ScopeKind). near_by (kind_of x) further) e

-- a table at the scopes of a name
pub near-found : (places : BTreeMap Key Place) (name : List ℕ) (scopes : List Scope) (s : Scope) (rest : List Scope) → IsLastAndRest scopes s rest → (place : Place) → found_in places s.number name ≡ Some place → first_found places (near (around scopes)) name ≡ Some place
near-found places name scopes s rest h place e =
    ap (λ a. first_found places (near a) name) (around-split scopes s rest h) ∙ ap (λ o. or_else o (first_found places (near_by (kind_of s.kind) (near (around rest))) name)) e

pub near-block : (places : BTreeMap Key Place) (name : List ℕ) (scopes : List Scope) (s : Scope) (rest : List Scope) → IsLastAndRest scopes s rest → found_in places s.number name ≡ None → s.kind ≡ Block → first_found places (near (around scopes)) name ≡ None
near-block places name scopes s rest h e k =
    ap (λ a. first_found places (near a) name) (around-split scopes s rest h) ∙ ap (λ o. or_else o (first_found places (near_by (kind_of s.kind) (near (around rest))) name)) e
    ∙ ap (λ (x : ScopeKind). first_found places (near_by (kind_of x) (near (around rest))) name) k

pub near-other : (places : BTreeMap Key Place) (name : List ℕ) (scopes : List Scope) (s : Scope) (rest : List Scope) → IsLastAndRest scopes s rest → found_in places s.number name ≡ None → (s.kind ≡ Code) ⊎ (s.kind ≡ Record) → first_found places (near (around scopes)) name ≡ first_found places (near (around rest)) name
near-other places name scopes s rest h e k =
    ap (λ a. first_found places (near a) name) (around-split scopes s rest h) ∙ ap (λ o. or_else o (first_found places (near_by (kind_of s.kind) (near (around rest))) name)) e
    ∙ ap (λ ss. first_found places ss name) (near_by-other s.kind (near (around rest)) k)

pub numbers-found : (places : BTreeMap Key Place) (name : List ℕ) (scopes : List Scope) (s : Scope) (rest : List Scope) → IsLastAndRest scopes s rest → (place : Place) → found_in places s.number name ≡ Some place → first_found places (numbers (around scopes)) name ≡ Some place
numbers-found places name scopes s rest h place e =
    ap (λ a. first_found places (numbers a) name) (around-split scopes s rest h) ∙ ap (λ o. or_else o (first_found places (numbers (around rest)) name)) e

pub numbers-further : (places : BTreeMap Key Place) (name : List ℕ) (scopes : List Scope) (s : Scope) (rest : List Scope) → IsLastAndRest scopes s rest → found_in places s.number name ≡ None → first_found places (numbers (around scopes)) name ≡ first_found places (numbers (around rest)) name
numbers-further places name scopes s rest h e =
    ap (λ a. first_found places (numbers a) name) (around-split scopes s rest h) ∙ ap (λ o. or_else o (first_found places (numbers (around rest)) name)) e

pub far-block : (scopes : List Scope) (s : Scope) (rest : List Scope) → IsLastAndRest scopes s rest → s.kind ≡ Block → far (around scopes) ≡ numbers (around rest)
far-block scopes s rest h k = ap far (around-split scopes s rest h) ∙ ap (λ (x : ScopeKind). far_by (kind_of x) (around rest) (far (around rest))) k

pub far-other : (scopes : List Scope) (s : Scope) (rest : List Scope) → IsLastAndRest scopes s rest → (s.kind ≡ Code) ⊎ (s.kind ≡ Record) → far (around scopes) ≡ far (around rest)
far-other scopes s rest h (inl k) = ap far (around-split scopes s rest h) ∙ ap (λ (x : ScopeKind). far_by (kind_of x) (around rest) (far (around rest))) k
far-other scopes s rest h (inr k) = ap far (around-split scopes s rest h) ∙ ap (λ (x : ScopeKind). far_by (kind_of x) (around rest) (far (around rest))) k
