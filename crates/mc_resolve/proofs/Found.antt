-- What is found in the tables, and what is known behind the items so far.
use Rattle.std.specs.Prelude.{◌≡◌, ◌⊎◌, ℕ, Bool, true, false, List, [], ◌∷◌, Option, Some, None, MatchOption, is_some, unwrap_or, cond, ⊤}
use Rattle.std.specs.BTreeMap.{BTreeMap}
use Rattle.std.proofs.Common.{ap, ◌∙◌, sym, subst, refl, inl, inr}
use Rattle.mc_tree.specs.declared.place.Place.{Place}
use Rattle.mc_prog.specs.Scopes.{Before, scopes, near, far, IsKnown, IsKnownIn, IsStandard}
use Rattle.mc_prog.specs.Namings.{nowhere, IsKnownAt, IsFoundIn}
use Rattle.mc_resolve.specs.Around.{around}
use Rattle.mc_resolve.specs.Table.{Key, found_in, first_found, or_else}
use Rattle.mc_resolve.specs.Stands.{IsTableOf, Stands}
use Rattle.mc_resolve.specs.declared.resolver.Resolver.{Resolver}

pub false-true : ◌≡◌ {A = Bool} false true → ⊥
false-true e = subst (λ (b : Bool). cond b ⊥ ⊤) e tt

pub has-none : (Has : ℕ → List ℕ → Type 0) (HasAt : ℕ → List ℕ → Place → Type 0) (places : BTreeMap Key Place) → IsTableOf Has HasAt places → (s : ℕ) (x : List ℕ) → found_in places s x ≡ None → Has s x → ⊥
has-none Has HasAt places h s x e = subst (λ o. MatchOption o (Has s x → ⊥) (λ (p : Place). HasAt s x p)) e (h s x)

pub has-some : (Has : ℕ → List ℕ → Type 0) (HasAt : ℕ → List ℕ → Place → Type 0) (places : BTreeMap Key Place) → IsTableOf Has HasAt places → (s : ℕ) (x : List ℕ) (p : Place) → found_in places s x ≡ Some p → HasAt s x p
has-some Has HasAt places h s x p e = subst (λ o. MatchOption o (Has s x → ⊥) (λ (q : Place). HasAt s x q)) e (h s x)

pub none-some : {p : Place} → ◌≡◌ {A = Option Place} (Some p) None → ⊥
none-some e = subst (λ o. MatchOption o ⊥ (λ (q : Place). ⊤)) e tt

pub some-same : (p q : Place) → ◌≡◌ {A = Option Place} (Some p) (Some q) → p ≡ q
some-same p q e = ap (λ o. unwrap_or o p) e

-- the table of known names
abbrev pub IsKnownAs : Before → Resolver → ℕ → List ℕ → Place → Type 0
IsKnownAs before r s x place = IsKnown before s x × (r.fault ≡ None → IsKnownAt before s x place)

pub known-none : (before : Before) (r : Resolver) → Stands before r → (s : ℕ) (x : List ℕ) → found_in r.known.places s x ≡ None → IsKnown before s x → ⊥
known-none before r st s x e = has-none (IsKnown before) (IsKnownAs before r) r.known.places st.known s x e

pub known-some : (before : Before) (r : Resolver) → Stands before r → (s : ℕ) (x : List ℕ) (p : Place) → found_in r.known.places s x ≡ Some p → IsKnownAs before r s x p
known-some before r st s x p e = has-some (IsKnown before) (IsKnownAs before r) r.known.places st.known s x p e

none-by : (o rest : Option Place) → or_else o rest ≡ None → (o ≡ None) × (rest ≡ None)
none-by None rest g = (refl, g)
none-by (Some p) rest g = absurd (none-some g)

some-by : (o rest : Option Place) (place : Place) → or_else o rest ≡ Some place → (o ≡ Some place) ⊎ ((o ≡ None) × (rest ≡ Some place))
some-by None rest place g = inr (refl, g)
some-by (Some p) rest place g = inl g

pub none-found : (before : Before) (r : Resolver) → Stands before r → (ss : List ℕ) (x : List ℕ) → first_found r.known.places ss x ≡ None → IsKnownIn before ss x → ⊥
none-found before r st [] x e k = k
none-found before r st (s ∷ ss) x e (inl k) = known-none before r st s x (none-by (found_in r.known.places s x) (first_found r.known.places ss x) e).0 k
none-found before r st (s ∷ ss) x e (inr k) = none-found before r st ss x (none-by (found_in r.known.places s x) (first_found r.known.places ss x) e).1 k

-- a place that is found, of a name that is known there
abbrev pub IsFoundAs : Before → Resolver → List ℕ → List ℕ → Place → Type 0
IsFoundAs before r ss x place = IsKnownIn before ss x × (r.fault ≡ None → IsFoundIn before ss x place)

some-found-by : (before : Before) (r : Resolver) → Stands before r → (s : ℕ) (ss : List ℕ) (x : List ℕ) (place : Place) → (found_in r.known.places s x ≡ Some place) ⊎ ((found_in r.known.places s x ≡ None) × (first_found r.known.places ss x ≡ Some place))
    → (first_found r.known.places ss x ≡ Some place → IsFoundAs before r ss x place) → IsFoundAs before r (s ∷ ss) x place
some-found-by before r st s ss x place (inl f) more = let known = known-some before r st s x place f in (inl known.0, λ n. inl (known.1 n))
some-found-by before r st s ss x place (inr f) more = let further = more f.1 in (inr further.0, λ n. inr (known-none before r st s x f.0, further.1 n))

pub some-found : (before : Before) (r : Resolver) → Stands before r → (ss : List ℕ) (x : List ℕ) (place : Place) → first_found r.known.places ss x ≡ Some place → IsFoundAs before r ss x place
some-found before r st [] x place e = absurd (none-some (sym e))
some-found before r st (s ∷ ss) x place e =
    some-found-by before r st s ss x place (some-by (found_in r.known.places s x) (first_found r.known.places ss x) place e) (λ g. some-found before r st ss x place g)

-- Where nothing further in is known, a standard name is found as one.
pub standard-found : (before : Before) (ss : List ℕ) (x : List ℕ) → (IsKnownIn before ss x → ⊥) → IsStandard x → IsFoundIn before ss x nowhere
standard-found before [] x unknown standard = (standard, refl)
standard-found before (s ∷ ss) x unknown standard = inr (λ k. unknown (inl k), standard-found before ss x (λ k. unknown (inr k)) standard)

-- whether something is found
is_some-of : (o : Option Place) → is_some o ≡ true → (p : Place) × (o ≡ Some p)
is_some-of None e = absurd (false-true e)
is_some-of (Some p) e = (p, refl)

is_none-of : (o : Option Place) → is_some o ≡ false → o ≡ None
is_none-of None e = refl
is_none-of (Some p) e = absurd (false-true (sym e))

pub near-known : (before : Before) (r : Resolver) → Stands before r → (x : List ℕ) (o : Option Place) → o ≡ first_found r.known.places (near (around r.scopes.items)) x → is_some o ≡ true → IsKnownIn before (near (scopes before)) x
near-known before r st x o e t =
    let found = is_some-of o t in
    (some-found before r st (near (scopes before)) x found.0 (sym (ap (λ a. first_found r.known.places (near a) x) st.scopes_are) ∙ sym e ∙ found.1)).0

pub near-unknown : (before : Before) (r : Resolver) → Stands before r → (x : List ℕ) (o : Option Place) → o ≡ first_found r.known.places (near (around r.scopes.items)) x → is_some o ≡ false → IsKnownIn before (near (scopes before)) x → ⊥
near-unknown before r st x o e t =
    none-found before r st (near (scopes before)) x (sym (ap (λ a. first_found r.known.places (near a) x) st.scopes_are) ∙ sym e ∙ is_none-of o t)

pub far-known : (before : Before) (r : Resolver) → Stands before r → (x : List ℕ) (o : Option Place) → o ≡ first_found r.known.places (far (around r.scopes.items)) x → (p : Place) → o ≡ Some p → IsKnownIn before (far (scopes before)) x
far-known before r st x o e p t =
    (some-found before r st (far (scopes before)) x p (sym (ap (λ a. first_found r.known.places (far a) x) st.scopes_are) ∙ sym e ∙ t)).0

pub far-unknown : (before : Before) (r : Resolver) → Stands before r → (x : List ℕ) (o : Option Place) → o ≡ first_found r.known.places (far (around r.scopes.items)) x → o ≡ None → IsKnownIn before (far (scopes before)) x → ⊥
far-unknown before r st x o e t =
    none-found before r st (far (scopes before)) x (sym (ap (λ a. first_found r.known.places (far a) x) st.scopes_are) ∙ sym e ∙ t)
