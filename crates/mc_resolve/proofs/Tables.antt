-- A table that takes a name, and what it stands for then.
use Rattle.std.specs.Prelude.{◌≡◌, ◌⊎◌, ℕ, Bool, true, false, List, Option, Some, None, MatchOption, cond}
use Rattle.std.specs.BTreeMap.{BTreeMap}
use Rattle.std.specs.Ordering.{nat_cmp, ordering_then, is_eq}
use Rattle.std.specs.declared.cmp.Ordering.{Ordering}
use Rattle.std.specs.declared.cmp.Ordering.TheVariants.{Less, Equal, Greater}
use Rattle.std.specs.Cmp.Lexicographic.{slice_cmp}
use Rattle.std.proofs.Common.{ap, ◌∙◌, sym, subst, refl, inl, inr}
use Rattle.std.proofs.lemmas.Cmp.{tied_itself, nat_cmp_total, nat_list_cmp_total}
use Rattle.std.proofs.lemmas.Map.Lookups.{exact_pairs, exact_unsigned, exact_bytes}
use Rattle.mc_tree.specs.declared.place.Place.{Place}
use Rattle.mc_prog.specs.Scopes.{Named, Is}
use Rattle.mc_resolve.specs.Table.{Key, found_in, is_this, is_named}
use Rattle.mc_resolve.specs.Stands.{IsTableOf}
use Rattle.mc_resolve.proofs.Found.{false-true}

eq-of : (o : Ordering) → is_eq o ≡ true → o ≡ Equal
eq-of Less e = absurd (false-true e)
eq-of Equal e = refl
eq-of Greater e = absurd (false-true e)

-- the words on keys say whether the scope and the name are the same
is-this : (scope : ℕ) (name : List ℕ) (s : ℕ) (x : List ℕ) → is_this scope name s x ≡ true → (scope ≡ s) × (name ≡ x)
is-this scope name s x e =
    let same : ◌≡◌ {A = ℕ × List ℕ} (scope, name) (s, x) = exact_pairs nat_cmp (slice_cmp nat_cmp) exact_unsigned exact_bytes (scope, name) (s, x) (eq-of (ordering_then (nat_cmp scope s) (slice_cmp nat_cmp name x)) e) in
    (ap (λ (q : ℕ × List ℕ). q.0) same, ap (λ (q : ℕ × List ℕ). q.1) same)

this-same : (scope : ℕ) (name : List ℕ) → is_this scope name scope name ≡ true
this-same scope name =
    ap (λ (o : Ordering). is_eq (ordering_then o (slice_cmp nat_cmp name name))) (tied_itself nat_cmp_total scope) ∙ ap is_eq (tied_itself nat_list_cmp_total name)

pub named-or-not : (n : Option Named) (s : ℕ) (x : List ℕ) → ((is_named n s x ≡ true) × Is n s x) ⊎ ((is_named n s x ≡ false) × (Is n s x → ⊥))
named-or-not None s x = inr (refl, λ k. k)
named-or-not (Some n) s x = by (is_this n.scope n.name.text s x) refl
  where
    by : (b : Bool) → is_this n.scope n.name.text s x ≡ b → ((is_this n.scope n.name.text s x ≡ true) × ((n.scope ≡ s) × (n.name.text ≡ x))) ⊎ ((is_this n.scope n.name.text s x ≡ false) × ((n.scope ≡ s) × (n.name.text ≡ x) → ⊥))
    by true e = inl (e, is-this n.scope n.name.text s x e)
    by false e = inr (e, λ k. false-true (sym e ∙ sym (ap (λ (t : ℕ). is_this n.scope n.name.text t x) k.0) ∙ sym (ap (λ (y : List ℕ). is_this n.scope n.name.text n.scope y) k.1) ∙ this-same n.scope n.name.text))

-- A table that gives a name the place `w`: what it stands for, where that holds of the name, and holds still of others.
pub table-step : (Has Has' : ℕ → List ℕ → Type 0) (HasAt HasAt' : ℕ → List ℕ → Place → Type 0) (old new : BTreeMap Key Place) → IsTableOf Has HasAt old
    → (n : Option Named) (w : Option Place) → ((s : ℕ) (x : List ℕ) → found_in new s x ≡ cond (is_named n s x) w (found_in old s x))
    → ((s : ℕ) (x : List ℕ) → Is n s x → MatchOption w (Has' s x → ⊥) (λ p. HasAt' s x p))
    → ((s : ℕ) (x : List ℕ) → (Is n s x → ⊥) → Has' s x → Has s x)
    → ((s : ℕ) (x : List ℕ) (p : Place) → (Is n s x → ⊥) → HasAt s x p → HasAt' s x p)
    → IsTableOf Has' HasAt' new
table-step Has Has' HasAt HasAt' old new h n w e at less kept s x = by (named-or-not n s x)
  where
    other : (o : Option Place) → (Is n s x → ⊥) → MatchOption o (Has s x → ⊥) (λ p. HasAt s x p) → MatchOption o (Has' s x → ⊥) (λ p. HasAt' s x p)
    other None apart m = λ k. m (less s x apart k)
    other (Some p) apart m = kept s x p apart m

    by : ((is_named n s x ≡ true) × Is n s x) ⊎ ((is_named n s x ≡ false) × (Is n s x → ⊥)) → MatchOption (found_in new s x) (Has' s x → ⊥) (λ p. HasAt' s x p)
    by (inl k) = subst (λ o. MatchOption o (Has' s x → ⊥) (λ p. HasAt' s x p)) (sym (e s x ∙ ap (λ (b : Bool). cond b w (found_in old s x)) k.0)) (at s x k.1)
    by (inr k) = subst (λ o. MatchOption o (Has' s x → ⊥) (λ p. HasAt' s x p)) (sym (e s x ∙ ap (λ (b : Bool). cond b w (found_in old s x)) k.0)) (other (found_in old s x) k.1 (h s x))
