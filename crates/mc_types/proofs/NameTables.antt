-- A table that takes a place, and what it stands for then.
use Rattle.std.specs.Prelude.{◌≡◌, ℕ, ◌==◌, ◌&&◌, Bool, true, false, Option, Some, cond, unwrap_or, if◌then◌else◌, List, [], ◌∷◌, ◌++◌}
use Rattle.std.specs.Ordering.{nat_cmp, ordering_then, is_eq}
use Rattle.std.specs.declared.cmp.Ordering.{Ordering}
use Rattle.std.specs.declared.cmp.Ordering.TheVariants.{Less, Equal, Greater}
use Rattle.std.proofs.Common.{ap, ◌∙◌, sym, subst, refl}
use Rattle.std.proofs.lemmas.Cmp.{tied_itself, nat_cmp_total}
use Rattle.std.proofs.lemmas.Map.Lookups.{exact_unsigned}
use Rattle.std.proofs.lemmas.Bool.{eq-eqb, ne_eqb}
use Rattle.mc_tree.specs.declared.place.Place.{Place}
use Rattle.mc_prog.specs.Known.{same_place}
use Rattle.mc_prog.specs.declared.scoped.Naming.{Naming}
use Rattle.mc_prog.specs.Resolved.{latest_first}
use Rattle.mc_types.specs.NameTables.{is_key}

then-both : (x y : Ordering) → is_eq (ordering_then x y) ≡ (is_eq x && is_eq y)
then-both Less y = refl
then-both Equal y = refl
then-both Greater y = refl

eq-of : (o : Ordering) → is_eq o ≡ true → o ≡ Equal
eq-of Less e = absurd (subst (λ (b : Bool). cond b ⊥ (◌≡◌ {A = ℕ} 0 0)) e refl)
eq-of Equal e = refl
eq-of Greater e = absurd (subst (λ (b : Bool). cond b ⊥ (◌≡◌ {A = ℕ} 0 0)) e refl)

cmp-same : (a c : ℕ) → is_eq (nat_cmp a c) ≡ (a == c)
cmp-same a c = by (is_eq (nat_cmp a c)) refl
  where
    by : (b : Bool) → is_eq (nat_cmp a c) ≡ b → is_eq (nat_cmp a c) ≡ (a == c)
    by true e = e ∙ sym (eq-eqb a c (exact_unsigned a c (eq-of (nat_cmp a c) e)))
    by false e = e ∙ sym (ne_eqb a c (λ same. absurd (subst (λ (b : Bool). cond b ⊥ (◌≡◌ {A = ℕ} 0 0)) (sym (ap (λ (d : ℕ). is_eq (nat_cmp a d)) same ∙ e) ∙ ap is_eq (tied_itself nat_cmp_total a)) refl)))

pub key-same : (p q : Place) → is_key p (q.line, q.column) ≡ same_place p q
key-same p q = then-both (nat_cmp p.line q.line) (nat_cmp p.column q.column) ∙ ap (λ (b : Bool). b && is_eq (nat_cmp p.column q.column)) (cmp-same p.line q.line) ∙ ap (λ (b : Bool). (p.line == q.line) && b) (cmp-same p.column q.column)

by-test : {V : Type 0} (b : Bool) (v d was : V) (old : Option V) → unwrap_or old d ≡ was → unwrap_or (cond b (Some v) old) d ≡ (if b then v else was)
by-test true v d was old e = refl
by-test false v d was old e = e

-- what a table has at each place behind a value that was put in
pub put-found : {V : Type 0} (p q : Place) (v d was : V) (old new : Option V) → new ≡ cond (is_key p (q.line, q.column)) (Some v) old → unwrap_or old d ≡ was
    → unwrap_or new d ≡ (if same_place p q then v else was)
put-found p q v d was old new e h =
    ap (λ (o : Option _). unwrap_or o d) (e ∙ ap (λ (b : Bool). cond b (Some v) old) (key-same p q)) ∙ by-test (same_place p q) v d was old h

-- one more use stands in front of those before it
pub latest-more : (so_far names : List Naming) (n : Naming) → latest_first so_far (names ++ (n ∷ [])) ≡ n ∷ latest_first so_far names
latest-more so_far [] n = refl
latest-more so_far (x ∷ names) n = latest-more (x ∷ so_far) names n

first-by : {V : Type 0} (b : Bool) (v : V) (was old : Option V) → old ≡ was → cond b (Some v) old ≡ (if b then Some v else was)
first-by true v was old e = refl
first-by false v was old e = e

-- the same of a table that says where there is none
pub put-first : {V : Type 0} (p q : Place) (v : V) (was old new : Option V) → new ≡ cond (is_key p (q.line, q.column)) (Some v) old → old ≡ was
    → new ≡ (if same_place p q then Some v else was)
put-first p q v was old new e h =
    e ∙ ap (λ (b : Bool). cond b (Some v) old) (key-same p q) ∙ first-by (same_place p q) v was old h
