-- The two maps of a store, behind a word that was written.
use Rattle.std.specs.Prelude.{◌≡◌, ◌<◌, ◌≤◌, ℕ, suc, ◌+◌, ◌-◌, ◌==◌, ◌&&◌, Bool, true, false, is_err, is_some, List, [], ◌∷◌, drop, get_or, length, Option, Some, OnErr, OnOk, Result, Ok, Err, cond, unwrap_or, if◌then◌else◌}
use Rattle.std.specs.BTreeMap.{BTreeMap}
use Rattle.std.specs.Map.{lookup}
use Rattle.std.specs.Ordering.{nat_cmp, ordering_then, is_eq}
use Rattle.std.specs.declared.cmp.Ordering.{Ordering}
use Rattle.std.specs.declared.cmp.Ordering.TheVariants.{Less, Equal, Greater}
use Rattle.std.proofs.Common.{add-one, ap, arith, ◌∙◌, sym, subst, refl}
use Rattle.std.proofs.Math.Path.{fun_ext}
use Rattle.std.proofs.Math.Seq.{drop-cons}
use Rattle.std.proofs.lemmas.List.{drop_all}
use Rattle.std.proofs.lemmas.Cmp.{tied_itself, nat_cmp_total}
use Rattle.std.proofs.lemmas.Map.Lookups.{exact_unsigned}
use Rattle.std.proofs.lemmas.Bool.{eq-eqb, eqb-true, false≢true, ne_eqb}
use Rattle.mc_meaning.specs.declared.store.Name.{Name}
use Rattle.mc_meaning.specs.declared.store.Name.TheVariants.{Variable, Private}
use Rattle.mc_meaning.specs.declared.words.Words.{Words}
use Rattle.mc_meaning.specs.Configuration.{Store, all_stored, same_name, stored}
use Rattle.mc_meaning.specs.StoredWords.{AreNoted, KeepsNotes, VariableKey, PrivateKey, is_noted, is_private, is_variable, noted_under, word_under}

then-both : (x y : Ordering) → is_eq (ordering_then x y) ≡ (is_eq x && is_eq y)
then-both Less y = refl
then-both Equal y = refl
then-both Greater y = refl

eq-of : (o : Ordering) → is_eq o ≡ true → o ≡ Equal
eq-of Less e = absurd (subst (λ (b : Bool). cond b ⊥ (◌≡◌ {A = ℕ} 0 0)) e refl)
eq-of Equal e = refl
eq-of Greater e = absurd (subst (λ (b : Bool). cond b ⊥ (◌≡◌ {A = ℕ} 0 0)) e refl)

cmp-same : (a c : ℕ) → is_eq (nat_cmp a c) ≡ (a == c)
cmp-same a c = by (is_eq (nat_cmp a c)) refl
  where
    by : (b : Bool) → is_eq (nat_cmp a c) ≡ b → is_eq (nat_cmp a c) ≡ (a == c)
    by true e = e ∙ sym (eq-eqb a c (exact_unsigned a c (eq-of (nat_cmp a c) e)))
    by false e = e ∙ sym (ne_eqb a c (λ same. absurd (subst (λ (b : Bool). cond b ⊥ (◌≡◌ {A = ℕ} 0 0)) (sym (ap (λ (d : ℕ). is_eq (nat_cmp a d)) same ∙ e) ∙ ap is_eq (tied_itself nat_cmp_total a)) refl)))

-- one more number is compared
next-same : (o : Ordering) (same : Bool) (a b : ℕ) → is_eq o ≡ same → is_eq (ordering_then o (nat_cmp a b)) ≡ (same && (a == b))
next-same o same a b e = then-both o (nat_cmp a b) ∙ ap (λ (s : Bool). s && is_eq (nat_cmp a b)) e ∙ ap (λ (s : Bool). same && s) (cmp-same a b)

variable-same : (c w d v : ℕ) → is_variable (c, w) (d, v) ≡ ((c == d) && (w == v))
variable-same c w d v = next-same (nat_cmp c d) (c == d) w v (cmp-same c d)

regrouped : (x y z w : Bool) → (((x && y) && z) && w) ≡ (x && (y && (z && w)))
regrouped true true z w = refl
regrouped true false z w = refl
regrouped false y z w = refl

private-same : (p a s w q b t v : ℕ) → is_private (p, a, s, w) (q, b, t, v) ≡ ((p == q) && ((a == b) && ((s == t) && (w == v))))
private-same p a s w q b t v =
    next-same _ _ w v (next-same _ _ s t (next-same (nat_cmp p q) (p == q) a b (cmp-same p q))) ∙ regrouped (p == q) (a == b) (s == t) (w == v)

by-test : (b : Bool) (v : ℕ) (old : Option ℕ) → unwrap_or (cond b (Some v) old) 0 ≡ (if b then v else unwrap_or old 0)
by-test true v old = refl
by-test false v old = refl

here : (test same : Bool) (v : ℕ) (old new : Option ℕ) → new ≡ cond test (Some v) old → test ≡ same → unwrap_or new 0 ≡ (if same then v else unwrap_or old 0)
here test same v old new e s = ap (λ (o : Option ℕ). unwrap_or o 0) (e ∙ ap (λ (b : Bool). cond b (Some v) old) s) ∙ by-test same v old

-- a word of a variable was written
pub put-variable : (old new : BTreeMap VariableKey ℕ) (privates : BTreeMap PrivateKey ℕ) (cell at word : ℕ)
    → ((q : VariableKey) → lookup (is_variable q) new.entries ≡ cond (is_variable (cell, at) q) (Some word) (lookup (is_variable q) old.entries))
    → word_under new privates ≡ stored (word_under old privates) (Variable cell at) word
put-variable old new privates cell at word e = fun_ext same
  where
    same : (name : Name) → word_under new privates name ≡ stored (word_under old privates) (Variable cell at) word name
    same (Variable d v) = here (is_variable (cell, at) (d, v)) _ word _ _ (e (d, v)) (variable-same cell at d v)
    same (Private p a s w) = refl

-- a word of an activation was written
pub put-private : (variables : BTreeMap VariableKey ℕ) (old new : BTreeMap PrivateKey ℕ) (process activation slot at word : ℕ)
    → ((q : PrivateKey) → lookup (is_private q) new.entries ≡ cond (is_private (process, activation, slot, at) q) (Some word) (lookup (is_private q) old.entries))
    → word_under variables new ≡ stored (word_under variables old) (Private process activation slot at) word
put-private variables old new process activation slot at word e = fun_ext same
  where
    same : (name : Name) → word_under variables new name ≡ stored (word_under variables old) (Private process activation slot at) word name
    same (Variable d v) = refl
    same (Private p a s w) = here (is_private (process, activation, slot, at) (p, a, s, w)) _ word _ _ (e (p, a, s, w)) (private-same process activation slot at p a s w)

-- Words that were noted

equal-both : (a b : Bool) → (a && b) ≡ true → (a ≡ true) × (b ≡ true)
equal-both true b e = (refl, e)
equal-both false b e = absurd (false≢true e)

same-names : (name other : Name) → same_name name other ≡ true → name ≡ other
same-names (Variable c w) (Variable d v) e =
    let both = equal-both (c == d) (w == v) e in
    λ i. Variable (eqb-true c d both.0 i) (eqb-true w v both.1 i)
same-names (Private p a s w) (Private q b t v) e =
    let first = equal-both (p == q) _ e in
    let second = equal-both (a == b) _ first.1 in
    let third = equal-both (s == t) (w == v) second.1 in
    λ i. Private (eqb-true p q first.0 i) (eqb-true a b second.0 i) (eqb-true s t third.0 i) (eqb-true w v third.1 i)
same-names (Variable c w) (Private q b t v) e = absurd (false≢true e)
same-names (Private p a s w) (Variable d v) e = absurd (false≢true e)

-- a word that is written as it is
pub stored-same : (store : Store) (name : Name) → stored store name (store name) ≡ store
stored-same store name = fun_ext same
  where
    by : (other : Name) (b : Bool) → same_name name other ≡ b → (if b then store name else store other) ≡ store other
    by other true e = ap store (same-names name other e)
    by other false e = refl

    same : (other : Name) → stored store name (store name) other ≡ store other
    same other = by other (same_name name other) refl

some-there : (test : Bool) (w : ℕ) (old new : Option ℕ) → new ≡ cond test (Some w) old → test ≡ true → is_some new ≡ true
some-there test w old new e is = ap is_some (e ∙ ap (λ (b : Bool). cond b (Some w) old) is)

some-kept : (test : Bool) (w : ℕ) (old new : Option ℕ) → new ≡ cond test (Some w) old → is_some old ≡ true → is_some new ≡ true
some-kept true w old new e is = ap is_some e
some-kept false w old new e is = ap is_some e ∙ is

same-all : (p a s w : ℕ) → ((p == p) && ((a == a) && ((s == s) && (w == w)))) ≡ true
same-all p a s w =
    (λ i. eq-eqb p p refl i && (eq-eqb a a refl i && (eq-eqb s s refl i && eq-eqb w w refl i)))

-- a word of a variable was written
pub variable-noted : (old new : BTreeMap VariableKey ℕ) (privates : BTreeMap PrivateKey ℕ) (cell at word : ℕ)
    → ((q : VariableKey) → lookup (is_variable q) new.entries ≡ cond (is_variable (cell, at) q) (Some word) (lookup (is_variable q) old.entries))
    → noted_under new privates (Variable cell at) ≡ true
variable-noted old new privates cell at word e =
    some-there (is_variable (cell, at) (cell, at)) word _ _ (e (cell, at)) (variable-same cell at cell at ∙ (λ i. eq-eqb cell cell refl i && eq-eqb at at refl i))

pub variable-kept : (old new : BTreeMap VariableKey ℕ) (privates : BTreeMap PrivateKey ℕ) (cell at word : ℕ)
    → ((q : VariableKey) → lookup (is_variable q) new.entries ≡ cond (is_variable (cell, at) q) (Some word) (lookup (is_variable q) old.entries))
    → (name : Name) → noted_under old privates name ≡ true → noted_under new privates name ≡ true
variable-kept old new privates cell at word e (Variable d v) is = some-kept (is_variable (cell, at) (d, v)) word _ _ (e (d, v)) is
variable-kept old new privates cell at word e (Private p a s w) is = is

-- a word of an activation was written
pub private-noted : (variables : BTreeMap VariableKey ℕ) (old new : BTreeMap PrivateKey ℕ) (process activation slot at word : ℕ)
    → ((q : PrivateKey) → lookup (is_private q) new.entries ≡ cond (is_private (process, activation, slot, at) q) (Some word) (lookup (is_private q) old.entries))
    → noted_under variables new (Private process activation slot at) ≡ true
private-noted variables old new process activation slot at word e =
    some-there (is_private (process, activation, slot, at) (process, activation, slot, at)) word _ _ (e (process, activation, slot, at))
    (private-same process activation slot at process activation slot at ∙ same-all process activation slot at)

pub private-kept : (variables : BTreeMap VariableKey ℕ) (old new : BTreeMap PrivateKey ℕ) (process activation slot at word : ℕ)
    → ((q : PrivateKey) → lookup (is_private q) new.entries ≡ cond (is_private (process, activation, slot, at) q) (Some word) (lookup (is_private q) old.entries))
    → (name : Name) → noted_under variables old name ≡ true → noted_under variables new name ≡ true
private-kept variables old new process activation slot at word e (Variable d v) is = is
private-kept variables old new process activation slot at word e (Private p a s w) is = some-kept (is_private (process, activation, slot, at) (p, a, s, w)) word _ _ (e (p, a, s, w)) is

pub noted-kept : (old new : Words) (words : List (Name × ℕ)) → KeepsNotes old new → AreNoted old words → AreNoted new words
noted-kept old new [] keeps noted = tt
noted-kept old new (w ∷ words) keeps noted = (keeps w.0 noted.0, noted-kept old new words keeps noted.1)

-- one word more is noted, in front of those that are
pub noted-back : (old new : Words) (words : List (Name × ℕ)) (i : ℕ) (d : Name × ℕ) → 0 < i → i ≤ length words
    → KeepsNotes old new → AreNoted old (drop i words) → is_noted new (get_or words (i - 1) d).0 ≡ true → AreNoted new (drop (i - 1) words)
noted-back old new words i d some within keeps noted there =
    let less : i - 1 < length words = omega arith in
    let next : suc (i - 1) ≡ i = omega arith in
    subst (λ (all : List (Name × ℕ)). AreNoted new all) (sym (drop-cons words (i - 1) d less))
    (there, noted-kept old new (drop (suc (i - 1)) words) keeps (subst (λ (j : ℕ). AreNoted old (drop j words)) (sym next) noted))

pub noted-first : (words : Words) (all : List (Name × ℕ)) (i : ℕ) (d : Name × ℕ) → i < length all
    → AreNoted words (drop i all) → AreNoted words (get_or all i d ∷ drop (i + 1) all)
noted-first words all i d less noted =
    subst (λ (left : List (Name × ℕ)). AreNoted words left) (drop-cons all i d less ∙ ap (λ (j : ℕ). get_or all i d ∷ drop j all) (sym (add-one i))) noted

-- a word that was noted is written
pub is-written : {A E : Type 0} (r : Result A E) (P : Type 0) → is_err r ≡ false → OnOk r P → P
is-written (Ok x) P well h = h
is-written (Err e) P well h = absurd (false≢true (sym well))

pub is-noted-then : {A E : Type 0} (r : Result A E) (noted : Bool) → noted ≡ true → OnErr r (noted ≡ false) → is_err r ≡ false
is-noted-then (Ok x) noted is h = refl
is-noted-then (Err e) noted is h = absurd (false≢true (sym h ∙ is))

-- one noted word more is written
pub written-one : (store next all : Store) (words : List (Name × ℕ)) (i : ℕ) (d : Name × ℕ) → i < length words
    → next ≡ stored store (get_or words i d).0 (get_or words i d).1 → all_stored store (drop i words) ≡ all → all_stored next (drop (i + 1) words) ≡ all
written-one store next all words i d less puts so-far =
    ap (λ (s : Store). all_stored s (drop (i + 1) words)) puts
    ∙ sym (ap (λ (left : List (Name × ℕ)). all_stored store left) (drop-cons words i d less ∙ ap (λ (j : ℕ). get_or words i d ∷ drop j words) (sym (add-one i)))) ∙ so-far

pub written-all : (store all : Store) (i : ℕ) (words : List (Name × ℕ)) → length words ≤ i → all_stored store (drop i words) ≡ all → store ≡ all
written-all store all i words past so-far = sym (ap (λ (left : List (Name × ℕ)). all_stored store left) (drop_all i words past)) ∙ so-far
