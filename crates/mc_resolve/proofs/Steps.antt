-- One more item: what the resolver keeps stands for the items with it.
use Rattle.std.specs.Prelude.{◌≡◌, ◌⊎◌, ◌++◌, ℕ, Bool, true, false, List, [], ◌∷◌, length, Option, Some, None, MatchOption, cond, unwrap_or, ⊤, Result, Ok, Err, IfOk}
use Rattle.std.proofs.Common.{ap, ◌∙◌, sym, subst, refl, inl, inr, ⊎_elim, arith}
use Rattle.mc_tree.specs.declared.place.Place.{Place}
use Rattle.mc_tree.specs.declared.fault.Fault.{Fault}
use Rattle.mc_tree.specs.declared.fault.Code.TheVariants as code
use Rattle.mc_tree.specs.declared.tree.Id.{Id}
use Rattle.mc_prog.specs.declared.scoped.Naming.{Naming}
use Rattle.mc_prog.specs.First.{IsNotAfter, IsEarlier, IsEarlierOf}
use Rattle.mc_prog.specs.Notes.{Item, Opens, Closes, Declares, Field, Knows, Lists, Defines, Uses, Ends}
use Rattle.mc_prog.specs.Scopes.{Before, Named, scopes, scopes_behind, near, far, home, innermost, outer, named_in, declared_by, own_by, known_by, Is, Of, IsMadeKnown, IsDeclared, IsOwn, IsKnown, IsKnownOf, IsKnownIn, IsStandard, IsTwice, IsUnknown, IsFurther, IsFaultOf, HasFault, fault}
use Rattle.mc_prog.specs.Standard.{is_standard}
use Rattle.mc_prog.specs.Namings.{nowhere, IsAt, IsKnownAt, IsFoundIn, AreNamings}
use Rattle.mc_resolve.specs.Around.{around}
use Rattle.mc_resolve.specs.Table.{found_in, found_of, first_found, is_named, own_place, if_there, made_known, known_place}
use Rattle.mc_resolve.specs.Uses.{naming_of}
use Rattle.mc_resolve.specs.Stands.{IsTableOf, IsLeastOf, Stands, with_item, IsKnownPlace}
use Rattle.mc_resolve.specs.declared.resolver.Resolver.{Resolver}
use Rattle.mc_resolve.proofs.Found.{false-true, known-none, known-some, none-found, some-found, standard-found}
use Rattle.mc_resolve.proofs.Tables.{table-step}

-- The order of faults.
earlier-trans : (p q r : Place) → IsEarlier p q → IsEarlier q r → IsEarlier p r
earlier-trans p q r (inl a) (inl b) = inl (omega (arith, a, b))
earlier-trans p q r (inl a) (inr b) = inl (omega (arith, a, b.0))
earlier-trans p q r (inr a) (inl b) = inl (omega (arith, a.0, b))
earlier-trans p q r (inr a) (inr b) = inr (a.0 ∙ b.0, omega (arith, a.1, b.1))

not-after-trans : (f g h : Fault) → IsNotAfter f g → IsNotAfter g h → IsNotAfter f h
not-after-trans f g h (inl a) (inl b) = inl (earlier-trans f.place g.place h.place a b)
not-after-trans f g h (inl a) (inr b) = inl (subst (λ p. IsEarlier f.place p) b.0 a)
not-after-trans f g h (inr a) (inl b) = inl (subst (λ p. IsEarlier p h.place) (sym a.0) b)
not-after-trans f g h (inr a) (inr b) = inr (a.0 ∙ b.0, omega (arith, a.1, b.1))

-- The first of two faults is the first of both kinds.
least-of-both : (P Q : Fault → Type 0) (one other found : Option Fault) → IsLeastOf P one → IsLeastOf Q other → IsEarlierOf one other found → IsLeastOf (λ f. Q f ⊎ P f) found
least-of-both P Q None None found p q e = subst (λ o. IsLeastOf (λ f. Q f ⊎ P f) o) (sym e) (λ f k. ⊎_elim (q f) (p f) k)
least-of-both P Q None (Some g) found p q e = subst (λ o. IsLeastOf (λ f. Q f ⊎ P f) o) (sym e) (record { is_fault = inl q.is_fault; first = λ f k. ⊎_elim (λ a. q.first f a) (λ a. absurd (p f a)) k })
least-of-both P Q (Some f) None found p q e = subst (λ o. IsLeastOf (λ f. Q f ⊎ P f) o) (sym e) (record { is_fault = inr p.is_fault; first = λ g k. ⊎_elim (λ a. absurd (q g a)) (λ a. p.first g a) k })
least-of-both P Q (Some f) (Some g) found p q (inl e) = subst (λ o. IsLeastOf (λ f. Q f ⊎ P f) o) (sym e.0) (record { is_fault = inr p.is_fault; first = λ h k. ⊎_elim (λ a. not-after-trans f g h e.1 (q.first h a)) (λ a. p.first h a) k })
least-of-both P Q (Some f) (Some g) found p q (inr e) = subst (λ o. IsLeastOf (λ f. Q f ⊎ P f) o) (sym e.0) (record { is_fault = inl q.is_fault; first = λ h k. ⊎_elim (λ a. q.first h a) (λ a. not-after-trans g f h e.1 (p.first h a)) k })

some-none : {f : Fault} → ◌≡◌ {A = Option Fault} (Some f) None → ⊥
some-none e = subst (λ (o : Option Fault). MatchOption o ⊥ (λ f. ⊤)) e tt

-- no fault of the two
neither : (one other found : Option Fault) → IsEarlierOf one other found → found ≡ None → (one ≡ None) × (other ≡ None)
neither None other found e n = (refl, sym e ∙ n)
neither (Some f) None found e n = absurd (some-none (sym e ∙ n))
neither (Some f) (Some g) found (inl e) n = absurd (some-none (sym e.0 ∙ n))
neither (Some f) (Some g) found (inr e) n = absurd (some-none (sym e.0 ∙ n))

no-fault : (P : Fault → Type 0) (o : Option Fault) → IsLeastOf P o → o ≡ None → (f : Fault) → P f → ⊥
no-fault P o h n = subst (λ (x : Option Fault). IsLeastOf P x) n h

-- What is declared.
named-declared : (n : Option Named) (s : ℕ) (x : List ℕ) (None' : Type 0) → Is n s x → MatchOption (own_place n) None' (λ p. Is n s x × IsAt n s x p)
named-declared None s x X k = absurd k
named-declared (Some n) s x X k = (k, (k.0, k.1, refl))

weaken : (o : Option Place) (X Y : Type 0) (P Q : Place → Type 0) → MatchOption o X P → (X → Y) → ((p : Place) → P p → Q p) → MatchOption o Y Q
weaken None X Y P Q m f g = f m
weaken (Some p) X Y P Q m f g = g p m

-- a name that comes to be known has a scope
named-at : (o : Option ℕ) (name : Id) (s : ℕ) (x : List ℕ) → Is (named_in o name) s x → IsAt (named_in o name) s x name.place
named-at None name s x k = k
named-at (Some scope) name s x k = (k.0, k.1, refl)

named-text : (o : Option ℕ) (name : Id) (s : ℕ) (x : List ℕ) → Is (named_in o name) s x → name.text ≡ x
named-text None name s x k = absurd k
named-text (Some scope) name s x k = k.1

-- a standard name that is declared is a fault
standard-fault : (before : Before) (o : Option ℕ) (name : Id) (s : ℕ) (x : List ℕ) → Is (named_in o name) s x → IsStandard name.text → IsTwice before (named_in o name) (fault code.S2 name)
standard-fault before None name s x k standard = k
standard-fault before (Some scope) name s x k standard = (inr standard, refl)

of-known : (before : Before) (o : Option ℕ) (x : List ℕ) → Of o (λ (a : ℕ). IsKnown before a x) → IsKnownOf before o x
of-known before None x k = k
of-known before (Some a) x k = k

-- a name that is found in the table of known names, without faults so far
known-of : (before : Before) (r : Resolver) → Stands before r → r.fault ≡ None → (o : Option ℕ) (x : List ℕ) → ((IsKnownOf before o x → ⊥) → ⊥) → Of o (λ (a : ℕ). IsKnownAt before a x (unwrap_or (found_of r.known.places o x) nowhere))
known-of before r st n None x k = absurd (k (λ h. h))
known-of before r st n (Some a) x k = by (found_in r.known.places a x) refl
  where
    by : (q : Option Place) → found_in r.known.places a x ≡ q → IsKnownAt before a x (unwrap_or (found_in r.known.places a x) nowhere)
    by None e = absurd (k (known-none before r st a x e))
    by (Some p) e = subst (λ (o : Option Place). IsKnownAt before a x (unwrap_or o nowhere)) (sym e) ((known-some before r st a x p e).1 n)

-- What the tables say that an item makes known, it makes known, and nothing else.
there-of : (before : Before) (r : Resolver) → Stands before r → (o : Option ℕ) (n : Option Named) (y : List ℕ) (s : ℕ) (x : List ℕ) → Is (if_there (found_of r.known.places o y) n) s x → Is n s x × Of o (λ (a : ℕ). IsKnown before a y)
there-of before r st None n y s x k = absurd k
there-of before r st (Some a) n y s x k = by (found_in r.known.places a y) refl k
  where
    by : (q : Option Place) → found_in r.known.places a y ≡ q → Is (if_there q n) s x → Is n s x × IsKnown before a y
    by None e h = absurd h
    by (Some p) e h = (h, (known-some before r st a y p e).0)

of-there : (before : Before) (r : Resolver) → Stands before r → (o : Option ℕ) (n : Option Named) (y : List ℕ) (s : ℕ) (x : List ℕ) → Is n s x → Of o (λ (a : ℕ). IsKnown before a y) → Is (if_there (found_of r.known.places o y) n) s x
of-there before r st None n y s x k h = absurd h
of-there before r st (Some a) n y s x k h = by (found_in r.known.places a y) refl
  where
    by : (q : Option Place) → found_in r.known.places a y ≡ q → Is (if_there (found_in r.known.places a y) n) s x
    by None e = absurd (known-none before r st a y e h)
    by (Some p) e = subst (λ (q : Option Place). Is (if_there q n) s x) (sym e) k

made-known : (before : Before) (r : Resolver) → Stands before r → (item : Item) (s : ℕ) (x : List ℕ) → Is (made_known r.known.places (scopes before) item) s x → IsMadeKnown (λ (a : ℕ). IsKnown before a x) item (scopes before) s x
made-known before r st (Opens kind) s x k = absurd k
made-known before r st Closes s x k = absurd k
made-known before r st (Declares name) s x k = absurd k
made-known before r st (Field name) s x k = absurd k
made-known before r st (Knows name) s x k = (k, tt)
made-known before r st (Lists name) s x k = (k, tt)
made-known before r st (Defines name) s x k =
    let there = there-of before r st (innermost (scopes before)) (known_by (Defines name) (scopes before)) name.text s x k in
    (there.0, subst (λ (y : List ℕ). Of (innermost (scopes before)) (λ (a : ℕ). IsKnown before a y)) (named-text (innermost (outer (scopes before))) name s x there.0) there.1)
made-known before r st (Uses name) s x k = absurd k
made-known before r st (Ends name end) s x k = absurd k

known-made : (before : Before) (r : Resolver) → Stands before r → (item : Item) (s : ℕ) (x : List ℕ) → IsMadeKnown (λ (a : ℕ). IsKnown before a x) item (scopes before) s x → Is (made_known r.known.places (scopes before) item) s x
known-made before r st (Opens kind) s x k = k.0
known-made before r st Closes s x k = k.0
known-made before r st (Declares name) s x k = k.0
known-made before r st (Field name) s x k = k.0
known-made before r st (Knows name) s x k = k.0
known-made before r st (Lists name) s x k = k.0
known-made before r st (Defines name) s x k =
    of-there before r st (innermost (scopes before)) (known_by (Defines name) (scopes before)) name.text s x k.0
    (subst (λ (y : List ℕ). Of (innermost (scopes before)) (λ (a : ℕ). IsKnown before a y)) (sym (named-text (innermost (outer (scopes before))) name s x k.0)) k.1)
known-made before r st (Uses name) s x k = k.0
known-made before r st (Ends name end) s x k = k.0

-- The place of what comes to be known by an item without faults.
known-place : (before : Before) (r : Resolver) → Stands before r → r.fault ≡ None → (item : Item) → ((f : Fault) → IsFaultOf before (scopes before) item f → ⊥) → IsKnownPlace before item (known_place r.known.places (scopes before) item)
known-place before r st n (Opens kind) h s x k = k.0
known-place before r st n Closes h s x k = k.0
known-place before r st n (Declares name) h s x k = k.0
known-place before r st n (Field name) h s x k = k.0
known-place before r st n (Knows name) h s x k = named-at (home (scopes before)) name s x k.0
known-place before r st n (Lists name) h s x k =
    let around_ = innermost (outer (scopes before)) in
    let place = unwrap_or (found_of r.known.places around_ name.text) nowhere in
    let standard : IsStandard name.text → ⊥ = λ t. h (fault code.S2 name) (inr (standard-fault before (innermost (scopes before)) name s x k.0 t)) in
    let found = known-of before r st n around_ name.text (λ u. h (fault code.S1 name) (inl (u, standard, refl))) in
    (k.0, subst (λ (y : List ℕ). Of around_ (λ (a : ℕ). IsKnownAt before a y place)) (named-text (innermost (scopes before)) name s x k.0) found)
known-place before r st n (Defines name) h s x k =
    let within = innermost (scopes before) in
    let place = unwrap_or (found_of r.known.places within name.text) nowhere in
    let same = named-text (innermost (outer (scopes before))) name s x k.0 in
    let known = subst (λ (y : List ℕ). Of within (λ (a : ℕ). IsKnown before a y)) (sym same) k.1 in
    let found = known-of before r st n within name.text (λ u. u (of-known before within name.text known)) in
    (k.0, subst (λ (y : List ℕ). Of within (λ (a : ℕ). IsKnownAt before a y place)) same found)
known-place before r st n (Uses name) h s x k = k.0
known-place before r st n (Ends name end) h s x k = k.0

append-none : (xs : List Naming) → xs ++ [] ≡ xs
append-none [] = refl
append-none (x ∷ xs) = ap (λ ys. x ∷ ys) (append-none xs)

-- The declaration of a use without faults.
use-found : (before : Before) (r : Resolver) → Stands before r → r.fault ≡ None → (name : Id) → ((f : Fault) → IsUnknown before (scopes before) name f ⊎ IsFurther before (scopes before) name f → ⊥)
    → IsFoundIn before (near (scopes before)) name.text (unwrap_or (first_found r.known.places (near (scopes before)) name.text) nowhere)
use-found before r st n name h = by (first_found r.known.places (near (scopes before)) name.text) refl
  where
    further : (o : Option Place) → first_found r.known.places (far (scopes before)) name.text ≡ o → (IsKnownIn before (near (scopes before)) name.text → ⊥) → (IsStandard name.text → ⊥) → ⊥
    further None e unknown standard = h (fault code.S1 name) (inl (unknown, standard, none-found before r st (far (scopes before)) name.text e, refl))
    further (Some p) e unknown standard = h (fault code.S4 name) (inr (unknown, standard, (some-found before r st (far (scopes before)) name.text p e).0, refl))

    standard-or-not : (b : Bool) → is_standard name.text ≡ b → (IsKnownIn before (near (scopes before)) name.text → ⊥) → IsFoundIn before (near (scopes before)) name.text nowhere
    standard-or-not true e unknown = standard-found before (near (scopes before)) name.text unknown e
    standard-or-not false e unknown = absurd (further (first_found r.known.places (far (scopes before)) name.text) refl unknown (λ t. false-true (sym e ∙ t)))

    by : (o : Option Place) → first_found r.known.places (near (scopes before)) name.text ≡ o → IsFoundIn before (near (scopes before)) name.text (unwrap_or (first_found r.known.places (near (scopes before)) name.text) nowhere)
    by None e = subst (λ (o : Option Place). IsFoundIn before (near (scopes before)) name.text (unwrap_or o nowhere)) (sym e) (standard-or-not (is_standard name.text) refl (none-found before r st (near (scopes before)) name.text e))
    by (Some p) e = subst (λ (o : Option Place). IsFoundIn before (near (scopes before)) name.text (unwrap_or o nowhere)) (sym e) ((some-found before r st (near (scopes before)) name.text p e).1 n)

-- The uses with those of an item without faults.
names-step : (before : Before) (r : Resolver) → Stands before r → r.fault ≡ None → (item : Item) → ((f : Fault) → IsFaultOf before (scopes before) item f → ⊥) → (names : List Naming)
    → names ≡ r.names.items ++ naming_of r.known.places (scopes before) item → AreNamings (with_item item before) names
names-step before r st n (Opens kind) h names e = subst (λ l. AreNamings before l) (sym (e ∙ append-none r.names.items)) (st.names n)
names-step before r st n Closes h names e = subst (λ l. AreNamings before l) (sym (e ∙ append-none r.names.items)) (st.names n)
names-step before r st n (Declares name) h names e = subst (λ l. AreNamings before l) (sym (e ∙ append-none r.names.items)) (st.names n)
names-step before r st n (Field name) h names e = subst (λ l. AreNamings before l) (sym (e ∙ append-none r.names.items)) (st.names n)
names-step before r st n (Knows name) h names e = subst (λ l. AreNamings before l) (sym (e ∙ append-none r.names.items)) (st.names n)
names-step before r st n (Lists name) h names e = subst (λ l. AreNamings before l) (sym (e ∙ append-none r.names.items)) (st.names n)
names-step before r st n (Defines name) h names e = subst (λ l. AreNamings before l) (sym (e ∙ append-none r.names.items)) (st.names n)
names-step before r st n (Uses name) h names e =
    record { earlier = r.names.items; naming = record { at = name.place; declared = unwrap_or (first_found r.known.places (near (scopes before)) name.text) nowhere }; names_are = e; at = refl; found = use-found before r st n name h; before_it = st.names n }
names-step before r st n (Ends name end) h names e = subst (λ l. AreNamings before l) (sym (e ∙ append-none r.names.items)) (st.names n)

-- The tables with an item.
declared-step : (before : Before) (r r' : Resolver) → Stands before r → (item : Item)
    → ((s : ℕ) (x : List ℕ) → found_in r'.declared.places s x ≡ cond (is_named (declared_by item (scopes before)) s x) (own_place (declared_by item (scopes before))) (found_in r.declared.places s x))
    → IsTableOf (IsDeclared (with_item item before)) (λ s x p. IsDeclared (with_item item before) s x) r'.declared.places
declared-step before r r' st item e =
    table-step (IsDeclared before) (IsDeclared (with_item item before)) (λ s x p. IsDeclared before s x) (λ s x p. IsDeclared (with_item item before) s x) r.declared.places r'.declared.places st.declared
    (declared_by item (scopes before)) (own_place (declared_by item (scopes before))) e
    (λ s x k. weaken (own_place (declared_by item (scopes before))) ⊥ (IsDeclared (with_item item before) s x → ⊥) (λ p. Is (declared_by item (scopes before)) s x × IsAt (declared_by item (scopes before)) s x p) (λ p. IsDeclared (with_item item before) s x) (named-declared (declared_by item (scopes before)) s x ⊥ k) (λ f. absurd f) (λ p a. inl a.0))
    (λ s x no k. ⊎_elim (λ a. absurd (no a)) (λ a. a) k)
    (λ s x p no k. inr k)

own-step : (before : Before) (r r' : Resolver) → Stands before r → (item : Item)
    → ((s : ℕ) (x : List ℕ) → found_in r'.own.places s x ≡ cond (is_named (own_by item (scopes before)) s x) (own_place (own_by item (scopes before))) (found_in r.own.places s x))
    → IsTableOf (IsOwn (with_item item before)) (λ s x p. IsOwn (with_item item before) s x) r'.own.places
own-step before r r' st item e =
    table-step (IsOwn before) (IsOwn (with_item item before)) (λ s x p. IsOwn before s x) (λ s x p. IsOwn (with_item item before) s x) r.own.places r'.own.places st.own
    (own_by item (scopes before)) (own_place (own_by item (scopes before))) e
    (λ s x k. weaken (own_place (own_by item (scopes before))) ⊥ (IsOwn (with_item item before) s x → ⊥) (λ p. Is (own_by item (scopes before)) s x × IsAt (own_by item (scopes before)) s x p) (λ p. IsOwn (with_item item before) s x) (named-declared (own_by item (scopes before)) s x ⊥ k) (λ f. absurd f) (λ p a. inl a.0))
    (λ s x no k. ⊎_elim (λ a. absurd (no a)) (λ a. a) k)
    (λ s x p no k. inr k)

known-step : (before : Before) (r r' : Resolver) → Stands before r → (item : Item) (place : Place) → (r'.fault ≡ None → (r.fault ≡ None) × IsKnownPlace before item place)
    → ((s : ℕ) (x : List ℕ) → found_in r'.known.places s x ≡ cond (is_named (made_known r.known.places (scopes before) item) s x) (Some place) (found_in r.known.places s x))
    → IsTableOf (IsKnown (with_item item before)) (λ s x p. IsKnown (with_item item before) s x × (r'.fault ≡ None → IsKnownAt (with_item item before) s x p)) r'.known.places
known-step before r r' st item place good e =
    table-step (IsKnown before) (IsKnown (with_item item before)) (λ s x p. IsKnown before s x × (r.fault ≡ None → IsKnownAt before s x p)) (λ s x p. IsKnown (with_item item before) s x × (r'.fault ≡ None → IsKnownAt (with_item item before) s x p)) r.known.places r'.known.places st.known
    (made_known r.known.places (scopes before) item) (Some place) e
    (λ s x k. let made = made-known before r st item s x k in (inl made, λ n. inl ((good n).1 s x made)))
    (λ s x no k. ⊎_elim (λ a. absurd (no (known-made before r st item s x a))) (λ a. a) k)
    (λ s x p no k. (inr k.0, λ n. inr (λ a. no (known-made before r st item s x a), k.1 (good n).0)))

-- One more item.
pub step-stands : (before : Before) (r r' : Resolver) → Stands before r → (item : Item) (number : ℕ) → number ≡ length before
    → (f : Option Fault) → IsLeastOf (IsFaultOf before (scopes before) item) f → IsEarlierOf r.fault f r'.fault
    → r'.names.items ≡ r.names.items ++ naming_of r.known.places (around r.scopes.items) item
    → (d : Option Named) → d ≡ declared_by item (around r.scopes.items) → ((s : ℕ) (x : List ℕ) → found_in r'.declared.places s x ≡ cond (is_named d s x) (own_place d) (found_in r.declared.places s x))
    → (o : Option Named) → o ≡ own_by item (around r.scopes.items) → ((s : ℕ) (x : List ℕ) → found_in r'.own.places s x ≡ cond (is_named o s x) (own_place o) (found_in r.own.places s x))
    → (k : Option Named) → k ≡ made_known r.known.places (around r.scopes.items) item → (place : Place) → place ≡ known_place r.known.places (around r.scopes.items) item
    → ((s : ℕ) (x : List ℕ) → found_in r'.known.places s x ≡ cond (is_named k s x) (Some place) (found_in r.known.places s x))
    → around r'.scopes.items ≡ scopes_behind number item (around r.scopes.items)
    → Stands (with_item item before) r'
step-stands before r r' st item number count f least earliest names d de dt o oe ot k ke place pe kt scopes_are =
    let same = st.scopes_are in
    let good : r'.fault ≡ None → (r.fault ≡ None) × ((g : Fault) → IsFaultOf before (scopes before) item g → ⊥) = λ n. let both = neither r.fault f r'.fault earliest n in (both.0, no-fault (IsFaultOf before (scopes before) item) f least both.1) in
    let place_is : r'.fault ≡ None → (r.fault ≡ None) × IsKnownPlace before item place =
    λ n. ((good n).0, subst (λ (p : Place). IsKnownPlace before item p) (sym (pe ∙ ap (λ a. known_place r.known.places a item) same)) (known-place before r st (good n).0 item (good n).1)) in
    record {
      scopes_are = scopes_are ∙ ap (λ a. scopes_behind number item a) same ∙ ap (λ (n : ℕ). scopes_behind n item (scopes before)) count;
      declared = declared-step before r r' st item (subst (λ (m : Option Named). (s : ℕ) (x : List ℕ) → found_in r'.declared.places s x ≡ cond (is_named m s x) (own_place m) (found_in r.declared.places s x)) (de ∙ ap (λ a. declared_by item a) same) dt);
      own = own-step before r r' st item (subst (λ (m : Option Named). (s : ℕ) (x : List ℕ) → found_in r'.own.places s x ≡ cond (is_named m s x) (own_place m) (found_in r.own.places s x)) (oe ∙ ap (λ a. own_by item a) same) ot);
      known = known-step before r r' st item place place_is (subst (λ (m : Option Named). (s : ℕ) (x : List ℕ) → found_in r'.known.places s x ≡ cond (is_named m s x) (Some place) (found_in r.known.places s x)) (ke ∙ ap (λ a. made_known r.known.places a item) same) kt);
      fault = least-of-both (HasFault before) (IsFaultOf before (scopes before) item) r.fault f r'.fault st.fault least earliest;
      names = λ n. names-step before r st (good n).0 item (good n).1 r'.names.items (names ∙ ap (λ a. r.names.items ++ naming_of r.known.places a item) same);
    }

pub if-ok : {A E : Type 0} (P Q : A → Type 0) (result : Result A E) → IfOk result P → ((a : A) → P a → Q a) → IfOk result Q
if-ok P Q (Ok a) h f = f a h
if-ok P Q (Err e) h f = tt
