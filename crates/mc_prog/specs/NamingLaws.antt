-- In every tree each use of a name has one declaration.
use Rattle.std.specs.Prelude.{◌≡◌, ◌⊎◌, ℕ, List, [], ◌∷◌, ◌++◌, Option, Some, None}
use Rattle.std.proofs.Common.{sym, ◌∙◌, inl, inr}
use Rattle.mc_tree.specs.declared.place.Place.{Place}
use Rattle.mc_tree.specs.declared.tree.Tree.{Tree}
use Rattle.mc_prog.specs.declared.scoped.Naming.{Naming}
use Rattle.mc_prog.specs.Notes.{Item, Opens, Closes, Declares, Field, Knows, Lists, Defines, Uses, Ends}
use Rattle.mc_prog.specs.Names.{names_of}
use Rattle.mc_prog.specs.Scopes.{Scope, Named, Before, placed, named_in, home, innermost, outer, near, Is, Of, IsMadeKnown, IsKnown}
use Rattle.mc_prog.specs.Namings.{IsAt, IsMadeKnownAt, IsKnownAt, IsFoundIn, AreNamingsWith, AreNamings, AreNamingsOf}

at_is : (n : Option Named) (s : ℕ) (x : List ℕ) (p : Place) → IsAt n s x p → Is n s x
at_is None s x p h = h
at_is (Some n) s x p h = (h.0, h.1)

at_one : (n : Option Named) (s : ℕ) (x : List ℕ) (p q : Place) → IsAt n s x p → IsAt n s x q → p ≡ q
at_one None s x p q h k = absurd h
at_one (Some n) s x p q h k = sym h.2 ∙ k.2

of_less : (o : Option ℕ) (P Q : ℕ → Type 0) → ((s : ℕ) → P s → Q s) → Of o P → Of o Q
of_less None P Q f h = h
of_less (Some s) P Q f h = f s h

of_one : (o : Option ℕ) (p q : Place) (P Q : ℕ → Type 0) → ((s : ℕ) → P s → Q s → p ≡ q) → Of o P → Of o Q → p ≡ q
of_one None p q P Q f h k = absurd h
of_one (Some s) p q P Q f h k = f s h k

-- What is known as something is known.

made_known : (P Q : ℕ → Type 0) → ((s : ℕ) → P s → Q s) → (item : Item) (around : List Scope) (s : ℕ) (x : List ℕ) (p : Place) → IsMadeKnownAt P item around s x p → IsMadeKnown Q item around s x
made_known P Q f (Opens kind) around s x p h = absurd h
made_known P Q f Closes around s x p h = absurd h
made_known P Q f (Declares id) around s x p h = absurd h
made_known P Q f (Field id) around s x p h = absurd h
made_known P Q f (Knows id) around s x p h = (at_is (named_in (home around) id) s x p h, tt)
made_known P Q f (Lists id) around s x p h = (h.0, tt)
made_known P Q f (Defines id) around s x p h = (h.0, of_less (innermost around) P Q f h.1)
made_known P Q f (Uses id) around s x p h = absurd h
made_known P Q f (Ends id end) around s x p h = absurd h

pub known_at-known : (before : Before) (s : ℕ) (x : List ℕ) (p : Place) → IsKnownAt before s x p → IsKnown before s x
known_at-known [] s x p h = h
known_at-known (e ∷ before) s x p (inl h) =
    inl (made_known (λ (t : ℕ). IsKnownAt before t x p) (λ (t : ℕ). IsKnown before t x) (λ t k. known_at-known before t x p k) e.item e.around s x p h)
known_at-known (e ∷ before) s x p (inr h) = inr (known_at-known before s x p h.1)

-- It is known as one thing.

made_one : (p q : Place) (P Q : ℕ → Type 0) → ((s : ℕ) → P s → Q s → p ≡ q) → (item : Item) (around : List Scope) (s : ℕ) (x : List ℕ) → IsMadeKnownAt P item around s x p → IsMadeKnownAt Q item around s x q → p ≡ q
made_one p q P Q f (Opens kind) around s x h k = absurd h
made_one p q P Q f Closes around s x h k = absurd h
made_one p q P Q f (Declares id) around s x h k = absurd h
made_one p q P Q f (Field id) around s x h k = absurd h
made_one p q P Q f (Knows id) around s x h k = at_one (named_in (home around) id) s x p q h k
made_one p q P Q f (Lists id) around s x h k = of_one (innermost (outer around)) p q P Q f h.1 k.1
made_one p q P Q f (Defines id) around s x h k = of_one (innermost around) p q P Q f h.1 k.1
made_one p q P Q f (Uses id) around s x h k = absurd h
made_one p q P Q f (Ends id end) around s x h k = absurd h

pub one_known : (before : Before) (s : ℕ) (x : List ℕ) (p q : Place) → IsKnownAt before s x p → IsKnownAt before s x q → p ≡ q
one_known [] s x p q h k = absurd h
one_known (e ∷ before) s x p q (inl h) (inl k) =
    made_one p q (λ (t : ℕ). IsKnownAt before t x p) (λ (t : ℕ). IsKnownAt before t x q) (λ t a b. one_known before t x p q a b) e.item e.around s x h k
one_known (e ∷ before) s x p q (inl h) (inr k) =
    absurd (k.0 (made_known (λ (t : ℕ). IsKnownAt before t x p) (λ (t : ℕ). IsKnown before t x) (λ t a. known_at-known before t x p a) e.item e.around s x p h))
one_known (e ∷ before) s x p q (inr h) (inl k) =
    absurd (h.0 (made_known (λ (t : ℕ). IsKnownAt before t x q) (λ (t : ℕ). IsKnown before t x) (λ t a. known_at-known before t x q a) e.item e.around s x q k))
one_known (e ∷ before) s x p q (inr h) (inr k) = one_known before s x p q h.1 k.1

one_found : (before : Before) (ss : List ℕ) (x : List ℕ) (p q : Place) → IsFoundIn before ss x p → IsFoundIn before ss x q → p ≡ q
one_found before [] x p q h k = h.1 ∙ sym k.1
one_found before (s ∷ ss) x p q (inl h) (inl k) = one_known before s x p q h k
one_found before (s ∷ ss) x p q (inl h) (inr k) = absurd (k.0 (known_at-known before s x p h))
one_found before (s ∷ ss) x p q (inr h) (inl k) = absurd (h.0 (known_at-known before s x q k))
one_found before (s ∷ ss) x p q (inr h) (inr k) = one_found before ss x p q h.1 k.1

-- The uses have one list of declarations.

one_more : (before : Before) (around : List Scope) (item : Item) → ((xs ys : List Naming) → AreNamings before xs → AreNamings before ys → xs ≡ ys) → (names others : List Naming)
    → AreNamingsWith before around (AreNamings before) item names → AreNamingsWith before around (AreNamings before) item others → names ≡ others
one_more before around (Opens kind) same names others h k = same names others h k
one_more before around Closes same names others h k = same names others h k
one_more before around (Declares id) same names others h k = same names others h k
one_more before around (Field id) same names others h k = same names others h k
one_more before around (Knows id) same names others h k = same names others h k
one_more before around (Lists id) same names others h k = same names others h k
one_more before around (Defines id) same names others h k = same names others h k
one_more before around (Uses id) same names others h k =
    let earlier = same h.earlier k.earlier h.before_it k.before_it in
    let places = h.at ∙ sym k.at in
    let declared = one_found before (near around) id.text h.naming.declared k.naming.declared h.found k.found in
    let naming : h.naming ≡ k.naming = λ i. record { at = places i; declared = declared i } in
    let last : h.earlier ++ (h.naming ∷ []) ≡ k.earlier ++ (k.naming ∷ []) = λ i. earlier i ++ (naming i ∷ []) in
    h.names_are ∙ last ∙ sym k.names_are
one_more before around (Ends id end) same names others h k = same names others h k

one_list : (before : Before) (names others : List Naming) → AreNamings before names → AreNamings before others → names ≡ others
one_list [] names others h k = h ∙ sym k
one_list (e ∷ before) names others h k = one_more before e.around e.item (one_list before) names others h k

-- A tree has at most one list of namings.
pub one_naming : (tree : Tree) (names others : List Naming) → AreNamingsOf tree names → AreNamingsOf tree others → names ≡ others
one_naming tree names others h k = one_list (placed [] (names_of tree)) names others h k
