-- The first fault of several things, one more at a time, and of several kinds of faults.
use Rattle.std.specs.Prelude.{◌≡◌, ◌⊎◌, ◌<◌, ◌≤◌, ◌+◌, ℕ, List, [], ◌∷◌, ◌++◌, length, take, get_or, Option, Some, None, MatchOption, ⊤}
use Rattle.std.specs.List.{Contains}
use Rattle.std.proofs.Common.{ap, sym, ◌∙◌, subst, refl, inl, inr, ⊎_elim, arith}
use Rattle.std.proofs.lemmas.List.Elements.{Contains-append_left, Contains-append_right, Contains-append_cases, Contains-push, Contains-push_cases}
use Rattle.std.proofs.lemmas.List.{take_more, take_all, get_or_default}
use Rattle.mc_tree.specs.declared.place.Place.{Place}
use Rattle.mc_tree.specs.declared.fault.Fault.{Fault}
use Rattle.mc_prog.specs.First.{IsEarlier, IsNotAfter, IsEarlierOf}
use Rattle.mc_prog.specs.Passes.{passed, HasFaultOf}
use Rattle.mc_rules.specs.AnyOf.{AnyOf, IsFirstOf}

pub any-more : {A : Type 0} (P : A → Fault → Type 0) (xs : List A) (x : A) (f : Fault) → AnyOf P (xs ++ (x ∷ [])) f → AnyOf P xs f ⊎ P x f
any-more P [] x f (inl h) = inr h
any-more P [] x f (inr k) = absurd k
any-more P (y ∷ xs) x f (inl h) = inl (inl h)
any-more P (y ∷ xs) x f (inr k) = ⊎_elim (λ a. inl (inr a)) (λ b. inr b) (any-more P xs x f k)

pub any-first : {A : Type 0} (P : A → Fault → Type 0) (xs : List A) (x : A) (f : Fault) → AnyOf P xs f → AnyOf P (xs ++ (x ∷ [])) f
any-first P [] x f k = absurd k
any-first P (y ∷ xs) x f (inl h) = inl h
any-first P (y ∷ xs) x f (inr k) = inr (any-first P xs x f k)

pub any-last : {A : Type 0} (P : A → Fault → Type 0) (xs : List A) (x : A) (f : Fault) → P x f → AnyOf P (xs ++ (x ∷ [])) f
any-last P [] x f h = inl h
any-last P (y ∷ xs) x f h = inr (any-last P xs x f h)

earlier-trans : (p q r : Place) → IsEarlier p q → IsEarlier q r → IsEarlier p r
earlier-trans p q r (inl a) (inl b) = inl (omega (arith, a, b))
earlier-trans p q r (inl a) (inr b) = inl (omega (arith, a, b.0))
earlier-trans p q r (inr a) (inl b) = inl (omega (arith, a.0, b))
earlier-trans p q r (inr a) (inr b) = inr (a.0 ∙ b.0, omega (arith, a.1, b.1))

not-after-trans : (f g h : Fault) → IsNotAfter f g → IsNotAfter g h → IsNotAfter f h
not-after-trans f g h (inl a) (inl b) = inl (earlier-trans f.place g.place h.place a b)
not-after-trans f g h (inl a) (inr b) = inl (subst (λ (p : Place). IsEarlier f.place p) b.0 a)
not-after-trans f g h (inr a) (inl b) = inl (subst (λ (p : Place). IsEarlier p h.place) (sym a.0) b)
not-after-trans f g h (inr a) (inr b) = inr (a.0 ∙ b.0, omega (arith, a.1, b.1))

-- The first of two first faults is that of both.
pub first-of-both : (P Q R : Fault → Type 0) (one other found : Option Fault) → IsFirstOf P one → IsFirstOf Q other → IsEarlierOf one other found
    → ((f : Fault) → R f → P f ⊎ Q f) → ((f : Fault) → P f → R f) → ((f : Fault) → Q f → R f) → IsFirstOf R found
first-of-both P Q R None None found p q e r a b = subst (λ (o : Option Fault). IsFirstOf R o) (sym e) (λ f k. ⊎_elim (p f) (q f) (r f k))
first-of-both P Q R None (Some g) found p q e r a b = subst (λ (o : Option Fault). IsFirstOf R o) (sym e) (record { is_fault = b g q.is_fault; first = λ f k. ⊎_elim (λ x. absurd (p f x)) (λ x. q.first f x) (r f k) })
first-of-both P Q R (Some f) None found p q e r a b = subst (λ (o : Option Fault). IsFirstOf R o) (sym e) (record { is_fault = a f p.is_fault; first = λ g k. ⊎_elim (λ x. p.first g x) (λ x. absurd (q g x)) (r g k) })
first-of-both P Q R (Some f) (Some g) found p q (inl e) r a b = subst (λ (o : Option Fault). IsFirstOf R o) (sym e.0) (record { is_fault = a f p.is_fault; first = λ h k. ⊎_elim (λ x. p.first h x) (λ x. not-after-trans f g h e.1 (q.first h x)) (r h k) })
first-of-both P Q R (Some f) (Some g) found p q (inr e) r a b = subst (λ (o : Option Fault). IsFirstOf R o) (sym e.0) (record { is_fault = b g q.is_fault; first = λ h k. ⊎_elim (λ x. not-after-trans g f h e.1 (p.first h x)) (λ x. q.first h x) (r h k) })

-- the same faults have the same first one
pub first-same : (P R : Fault → Type 0) (o : Option Fault) → IsFirstOf P o → ((f : Fault) → R f → P f) → ((f : Fault) → P f → R f) → IsFirstOf R o
first-same P R None p r a = λ f k. p f (r f k)
first-same P R (Some g) p r a = record { is_fault = a g p.is_fault; first = λ f k. p.first f (r f k) }

-- of either kind
pub first-either : (P Q : Fault → Type 0) (one other found : Option Fault) → IsFirstOf P one → IsFirstOf Q other → IsEarlierOf one other found → IsFirstOf (λ f. P f ⊎ Q f) found
first-either P Q one other found p q e = first-of-both P Q (λ f. P f ⊎ Q f) one other found p q e (λ f k. k) (λ f k. inl k) (λ f k. inr k)

some-same : (f g : Fault) → ◌≡◌ {A = Option Fault} (Some f) (Some g) → f ≡ g
some-same f g e = subst (λ (o : Option Fault). MatchOption o ⊤ (λ x. f ≡ x)) e refl

none-some : (f : Fault) → ◌≡◌ {A = Option Fault} None (Some f) → ⊥
none-some f e = subst (λ (o : Option Fault). MatchOption o ⊤ (λ x. ⊥)) e tt

-- the one fault of a thing is its first
pub own-first : (o : Option Fault) → IsFirstOf (λ f. o ≡ Some f) o
own-first None = λ f e. none-some f e
own-first (Some g) = record { is_fault = refl; first = λ f e. subst (λ (x : Fault). IsNotAfter g x) (some-same g f e) (inr (refl, omega arith)) }

-- one more of a list
pub first-more : {A : Type 0} (P : A → Fault → Type 0) (xs : List A) (n : ℕ) (x : A) (one other found : Option Fault)
    → n < length xs → get_or xs n x ≡ x
    → IsFirstOf (AnyOf P (take n xs)) one → IsFirstOf (P x) other → IsEarlierOf one other found → IsFirstOf (AnyOf P (take (n + 1) xs)) found
first-more P xs n x one other found inside same p q e =
    subst (λ (ys : List _). IsFirstOf (AnyOf P ys) found) (sym (take_more xs n x inside ∙ ap (λ (y : _). take n xs ++ (y ∷ [])) same))
    (first-of-both (AnyOf P (take n xs)) (P x) (AnyOf P (take n xs ++ (x ∷ []))) one other found p q e (any-more P (take n xs) x) (any-first P (take n xs) x) (any-last P (take n xs) x))

-- all of a list
pub first-all : {A : Type 0} (P : A → Fault → Type 0) (xs : List A) (n : ℕ) (o : Option Fault) → length xs ≤ n → IsFirstOf (AnyOf P (take n xs)) o → IsFirstOf (AnyOf P xs) o
first-all P xs n o all p = subst (λ (ys : List _). IsFirstOf (AnyOf P ys) o) (take_all n xs all) p

-- the same of a list's things that have one fault at most
pub own-more : {A : Type 0} (own : A → Option Fault) (xs : List A) (n : ℕ) (d : A) (one other found : Option Fault)
    → n < length xs → other ≡ own (get_or xs n d)
    → IsFirstOf (AnyOf (λ x f. own x ≡ Some f) (take n xs)) one → IsEarlierOf one other found → IsFirstOf (AnyOf (λ x f. own x ≡ Some f) (take (n + 1) xs)) found
own-more own xs n d one other found inside is p e =
    first-more (λ x f. own x ≡ Some f) xs n (get_or xs n d) one other found inside (get_or_default xs n (get_or xs n d) d inside) p
    (subst (λ (o : Option Fault). IsFirstOf (λ f. own (get_or xs n d) ≡ Some f) o) (sym is) (own-first (own (get_or xs n d)))) e

-- Going through a list with a state

pub passed-more : {S P : Type 0} (step : S → P → S) (s : S) (xs : List P) (p : P) → passed step s (xs ++ (p ∷ [])) ≡ step (passed step s xs) p
passed-more step s [] p = refl
passed-more step s (x ∷ xs) p = passed-more step (step s x) xs p

-- a fault of the things with one more is that of one of the others, or of the last
has-more : {S P : Type 0} (step : S → P → S) (own : S → P → Option Fault) (s : S) (xs : List P) (p : P) (f : Fault)
    → HasFaultOf step own s (xs ++ (p ∷ [])) f → HasFaultOf step own s xs f ⊎ (own (passed step s xs) p ≡ Some f)
has-more step own s [] p f (inl e) = inr e
has-more step own s [] p f (inr k) = absurd k
has-more step own s (x ∷ xs) p f (inl e) = inl (inl e)
has-more step own s (x ∷ xs) p f (inr k) = ⊎_elim (λ a. inl (inr a)) (λ e. inr e) (has-more step own (step s x) xs p f k)

has-first : {S P : Type 0} (step : S → P → S) (own : S → P → Option Fault) (s : S) (xs : List P) (p : P) (f : Fault)
    → HasFaultOf step own s xs f → HasFaultOf step own s (xs ++ (p ∷ [])) f
has-first step own s [] p f k = absurd k
has-first step own s (x ∷ xs) p f (inl e) = inl e
has-first step own s (x ∷ xs) p f (inr k) = inr (has-first step own (step s x) xs p f k)

has-last : {S P : Type 0} (step : S → P → S) (own : S → P → Option Fault) (s : S) (xs : List P) (p : P) (f : Fault)
    → own (passed step s xs) p ≡ Some f → HasFaultOf step own s (xs ++ (p ∷ [])) f
has-last step own s [] p f e = inl e
has-last step own s (x ∷ xs) p f e = inr (has-last step own (step s x) xs p f e)

pub pass-more : {S P : Type 0} (step : S → P → S) (own : S → P → Option Fault) (s : S) (xs : List P) (p : P) (one found : Option Fault)
    → IsFirstOf (HasFaultOf step own s xs) one → IsEarlierOf one (own (passed step s xs) p) found → IsFirstOf (HasFaultOf step own s (xs ++ (p ∷ []))) found
pass-more step own s xs p one found first e =
    first-of-both (HasFaultOf step own s xs) (λ f. own (passed step s xs) p ≡ Some f) (HasFaultOf step own s (xs ++ (p ∷ []))) one (own (passed step s xs) p) found
    first (own-first (own (passed step s xs) p)) e (λ f. has-more step own s xs p f) (λ f. has-first step own s xs p f) (λ f. has-last step own s xs p f)

-- one more of a list, by its place
pub first-at : {A : Type 0} (P : A → Fault → Type 0) (xs : List A) (n : ℕ) (d : A) (one other found : Option Fault)
    → n < length xs → IsFirstOf (AnyOf P (take n xs)) one → IsFirstOf (P (get_or xs n d)) other → IsEarlierOf one other found → IsFirstOf (AnyOf P (take (n + 1) xs)) found
first-at P xs n d one other found inside p q e = first-more P xs n (get_or xs n d) one other found inside (get_or_default xs n (get_or xs n d) d inside) p q e

-- what has one fault at most
pub own-is : (own result : Option Fault) → result ≡ own → IsFirstOf (λ f. own ≡ Some f) result
own-is own result is = subst (λ (o : Option Fault). IsFirstOf (λ f. own ≡ Some f) o) (sym is) (own-first own)

-- One of a list has the fault, and is in the list.

pub contains-single : {A : Type 0} (y x : A) → Contains (y ∷ []) x → y ≡ x
contains-single y x c = ⊎_elim (λ k. absurd (nothing x k)) (λ e. e) (Contains-push_cases [] y x c)
  where
    nothing : {A : Type 0} (x : A) → Contains [] x → ⊥
    nothing x k = omega (arith, k.1)

pub contains-cases : {A : Type 0} (y : A) (xs : List A) (x : A) → Contains (y ∷ xs) x → (y ≡ x) ⊎ Contains xs x
contains-cases y xs x c = by (Contains-append_cases (y ∷ []) xs x c)
  where
    by : Contains (y ∷ []) x ⊎ Contains xs x → (y ≡ x) ⊎ Contains xs x
    by (inl a) = inl (contains-single y x a)
    by (inr b) = inr b

pub any-contains : {A : Type 0} (P : A → Fault → Type 0) (xs : List A) (f : Fault) → AnyOf P xs f → (x : A) × (Contains xs x × P x f)
any-contains P [] f k = absurd k
any-contains P (y ∷ xs) f (inl h) = (y, (Contains-append_left (y ∷ []) xs y (Contains-push [] y), h))
any-contains P (y ∷ xs) f (inr k) = let one = any-contains P xs f k in (one.0, (Contains-append_right (y ∷ []) xs one.0 one.1.0, one.1.1))

pub any-of : {A : Type 0} (P : A → Fault → Type 0) (xs : List A) (x : A) (f : Fault) → Contains xs x → P x f → AnyOf P xs f
any-of P [] x f c h = absurd (omega (arith, c.1))
any-of P (y ∷ xs) x f c h = ⊎_elim (λ e. inl (subst (λ (z : _). P z f) (sym e) h)) (λ k. inr (any-of P xs x f k h)) (contains-cases y xs x c)
