-- One more item of a list that is gone through, and the first fault then.
use Rattle.std.specs.Prelude.{◌≡◌, ◌⊎◌, List, [], ◌∷◌, ◌++◌, Option, Some, None, MatchOption, ⊤}
use Rattle.std.proofs.Common.{sym, ◌∙◌, subst, refl, inl, inr, ⊎_elim, arith}
use Rattle.mc_tree.specs.declared.place.Place.{Place}
use Rattle.mc_tree.specs.declared.fault.Fault.{Fault}
use Rattle.mc_prog.specs.First.{IsEarlier}
use Rattle.mc_prog.specs.Passes.{passed, HasFaultOf}
use Rattle.mc_types.specs.Ranks.{ComesFirst, IsFirstOf, IsLeastOf}

pub passed-more : {S P : Type 0} (step : S → P → S) (s : S) (xs : List P) (p : P) → passed step s (xs ++ (p ∷ [])) ≡ step (passed step s xs) p
passed-more step s [] p = refl
passed-more step s (x ∷ xs) p = passed-more step (step s x) xs p

-- a fault of the items with one more is that of one of the others, or of the last
has-more : {S P : Type 0} (step : S → P → S) (own : S → P → Option Fault) (s : S) (xs : List P) (p : P) (f : Fault)
    → HasFaultOf step own s (xs ++ (p ∷ [])) f → HasFaultOf step own s xs f ⊎ (own (passed step s xs) p ≡ Some f)
has-more step own s [] p f (inl e) = inr e
has-more step own s [] p f (inr k) = absurd k
has-more step own s (x ∷ xs) p f (inl e) = inl (inl e)
has-more step own s (x ∷ xs) p f (inr k) = ⊎_elim (λ a. inl (inr a)) (λ e. inr e) (has-more step own (step s x) xs p f k)

has-first : {S P : Type 0} (step : S → P → S) (own : S → P → Option Fault) (s : S) (xs : List P) (p : P) (f : Fault)
    → HasFaultOf step own s xs f → HasFaultOf step own s (xs ++ (p ∷ [])) f
has-first step own s [] p f k = absurd k
has-first step own s (x ∷ xs) p f (inl e) = inl e
has-first step own s (x ∷ xs) p f (inr k) = inr (has-first step own (step s x) xs p f k)

has-last : {S P : Type 0} (step : S → P → S) (own : S → P → Option Fault) (s : S) (xs : List P) (p : P) (f : Fault)
    → own (passed step s xs) p ≡ Some f → HasFaultOf step own s (xs ++ (p ∷ [])) f
has-last step own s [] p f e = inl e
has-last step own s (x ∷ xs) p f e = inr (has-last step own (step s x) xs p f e)

earlier-trans : (p q r : Place) → IsEarlier p q → IsEarlier q r → IsEarlier p r
earlier-trans p q r (inl a) (inl b) = inl (omega (arith, a, b))
earlier-trans p q r (inl a) (inr b) = inl (omega (arith, a, b.0))
earlier-trans p q r (inr a) (inl b) = inl (omega (arith, a.0, b))
earlier-trans p q r (inr a) (inr b) = inr (a.0 ∙ b.0, omega (arith, a.1, b.1))

pub first-trans : (f g h : Fault) → ComesFirst f g → ComesFirst g h → ComesFirst f h
first-trans f g h (inl a) (inl b) = inl (earlier-trans f.place g.place h.place a b)
first-trans f g h (inl a) (inr b) = inl (subst (λ (p : Place). IsEarlier f.place p) b.0 a)
first-trans f g h (inr a) (inl b) = inl (subst (λ (p : Place). IsEarlier p h.place) (sym a.0) b)
first-trans f g h (inr a) (inr b) = inr (a.0 ∙ b.0, omega (arith, a.1, b.1))

-- The first of two first faults is that of all.
pub least-of-both : (P Q R : Fault → Type 0) (one other found : Option Fault) → IsLeastOf P one → IsLeastOf Q other → IsFirstOf one other found
    → ((f : Fault) → R f → P f ⊎ Q f) → ((f : Fault) → P f → R f) → ((f : Fault) → Q f → R f) → IsLeastOf R found
least-of-both P Q R None None found p q e r a b = subst (λ (o : Option Fault). IsLeastOf R o) (sym e) (λ f k. ⊎_elim (p f) (q f) (r f k))
least-of-both P Q R None (Some g) found p q e r a b = subst (λ (o : Option Fault). IsLeastOf R o) (sym e) (record { is_fault = b g q.is_fault; first = λ f k. ⊎_elim (λ x. absurd (p f x)) (λ x. q.first f x) (r f k) })
least-of-both P Q R (Some f) None found p q e r a b = subst (λ (o : Option Fault). IsLeastOf R o) (sym e) (record { is_fault = a f p.is_fault; first = λ g k. ⊎_elim (λ x. p.first g x) (λ x. absurd (q g x)) (r g k) })
least-of-both P Q R (Some f) (Some g) found p q (inl e) r a b = subst (λ (o : Option Fault). IsLeastOf R o) (sym e.0) (record { is_fault = a f p.is_fault; first = λ h k. ⊎_elim (λ x. p.first h x) (λ x. first-trans f g h e.1 (q.first h x)) (r h k) })
least-of-both P Q R (Some f) (Some g) found p q (inr e) r a b = subst (λ (o : Option Fault). IsLeastOf R o) (sym e.0) (record { is_fault = b g q.is_fault; first = λ h k. ⊎_elim (λ x. first-trans g f h e.1 (p.first h x)) (λ x. q.first h x) (r h k) })

some-same : (f g : Fault) → ◌≡◌ {A = Option Fault} (Some f) (Some g) → f ≡ g
some-same f g e = subst (λ (o : Option Fault). MatchOption o ⊤ (λ x. f ≡ x)) e refl

none-some : (f : Fault) → ◌≡◌ {A = Option Fault} None (Some f) → ⊥
none-some f e = subst (λ (o : Option Fault). MatchOption o ⊤ (λ x. ⊥)) e tt

-- the one fault of an item is its first
own-least : (o : Option Fault) → IsLeastOf (λ f. o ≡ Some f) o
own-least None = λ f e. none-some f e
own-least (Some g) = record { is_fault = refl; first = λ f e. subst (λ (x : Fault). ComesFirst g x) (some-same g f e) (inr (refl, omega arith)) }

pub fault-more : {S P : Type 0} (step : S → P → S) (own : S → P → Option Fault) (s : S) (xs : List P) (p : P) (one found : Option Fault)
    → IsLeastOf (HasFaultOf step own s xs) one → IsFirstOf one (own (passed step s xs) p) found → IsLeastOf (HasFaultOf step own s (xs ++ (p ∷ []))) found
fault-more step own s xs p one found least e =
    least-of-both (HasFaultOf step own s xs) (λ f. own (passed step s xs) p ≡ Some f) (HasFaultOf step own s (xs ++ (p ∷ []))) one (own (passed step s xs) p) found
    least (own-least (own (passed step s xs) p)) e (λ f. has-more step own s xs p f) (λ f. has-first step own s xs p f) (λ f. has-last step own s xs p f)
