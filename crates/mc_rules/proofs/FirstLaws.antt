-- The first place of each variable, one place more at a time, and the first fault of a sending by it.
use Rattle.std.specs.Prelude.{◌≡◌, ◌⊎◌, ◌<◌, ◌≤◌, ◌==◌, ℕ, List, [], ◌∷◌, ◌++◌, Bool, true, false, Option, Some, None, cond, if◌then◌else◌}
use Rattle.std.specs.Ordering.{nat_cmp, is_eq}
use Rattle.std.proofs.Common.{ap, sym, ◌∙◌, subst, refl, inl, inr, ⊎_elim, arith}
use Rattle.std.proofs.lemmas.Bool.{cases_eq}
use Rattle.std.proofs.lemmas.List.Elements.{Contains-append_left, Contains-push, Contains-push_cases}
use Rattle.mc_tree.specs.declared.fault.Fault.{Fault}
use Rattle.mc_tree.specs.declared.place.Place.{Place}
use Rattle.mc_prog.specs.First.{IsNotAfter}
use Rattle.mc_rules.specs.declared.call.Signalling.{Signalling}
use Rattle.mc_rules.specs.AnyOf.{AnyOf, IsFirstOf}
use Rattle.mc_rules.specs.FirstPlaces.{HasSentFault, IsFirstPlace, IsNotLater, IsSentFault, Stands, earliest, sent_fault}
use Rattle.mc_rules.specs.Rules.{is_earlier, later}
use Rattle.mc_rules.specs.Signals.{HasBothFault, IsBothFault}
use Rattle.mc_rules.proofs.AnyLaws.{any-contains, any-of, first-same}
use Rattle.mc_rules.proofs.SignalFaults.{both-is, both-of, m7}

-- The order of places

earlier-yes : (p q : Place) → is_earlier p q ≡ true → (p.line < q.line) ⊎ ((p.line ≡ q.line) × (p.column < q.column))
earlier-yes p q e = grind (arith, e)

earlier-no : (p q : Place) → is_earlier p q ≡ false → IsNotLater q p
earlier-no p q e = grind (arith, e)

not-later-trans : (p q r : Place) → IsNotLater p q → IsNotLater q r → IsNotLater p r
not-later-trans p q r (inl a) (inl b) = inl (omega (arith, a, b))
not-later-trans p q r (inl a) (inr b) = inl (omega (arith, a, b.0))
not-later-trans p q r (inr a) (inl b) = inl (omega (arith, a.0, b))
not-later-trans p q r (inr a) (inr b) = inr (a.0 ∙ b.0, omega (arith, a.1, b.1))

earlier-not-later : (p q : Place) → is_earlier p q ≡ true → IsNotLater p q
earlier-not-later p q e = by (earlier-yes p q e)
  where
    by : (p.line < q.line) ⊎ ((p.line ≡ q.line) × (p.column < q.column)) → IsNotLater p q
    by (inl a) = inl a
    by (inr b) = inr (b.0, omega (arith, b.1))

not-both : (p q : Place) → is_earlier p q ≡ true → IsNotLater q p → ⊥
not-both p q e n = by (earlier-yes p q e) n
  where
    by : (p.line < q.line) ⊎ ((p.line ≡ q.line) × (p.column < q.column)) → IsNotLater q p → ⊥
    by (inl a) (inl b) = omega (arith, a, b)
    by (inl a) (inr b) = omega (arith, a, b.0)
    by (inr a) (inl b) = omega (arith, a.0, b)
    by (inr a) (inr b) = omega (arith, a.1, b.1)

-- the later of two places rises with either
later-rises : (p q s : Place) → IsNotLater p q → IsNotLater (later p s) (later q s)
later-rises p q s h = by (is_earlier p s) (is_earlier q s) refl refl
  where
    by : (a b : Bool) → is_earlier p s ≡ a → is_earlier q s ≡ b → IsNotLater (if a then s else p) (if b then s else q)
    by true true e f = inr (refl, omega arith)
    by true false e f = earlier-no q s f
    by false true e f = absurd (not-both q s f (not-later-trans s p q (earlier-no p s e) h))
    by false false e f = h

place-is : (p q : Place) → p.line ≡ q.line → p.column ≡ q.column → p ≡ q
place-is p q e f = ap (λ (n : ℕ). record { line = n; column = p.column }) e ∙ ap (λ (n : ℕ). record { line = q.line; column = n }) f

m7-order : (p q : Place) → IsNotLater p q → IsNotAfter (m7 p) (m7 q)
m7-order p q (inl a) = inl (inl a)
m7-order p q (inr b) = ⊎_elim (λ k. inl (inr (b.0, k))) (λ e. inr (place-is p q b.0 e, omega arith)) (split p.column q.column b.1)
  where
    split : (m n : ℕ) → m ≤ n → (m < n) ⊎ (m ≡ n)
    split m n h = grind (arith, h)

-- The first places of a list with one more

stands-cases : (list : List Signalling) (s : Signalling) (cell : ℕ) (place : Place) → Stands (list ++ (s ∷ [])) cell place → Stands list cell place ⊎ ((s.variable ≡ cell) × (s.place ≡ place))
stands-cases list s cell place c = ⊎_elim (λ k. inl k) (λ e. inr (ap (λ (x : Signalling). x.variable) e, ap (λ (x : Signalling). x.place) e)) (Contains-push_cases list s (record { variable = cell; place = place }) c)

more-same : (list : List Signalling) (s : Signalling) (known : Option Place) → IsFirstPlace list s.variable known → IsFirstPlace (list ++ (s ∷ [])) s.variable (Some (earliest known s.place))
more-same list s None none = (Contains-push list s, λ place c. ⊎_elim (λ k. absurd (none place k)) (λ e. subst (λ (q : Place). IsNotLater s.place q) e.1 (inr (refl, omega arith))) (stands-cases list s s.variable place c))
more-same list s (Some first) known = by (is_earlier s.place first) refl
  where
    by : (b : Bool) → is_earlier s.place first ≡ b → IsFirstPlace (list ++ (s ∷ [])) s.variable (Some (if b then s.place else first))
    by true e = (Contains-push list s, λ place c. ⊎_elim (λ k. not-later-trans s.place first place (earlier-not-later s.place first e) (known.1 place k)) (λ same. subst (λ (q : Place). IsNotLater s.place q) same.1 (inr (refl, omega arith))) (stands-cases list s s.variable place c))
    by false e = (Contains-append_left list (s ∷ []) _ known.0, λ place c. ⊎_elim (λ k. known.1 place k) (λ same. subst (λ (q : Place). IsNotLater first q) same.1 (earlier-no s.place first e)) (stands-cases list s s.variable place c))

more-other : (list : List Signalling) (s : Signalling) (cell : ℕ) (known : Option Place) → (s.variable ≡ cell → ⊥) → IsFirstPlace list cell known → IsFirstPlace (list ++ (s ∷ [])) cell known
more-other list s cell None other none = λ place c. ⊎_elim (λ k. none place k) (λ e. other e.0) (stands-cases list s cell place c)
more-other list s cell (Some first) other known = (Contains-append_left list (s ∷ []) _ known.0, λ place c. ⊎_elim (λ k. known.1 place k) (λ e. absurd (other e.0)) (stands-cases list s cell place c))

-- what a map has, behind the place that was put in
pub noted-first : (list : List Signalling) (s : Signalling) (cell : ℕ) (known old new : Option Place) → IsFirstPlace list s.variable known → IsFirstPlace list cell old
    → new ≡ cond (is_eq (nat_cmp s.variable cell)) (Some (earliest known s.place)) old → IsFirstPlace (list ++ (s ∷ [])) cell new
noted-first list s cell known old new here there is = subst (λ (o : Option Place). IsFirstPlace (list ++ (s ∷ [])) cell o) (sym is) (⊎_elim same other (cases_eq s.variable cell))
  where
    same : s.variable ≡ cell → IsFirstPlace (list ++ (s ∷ [])) cell (cond (is_eq (nat_cmp s.variable cell)) (Some (earliest known s.place)) old)
    same e = let test : is_eq (nat_cmp s.variable cell) ≡ true = grind (arith, e) in
        subst (λ (b : Bool). IsFirstPlace (list ++ (s ∷ [])) cell (cond b (Some (earliest known s.place)) old)) (sym test)
        (subst (λ (n : ℕ). IsFirstPlace (list ++ (s ∷ [])) n (Some (earliest known s.place))) e (more-same list s known here))

    other : (s.variable ≡ cell → ⊥) → IsFirstPlace (list ++ (s ∷ [])) cell (cond (is_eq (nat_cmp s.variable cell)) (Some (earliest known s.place)) old)
    other apart = let test : is_eq (nat_cmp s.variable cell) ≡ false = grind (arith, apart) in
        subst (λ (b : Bool). IsFirstPlace (list ++ (s ∷ [])) cell (cond b (Some (earliest known s.place)) old)) (sym test)
        (more-other list s cell old apart there)

-- The first fault of a sending

pub sent-first : (waits : List Signalling) (send : Signalling) (known : Option Place) → IsFirstPlace waits send.variable known → IsFirstOf (HasSentFault waits send) (sent_fault known send.place)
sent-first waits send None none = λ f k.
    let one = any-contains (IsSentFault send) waits f k in
    let both = both-is one.0 send (one.0.variable == send.variable) f refl one.1.1 in
    none one.0.place (subst (λ (n : ℕ). Stands waits n one.0.place) both.0 one.1.0)
sent-first waits send (Some first) known = record {
  is_fault = any-of (IsSentFault send) waits (record { variable = send.variable; place = first }) (m7 (later first send.place)) known.0 (both-of (record { variable = send.variable; place = first }) send refl);
  first = λ f k.
      let one = any-contains (IsSentFault send) waits f k in
      let both = both-is one.0 send (one.0.variable == send.variable) f refl one.1.1 in
      let order = known.1 one.0.place (subst (λ (n : ℕ). Stands waits n one.0.place) both.0 one.1.0) in
      subst (λ (g : Fault). IsNotAfter (m7 (later first send.place)) g) (sym both.1) (m7-order _ _ (later-rises first one.0.place send.place order));
}

-- the faults of the waits with the sendings are those of the sendings with the waits
pub sent-both : (waits sends : List Signalling) (found : Option Fault) → IsFirstOf (AnyOf (HasSentFault waits) sends) found → IsFirstOf (AnyOf (HasBothFault sends) waits) found
sent-both waits sends found first = first-same (AnyOf (HasSentFault waits) sends) (AnyOf (HasBothFault sends) waits) found first to from
  where
    to : (f : Fault) → AnyOf (HasBothFault sends) waits f → AnyOf (HasSentFault waits) sends f
    to f k =
        let wait = any-contains (HasBothFault sends) waits f k in
        let send = any-contains (IsBothFault wait.0) sends f wait.1.1 in
        any-of (HasSentFault waits) sends send.0 f send.1.0 (any-of (IsSentFault send.0) waits wait.0 f wait.1.0 send.1.1)

    from : (f : Fault) → AnyOf (HasSentFault waits) sends f → AnyOf (HasBothFault sends) waits f
    from f k =
        let send = any-contains (HasSentFault waits) sends f k in
        let wait = any-contains (IsSentFault send.0) waits f send.1.1 in
        any-of (HasBothFault sends) waits wait.0 f wait.1.0 (any-of (IsBothFault wait.0) sends send.0 f send.1.0 wait.1.1)
