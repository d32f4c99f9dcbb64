-- What is waited on and what is sent to, call by call.
use Rattle.std.specs.Prelude.{◌≡◌, ◌↔◌, ◌<◌, ◌≤◌, ◌+◌, ℕ, List, [], ◌∷◌, ◌++◌, length, take, get_or, Option, Some, None, MatchOption, ⊤}
use Rattle.std.specs.List.{Contains}
use Rattle.std.proofs.Common.{ap, sym, ◌∙◌, subst, refl, ⊎_elim, arith}
use Rattle.std.proofs.lemmas.List.{take_more, take_all, get_or_default}
use Rattle.std.proofs.lemmas.List.Elements.{Contains-append_left, Contains-push, Contains-push_cases}
use Rattle.mc_tree.specs.declared.place.Place.{Place}
use Rattle.mc_prog.specs.declared.program.Node.{Node}
use Rattle.mc_rules.specs.declared.call.Call.{Call}
use Rattle.mc_rules.specs.declared.call.Signalling.{Signalling}
use Rattle.mc_rules.specs.declared.call.Way.{Way}
use Rattle.mc_rules.specs.Rules.{signal_of}
use Rattle.mc_rules.specs.Signals.{AreSignallings, HasSignalling, IsSignallingOf, IsVariableOf, signalling, with_signalling}

pub some-same : {A : Type 0} (x y : A) → ◌≡◌ {A = Option A} (Some x) (Some y) → x ≡ y
some-same x y e = subst (λ (o : Option _). MatchOption o ⊤ (λ z. x ≡ z)) e refl

none-some : {A : Type 0} (y : A) → ◌≡◌ {A = Option A} None (Some y) → ⊥
none-some y e = subst (λ (o : Option _). MatchOption o ⊤ (λ z. ⊥)) e tt

pub signalling-is : (nodes : List Node) (way : Way) (call : Call) (variable : Option ℕ)
    → ((cell : ℕ) → (variable ≡ Some cell) ↔ IsVariableOf nodes (signal_of way call.called) cell)
    → (s : Signalling) → (signalling variable call.place ≡ Some s) ↔ IsSignallingOf nodes way call s
signalling-is nodes way call None is s = (λ e. absurd (none-some s e), λ k. absurd (none-some s.variable ((is s.variable).1 k.variable)))
signalling-is nodes way call (Some v) is s = (
  λ e. let same = some-same (record { variable = v; place = call.place }) s e in
      subst (λ (x : Signalling). IsSignallingOf nodes way call x) same (record { variable = (is v).0 refl; place = refl }),
  λ k. ap (λ (x : Signalling). Some x) (equal v s (some-same v s.variable ((is s.variable).1 k.variable)) call.place k.place),
)
  where
    equal : (v : ℕ) (s : Signalling) → v ≡ s.variable → (place : Place) → s.place ≡ place → ◌≡◌ {A = Signalling} (record { variable = v; place = place }) s
    equal v s e place f = ap (λ (x : ℕ). record { variable = x; place = place }) e ∙ ap (λ (q : Place). record { variable = s.variable; place = q }) (sym f)

pub signallings-more : (nodes : List Node) (way : Way) (calls : List Call) (n : ℕ) (d : Call) (list : List Signalling) (o : Option Signalling)
    → n < length calls → AreSignallings nodes way (take n calls) list
    → ((s : Signalling) → (o ≡ Some s) ↔ IsSignallingOf nodes way (get_or calls n d) s)
    → AreSignallings nodes way (take (n + 1) calls) (with_signalling list o)
signallings-more nodes way calls n d list o inside are own =
    subst (λ (cs : List Call). AreSignallings nodes way cs (with_signalling list o))
    (sym (take_more calls n x inside ∙ ap (λ (y : Call). take n calls ++ (y ∷ [])) (get_or_default calls n x d inside)))
    (λ s. (from o own s, to o own s))
  where
    x : Call
    x = get_or calls n d

    front : List Call
    front = take n calls

    of-front : (s : Signalling) → HasSignalling nodes way front s → HasSignalling nodes way (front ++ (x ∷ [])) s
    of-front s h = record { call = h.call; one = Contains-append_left front (x ∷ []) h.call h.one; is = h.is }

    from : (o : Option Signalling) → ((s : Signalling) → (o ≡ Some s) ↔ IsSignallingOf nodes way x s) → (s : Signalling) → Contains (with_signalling list o) s → HasSignalling nodes way (front ++ (x ∷ [])) s
    from None own s c = of-front s ((are s).0 c)
    from (Some t) own s c = ⊎_elim (λ k. of-front s ((are s).0 k)) (λ e. record { call = x; one = Contains-push front x; is = (own s).0 (ap (λ (y : Signalling). Some y) e) }) (Contains-push_cases list t s c)

    last-is : (o : Option Signalling) (s : Signalling) → o ≡ Some s → Contains (with_signalling list o) s
    last-is None s e = absurd (none-some s e)
    last-is (Some t) s e = subst (λ (y : Signalling). Contains (list ++ (t ∷ [])) y) (some-same t s e) (Contains-push list t)

    kept : (o : Option Signalling) (s : Signalling) → Contains list s → Contains (with_signalling list o) s
    kept None s c = c
    kept (Some t) s c = Contains-append_left list (t ∷ []) s c

    to : (o : Option Signalling) → ((s : Signalling) → (o ≡ Some s) ↔ IsSignallingOf nodes way x s) → (s : Signalling) → HasSignalling nodes way (front ++ (x ∷ [])) s → Contains (with_signalling list o) s
    to o own s h = ⊎_elim
        (λ k. kept o s ((are s).1 (record { call = h.call; one = k; is = h.is })))
        (λ e. last-is o s ((own s).1 (subst (λ (y : Call). IsSignallingOf nodes way y s) (sym e) h.is)))
        (Contains-push_cases front x h.call h.one)

pub signallings-all : (nodes : List Node) (way : Way) (calls : List Call) (n : ℕ) (list : List Signalling) → length calls ≤ n → AreSignallings nodes way (take n calls) list → AreSignallings nodes way calls list
signallings-all nodes way calls n list all are = subst (λ (cs : List Call). AreSignallings nodes way cs list) (take_all n calls all) are

-- no calls, no signals
pub signallings-none : (nodes : List Node) (way : Way) → AreSignallings nodes way [] []
signallings-none nodes way s = (λ c. absurd (omega (arith, c.1)), λ h. absurd (omega (arith, h.one.1)))
