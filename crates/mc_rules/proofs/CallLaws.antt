-- The calls of a text: those of the nodes that have been gone through, and of those that are still to be.
use Rattle.std.specs.Prelude.{◌≡◌, ◌⊎◌, ◌↔◌, ℕ, ◌<◌, ◌≤◌, List, [], ◌∷◌, ◌++◌, Option, Some, None, slice_get}
use Rattle.std.proofs.Common.{sym, ◌∙◌, ap, subst, refl, inl, inr, ⊎_elim, arith}
use Rattle.std.specs.List.{Contains}
use Rattle.std.proofs.lemmas.List.{append-nil, append_assoc}
use Rattle.std.proofs.lemmas.List.Elements.{Contains-push, Contains-push_cases, Contains-append_left, Contains-append_right, Contains-append_cases}
use Rattle.mc_prog.specs.declared.program.Node.{Node}
use Rattle.mc_rules.specs.declared.call.Call.{Call}
use Rattle.mc_rules.specs.Calls.{IsPartOf, Leads, HasCall, call_at}
use Rattle.mc_rules.specs.Gathering.{Adds, parts_at, parts_in}
use Rattle.mc_rules.proofs.AddLaws.{contains-none, adds-same}

-- a call stands in what one of these nodes leads to
pub record HasCallBelow (nodes : List Node) (numbers : List ℕ) (call : Call) : Type 0 where
  pub number : ℕ
  pub one : Contains numbers number
  pub has : HasCall nodes number call

-- The calls of a text are those that have been put behind others, and those of the nodes that are still ahead.
pub record Gathers (nodes : List Node) (n : ℕ) (ahead : List ℕ) (before after : List Call) : Type 0 where
  pub added : List Call
  pub behind : after ≡ before ++ added
  pub are : (call : Call) → (Contains added call ⊎ HasCallBelow nodes ahead call) ↔ HasCall nodes n call

none-below : (nodes : List Node) (call : Call) → HasCallBelow nodes [] call → ⊥
none-below nodes call h = contains-none h.number h.one

-- the body alone is ahead
pub gathers-first : (nodes : List Node) (n : ℕ) (before : List Call) → Gathers nodes n (n ∷ []) before before
gathers-first nodes n before = record {
  added = [];
  behind = sym (append-nil before);
  are = λ call. (
    λ m. ⊎_elim (λ l. absurd (contains-none call l)) (λ r. body call r) m,
    λ h. inr (record { number = n; one = Contains-push [] n; has = h }),
  );
}
  where
    body : (call : Call) → HasCallBelow nodes (n ∷ []) call → HasCall nodes n call
    body call h = ⊎_elim (λ l. absurd (contains-none h.number l)) (λ (r : n ≡ h.number). subst (λ (k : ℕ). HasCall nodes k call) (sym r) h.has) (Contains-push_cases [] n h.number h.one)

-- nothing is ahead
pub gathers-last : (nodes : List Node) (n : ℕ) (before after : List Call) → Gathers nodes n [] before after → Adds (HasCall nodes n) before after
gathers-last nodes n before after g = record {
  added = g.added;
  behind = g.behind;
  are = λ call. (
    λ m. (g.are call).0 (inl m),
    λ h. ⊎_elim (λ l. l) (λ r. absurd (none-below nodes call r)) ((g.are call).1 h),
  );
}

-- a call of the node itself, or of a part of it
own : (nodes : List Node) (n : ℕ) (call : Call) → call_at nodes n ≡ Some call → HasCall nodes n call
own nodes n call is = record { number = n; stands = ([], refl); is = is }

through : (nodes : List Node) (n part : ℕ) (call : Call) → IsPartOf nodes n part → HasCall nodes part call → HasCall nodes n call
through nodes n part call h has = record { number = has.number; stands = (part ∷ has.stands.0, (h, has.stands.1)); is = has.is }

record HasCallThrough (nodes : List Node) (n : ℕ) (call : Call) : Type 0 where
  pub part : ℕ
  pub is : IsPartOf nodes n part
  pub has : HasCall nodes part call

by-path : (nodes : List Node) (n number : ℕ) (path : List ℕ) (call : Call) → Leads nodes n path number → call_at nodes number ≡ Some call → (call_at nodes n ≡ Some call) ⊎ HasCallThrough nodes n call
by-path nodes n number [] call leads is = inl (ap (λ (k : ℕ). call_at nodes k) leads ∙ is)
by-path nodes n number (next ∷ path) call leads is = inr (record { part = next; is = leads.0; has = record { number = number; stands = (path, leads.1); is = is } })

own-or-through : (nodes : List Node) (n : ℕ) (call : Call) → HasCall nodes n call → (call_at nodes n ≡ Some call) ⊎ HasCallThrough nodes n call
own-or-through nodes n call h = by-path nodes n h.number h.stands.0 call h.stands.1 h.is

-- the last one ahead has been gone through, and its parts are ahead now
pub gathers-more : (nodes : List Node) (n : ℕ) (left : List ℕ) (next : ℕ) (ahead : List ℕ) (before after more : List Call)
    → Gathers nodes n (left ++ (next ∷ [])) before after
    → Adds (λ call. call_at nodes next ≡ Some call) after more → Adds (IsPartOf nodes next) left ahead
    → Gathers nodes n ahead before more
gathers-more nodes n left next ahead before after more g calls parts = record {
  added = g.added ++ calls.added;
  behind = calls.behind ∙ ap (λ (l : List Call). l ++ calls.added) g.behind ∙ append_assoc before g.added calls.added;
  are = λ call. (λ m. ⊎_elim (λ l. gone call l) (λ r. below call r) m, λ h. ⊎_elim (λ l. here call l) (λ r. still call r) ((g.are call).1 h));
}
  where
    last : (call : Call) → HasCall nodes next call → HasCall nodes n call
    last call h = (g.are call).0 (inr (record { number = next; one = Contains-push left next; has = h }))

    gone : (call : Call) → Contains (g.added ++ calls.added) call → HasCall nodes n call
    gone call m = ⊎_elim (λ l. (g.are call).0 (inl l)) (λ r. last call (own nodes next call ((calls.are call).0 r))) (Contains-append_cases g.added calls.added call m)

    below : (call : Call) → HasCallBelow nodes ahead call → HasCall nodes n call
    below call h = ⊎_elim
        (λ l. (g.are call).0 (inr (record { number = h.number; one = Contains-append_left left (next ∷ []) h.number l; has = h.has })))
        (λ r. last call (through nodes next h.number call ((parts.are h.number).0 r) h.has))
        (Contains-append_cases left parts.added h.number (subst (λ (l : List ℕ). Contains l h.number) parts.behind h.one))

    here : (call : Call) → Contains g.added call → Contains (g.added ++ calls.added) call ⊎ HasCallBelow nodes ahead call
    here call m = inl (Contains-append_left g.added calls.added call m)

    inside : (number : ℕ) → Contains (left ++ parts.added) number → Contains ahead number
    inside number m = subst (λ (l : List ℕ). Contains l number) (sym parts.behind) m

    opened : (call : Call) → HasCall nodes next call → Contains (g.added ++ calls.added) call ⊎ HasCallBelow nodes ahead call
    opened call h = ⊎_elim
        (λ l. inl (Contains-append_right g.added calls.added call ((calls.are call).1 l)))
        (λ (r : HasCallThrough nodes next call). inr (record { number = r.part; one = inside r.part (Contains-append_right left parts.added r.part ((parts.are r.part).1 r.is)); has = r.has }))
        (own-or-through nodes next call h)

    still : (call : Call) → HasCallBelow nodes (left ++ (next ∷ [])) call → Contains (g.added ++ calls.added) call ⊎ HasCallBelow nodes ahead call
    still call h = ⊎_elim
        (λ l. inr (record { number = h.number; one = inside h.number (Contains-append_left left parts.added h.number l); has = h.has }))
        (λ (r : next ≡ h.number). opened call (subst (λ (k : ℕ). HasCall nodes k call) (sym r) h.has))
        (Contains-push_cases left next h.number h.one)

-- Parts in front

-- one of these parts, that stands in front of the node
abbrev pub IsAhead : ℕ → List ℕ → ℕ → Type 0
IsAhead n parts part = Contains parts part × (part < n)

pub no-part-ahead : (n : ℕ) (a : List ℕ) → Adds (IsAhead n []) a a
no-part-ahead n a = record { added = []; behind = sym (append-nil a); are = λ part. (λ m. absurd (contains-none part m), λ h. absurd (contains-none part h.0)) }

-- one part more
pub part-ahead : (n : ℕ) (parts : List ℕ) (part : ℕ) (a b c : List ℕ) → part < n → c ≡ b ++ (part ∷ []) → Adds (IsAhead n parts) a b → Adds (IsAhead n (parts ++ (part ∷ []))) a c
part-ahead n parts part a b c less e h = record {
  added = h.added ++ (part ∷ []);
  behind = e ∙ ap (λ (l : List ℕ). l ++ (part ∷ [])) h.behind ∙ append_assoc a h.added (part ∷ []);
  are = λ x. (
    λ m. ⊎_elim (λ l. (Contains-append_left parts (part ∷ []) x ((h.are x).0 l).0, ((h.are x).0 l).1))
        (λ (r : part ≡ x). (subst (λ (k : ℕ). Contains (parts ++ (part ∷ [])) k) r (Contains-push parts part), subst (λ (k : ℕ). k < n) r less))
        (Contains-push_cases h.added part x m),
    λ k. ⊎_elim (λ l. Contains-append_left h.added (part ∷ []) x ((h.are x).1 (l, k.1)))
        (λ (r : part ≡ x). subst (λ (i : ℕ). Contains (h.added ++ (part ∷ [])) i) r (Contains-push h.added part))
        (Contains-push_cases parts part x k.0),
  );
}

-- a number that is no part of the node
pub no-part : (n : ℕ) (parts : List ℕ) (part : ℕ) (a b : List ℕ) → n ≤ part → Adds (IsAhead n parts) a b → Adds (IsAhead n (parts ++ (part ∷ []))) a b
no-part n parts part a b far h = adds-same (IsAhead n parts) (IsAhead n (parts ++ (part ∷ []))) a b h
    (λ x k. (Contains-append_left parts (part ∷ []) x k.0, k.1))
    (λ x k. ⊎_elim (λ l. (l, k.1)) (λ (r : part ≡ x). absurd (omega (arith, r, far, k.1))) (Contains-push_cases parts part x k.0))

listed : (nodes : List Node) (n part : ℕ) → IsPartOf nodes n part → IsAhead n (parts_at nodes n) part
listed nodes n part h = (subst (λ (o : Option Node). Contains (parts_in o) part) (sym h.is) h.listed, h.ahead)

part-by : (nodes : List Node) (n part : ℕ) (o : Option Node) → slice_get nodes n ≡ o → Contains (parts_in o) part → part < n → IsPartOf nodes n part
part-by nodes n part None e h less = absurd (contains-none part h)
part-by nodes n part (Some node) e h less = record { node = node; is = e; listed = h; ahead = less }

-- all parts
pub parts-ahead : (nodes : List Node) (n : ℕ) (a b : List ℕ) → Adds (IsAhead n (parts_at nodes n)) a b → Adds (IsPartOf nodes n) a b
parts-ahead nodes n a b h = adds-same (IsAhead n (parts_at nodes n)) (IsPartOf nodes n) a b h
    (λ part k. part-by nodes n part (slice_get nodes n) refl k.0 k.1)
    (λ part k. listed nodes n part k)
