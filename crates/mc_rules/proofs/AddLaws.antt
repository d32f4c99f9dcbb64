-- What is put behind a list, part by part.
use Rattle.std.specs.Prelude.{◌≡◌, ◌⊎◌, ◌↔◌, List, [], ◌∷◌, ◌++◌, Option, Some, None, option_to_list}
use Rattle.std.proofs.Common.{sym, ◌∙◌, ap, subst, inl, inr, ⊎_elim, arith}
use Rattle.std.specs.List.{Contains}
use Rattle.std.proofs.lemmas.List.{append-nil, append_assoc}
use Rattle.std.proofs.lemmas.List.Elements.{Contains-push, Contains-push_cases, Contains-append_left, Contains-append_right, Contains-append_cases}
use Rattle.std.proofs.lemmas.Option.{none-some, same_Some}
use Rattle.mc_rules.specs.Gathering.{Adds}

pub contains-none : {X : Type 0} (x : X) → Contains [] x → ⊥
contains-none x h = omega (arith, h.1)

pub adds-none : {X : Type 0} (P : X → Type 0) (a : List X) → ((x : X) → P x → ⊥) → Adds P a a
adds-none P a never = record { added = []; behind = sym (append-nil a); are = λ x. (λ h. absurd (contains-none x h), λ p. absurd (never x p)) }

pub adds-same : {X : Type 0} (P Q : X → Type 0) (a b : List X) → Adds P a b → ((x : X) → P x → Q x) → ((x : X) → Q x → P x) → Adds Q a b
adds-same P Q a b h to from = record { added = h.added; behind = h.behind; are = λ x. (λ k. to x ((h.are x).0 k), λ q. (h.are x).1 (from x q)) }

pub adds-both : {X : Type 0} (P Q : X → Type 0) (a b c : List X) → Adds P a b → Adds Q b c → Adds (λ x. P x ⊎ Q x) a c
adds-both P Q a b c h k = record {
  added = h.added ++ k.added;
  behind = k.behind ∙ ap (λ (l : List _). l ++ k.added) h.behind ∙ append_assoc a h.added k.added;
  are = λ x. (
    λ m. ⊎_elim (λ l. inl ((h.are x).0 l)) (λ r. inr ((k.are x).0 r)) (Contains-append_cases h.added k.added x m),
    λ m. ⊎_elim (λ l. Contains-append_left h.added k.added x ((h.are x).1 l)) (λ r. Contains-append_right h.added k.added x ((k.are x).1 r)) m,
  );
}

-- at most one is put there
pub adds-option : {X : Type 0} (o : Option X) (a b : List X) → b ≡ a ++ option_to_list o → Adds (λ x. o ≡ Some x) a b
adds-option None a b e = record { added = []; behind = e; are = λ x. (λ h. absurd (contains-none x h), λ p. absurd (none-some x p)) }
adds-option (Some y) a b e = record {
  added = y ∷ [];
  behind = e;
  are = λ x. (
    λ h. ⊎_elim (λ l. absurd (contains-none x l)) (λ r. ap (λ z. Some z) r) (Contains-push_cases [] y x h),
    λ p. subst (λ z. Contains (y ∷ []) z) (same_Some y x p) (Contains-push [] y),
  );
}

-- all that is in a list that was empty
pub contains-added : {X : Type 0} (P : X → Type 0) (before after : List X) → before ≡ [] → Adds P before after → (x : X) → Contains after x ↔ P x
contains-added P before after none h x =
    let same : after ≡ h.added = h.behind ∙ ap (λ (l : List _). l ++ h.added) none in
    (λ m. (h.are x).0 (subst (λ (l : List _). Contains l x) same m), λ p. subst (λ (l : List _). Contains l x) (sym same) ((h.are x).1 p))
