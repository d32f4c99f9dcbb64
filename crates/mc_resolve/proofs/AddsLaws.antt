-- What a walk adds for an option, and behind a loop over a list.
use Rattle.std.specs.Prelude.{◌≡◌, ℕ, ◌≤◌, List, ◌++◌, length, Option, Some}
use Rattle.std.proofs.Common.{ap, sym, subst, ◌∙◌, drop}
use Rattle.std.proofs.lemmas.List.{drop_all}
use Rattle.mc_prog.specs.Notes.{Notes, Item, each, maybe}
use Rattle.mc_resolve.specs.Adds.{Adds}

-- The loop is at the end of its list, and `last` stands behind it.
pub after_loop : {A : Type 0} (f : A → Notes) (xs : List A) (i : ℕ) (old mid new : List Item) (last whole : Notes)
    → ((rest : List Item) → mid ++ each f (drop i xs) (last rest) ≡ old ++ whole rest) → length xs ≤ i → Adds mid new last → Adds old new whole
after_loop f xs i old mid new last whole so_far at_end h = record {
  adds = λ rest. h.adds rest ∙ ap (λ (left : List _). mid ++ each f left (last rest)) (sym (drop_all i xs at_end)) ∙ so_far rest;
}

pub at_some : {A : Type 0} (f : A → Notes) (o : Option A) (x : A) (old new : List Item) → o ≡ Some x → Adds old new (f x) → Adds old new (maybe f o)
at_some f o x old new is h = subst (λ (p : Option _). Adds old new (maybe f p)) (sym is) h
