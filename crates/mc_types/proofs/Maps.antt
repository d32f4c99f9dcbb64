-- A list that grows by what a function gives of each next item.
use Rattle.std.specs.Prelude.{◌≡◌, List, [], ◌∷◌, ◌++◌, map}
use Rattle.std.proofs.Common.{ap, ◌∙◌, sym}
use Rattle.std.proofs.lemmas.List.{map-append}

pub mapped-next : {A B : Type 0} (f : A → B) (done : List B) (past : List A) (x : A) (y : B) → done ≡ map f past → y ≡ f x → done ++ (y ∷ []) ≡ map f (past ++ (x ∷ []))
mapped-next f done past x y so next = ap (λ d. d ++ (y ∷ [])) so ∙ ap (λ z. map f past ++ (z ∷ [])) next ∙ sym (map-append f past (x ∷ []))
