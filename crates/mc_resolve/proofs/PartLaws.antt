-- Parts that already stand as what they do to names.
use Rattle.std.specs.Prelude.{◌≡◌, List, [], ◌∷◌, map, refl}
use Rattle.std.proofs.Common.{ap}
use Rattle.mc_tree.specs.declared.tree.After.{After}
use Rattle.mc_prog.specs.Notes.{Notes, Item, each, after, itself}

pub each-map : {A : Type 0} (f : A → Notes) (xs : List A) (rest : List Item) → each itself (map f xs) rest ≡ each f xs rest
each-map f [] rest = refl
each-map f (x ∷ xs) rest = ap (f x) (each-map f xs rest)

pub each-map_after : {A : Type 0} (f : A → Notes) (xs : List (After A)) (rest : List Item)
    → each (after itself) (map (λ (a : After A). record { mark = a.mark; item = f a.item }) xs) rest ≡ each (after f) xs rest
each-map_after f [] rest = refl
each-map_after f (x ∷ xs) rest = ap (f x.item) (each-map_after f xs rest)

pub each-map_by : {A B : Type 0} (g : B → Notes) (f : A → B) (xs : List A) (rest : List Item) → each g (map f xs) rest ≡ each (λ x. g (f x)) xs rest
each-map_by g f [] rest = refl
each-map_by g f (x ∷ xs) rest = ap (g (f x)) (each-map_by g f xs rest)
