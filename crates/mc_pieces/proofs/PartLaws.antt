-- Parts that already stand as what they add.
use Rattle.std.specs.Prelude.{◌≡◌, ℕ, ◌+◌, ◌<◌, List, [], ◌∷◌, length, map, refl}
use Rattle.std.proofs.Common.{ap, sym, ◌∙◌, add-one, drop, get_or}
use Rattle.std.proofs.Math.Seq.{drop-cons}
use Rattle.mc_tree.specs.declared.tree.After.{After}
use Rattle.mc_prog.specs.Pieces.{Gather, Gathered, each, after, itself}

pub each-map : {A : Type 0} (f : A → Gather) (xs : List A) (g : Gathered) → each itself (map f xs) g ≡ each f xs g
each-map f [] g = refl
each-map f (x ∷ xs) g = each-map f xs (f x g)

pub each-map_after : {A : Type 0} (f : A → Gather) (xs : List (After A)) (g : Gathered)
    → each (after itself) (map (λ (a : After A). record { mark = a.mark; item = f a.item }) xs) g ≡ each (after f) xs g
each-map_after f [] g = refl
each-map_after f (x ∷ xs) g = each-map_after f xs (f x.item g)

pub each-map_by : {A B : Type 0} (h : B → Gather) (f : A → B) (xs : List A) (g : Gathered) → each h (map f xs) g ≡ each (λ x. h (f x)) xs g
each-map_by h f [] g = refl
each-map_by h f (x ∷ xs) g = each-map_by h f xs (h (f x) g)

-- one more of a list
pub each-next : {A : Type 0} (f : A → Gather) (xs : List A) (i : ℕ) (x : A) (g : Gathered) → i < length xs → x ≡ get_or xs i x → each f (drop i xs) g ≡ each f (drop (i + 1) xs) (f x g)
each-next f xs i x g inside is =
    let left : drop i xs ≡ get_or xs i x ∷ drop (i + 1) xs = rw add-one (drop-cons xs i x inside) in
    ap (λ (ys : List _). each f ys g) left ∙ ap (λ y. each f (drop (i + 1) xs) (f y g)) (sym is)
