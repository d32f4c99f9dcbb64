-- Items one after the other.
use Rattle.std.specs.Prelude.{◌≡◌, ◌++◌, ◌+◌, List, [], ◌∷◌, length}
use Rattle.std.proofs.Common.{refl, arith}
use Rattle.mc_prog.specs.Notes.{Item}
use Rattle.mc_prog.specs.Scopes.{Before, placed}
use Rattle.mc_resolve.specs.Stands.{with_item}

pub placed-last : (before : Before) (items : List Item) (item : Item) → placed before (items ++ (item ∷ [])) ≡ with_item item (placed before items)
placed-last before [] item = refl
placed-last before (i ∷ items) item = placed-last (with_item i before) items item

pub length-placed : (before : Before) (items : List Item) → length (placed before items) ≡ length items + length before
length-placed before [] = omega arith
length-placed before (i ∷ items) = let more = length-placed (with_item i before) items in omega (arith, more)
