-- What a walk through a part of the tree does to the items so far.
use Rattle.std.specs.Prelude.{◌≡◌, List, ◌++◌}
use Rattle.mc_prog.specs.Notes.{Notes, Item}

-- The new items are the old ones and then what these notes put in front of a rest.
pub record Adds (old new : List Item) (notes : Notes) : Type 0 where
  pub adds : (rest : List Item) → new ++ rest ≡ old ++ notes rest
