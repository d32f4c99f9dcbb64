-- The first `*)`.
use Rattle.std.specs.Prelude.{◌≡◌, ◌≤◌, ℕ, ◌+◌, length, List, ◌++◌, take, drop, codes}
use Rattle.mc_tree.specs.Spellings.{HasClose}

-- n bytes stand before the first `*)`
pub record ClosesAt (n : ℕ) (bytes : List ℕ) : Type 0 where
  pub within : n + 2 ≤ length bytes
  pub parts : bytes ≡ take n bytes ++ (codes "*)" ++ drop (n + 2) bytes)
  pub first : ¬ HasClose (take n bytes)
