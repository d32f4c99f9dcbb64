-- What an image says.
use Rattle.std.specs.Prelude.{ℕ, List}
use Rattle.mc_image.specs.declared.image.Block.{Block}

pub record ImageState : Type 0 where
  pub blocks : List Block
  -- the address of the first instruction
  pub start : ℕ
