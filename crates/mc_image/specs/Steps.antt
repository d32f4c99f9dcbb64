-- How far an image is read.
use Rattle.std.specs.Prelude.{◌≡◌, ℕ, ◌≤◌, ◌<◌, ◌⊎◌, List, ◌∷◌, ◌++◌, length, drop}
use Rattle.mc_image.specs.declared.image.Block.{Block}
use Rattle.mc_image.specs.declared.fault.ImageFault.{ImageFault}
use Rattle.mc_image.specs.declared.fault.ImageFault.TheVariants.{Memory}
use Rattle.mc_image.specs.Blocks.{AreBlocks}
use Rattle.mc_image.specs.Format.{word_bytes, Piece, pieces_bytes, blocks_of}
use Rattle.mc_image.specs.Faults.{StandsAt, HasFirstFault}

-- The bytes before the place `at` are nulls and these blocks.
pub record IsRead (at : ℕ) (blocks : List Block) (bytes : List ℕ) : Type 0 where
  pub pieces : List Piece
  pub parts : bytes ≡ pieces_bytes pieces ++ drop at bytes
  pub place : length (pieces_bytes pieces) ≡ at
  pub taken : blocks ≡ blocks_of pieces
  pub placed : AreBlocks blocks

-- The header of a block with this count and address, with all bytes that are counted and a checksum behind it.
pub record IsHeaded (count address : ℕ) (rest : List ℕ) : Type 0 where
  pub low : 6 ≤ count
  pub within : count < length rest
  pub parts : rest ≡ 1 ∷ 0 ∷ word_bytes count ++ (word_bytes address ++ drop 6 rest)

-- want of memory, or the fault that stands there
abbrev pub MayStand : ImageFault → ℕ → List Block → List ℕ → Type 0
MayStand fault here blocks rest = (fault ≡ Memory) ⊎ StandsAt fault here blocks rest

-- want of memory, or the first fault of the bytes
abbrev pub IsRefusal : ImageFault → List ℕ → Type 0
IsRefusal fault bytes = (fault ≡ Memory) ⊎ HasFirstFault bytes fault
