-- How an image is written: DEC's absolute loader format, in this project's profile.
use Rattle.std.specs.Prelude.{◌≡◌, ℕ, ◌+◌, ◌-◌, ◌/◌, ◌%◌, List, [], ◌∷◌, ◌++◌, length, sum, replicate}
use Rattle.std.specs.List.{flat_map}
use Rattle.mc_image.specs.declared.image.Block.{Block}
use Rattle.mc_image.specs.Blocks.{AreBlocks}
use Rattle.mc_image.specs.Image.{ImageState}

-- a word as two bytes, the low one first
abbrev pub word_bytes : ℕ → List ℕ
word_bytes w = w % 256 ∷ w / 256 ∷ []

-- a block without its checksum: 001, 000, the count of these bytes, the address, and the data
abbrev pub frame : ℕ → List ℕ → List ℕ
frame address bytes = 1 ∷ 0 ∷ word_bytes (6 + length bytes) ++ (word_bytes address ++ bytes)

-- the byte with which bytes sum to 0 modulo 256
abbrev pub checksum : List ℕ → ℕ
checksum bytes = (256 - sum bytes % 256) % 256

-- a block of an address and its data
abbrev pub block_bytes : ℕ → List ℕ → List ℕ
block_bytes address bytes = frame address bytes ++ checksum (frame address bytes) ∷ []

-- the start block: a block without data, whose address is that of the first instruction
abbrev pub start_bytes : ℕ → List ℕ
start_bytes address = block_bytes address []

-- what stands before the start block: null bytes and blocks of data, in any order
pub data Piece : Type 0 where
  Null : Piece
  Data : Block → Piece

abbrev pub piece_bytes : Piece → List ℕ
piece_bytes Null = 0 ∷ []
piece_bytes (Data b) = block_bytes b.address b.bytes

abbrev pub pieces_bytes : List Piece → List ℕ
pieces_bytes pieces = flat_map piece_bytes pieces

-- the blocks of data, in their order
abbrev pub blocks_of : List Piece → List Block
blocks_of [] = []
blocks_of (Null ∷ pieces) = blocks_of pieces
blocks_of (Data b ∷ pieces) = b ∷ blocks_of pieces

-- The bytes are nulls and blocks, the start block, and nulls; the blocks and the start address are the image's.
-- That blocks lie in memory and do not overlap, that there is a start address and it is even, and that nulls alone stand
-- behind the start block, is own.
pub record IsImage (bytes : List ℕ) (image : ImageState) : Type 0 where
  pub pieces : List Piece
  pub nulls : ℕ
  pub parts : bytes ≡ pieces_bytes pieces ++ (start_bytes image.start ++ replicate nulls 0)
  pub blocks : image.blocks ≡ blocks_of pieces
  pub placed : AreBlocks image.blocks
  pub even : image.start % 2 ≡ 0

abbrev pub data_bytes : Block → List ℕ
data_bytes b = block_bytes b.address b.bytes

-- the image without nulls
abbrev pub image_bytes : ImageState → List ℕ
image_bytes image = flat_map data_bytes image.blocks ++ start_bytes image.start
