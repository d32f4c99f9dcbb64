-- Why bytes are no image: their first fault from the left, with its place. Places count bytes from 0 (own).
use Rattle.std.specs.Prelude.{◌≡◌, ◌≢◌, ℕ, ◌+◌, ◌%◌, ◌<◌, ◌≤◌, ◌⊎◌, List, [], ◌∷◌, ◌++◌, length, sum, replicate}
use Rattle.mc_image.specs.declared.image.Block.{Block}
use Rattle.mc_image.specs.declared.fault.ImageFault.{ImageFault}
use Rattle.mc_image.specs.declared.fault.ImageFault.TheVariants.{BadHeader, Truncated, BadCount, BadSum, OutOfMemoryRange, Overlap, NoStart, Trailing, Memory}
use Rattle.mc_image.specs.Blocks.{end_of, IsPlaced, IsApartFrom, AreBlocks}
use Rattle.mc_image.specs.Format.{word_bytes, frame, start_bytes, Piece, pieces_bytes, blocks_of, data_bytes}

-- The bytes `rest` stand at the place `here`. Either their first byte is neither 000 nor 001, or a 001 is followed by another byte than 000.
abbrev pub HasBadHeader : ℕ → ℕ → List ℕ → Type 0
HasBadHeader at here rest =
    ((b : ℕ) × (left : List ℕ) × (rest ≡ b ∷ left) × (b ≢ 0) × (b ≢ 1) × (at ≡ here))
    ⊎ ((b : ℕ) × (left : List ℕ) × (rest ≡ 1 ∷ b ∷ left) × (b ≢ 0) × (at ≡ here + 1))

-- a block begins, and its six header bytes are not all there
abbrev pub LacksHeader : List ℕ → Type 0
LacksHeader rest = (rest ≡ 1 ∷ []) ⊎ ((left : List ℕ) × (rest ≡ 1 ∷ 0 ∷ left) × (length rest < 6))

-- The bytes begin with the header of a block with this count.
abbrev pub HasHeader : ℕ → List ℕ → Type 0
HasHeader count rest = (left : List ℕ) × (rest ≡ 1 ∷ 0 ∷ word_bytes count ++ left) × (6 ≤ length rest)

-- the count is too small for the header itself
abbrev pub CountsTooFew : List ℕ → Type 0
CountsTooFew rest = (count : ℕ) × HasHeader count rest × (count < 6)

-- the bytes that are counted, or the checksum behind them, are not all there
abbrev pub LacksData : List ℕ → Type 0
LacksData rest = (count : ℕ) × HasHeader count rest × (6 ≤ count) × (length rest < count + 1)

-- the block's bytes do not sum to 0 modulo 256
abbrev pub HasBadSum : List ℕ → Type 0
HasBadSum rest =
    (address : ℕ) × (bytes : List ℕ) × (check : ℕ) × (left : List ℕ)
    × (rest ≡ frame address bytes ++ check ∷ left) × ((sum (frame address bytes) + check) % 256 ≢ 0)

-- The bytes begin with a whole block of data.
abbrev pub BeginsBlock : Block → List ℕ → Type 0
BeginsBlock b rest = (left : List ℕ) × (rest ≡ data_bytes b ++ left) × (b.bytes ≢ [])

-- data beyond the last byte of memory, at 157777 octal
abbrev pub LeavesMemory : List ℕ → Type 0
LeavesMemory rest = (b : Block) × BeginsBlock b rest × (57344 < end_of b)

-- data where data of an earlier block stand
abbrev pub OverlapsData : List Block → List ℕ → Type 0
OverlapsData blocks rest = (b : Block) × BeginsBlock b rest × IsPlaced b × ¬ IsApartFrom b blocks

-- the bytes end, or the start address is odd
abbrev pub LacksStart : List ℕ → Type 0
LacksStart rest = (rest ≡ []) ⊎ ((start : ℕ) × (left : List ℕ) × (rest ≡ start_bytes start ++ left) × (start % 2 ≡ 1))

-- behind the start block and nulls stands another byte than 000
abbrev pub HasTrailing : ℕ → ℕ → List ℕ → Type 0
HasTrailing at here rest =
    (start : ℕ) × (nulls : ℕ) × (b : ℕ) × (left : List ℕ)
    × (rest ≡ start_bytes start ++ (replicate nulls 0 ++ b ∷ left)) × (start % 2 ≡ 0) × (b ≢ 0)
    × (at ≡ here + (length (start_bytes start) + nulls))

-- This fault stands at the front of `rest`, which begins at the place `here`, behind these blocks. Want of memory is no fault of the bytes.
abbrev pub StandsAt : ImageFault → ℕ → List Block → List ℕ → Type 0
StandsAt (BadHeader at) here blocks rest = HasBadHeader at here rest
StandsAt (Truncated at) here blocks rest = (at ≡ here) × (LacksHeader rest ⊎ LacksData rest)
StandsAt (BadCount at) here blocks rest = (at ≡ here) × CountsTooFew rest
StandsAt (BadSum at) here blocks rest = (at ≡ here) × HasBadSum rest
StandsAt (OutOfMemoryRange at) here blocks rest = (at ≡ here) × LeavesMemory rest
StandsAt (Overlap at) here blocks rest = (at ≡ here) × OverlapsData blocks rest
StandsAt NoStart here blocks rest = LacksStart rest
StandsAt (Trailing at) here blocks rest = HasTrailing at here rest
StandsAt Memory here blocks rest = ⊥

-- Nulls and blocks lead up to this fault, and it is the first one.
pub record HasFirstFault (bytes : List ℕ) (fault : ImageFault) : Type 0 where
  pub pieces : List Piece
  pub rest : List ℕ
  pub parts : bytes ≡ pieces_bytes pieces ++ rest
  pub placed : AreBlocks (blocks_of pieces)
  pub stands : StandsAt fault (length (pieces_bytes pieces)) (blocks_of pieces) rest
