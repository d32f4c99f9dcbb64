-- Blocks of bytes that can stand in memory together.
use Rattle.std.specs.Prelude.{◌≢◌, ℕ, ◌+◌, ◌≤◌, ◌⊎◌, List, [], ◌∷◌, length}
use Rattle.mc_image.specs.declared.image.Block.{Block}

-- the first address behind a block
abbrev pub end_of : Block → ℕ
end_of b = b.address + length b.bytes

-- a block has bytes, and they lie in memory
abbrev pub IsPlaced : Block → Type 0
IsPlaced b = (b.bytes ≢ []) × (end_of b ≤ 57344)

-- two blocks do not overlap
abbrev pub AreApart : Block → Block → Type 0
AreApart b c = (end_of b ≤ c.address) ⊎ (end_of c ≤ b.address)

abbrev pub IsApartFrom : Block → List Block → Type 0
IsApartFrom b [] = Unit {0}
IsApartFrom b (c ∷ blocks) = AreApart b c × IsApartFrom b blocks

-- blocks that lie in memory, and of which no two overlap
abbrev pub AreBlocks : List Block → Type 0
AreBlocks [] = Unit {0}
AreBlocks (b ∷ blocks) = IsPlaced b × IsApartFrom b blocks × AreBlocks blocks
