-- Blocks are put into memory, one after the other.
use Rattle.std.specs.Prelude.{◌≡◌, ℕ, suc, zero, ◌<◌, ◌/◌, ◌%◌, ◌==◌, Bool, true, if◌then◌else◌, List, [], ◌∷◌, ◌++◌, length, false, slice_index_or, slice_set, refl}
use Rattle.std.proofs.Common.{sym, ap, ◌∙◌, arith}
use Rattle.mc_image.specs.declared.image.Block.{Block}
use Rattle.mc_image.specs.Blocks.{AreBlocks, IsPlaced}
use Rattle.pdp_def.specs.State.{CoreState, byte_of, no_words, no_words-at, length-no_words}
use Rattle.pdp_def.specs.Bytes.{IsPatched}
use Rattle.pdp_def.specs.Laws.{core_of}
use Rattle.pdp_machine.specs.Opening.{byte_with, byte_with-append, image_memory, image_memory-is}

-- the memory of a processor whose other parts are as at opening, after these blocks were put
pub record HasBlocks (blocks : List Block) (c : CoreState) : Type 0 where
  pub registers : c.registers ≡ no_words 8
  pub ps : c.ps ≡ 0
  pub runs : c.waiting ≡ false
  pub length : length c.memory ≡ 28672
  pub bytes : (a : ℕ) → a < 57344 → byte_of c.memory a ≡ byte_with blocks a 0

half_of_nothing : (a : ℕ) → (if a % 2 == 0 then 0 % 256 else 0 / 256) ≡ 0
half_of_nothing a = go (a % 2 == 0)
  where
    go : (b : Bool) → (if b then 0 % 256 else 0 / 256) ≡ 0
    go true = refl
    go false = refl

pub HasBlocks-none : HasBlocks [] (record { registers = no_words 8; ps = 0; waiting = false; memory = no_words 28672 })
HasBlocks-none =
    record {
      registers = refl;
      ps = refl;
      runs = refl;
      length = length-no_words 28672;
      bytes = λ a h. let e = no_words-at 28672 (a / 2) (omega arith) in rw e (half_of_nothing a);
    }

pub HasBlocks-more : (blocks : List Block) (b : Block) (c c' : CoreState) → HasBlocks blocks c → c' ≡ record c { memory = c'.memory } → length c'.memory ≡ length c.memory → IsPatched (length b.bytes) b.bytes b.address c.memory c'.memory → HasBlocks (blocks ++ b ∷ []) c'
HasBlocks-more blocks b c c' h same len patched =
    record {
      registers = ap (λ (x : CoreState). x.registers) same ∙ h.registers;
      ps = ap (λ (x : CoreState). x.ps) same ∙ h.ps;
      runs = ap (λ (x : CoreState). x.waiting) same ∙ h.runs;
      length = len ∙ h.length;
      bytes = λ a k. patched a k ∙ ap (λ (old : ℕ). byte_with (b ∷ []) a old) (h.bytes a k) ∙ sym (byte_with-append blocks (b ∷ []) a 0);
    }

-- each of the blocks lies in memory
pub placed_at : (blocks : List Block) (i : ℕ) (d : Block) → AreBlocks blocks → i < length blocks → IsPlaced (slice_index_or blocks i d)
placed_at [] i d h k = absurd (omega arith)
placed_at (b ∷ blocks) zero d h k = h.0
placed_at (b ∷ blocks) (suc i) d h k = placed_at blocks i d h.2 (omega arith)

-- the processor at opening
pub opened_as : (blocks : List Block) (c : CoreState) (start : ℕ) → HasBlocks blocks c → record c { registers = slice_set c.registers 7 start } ≡ core_of 0 0 0 0 0 0 0 start 0 (image_memory 28672 blocks)
unfolding no_words
opened_as blocks c start h =
    let m = image_memory-is c.memory blocks 28672 h.length h.bytes in
    let step1 : record c { registers = slice_set c.registers 7 start } ≡ core_of 0 0 0 0 0 0 0 start 0 c.memory = rw (h.registers, h.ps, h.runs) refl in
    step1 ∙ ap (λ (l : List ℕ). core_of 0 0 0 0 0 0 0 start 0 l) m
