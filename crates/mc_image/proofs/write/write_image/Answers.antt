use Rattle.std.proofs.Common.{◌≡◌, ◌%◌, ℕ, List, ◌++◌, length, sym, ◌∙◌, ap, subst, arith}
use Rattle.mc_image.specs.declared.image.Block.{Block}
use Rattle.mc_image.specs.Blocks.{IsPlaced, AreBlocks}
use Rattle.mc_image.specs.Laws.{image_bytes-is}
use Rattle.std.specs.List.{flat_map}
use Rattle.std.proofs.lemmas.List.{take_all}
use Rattle.mc_image.specs.Image.{ImageState}
use Rattle.mc_image.specs.Format.{start_bytes, data_bytes, image_bytes, IsImage}
use Rattle.mc_image.proofs.Reading.{placed_at}
use Rattle.mc_image.proofs.write.write_image.Goals as goal

pub put_block-requires : goal.put_block-requires
put_block-requires c =
    let p : IsPlaced c.block-item.result = subst (λ (b : Block). IsPlaced b) (sym c.block-item.is) (placed_at c.blocks-block-items.result.now c.loop-block.block-index c.block-item.result c.loop-block-test.true c.blocks-block-items.ensures.placed) in
    omega (arith, p.1, ap length c.as_slice.ensures)

pub returns-clause-reads_back : goal.returns-clause-reads_back
returns-clause-reads_back c =
    let image : ImageState = c.args.image.now in
    let all : c.loop-block.out.items ≡ flat_map data_bytes image.blocks =
    c.loop-block.invariant ∙ ap (λ (l : List Block). flat_map data_bytes l) (take_all c.loop-block.block-index c.blocks-block-items.result.now c.loop-block-test.false ∙ c.blocks-block-items.ensures.value) in
    let written : c.put_block-2.new.out.items ≡ image_bytes image =
    c.in_ok-put_block-2.ensures ∙ (ap (λ (l : List ℕ). l ++ start_bytes c.start.result) all ∙ ap (λ (s : ℕ). flat_map data_bytes image.blocks ++ start_bytes s) c.start.ensures.value) in
    let placed : AreBlocks image.blocks = subst (λ (l : List Block). AreBlocks l) c.blocks-block-items.ensures.value c.blocks-block-items.ensures.placed in
    let even : image.start % 2 ≡ 0 = ap (λ (s : ℕ). s % 2) (sym c.start.ensures.value) ∙ c.start.ensures.even in
    subst (λ (l : List ℕ). IsImage l image) (sym written) (image_bytes-is image placed even)
