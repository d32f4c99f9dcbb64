use Rattle.std.proofs.Common.{◌≡◌, ◌≤◌, ◌+◌, ◌∷◌, [], ◌++◌, ℕ, List, length, take, take_all, subst, sym, ap, ◌∙◌}
use Rattle.std.proofs.lemmas.Grind.{take_at_read}
use Rattle.std.specs.Prelude.{slice_set}
use Rattle.mc_image.specs.declared.image.Block.{Block}
use Rattle.mc_image.specs.Blocks.{end_of}
use Rattle.pdp_def.specs.State.{CoreState}
use Rattle.pdp_machine.specs.Put.{HasBlocks, HasBlocks-none, HasBlocks-more, placed_at, opened_as}
use Rattle.pdp_machine.proofs.opening.open_core.Goals as goal

pub loop-block-init : goal.loop-block-init
loop-block-init c = subst (λ (x : CoreState). HasBlocks [] x) (sym c.in_ok-core.ensures) HasBlocks-none

pub fill-requires : goal.fill-requires
fill-requires c =
    let blocks : List Block = c.blocks-block-items.result.now in
    let b : Block = c.block-item.result in
    let placed = placed_at blocks c.loop-block.block-index b c.blocks-block-items.ensures.placed c.loop-block-test.true in
    let here = subst (λ (x : Block). end_of x ≤ 57344) (sym c.block-item.is) placed.1 in
    subst (λ (l : List ℕ). b.address + length l ≤ 57344) (sym c.as_slice.ensures) here

pub loop-block-preserved : goal.loop-block-preserved
loop-block-preserved c =
    let blocks : List Block = c.blocks-block-items.result.now in
    let b : Block = c.block-item.result in
    let i : ℕ = c.loop-block.block-index in
    let more = HasBlocks-more (take i blocks) b c.loop-block.core c.fill.new.self c.loop-block.invariant c.fill.ensures.rest c.fill.ensures.length (rw c.as_slice.ensures at c.fill.ensures.bytes) in
    let parts = (take_at_read blocks i b c.loop-block-test.true).1 ∙ ap (λ (x : Block). take i blocks ++ x ∷ []) (sym c.block-item.is) in
    subst (λ (l : List Block). HasBlocks l c.fill.new.self) (sym parts) more

pub returns : goal.returns
returns c =
    let blocks : List Block = c.blocks-block-items.result.now in
    let i : ℕ = c.loop-block.block-index in
    let all : take i blocks ≡ c.args.image.now.blocks = take_all i blocks c.loop-block-test.false ∙ c.blocks-block-items.ensures.value in
    let has = subst (λ (l : List Block). HasBlocks l c.loop-block.core) all c.loop-block.invariant in
    c.set_register.ensures ∙ ap (λ (s : ℕ). let x : CoreState = record c.loop-block.core { registers = slice_set c.loop-block.core.registers 7 s } in x) c.start.ensures.value ∙ opened_as c.args.image.now.blocks c.loop-block.core c.args.image.now.start has
