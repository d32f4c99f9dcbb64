use Rattle.std.proofs.Common.{◌≡◌, length, sym, subst, ap, arith, inl, inr, get_or, take, add-one, ℕ}
use Rattle.mc_image.specs.declared.image.Block.{Block}
use Rattle.mc_image.specs.Blocks.{AreApart, IsApartFrom}
use Rattle.mc_image.proofs.Reading.{apart_more, apart_at}
use Rattle.mc_image.proofs.read.is_apart.Goals as goal
use Rattle.mc_image.proofs.read.is_apart.Goals.{else-end-other-via-then-end-other+else-other-as_slice, else-end-other-via-else-end-other}

pub returns-then-other-as_slice : goal.returns-then-other-as_slice
returns-then-other-as_slice c = λ h.
    let b : Block = record { address = c.args.address; bytes = c.args.bytes.now } in
    let a : AreApart b c.block-item.result = subst (λ (x : Block). AreApart b x) (sym c.block-item.is) (apart_at b c.args.blocks.now c.loop-block.block-index c.block-item.result c.loop-block-test.true h) in
    let same : length c.as_slice.result.now ≡ length c.block-item.result.bytes = ap length c.as_slice.ensures in
    elim a [ inl e ↦ absurd (omega arith) | inr e ↦ absurd (omega arith) ]

pub loop-block-preserved : goal.loop-block-preserved
loop-block-preserved c =
    let b : Block = record { address = c.args.address; bytes = c.args.bytes.now } in
    let a : AreApart b c.block-item.result =
    elim c.else-end-other.branch [
      | else-end-other-via-then-end-other+else-other-as_slice w ↦ inr (omega (arith, ap length w.as_slice.ensures))
      | else-end-other-via-else-end-other w ↦ inl (omega arith)
    ] in
    let here : AreApart b (get_or c.args.blocks.now c.loop-block.block-index c.block-item.result) = subst (λ (x : Block). AreApart b x) c.block-item.is a in
    subst (λ (n : ℕ). IsApartFrom b (take n c.args.blocks.now)) (sym (add-one c.loop-block.block-index))
    (apart_more b c.args.blocks.now c.loop-block.block-index c.block-item.result c.loop-block-test.true c.loop-block.invariant here)
