use Rattle.std.proofs.Common.{ap, sym, ◌∙◌, drop, ◌+◌}
use Rattle.mc_prog.specs.Pieces.{each, after}
use Rattle.mc_prog.specs.DeclarationPieces.{section}
use Rattle.mc_pieces.proofs.PartLaws.{each-next}
use Rattle.mc_pieces.proofs.declaration.params.Goals as goal

pub loop-next-preserved : goal.loop-next-preserved
loop-next-preserved c =
    ap (each (after section) (drop (c.loop-next.next-index + 1) c.as_slice-next-items.result.now)) (c.in_ok-section-2.ensures)
    ∙ sym (each-next (after section) _ _ _ _ c.loop-next-test.true c.next-item.is)
    ∙ c.loop-next.invariant
