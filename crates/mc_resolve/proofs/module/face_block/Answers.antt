use Rattle.std.proofs.lemmas.Result.{on_ok_weaker}
use Rattle.mc_prog.specs.Names.{face_one}
use Rattle.mc_resolve.proofs.AddsLaws.{after_loop}
use Rattle.mc_resolve.proofs.module.face_block.Goals as goal

pub returns : goal.returns
returns c = on_ok_weaker c.begun.result (after_loop face_one _ _ _ _ _ _ _ c.loop-part.invariant c.loop-part-test.false) c.begun.ensures
