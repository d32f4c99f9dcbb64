use Rattle.std.proofs.lemmas.Result.{on_ok_weaker}
use Rattle.mc_prog.specs.DeclarationNames.{declaration}
use Rattle.mc_resolve.proofs.AddsLaws.{after_loop}
use Rattle.mc_resolve.proofs.declaration.local.Goals as goal

pub returns : goal.returns
returns c = on_ok_weaker c.body.result (after_loop declaration _ _ _ _ _ _ _ c.loop-one.invariant c.loop-one-test.false) c.body.ensures
