use Rattle.std.proofs.lemmas.Result.{on_ok_weaker}
use Rattle.mc_prog.specs.Notes.{after}
use Rattle.mc_prog.specs.ExpressionNames.{expr}
use Rattle.mc_prog.specs.StatementNames.{body, elsif}
use Rattle.mc_resolve.proofs.AddsLaws.{after_loop, at_some}
use Rattle.mc_resolve.proofs.statement.+statement.Goals as goal

pub arm-returns : goal.arm-returns
arm-returns t c = on_ok_weaker c.body.result (after_loop (after expr) _ _ _ _ _ _ _ c.loop-next.invariant c.loop-next-test.false) c.body.ensures

pub if_-returns-in-Some : goal.if_-returns-in-Some
if_-returns-in-Some t c =
    on_ok_weaker c.body-in-Some.result (λ h. after_loop elsif _ _ _ _ _ _ _ c.loop-elsif.invariant c.loop-elsif-test.false (at_some (after body) _ _ _ _ c.in-Some.is h)) c.body-in-Some.ensures
