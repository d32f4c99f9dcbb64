use Rattle.std.proofs.Common.{ℕ, List, [], refl, arith}
use Rattle.std.specs.Prelude.{codes}
use Rattle.mc_shelf.specs.Outside.{View}
use Rattle.mc_driver.specs.Refusal.{IsSaid}
use Rattle.mc_driver.specs.Stages.{AsksNothing}
use Rattle.mc_driver.specs.CheckAnswer.{AfterChecking, passes}
use Rattle.mc_driver.proofs.Asking.{begins_none}
use Rattle.mc_driver.proofs.Endings.{says_ends, ends_as}
use Rattle.mc_driver.proofs.Refused.{check_refused}
use Rattle.mc_driver.proofs.check.check_source.Goals as goal

pub returns-in-Ok : goal.returns-in-Ok
returns-in-Ok g c =
    let source : List ℕ = c.args.source.now in
    says_ends _ _ [] (λ files. AsksNothing (AfterChecking source)) (codes "ok\n") 0 _ (λ e. omega arith) c.say.ensures
    (λ files told. (refl, passes c.in-Ok.ensures.ok.0 c.in-Ok.ensures.ok.1 (refl, refl)))

pub returns-in-Err : goal.returns-in-Err
returns-in-Err g c =
    let S = g.S.Shelf in
    let v : View = S.seen c.args.shelf.now in
    let w : View = S.seen c.refuse.new.shelf in
    let source : List ℕ = c.args.source.now in
    ends_as v w [] [] (λ files. AsksNothing (IsSaid c.in-Err.refusal)) (λ files. AsksNothing (AfterChecking source)) c.refuse.result c.refuse.ensures
    (λ files told some status text said. (said.0, check_refused source c.in-Err.refusal status text c.in-Err.ensures.refused said.1))
    (λ files told all status text a. begins_none all)
