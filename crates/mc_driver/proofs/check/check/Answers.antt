use Rattle.std.proofs.Common.{ℕ, List, [], subst}
use Rattle.mc_driver.specs.declared.files.FileKind.TheVariants.{Source}
use Rattle.mc_shelf.specs.Outside.{View}
use Rattle.mc_driver.specs.Outside.{Ends}
use Rattle.mc_driver.specs.Stages.{AsksNothing}
use Rattle.mc_driver.specs.CheckAnswer.{AfterChecking}
use Rattle.mc_driver.proofs.Endings.{not_loaded, after_load}
use Rattle.mc_driver.proofs.check.check.Goals as goal

pub returns-in-Ok : goal.returns-in-Ok
returns-in-Ok g c =
    let S = g.S.Shelf in
    let v : View = S.seen c.args.shelf.now in
    let u : View = S.seen c.load.new.shelf in
    let w : View = S.seen c.check_source.new.shelf in
    let bytes : List ℕ = c.in-Ok.bytes.items in
    after_load v u w Source c.args.source.now bytes [] (λ files b. AsksNothing (AfterChecking b)) c.check_source.result c.in-Ok.ensures.ok
    (subst (λ (b : List ℕ). Ends u [] (λ files. AsksNothing (AfterChecking b)) c.check_source.result w) c.as_slice.ensures.value c.check_source.ensures)

pub returns-in-Err : goal.returns-in-Err
returns-in-Err g c =
    not_loaded _ _ Source c.args.source.now [] (λ files b. AsksNothing (AfterChecking b)) _ c.in-Err.ensures.refused
