use Rattle.std.proofs.Common.{◌∙◌, ℕ, List, [], None, refl, subst, arith}
use Rattle.mc_shelf.specs.Outside.{View}
use Rattle.mc_report.specs.Ring.{ring_text}
use Rattle.mc_driver.specs.Outside.{Says}
use Rattle.mc_driver.specs.Refusal.{IsLine}
use Rattle.mc_driver.specs.Stages.{AsksNothing, SavesNothing}
use Rattle.mc_driver.proofs.Endings.{says_ends}
use Rattle.mc_driver.proofs.Saving.{plain_ends, memory_saving}
use Rattle.mc_driver.proofs.generate.generate.Goals as goal

pub returns-in-Ok : goal.returns-in-Ok
returns-in-Ok g c =
    let S = g.S.Shelf in
    let v : View = S.seen c.args.shelf.now in
    let w : View = S.seen c.say.new.shelf in
    let line : List ℕ = ring_text c.args.members in
    let said : Says v line 0 c.say.result w = subst (λ (l : List ℕ). Says v l 0 c.say.result w) (c.as_slice.ensures.value ∙ c.in-Ok.ensures) c.say.ensures in
    plain_ends v w [] (λ files. AsksNothing (IsLine 0 line)) c.say.result
    (says_ends v w [] (λ files. AsksNothing (IsLine 0 line)) line 0 c.say.result (λ e. omega arith) said (λ files told. (refl, (refl, refl))))

pub returns-in-Err : goal.returns-in-Err
returns-in-Err g c = memory_saving _ _ [] None _ (record { files = refl; printed = refl; asked = refl; faults = refl })
