use Rattle.std.proofs.Common.{[], refl, arith}
use Rattle.std.specs.Prelude.{codes}
use Rattle.mc_driver.specs.Refusal.{IsLine}
use Rattle.mc_driver.specs.Stages.{AsksNothing}
use Rattle.mc_driver.proofs.Endings.{says_ends}
use Rattle.mc_driver.proofs.Saving.{plain_ends}
use Rattle.mc_driver.proofs.command.not_yet.Goals as goal

pub returns : goal.returns
returns g c =
    plain_ends _ _ [] (λ files. AsksNothing (IsLine 15 (codes "not yet words\n"))) _
    (says_ends _ _ [] (λ files. AsksNothing (IsLine 15 (codes "not yet words\n"))) _ 15 _ (λ e. omega arith) c.say.ensures (λ files told. (refl, (refl, refl))))
