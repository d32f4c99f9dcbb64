use Rattle.std.specs.Prelude.{◌⊎◌}
use Rattle.mc_rules.specs.RuleFaults.{IsDeclaredFault, IsDeviceFault, IsTextsFault}
use Rattle.mc_rules.proofs.AnyLaws.{first-either}
use Rattle.mc_rules.proofs.first_fault.Goals as goal

pub returns : goal.returns
returns c =
    let p = c.args.program.now in
    first-either (IsTextsFault p) (λ f. IsDeclaredFault p f ⊎ IsDeviceFault p f) c.in_ok-texts.texts c.earlier.result c.earlier-2.result
    c.in_ok-texts.ensures
    (first-either (IsDeclaredFault p) (IsDeviceFault p) c.in_ok-declared.declared c.in_ok-device.device c.earlier.result c.in_ok-declared.ensures c.in_ok-device.ensures c.earlier.ensures)
    c.earlier-2.ensures
