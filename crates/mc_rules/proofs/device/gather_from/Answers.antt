use Rattle.std.specs.Prelude.{ℕ, Option, OnOk}
use Rattle.std.proofs.Common.{sym, subst}
use Rattle.mc_rules.specs.Following.{HasCallOf}
use Rattle.mc_rules.specs.Gathering.{Adds}
use Rattle.mc_rules.proofs.device.gather_from.Goals as goal

-- src/device.rt: the calls of the body
pub returns-in-Some : goal.returns-in-Some
returns-in-Some c =
    subst (λ (o : Option ℕ). OnOk c.gather.result (Adds (HasCallOf c.args.nodes.now o) c.args.found.now.items c.gather.new.calls.items)) (sym c.in-Some.is) c.gather.ensures
