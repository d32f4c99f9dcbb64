use Rattle.std.proofs.Common.{ap, ◌∙◌}
use Rattle.mc_meaning.specs.Actions.{released}
use Rattle.mc_meaning.specs.Configuration.{Configuration}
use Rattle.mc_meaning.proofs.actions.release.Goals as goal

-- src/actions.rt
pub returns : goal.returns
returns c = c.removes_waiter.ensures ∙ ap (λ (d : Configuration). released d c.args.waiter) c.goes_on.ensures
