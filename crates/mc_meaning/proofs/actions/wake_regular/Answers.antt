use Rattle.std.proofs.Common.{ap, ◌∙◌, Some}
use Rattle.mc_meaning.specs.declared.process.State.TheVariants.{Acting, Ready}
use Rattle.mc_meaning.specs.Actions.{set_state}
use Rattle.mc_meaning.specs.Configuration.{Configuration}
use Rattle.mc_meaning.proofs.actions.wake_regular.Goals as goal

-- src/actions.rt: the receiver acts in the sender's place
pub returns : goal.returns
returns c =
    c.sets_state-2.ensures ∙ ap (λ (d : Configuration). set_state d c.args.n Ready)
    (c.sets_state.ensures ∙ ap (λ (d : Configuration). set_state d c.args.waiter Acting)
    (c.puts_at_foot.ensures ∙ ap (λ (d : Configuration). record d { foot = Some c.args.waiter }) c.release.ensures))
