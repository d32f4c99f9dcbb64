use Rattle.std.specs.Prelude.{Option}
use Rattle.std.proofs.Common.{subst, sym, ap, ◌∙◌}
use Rattle.mc_tree.specs.declared.fault.Fault.{Fault}
use Rattle.mc_tree.specs.declared.place.Place.{Place}
use Rattle.mc_rules.specs.AnyOf.{IsFirstOf}
use Rattle.mc_rules.specs.FirstPlaces.{HasSentFault, sent_fault}
use Rattle.mc_rules.proofs.FirstLaws.{sent-first}
use Rattle.mc_rules.proofs.signals.send_fault.Goals as goal

-- the sending with the first wait on its variable
pub returns : goal.returns
returns c = λ waits are. subst (λ (o : Option Fault). IsFirstOf (HasSentFault waits c.args.send) o)
    (sym (c.sent_fault.ensures ∙ ap (λ (o : Option Place). sent_fault o c.args.send.place) (c.copied.ensures ∙ c.get.ensures.value)))
    (sent-first waits c.args.send _ (are c.args.send.variable))
