use Rattle.std.specs.Prelude.{◌≡◌, ◌↔◌, Option, Some}
use Rattle.std.proofs.Common.{subst, sym}
use Rattle.mc_rules.specs.declared.call.Signalling.{Signalling}
use Rattle.mc_rules.specs.Signals.{IsSignallingOf, IsVariableOf}
use Rattle.mc_rules.proofs.SignalLaws.{signalling-is}
use Rattle.mc_rules.proofs.signals.signalling_of.Goals as goal

pub returns : goal.returns
returns c = λ s. subst (λ (o : Option Signalling). (o ≡ Some s) ↔ IsSignallingOf c.args.nodes.now c.args.way c.args.call s) (sym c.placed.ensures)
    (signalling-is c.args.nodes.now c.args.way c.args.call c.variable_at-variable.result
    (subst (λ (o : Option _). (cell : _) → (c.variable_at-variable.result ≡ Some cell) ↔ IsVariableOf c.args.nodes.now o cell) c.signal_of.ensures c.variable_at-variable.ensures) s)
