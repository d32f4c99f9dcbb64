use Rattle.std.specs.Prelude.{ℕ}
use Rattle.std.proofs.Common.{subst, sym, ◌∙◌}
use Rattle.mc_rules.specs.Calls.{IsOfVariable}
use Rattle.mc_rules.proofs.SignalLaws.{some-same}
use Rattle.mc_rules.proofs.signals.variable_at.Goals as goal

pub returns-in-Some : goal.returns-in-Some
returns-in-Some c = λ cell. (
  λ e. record { node = c.in-Some.signal; is = c.in-Some.is; variable = (c.variable_of.ensures cell).1 e },
  λ k. (c.variable_of.ensures cell).0 (subst (λ (n : ℕ). IsOfVariable c.args.nodes.now n cell) (sym (some-same c.in-Some.signal k.node (sym c.in-Some.is ∙ k.is))) k.variable),
)
