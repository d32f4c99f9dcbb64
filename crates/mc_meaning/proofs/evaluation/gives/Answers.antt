use Rattle.std.proofs.Common.{ap, ℕ, ◌∙◌}
use Rattle.mc_meaning.specs.Actions.{trapped}
use Rattle.mc_meaning.specs.Kept.{configuration_of}
use Rattle.mc_meaning.proofs.evaluation.gives.Goals as goal

-- src/evaluation.rt: a trap
pub returns-in-Err-clause-ok : goal.returns-in-Err-clause-ok
returns-in-Err-clause-ok c = rw c.in-Err.is (c.traps.ensures ∙ ap (λ (k : ℕ). trapped (configuration_of c.args.config.now) k) c.trap_number.ensures)
