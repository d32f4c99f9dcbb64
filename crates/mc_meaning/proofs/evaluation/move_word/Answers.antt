use Rattle.std.proofs.Common.{ap, ℕ, ◌∙◌}
use Rattle.mc_meaning.specs.Configuration.{Configuration, stored}
use Rattle.mc_meaning.specs.Kept.{configuration_of}
use Rattle.mc_meaning.specs.Steps.{goes_on}
use Rattle.mc_meaning.proofs.evaluation.move_word.Goals as goal

-- src/evaluation.rt
pub returns-clause-ok : goal.returns-clause-ok
returns-clause-ok c =
    c.goes_on.ensures ∙ ap (λ (d : Configuration). goes_on d c.args.n c.args.q.now c.args.q.now.found c.args.rest.now.items)
    (c.in_ok-put_word.ensures.ok ∙ ap (λ (w : ℕ). record (configuration_of c.args.config.now) { store = stored (configuration_of c.args.config.now).store c.args.to w }) c.moved_word.ensures)
