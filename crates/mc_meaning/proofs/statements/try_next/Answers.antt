use Rattle.std.proofs.Common.{ap, ◌∙◌, ℕ, List, slice_get}
use Rattle.mc_meaning.specs.Kept.{configuration_of}
use Rattle.mc_meaning.proofs.EvaluationLaws.{ok-then}
use Rattle.mc_meaning.proofs.LabelLaws.{tried-next}
use Rattle.mc_meaning.proofs.statements.try_next.Goals as goal

-- src/statements.rt
pub returns-in_ok-labels-in-Some-Value-clause-ok : goal.returns-in_ok-labels-in-Some-Value-clause-ok
returns-in_ok-labels-in-Some-Value-clause-ok c =
    ok-then c.try_label.result _ _ (λ step. tried-next c.args.program.now (configuration_of c.args.config.now) (configuration_of c.try_label.new.config) c.args.n c.args.q.now c.pop_found.new.self c.args.node c.args.k c.args.rest.now.items c.in-Some-Value.word c.arms_of.result.now c.in_ok-labels-in-Some-Value.labels.items c.label_at-label.result
    (rw c.in-Some-Value.field-0-is at c.in-Some-Value.ensures) c.arms_of.ensures c.in_ok-labels-in-Some-Value.ensures (c.label_at-label.ensures ∙ ap (λ (ls : List (ℕ × ℕ)). slice_get ls c.args.k) c.as_slice.ensures.value) step) c.try_label.ensures.ok
