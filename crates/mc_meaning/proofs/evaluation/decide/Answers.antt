use Rattle.std.proofs.Common.{ap, ℕ, ◌∙◌, ◌∷◌}
use Rattle.mc_meaning.specs.declared.process.Item.TheVariants.{Evaluates}
use Rattle.mc_meaning.specs.Kept.{configuration_of}
use Rattle.mc_meaning.proofs.EvaluationLaws.{goes-right}
use Rattle.mc_meaning.proofs.evaluation.decide.Goals as goal

-- src/evaluation.rt: the right side is wanted
pub returns-in_ok-push_front-in-Some-Value-clause-ok : goal.returns-in_ok-push_front-in-Some-Value-clause-ok
returns-in_ok-push_front-in-Some-Value-clause-ok c =
    goes-right c.args.program.now (configuration_of c.args.config.now) (configuration_of c.goes_on.new.self) c.args.n c.args.node c.args.q.now c.pop_found.new.self c.in-Some-Value.word c.args.rest.now.items c.push_front.new.self.items
    (rw c.in-Some-Value.field-0-is at c.in-Some-Value.ensures) c.if-is_decided.ensures (c.in_ok-push_front-in-Some-Value.ensures.items ∙ ap (λ (part : ℕ). Evaluates part ∷ c.args.rest.now.items) c.part_at.ensures) c.goes_on.ensures
