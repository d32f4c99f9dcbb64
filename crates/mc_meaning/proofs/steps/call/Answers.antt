use Rattle.mc_meaning.specs.Kept.{configuration_of}
use Rattle.std.proofs.Common.{ap, sym, ◌∙◌, ℕ, slice_get}
use Rattle.mc_prog.specs.declared.program.Form.{Form}
use Rattle.mc_meaning.specs.Calling.{enter_procedure}
use Rattle.mc_meaning.specs.Parts.{form_at}
use Rattle.mc_meaning.specs.Steps.{call_procedure, count_of}
use Rattle.mc_meaning.proofs.EvaluationLaws.{ok-then}
use Rattle.mc_meaning.proofs.steps.call.Goals as goal

-- src/steps.rt
pub returns-in-Some-Procedure-clause-ok : goal.returns-in-Some-Procedure-clause-ok
returns-in-Some-Procedure-clause-ok c =
    ok-then c.enter_procedure.result _ _ (λ step. step
    ∙ ap (λ (count : ℕ). enter_procedure c.args.program.now (configuration_of c.args.config.now) c.args.n c.args.q.now c.in-Some-Procedure.k count c.args.rest.now.items (slice_get c.args.program.now.procedures c.in-Some-Procedure.k)) c.count_of.ensures
    ∙ ap (λ (f : Form). call_procedure c.args.program.now (configuration_of c.args.config.now) c.args.n c.args.q.now (count_of c.args.program.now c.args.node) c.args.rest.now.items f)
    (sym c.in-Some-Procedure.field-0-is ∙ c.in-Some-Procedure.ensures ∙ ap (λ (m : ℕ). form_at c.args.program.now m) c.part_at.ensures)) c.enter_procedure.ensures.ok
