use Rattle.mc_meaning.specs.Kept.{configuration_of}
use Rattle.std.proofs.Common.{ap, sym, ◌∙◌, ℕ, slice_get}
use Rattle.mc_prog.specs.declared.program.Form.{Form}
use Rattle.mc_meaning.specs.Actions.{start}
use Rattle.mc_meaning.specs.Parts.{form_at}
use Rattle.mc_meaning.specs.Steps.{count_of, start_process}
use Rattle.mc_meaning.proofs.EvaluationLaws.{ok-then}
use Rattle.mc_meaning.proofs.steps.start_process.Goals as goal

-- src/steps.rt
pub returns-in-Some-Process-clause-ok : goal.returns-in-Some-Process-clause-ok
returns-in-Some-Process-clause-ok c =
    ok-then c.start.result _ _ (λ step. step
    ∙ ap (λ (count : ℕ). start c.args.program.now (configuration_of c.args.config.now) c.args.n c.args.q.now c.in-Some-Process.k count c.args.rest.now.items (slice_get c.args.program.now.processes c.in-Some-Process.k)) c.count_of.ensures
    ∙ ap (λ (f : Form). start_process c.args.program.now (configuration_of c.args.config.now) c.args.n c.args.q.now (count_of c.args.program.now c.args.node) c.args.rest.now.items f)
    (sym c.in-Some-Process.field-0-is ∙ c.in-Some-Process.ensures ∙ ap (λ (m : ℕ). form_at c.args.program.now m) c.part_at.ensures)) c.start.ensures.ok
