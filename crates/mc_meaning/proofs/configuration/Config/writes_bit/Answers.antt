use Rattle.std.proofs.Common.{ap, ℕ, ◌∙◌}
use Rattle.mc_prog.specs.Values.{truth}
use Rattle.mc_meaning.specs.Access.{after_reading, after_writing, with_bit}
use Rattle.mc_meaning.specs.Configuration.{Configuration}
use Rattle.mc_meaning.specs.Kept.{configuration_of}
use Rattle.mc_meaning.proofs.EvaluationLaws.{err-then, ok-then}
use Rattle.mc_meaning.proofs.WritingLaws.{read-back}
use Rattle.mc_meaning.proofs.configuration.Config.writes_bit.Goals as goal

-- src/configuration.rt: the devices are as they were
pub returns-then-is_err-clause-err : goal.returns-then-is_err-clause-err
returns-then-is_err-clause-err c =
    err-then c.writes-written.result _ _
    (λ e. ap (λ (d : Configuration). record d { devices = c.args.self.now.devices }) (e ∙ c.reads.ensures) ∙ read-back (configuration_of c.args.self.now) c.args.there) c.writes-written.ensures.err

-- src/configuration.rt: the word with the bit
pub returns-else-is_err-clause-ok : goal.returns-else-is_err-clause-ok
returns-else-is_err-clause-ok c =
    ok-then c.writes-written.result _ _
    (λ e. e ∙ ap (λ (d : Configuration). after_writing d c.args.there c.with_bit-whole.result) c.reads.ensures
    ∙ ap (λ (w : ℕ). after_writing (after_reading (configuration_of c.args.self.now) c.args.there) c.args.there w) (c.with_bit-whole.ensures ∙ ap (λ (w : ℕ). with_bit w c.args.i (truth c.args.is_set)) c.word_at.ensures)) c.writes-written.ensures.ok
