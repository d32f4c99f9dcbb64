use Rattle.std.proofs.Common.{ap, ◌∙◌}
use Rattle.mc_meaning.specs.Configuration.{Store, all_stored}
use Rattle.mc_meaning.specs.Kept.{configuration_of}
use Rattle.mc_meaning.proofs.ActionLaws.{on-err}
use Rattle.mc_meaning.proofs.configuration.Config.binds.Goals as goal

-- src/configuration.rt: the words are written
pub returns-clause-ok : goal.returns-clause-ok
returns-clause-ok c =
    ap (λ (s : Store). record (configuration_of c.args.self.now) { store = s })
    (c.put_all.ensures ∙ (λ i. all_stored (c.note_all.ensures.same i) ((c.as_slice-2.ensures.value ∙ c.in_ok-words.ensures) i)))

-- src/configuration.rt: the words as they were
pub returns-in_err-note_all-clause-err : goal.returns-in_err-note_all-clause-err
returns-in_err-note_all-clause-err c =
    on-err c.from_residual-in_err-note_all.result _ (ap (λ (s : Store). record (configuration_of c.args.self.now) { store = s }) c.note_all.ensures.same)
