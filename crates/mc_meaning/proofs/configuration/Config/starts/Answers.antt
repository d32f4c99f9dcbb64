use Rattle.std.proofs.Common.{ap, ◌∙◌, ◌∷◌, ◌++◌, [], List, slice_set}
use Rattle.mc_meaning.specs.declared.config.Nested.{Nested}
use Rattle.mc_meaning.specs.declared.words.Words.{Words}
use Rattle.mc_meaning.specs.Calling.{first_words}
use Rattle.mc_meaning.specs.Configuration.{Configuration, Store, all_stored}
use Rattle.mc_meaning.specs.Kept.{configuration_of}
use Rattle.mc_meaning.specs.StoredWords.{words_in}
use Rattle.mc_meaning.proofs.ActionLaws.{on-err}
use Rattle.mc_meaning.proofs.configuration.Config.starts.Goals as goal

-- src/configuration.rt: the processes, then the words and the nest
pub returns-clause-ok : goal.returns-clause-ok
returns-clause-ok c =
    ap (λ (d : Configuration). record d { store = words_in c.put_all.new.self; nest = c.in_ok-nest.nest.items }) c.in_ok-adds_process.ensures.ok
    ∙ ap (λ (s : Store). record (configuration_of c.args.self.now) { store = s; processes = slice_set c.args.self.now.processes.items c.args.n c.args.q.now ++ (c.args.process ∷ []); nest = c.in_ok-nest.nest.items })
    (c.put_all.ensures ∙ (λ i. all_stored ((ap words_in c.adds_process.ensures.store ∙ c.note_all.ensures.same) i) ((c.as_slice-2.ensures.value ∙ c.in_ok-words.ensures) i)))
    ∙ ap (λ (nest : List Nested). record (configuration_of c.args.self.now) { store = all_stored (words_in c.args.self.now.store) (first_words c.args.number 0 c.args.slots.now c.args.arguments.now); processes = slice_set c.args.self.now.processes.items c.args.n c.args.q.now ++ (c.args.process ∷ []); nest = nest }) c.in_ok-nest.ensures

-- src/configuration.rt: the words as they were
pub returns-in_err-note_all-clause-err : goal.returns-in_err-note_all-clause-err
returns-in_err-note_all-clause-err c =
    on-err c.from_residual-in_err-note_all.result _ (ap (λ (s : Store). record (configuration_of c.args.self.now) { store = s }) c.note_all.ensures.same)

pub returns-in_err-adds_process-clause-err : goal.returns-in_err-adds_process-clause-err
returns-in_err-adds_process-clause-err c =
    on-err c.from_residual-in_err-adds_process.result _
    (c.in_err-adds_process.ensures.err ∙ ap (λ (s : Store). record (configuration_of c.args.self.now) { store = s }) c.note_all.ensures.same)
