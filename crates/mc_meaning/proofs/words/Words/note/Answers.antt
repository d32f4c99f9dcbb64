use Rattle.std.proofs.Common.{◌∙◌, ap, ℕ}
use Rattle.mc_meaning.specs.Configuration.{stored}
use Rattle.mc_meaning.specs.StoredWords.{words_in}
use Rattle.mc_meaning.proofs.EvaluationLaws.{either-way}
use Rattle.mc_meaning.proofs.StoreLaws.{stored-same}
use Rattle.mc_meaning.proofs.words.Words.note.Goals as goal

-- src/words.rt: the word as it was
pub returns-clause-same : goal.returns-clause-same
returns-clause-same c =
    either-way c.put.result _ _ (λ step. step ∙ ap (λ (w : ℕ). stored (words_in c.args.self.now) c.args.name w) c.get.ensures ∙ stored-same (words_in c.args.self.now) c.args.name) c.put.ensures.ok c.put.ensures.err
