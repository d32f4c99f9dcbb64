use Rattle.std.proofs.Common.{◌≡◌, sym, subst, true}
use Rattle.mc_meaning.specs.declared.store.Name.{Name}
use Rattle.mc_meaning.specs.Configuration.{stored}
use Rattle.mc_meaning.specs.StoredWords.{noted_under, words_in, word_under}
use Rattle.mc_meaning.proofs.StoreLaws.{put-private, put-variable, private-kept, private-noted, variable-kept, variable-noted}
use Rattle.mc_meaning.proofs.words.Words.put.Goals as goal

-- src/words.rt: a word of a variable
pub returns-in_ok-insert-in-Variable-clause-ok : goal.returns-in_ok-insert-in-Variable-clause-ok
returns-in_ok-insert-in-Variable-clause-ok c =
    subst (λ (name : Name). word_under c.insert.new.self c.args.self.now.privates ≡ stored (words_in c.args.self.now) name c.args.word) (sym c.in-Variable.is)
    (put-variable c.args.self.now.variables c.insert.new.self c.args.self.now.privates c.in-Variable.cell c.in-Variable.at c.args.word c.in_ok-insert-in-Variable.ensures.updates.0)

pub returns-in_ok-insert-in-Variable-clause-noted : goal.returns-in_ok-insert-in-Variable-clause-noted
returns-in_ok-insert-in-Variable-clause-noted c =
    subst (λ (name : Name). noted_under c.insert.new.self c.args.self.now.privates name ≡ true) (sym c.in-Variable.is)
    (variable-noted c.args.self.now.variables c.insert.new.self c.args.self.now.privates c.in-Variable.cell c.in-Variable.at c.args.word c.in_ok-insert-in-Variable.ensures.updates.0)

pub returns-in_ok-insert-in-Variable-clause-kept : goal.returns-in_ok-insert-in-Variable-clause-kept
returns-in_ok-insert-in-Variable-clause-kept c =
    variable-kept c.args.self.now.variables c.insert.new.self c.args.self.now.privates c.in-Variable.cell c.in-Variable.at c.args.word c.in_ok-insert-in-Variable.ensures.updates.0

-- src/words.rt: a word of an activation
pub returns-in_ok-insert-in-Private-clause-ok : goal.returns-in_ok-insert-in-Private-clause-ok
returns-in_ok-insert-in-Private-clause-ok c =
    subst (λ (name : Name). word_under c.args.self.now.variables c.insert-in-Private.new.self ≡ stored (words_in c.args.self.now) name c.args.word) (sym c.in-Private.is)
    (put-private c.args.self.now.variables c.args.self.now.privates c.insert-in-Private.new.self c.in-Private.process c.in-Private.activation c.in-Private.slot c.in-Private.at c.args.word c.in_ok-insert-in-Private.ensures.updates.0)

pub returns-in_ok-insert-in-Private-clause-noted : goal.returns-in_ok-insert-in-Private-clause-noted
returns-in_ok-insert-in-Private-clause-noted c =
    subst (λ (name : Name). noted_under c.args.self.now.variables c.insert-in-Private.new.self name ≡ true) (sym c.in-Private.is)
    (private-noted c.args.self.now.variables c.args.self.now.privates c.insert-in-Private.new.self c.in-Private.process c.in-Private.activation c.in-Private.slot c.in-Private.at c.args.word c.in_ok-insert-in-Private.ensures.updates.0)

pub returns-in_ok-insert-in-Private-clause-kept : goal.returns-in_ok-insert-in-Private-clause-kept
returns-in_ok-insert-in-Private-clause-kept c =
    private-kept c.args.self.now.variables c.args.self.now.privates c.insert-in-Private.new.self c.in-Private.process c.in-Private.activation c.in-Private.slot c.in-Private.at c.args.word c.in_ok-insert-in-Private.ensures.updates.0
