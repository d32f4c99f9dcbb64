use Rattle.std.proofs.Common.{subst, sym}
use Rattle.mc_tree.specs.Classes.{ReservedClass}
use Rattle.mc_parse.specs.declared.fault.ParseFault.{ParseFault}
use Rattle.mc_parse.specs.Reads.{IsMissed}
use Rattle.mc_parse.specs.TokenLaws.{word_taken, missed}
use Rattle.mc_parse.proofs.reader.Reader.word.Goals as goal

pub returns-then-not-sees_word-clause-refused : goal.returns-then-not-sees_word-clause-refused
returns-then-not-sees_word-clause-refused c =
    subst (λ (fault : ParseFault). IsMissed c.args.self.end (ReservedClass c.args.word) c.args.rest.now fault) (sym c.unexpected.ensures)
    (missed c.args.self.end (ReservedClass c.args.word) c.args.rest.now c.if-not-sees_word.ensures.no)

pub returns-clause-ok : goal.returns-clause-ok
returns-clause-ok c = word_taken c.args.self.end c.args.word c.args.rest.now c.in-Some.token.now c.in-Some.others.now c.in-Some.ensures.cases.0 c.if-not-sees_word.ensures.yes
