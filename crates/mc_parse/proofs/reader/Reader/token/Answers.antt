use Rattle.std.proofs.Common.{subst, sym}
use Rattle.mc_parse.specs.declared.fault.ParseFault.{ParseFault}
use Rattle.mc_parse.specs.Heads.{nothing_there}
use Rattle.mc_parse.specs.Reads.{IsMissed}
use Rattle.mc_parse.specs.TokenLaws.{token_taken, missed}
use Rattle.mc_parse.proofs.reader.Reader.token.Goals as goal

pub returns-in_default-clause-refused : goal.returns-in_default-clause-refused
returns-in_default-clause-refused c = λ class.
    subst (λ (fault : ParseFault). IsMissed c.args.self.end class c.args.rest.now fault) (sym c.unexpected.ensures)
    (missed c.args.self.end class c.args.rest.now (nothing_there class c.args.rest.now c.in_default.ensures.cases))

pub returns-clause-ok : goal.returns-clause-ok
returns-clause-ok c = λ kind first. token_taken c.args.self.end kind c.args.rest.now c.in-Some.token.now c.in-Some.others.now c.in-Some.ensures.cases.0 first
