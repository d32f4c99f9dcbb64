use Rattle.std.proofs.Common.{◌∙◌, ◌∷◌, arith}
use Rattle.mc_parse.specs.Steps.{past, stops, handed_on}
use Rattle.mc_tree.specs.Grammar.{StatementPhrase, StatementsPhrase, Sub, Take}
use Rattle.mc_tree.specs.Classes.{ReservedClass}
use Rattle.mc_tree.specs.declared.token.Reserved.TheVariants.{BeginWord}
use Rattle.mc_parse.proofs.reader.Reader.local.Goals as goal

pub returns-in_err-declarations-clause-refused : goal.returns-in_err-declarations-clause-refused
returns-in_err-declarations-clause-refused c = handed_on c.from_residual.result c.in_err-declarations.field-0.0 c.from_residual.ensures.1 (record {
  refuses = λ h stack. c.in_err-declarations.ensures.refused.refuses h (Take (ReservedClass BeginWord) ∷ Sub c.args.depth StatementPhrase ∷ Sub c.args.depth StatementsPhrase ∷ stack);
})

pub returns-in_err-begin-clause-refused : goal.returns-in_err-begin-clause-refused
returns-in_err-begin-clause-refused c = handed_on c.from_residual-in_err-begin.result c.in_err-begin.field-0.0 c.from_residual-in_err-begin.ensures.1 (record {
  refuses = λ h stack. c.in_ok-declarations.ensures.ok.reads (Take (ReservedClass BeginWord) ∷ Sub c.args.depth StatementPhrase ∷ Sub c.args.depth StatementsPhrase ∷ stack) ∙ stops c.in_err-begin.ensures.refused h _ _;
})

pub returns-in_err-body-clause-refused : goal.returns-in_err-body-clause-refused
returns-in_err-body-clause-refused c = handed_on c.from_residual-in_err-body.result c.in_err-body.field-0.0 c.from_residual-in_err-body.ensures.1 (record {
  refuses = λ h stack. c.in_ok-declarations.ensures.ok.reads (Take (ReservedClass BeginWord) ∷ Sub c.args.depth StatementPhrase ∷ Sub c.args.depth StatementsPhrase ∷ stack) ∙ past c.in_ok-begin.ensures.ok _ _ ∙ stops c.in_err-body.ensures.refused h _ _;
})

pub returns-clause-shorter : goal.returns-clause-shorter
returns-clause-shorter c = omega (arith, c.in_ok-declarations.ensures.within, c.in_ok-begin.ensures.shorter, c.in_ok-body.ensures.within)

pub returns-clause-ok : goal.returns-clause-ok
returns-clause-ok c = record {
  reads = λ stack. c.in_ok-declarations.ensures.ok.reads (Take (ReservedClass BeginWord) ∷ Sub c.args.depth StatementPhrase ∷ Sub c.args.depth StatementsPhrase ∷ stack) ∙ past c.in_ok-begin.ensures.ok _ _ ∙ past c.in_ok-body.ensures.ok _ _;
}
