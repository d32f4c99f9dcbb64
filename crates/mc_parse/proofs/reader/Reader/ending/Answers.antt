use Rattle.std.proofs.Common.{◌∙◌, ◌∷◌, arith}
use Rattle.mc_parse.specs.Steps.{past, stops, handed_on}
use Rattle.mc_tree.specs.Grammar.{Take}
use Rattle.mc_tree.specs.Classes.{NameClass, SymbolClass}
use Rattle.mc_parse.proofs.reader.Reader.ending.Goals as goal

pub returns-in_err-end-clause-refused : goal.returns-in_err-end-clause-refused
returns-in_err-end-clause-refused c = handed_on c.from_residual.result c.in_err-end.field-0.0 c.from_residual.ensures.1 (record {
  refuses = λ h stack. c.in_err-end.ensures.refused.refuses h (Take NameClass ∷ Take (SymbolClass c.args.symbol) ∷ stack);
})

pub returns-in_err-name-clause-refused : goal.returns-in_err-name-clause-refused
returns-in_err-name-clause-refused c = handed_on c.from_residual-in_err-name.result c.in_err-name.field-0.0 c.from_residual-in_err-name.ensures.1 (record {
  refuses = λ h stack. c.in_ok-end.ensures.ok.reads (Take NameClass ∷ Take (SymbolClass c.args.symbol) ∷ stack) ∙ stops c.in_err-name.ensures.refused h _ _;
})

pub returns-in_err-mark-clause-refused : goal.returns-in_err-mark-clause-refused
returns-in_err-mark-clause-refused c = handed_on c.from_residual-in_err-mark.result c.in_err-mark.field-0.0 c.from_residual-in_err-mark.ensures.1 (record {
  refuses = λ h stack. c.in_ok-end.ensures.ok.reads (Take NameClass ∷ Take (SymbolClass c.args.symbol) ∷ stack) ∙ past c.in_ok-name.ensures.ok _ _ ∙ stops c.in_err-mark.ensures.refused h _ _;
})

pub returns-clause-shorter : goal.returns-clause-shorter
returns-clause-shorter c = omega (arith, c.in_ok-end.ensures.shorter, c.in_ok-name.ensures.shorter, c.in_ok-mark.ensures.shorter)

pub returns-clause-ok : goal.returns-clause-ok
returns-clause-ok c = record {
  reads = λ stack. c.in_ok-end.ensures.ok.reads (Take NameClass ∷ Take (SymbolClass c.args.symbol) ∷ stack) ∙ past c.in_ok-name.ensures.ok _ _ ∙ past c.in_ok-mark.ensures.ok _ _;
}
