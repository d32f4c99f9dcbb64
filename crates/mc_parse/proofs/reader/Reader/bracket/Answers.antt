use Rattle.std.proofs.Common.{◌∙◌, ◌∷◌, sym, subst, arith}
use Rattle.mc_parse.specs.Steps.{past, stops, handed_on}
use Rattle.mc_tree.specs.Grammar.{ExprPhrase, Sub, Take}
use Rattle.mc_tree.specs.Classes.{SymbolClass}
use Rattle.mc_tree.specs.declared.expression.Expr.{Expr}
use Rattle.mc_tree.specs.declared.token.Symbol.TheVariants.{RightBracket}
use Rattle.mc_parse.specs.Slots.{IsBracketRead}
use Rattle.mc_parse.proofs.reader.Reader.bracket.Goals as goal

pub returns-in_err-opening-clause-refused : goal.returns-in_err-opening-clause-refused
returns-in_err-opening-clause-refused c = handed_on c.from_residual.result c.in_err-opening.field-0.0 c.from_residual.ensures.1 (record {
  refuses = λ h stack. c.in_err-opening.ensures.refused.refuses h (Sub c.args.depth ExprPhrase ∷ Take (SymbolClass RightBracket) ∷ stack);
})

pub returns-in_err-value-clause-refused : goal.returns-in_err-value-clause-refused
returns-in_err-value-clause-refused c = handed_on c.from_residual-in_err-value.result c.in_err-value.field-0.0 c.from_residual-in_err-value.ensures.1 (record {
  refuses = λ h stack. c.in_ok-opening.ensures.ok.reads (Sub c.args.depth ExprPhrase ∷ Take (SymbolClass RightBracket) ∷ stack) ∙ stops c.in_err-value.ensures.refused h _ _;
})

pub returns-in_err-closing-clause-refused : goal.returns-in_err-closing-clause-refused
returns-in_err-closing-clause-refused c = handed_on c.from_residual-in_err-closing.result c.in_err-closing.field-0.0 c.from_residual-in_err-closing.ensures.1 (record {
  refuses = λ h stack. c.in_ok-opening.ensures.ok.reads (Sub c.args.depth ExprPhrase ∷ Take (SymbolClass RightBracket) ∷ stack) ∙ past c.in_ok-value.ensures.ok _ _ ∙ stops c.in_err-closing.ensures.refused h _ _;
})

pub returns-clause-shorter : goal.returns-clause-shorter
returns-clause-shorter c = omega (arith, c.in_ok-opening.ensures.shorter, c.in_ok-value.ensures.shorter, c.in_ok-closing.ensures.shorter)

pub returns-clause-ok : goal.returns-clause-ok
returns-clause-ok c = subst (λ (z : Expr). IsBracketRead c.args.self.end c.args.depth c.args.rest.now (record { opening = c.in_ok-opening.opening.item; value = z; closing = c.in_ok-closing.closing.item }) c.in_ok-closing.closing.rest.now) (sym c.into_inner.ensures) (record {
  reads = λ stack. c.in_ok-opening.ensures.ok.reads (Sub c.args.depth ExprPhrase ∷ Take (SymbolClass RightBracket) ∷ stack) ∙ past c.in_ok-value.ensures.ok _ _ ∙ past c.in_ok-closing.ensures.ok _ _;
})
