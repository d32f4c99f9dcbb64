use Rattle.std.proofs.Common.{◌∙◌, ◌∷◌, arith}
use Rattle.mc_parse.specs.Steps.{past, stops, handed_on}
use Rattle.mc_tree.specs.Grammar.{ExprPhrase, Sub, Take}
use Rattle.mc_tree.specs.Classes.{NameClass, ReservedClass, SymbolClass}
use Rattle.mc_tree.specs.declared.token.Reserved.TheVariants.{ModuleWord}
use Rattle.mc_tree.specs.declared.token.Symbol.TheVariants.{LeftBracket, RightBracket, Semicolon}
use Rattle.mc_parse.proofs.reader.Reader.device_head.Goals as goal

pub returns-in_err-device_word-clause-refused : goal.returns-in_err-device_word-clause-refused
returns-in_err-device_word-clause-refused c = handed_on c.from_residual.result c.in_err-device_word.field-0.0 c.from_residual.ensures.1 (record {
  refuses = λ h stack. c.in_err-device_word.ensures.refused.refuses h (Take (ReservedClass ModuleWord) ∷ Take NameClass ∷ Take (SymbolClass LeftBracket) ∷ Sub c.args.depth ExprPhrase ∷ Take (SymbolClass RightBracket) ∷ Take (SymbolClass Semicolon) ∷ stack);
})

pub returns-in_err-module_word-clause-refused : goal.returns-in_err-module_word-clause-refused
returns-in_err-module_word-clause-refused c = handed_on c.from_residual-in_err-module_word.result c.in_err-module_word.field-0.0 c.from_residual-in_err-module_word.ensures.1 (record {
  refuses = λ h stack. c.in_ok-device_word.ensures.ok.reads (Take (ReservedClass ModuleWord) ∷ Take NameClass ∷ Take (SymbolClass LeftBracket) ∷ Sub c.args.depth ExprPhrase ∷ Take (SymbolClass RightBracket) ∷ Take (SymbolClass Semicolon) ∷ stack) ∙ stops c.in_err-module_word.ensures.refused h _ _;
})

pub returns-in_err-name-clause-refused : goal.returns-in_err-name-clause-refused
returns-in_err-name-clause-refused c = handed_on c.from_residual-in_err-name.result c.in_err-name.field-0.0 c.from_residual-in_err-name.ensures.1 (record {
  refuses = λ h stack. c.in_ok-device_word.ensures.ok.reads (Take (ReservedClass ModuleWord) ∷ Take NameClass ∷ Take (SymbolClass LeftBracket) ∷ Sub c.args.depth ExprPhrase ∷ Take (SymbolClass RightBracket) ∷ Take (SymbolClass Semicolon) ∷ stack) ∙ past c.in_ok-module_word.ensures.ok _ _ ∙ stops c.in_err-name.ensures.refused h _ _;
})

pub returns-in_err-bracket-clause-refused : goal.returns-in_err-bracket-clause-refused
returns-in_err-bracket-clause-refused c = handed_on c.from_residual-in_err-bracket.result c.in_err-bracket.field-0.0 c.from_residual-in_err-bracket.ensures.1 (record {
  refuses = λ h stack. c.in_ok-device_word.ensures.ok.reads (Take (ReservedClass ModuleWord) ∷ Take NameClass ∷ Take (SymbolClass LeftBracket) ∷ Sub c.args.depth ExprPhrase ∷ Take (SymbolClass RightBracket) ∷ Take (SymbolClass Semicolon) ∷ stack) ∙ past c.in_ok-module_word.ensures.ok _ _ ∙ past c.in_ok-name.ensures.ok _ _ ∙ stops c.in_err-bracket.ensures.refused h _ _;
})

pub returns-in_err-semicolon-clause-refused : goal.returns-in_err-semicolon-clause-refused
returns-in_err-semicolon-clause-refused c = handed_on c.from_residual-in_err-semicolon.result c.in_err-semicolon.field-0.0 c.from_residual-in_err-semicolon.ensures.1 (record {
  refuses = λ h stack. c.in_ok-device_word.ensures.ok.reads (Take (ReservedClass ModuleWord) ∷ Take NameClass ∷ Take (SymbolClass LeftBracket) ∷ Sub c.args.depth ExprPhrase ∷ Take (SymbolClass RightBracket) ∷ Take (SymbolClass Semicolon) ∷ stack) ∙ past c.in_ok-module_word.ensures.ok _ _ ∙ past c.in_ok-name.ensures.ok _ _ ∙ past c.in_ok-bracket.ensures.ok _ _ ∙ stops c.in_err-semicolon.ensures.refused h _ _;
})

pub returns-clause-shorter : goal.returns-clause-shorter
returns-clause-shorter c = omega (arith, c.in_ok-device_word.ensures.shorter, c.in_ok-module_word.ensures.shorter, c.in_ok-name.ensures.shorter, c.in_ok-bracket.ensures.shorter, c.in_ok-semicolon.ensures.shorter)

pub returns-clause-ok : goal.returns-clause-ok
returns-clause-ok c = record {
  reads = λ stack. c.in_ok-device_word.ensures.ok.reads (Take (ReservedClass ModuleWord) ∷ Take NameClass ∷ Take (SymbolClass LeftBracket) ∷ Sub c.args.depth ExprPhrase ∷ Take (SymbolClass RightBracket) ∷ Take (SymbolClass Semicolon) ∷ stack) ∙ past c.in_ok-module_word.ensures.ok _ _ ∙ past c.in_ok-name.ensures.ok _ _ ∙ past c.in_ok-bracket.ensures.ok _ _ ∙ past c.in_ok-semicolon.ensures.ok _ _;
}
