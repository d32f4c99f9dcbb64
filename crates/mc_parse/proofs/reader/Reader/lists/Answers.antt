use Rattle.std.proofs.Common.{◌∙◌, ◌∷◌}
use Rattle.mc_parse.specs.Steps.{past, stops, handed_on}
use Rattle.mc_tree.specs.Grammar.{Sub, UsesPhrase}
use Rattle.mc_parse.proofs.reader.Reader.lists.Goals as goal

pub returns-in_err-define-clause-refused : goal.returns-in_err-define-clause-refused
returns-in_err-define-clause-refused c = handed_on c.from_residual.result c.in_err-define.field-0.0 c.from_residual.ensures.1 (record {
  refuses = λ h stack. c.in_err-define.ensures.refused.refuses h (Sub c.args.depth UsesPhrase ∷ stack);
})

pub returns-in_err-use_-clause-refused : goal.returns-in_err-use_-clause-refused
returns-in_err-use_-clause-refused c = handed_on c.from_residual-in_err-use_.result c.in_err-use_.field-0.0 c.from_residual-in_err-use_.ensures.1 (record {
  refuses = λ h stack. c.in_ok-define.ensures.ok.reads (Sub c.args.depth UsesPhrase ∷ stack) ∙ stops c.in_err-use_.ensures.refused h _ _;
})

pub returns-clause-ok : goal.returns-clause-ok
returns-clause-ok c = record {
  reads = λ stack. c.in_ok-define.ensures.ok.reads (Sub c.args.depth UsesPhrase ∷ stack) ∙ past c.in_ok-use_.ensures.ok _ _;
}
