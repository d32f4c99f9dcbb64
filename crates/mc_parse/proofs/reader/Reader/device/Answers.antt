use Rattle.std.proofs.Common.{◌∙◌, ◌∷◌}
use Rattle.mc_parse.specs.Steps.{past, stops, handed_on}
use Rattle.mc_tree.specs.Grammar.{BegunPhrase, Sub}
use Rattle.mc_parse.proofs.reader.Reader.device.Goals as goal

pub returns-in_err-parts-clause-refused : goal.returns-in_err-parts-clause-refused
returns-in_err-parts-clause-refused c = handed_on c.from_residual.result c.in_err-parts.field-0.0 c.from_residual.ensures.1 (record {
  refuses = λ h stack. c.in_err-parts.ensures.refused.refuses h (Sub c.args.depth BegunPhrase ∷ stack);
})

pub returns-in_err-body-clause-refused : goal.returns-in_err-body-clause-refused
returns-in_err-body-clause-refused c = handed_on c.from_residual-in_err-body.result c.in_err-body.field-0.0 c.from_residual-in_err-body.ensures.1 (record {
  refuses = λ h stack. c.in_ok-parts.ensures.ok.reads (Sub c.args.depth BegunPhrase ∷ stack) ∙ stops c.in_err-body.ensures.refused h _ _;
})

pub returns-clause-ok : goal.returns-clause-ok
returns-clause-ok c = record {
  reads = λ stack. c.in_ok-parts.ensures.ok.reads (Sub c.args.depth BegunPhrase ∷ stack) ∙ past c.in_ok-body.ensures.ok _ _;
}
