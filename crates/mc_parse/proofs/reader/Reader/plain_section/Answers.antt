use Rattle.std.proofs.Common.{◌∙◌, arith}
use Rattle.mc_parse.specs.Steps.{past, stops, handed_on}
use Rattle.mc_parse.specs.Begins.{section_as_ids}
use Rattle.mc_parse.proofs.reader.Reader.plain_section.Goals as goal

pub returns-in_err-names-clause-refused : goal.returns-in_err-names-clause-refused
returns-in_err-names-clause-refused c = handed_on c.from_residual.result c.in_err-names.field-0.0 c.from_residual.ensures.1 (record {
  refuses = λ h stack. section_as_ids c.args.self.end c.args.depth stack c.args.rest.now c.requires.no_const c.requires.no_var ∙ stops c.in_err-names.ensures.refused h _ _;
})

pub returns-in_err-colon-clause-refused : goal.returns-in_err-colon-clause-refused
returns-in_err-colon-clause-refused c = handed_on c.from_residual-in_err-colon.result c.in_err-colon.field-0.0 c.from_residual-in_err-colon.ensures.1 (record {
  refuses = λ h stack. section_as_ids c.args.self.end c.args.depth stack c.args.rest.now c.requires.no_const c.requires.no_var ∙ past c.in_ok-names.ensures.ok _ _ ∙ stops c.in_err-colon.ensures.refused h _ _;
})

pub returns-in_err-of-clause-refused : goal.returns-in_err-of-clause-refused
returns-in_err-of-clause-refused c = handed_on c.from_residual-in_err-of.result c.in_err-of.field-0.0 c.from_residual-in_err-of.ensures.1 (record {
  refuses = λ h stack. section_as_ids c.args.self.end c.args.depth stack c.args.rest.now c.requires.no_const c.requires.no_var ∙ past c.in_ok-names.ensures.ok _ _ ∙ past c.in_ok-colon.ensures.ok _ _ ∙ stops c.in_err-of.ensures.refused h _ _;
})

pub returns-clause-shorter : goal.returns-clause-shorter
returns-clause-shorter c = omega (arith, c.in_ok-names.ensures.shorter, c.in_ok-colon.ensures.shorter, c.in_ok-of.ensures.shorter)

pub returns-clause-ok : goal.returns-clause-ok
returns-clause-ok c = record {
  reads = λ stack. section_as_ids c.args.self.end c.args.depth stack c.args.rest.now c.requires.no_const c.requires.no_var ∙ past c.in_ok-names.ensures.ok _ _ ∙ past c.in_ok-colon.ensures.ok _ _ ∙ past c.in_ok-of.ensures.ok _ _;
}
