use Rattle.std.proofs.Common.{◌∙◌}
use Rattle.mc_parse.specs.Steps.{past, stops, handed_on}
use Rattle.mc_parse.specs.Begins.{face_as_decl}
use Rattle.mc_parse.proofs.reader.Reader.face_declaration.Goals as goal

pub returns-in_err-part-clause-refused : goal.returns-in_err-part-clause-refused
returns-in_err-part-clause-refused c = handed_on c.from_residual.result c.in_err-part.field-0.0 c.from_residual.ensures.1 (record {
  refuses = λ h stack. face_as_decl c.args.self.end c.args.depth stack c.args.rest.now c.requires.first ∙ stops c.in_err-part.ensures.refused h _ _;
})

pub returns-clause-ok : goal.returns-clause-ok
returns-clause-ok c = record {
  reads = λ stack. face_as_decl c.args.self.end c.args.depth stack c.args.rest.now c.requires.first ∙ past c.in_ok-part.ensures.ok _ _;
}
