use Rattle.std.proofs.Common.{◌∙◌}
use Rattle.mc_parse.specs.Steps.{past, stops, handed_on}
use Rattle.mc_parse.specs.Views.{part_same}
use Rattle.mc_parse.specs.Begins.{plain_as_procedure}
use Rattle.mc_tree.specs.declared.tree.Module.TheViews.{rolls-Procedure}
use Rattle.mc_parse.proofs.reader.Reader.plain_procedure.Goals as goal

pub returns-in_err-part-clause-refused : goal.returns-in_err-part-clause-refused
returns-in_err-part-clause-refused c = handed_on c.from_residual.result c.in_err-part.field-0.0 c.from_residual.ensures.1 (record {
  refuses = λ h stack. plain_as_procedure c.args.self.end c.args.depth stack c.args.rest.now c.requires.first ∙ stops c.in_err-part.ensures.refused h _ _;
})

pub returns-clause-ok : goal.returns-clause-ok
returns-clause-ok c = part_same (rolls-Procedure _) (record {
  reads = λ stack. plain_as_procedure c.args.self.end c.args.depth stack c.args.rest.now c.requires.first ∙ past c.in_ok-part.ensures.ok _ _;
})
