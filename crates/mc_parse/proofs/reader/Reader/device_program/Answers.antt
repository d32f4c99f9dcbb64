use Rattle.std.proofs.Common.{◌∙◌, sym, ap, arith}
use Rattle.mc_parse.specs.Steps.{past, stops, rule_first, handed_on, read_same}
use Rattle.mc_tree.specs.Grammar.{DeviceWhole}
use Rattle.mc_tree.specs.declared.tree.Bracket.{Bracket}
use Rattle.mc_tree.specs.declared.tree.Tree.TheVariants as tree
use Rattle.mc_parse.proofs.reader.Reader.device_program.Goals as goal

pub returns-in_err-head-clause-refused : goal.returns-in_err-head-clause-refused
returns-in_err-head-clause-refused c = handed_on c.from_residual.result c.in_err-head.field-0.0 c.from_residual.ensures.1 (record {
  refuses = λ h stack. rule_first c.args.self.end DeviceWhole c.args.depth stack c.args.rest.now c.requires.first (omega arith) ∙ stops c.in_err-head.ensures.refused h _ _;
})

pub returns-in_err-block-clause-refused : goal.returns-in_err-block-clause-refused
returns-in_err-block-clause-refused c = handed_on c.from_residual-in_err-block.result c.in_err-block.field-0.0 c.from_residual-in_err-block.ensures.1 (record {
  refuses = λ h stack. rule_first c.args.self.end DeviceWhole c.args.depth stack c.args.rest.now c.requires.first (omega arith) ∙ past c.in_ok-head.ensures.ok _ _ ∙ stops c.in_err-block.ensures.refused h _ _;
})

pub returns-in_err-ending-clause-refused : goal.returns-in_err-ending-clause-refused
returns-in_err-ending-clause-refused c = handed_on c.from_residual-in_err-ending.result c.in_err-ending.field-0.0 c.from_residual-in_err-ending.ensures.1 (record {
  refuses = λ h stack. rule_first c.args.self.end DeviceWhole c.args.depth stack c.args.rest.now c.requires.first (omega arith) ∙ past c.in_ok-head.ensures.ok _ _ ∙ past c.in_ok-block.ensures.ok _ _ ∙ stops c.in_err-ending.ensures.refused h _ _;
})

pub returns-clause-shorter : goal.returns-clause-shorter
returns-clause-shorter c = omega (arith, c.in_ok-head.ensures.shorter, c.in_ok-block.ensures.within, c.in_ok-ending.ensures.shorter)

pub returns-clause-ok : goal.returns-clause-ok
returns-clause-ok c = read_same (ap (λ (z : Bracket). tree.Device (record { device_word = c.in_ok-head.head.item.device_word; module_word = c.in_ok-head.head.item.module_word; name = c.in_ok-head.head.item.name; bracket = z; semicolon = c.in_ok-head.head.item.semicolon; block = c.in_ok-block.block.item; end = c.in_ok-ending.ending.item.end; end_name = c.in_ok-ending.ending.item.name; dot = c.in_ok-ending.ending.item.mark })) (sym c.into_inner.ensures)) (record {
  reads = λ stack. rule_first c.args.self.end DeviceWhole c.args.depth stack c.args.rest.now c.requires.first (omega arith) ∙ past c.in_ok-head.ensures.ok _ _ ∙ past c.in_ok-block.ensures.ok _ _ ∙ past c.in_ok-ending.ensures.ok _ _;
})
