use Rattle.std.proofs.Common.{◌∙◌, ap, arith}
use Rattle.mc_parse.specs.Steps.{past, stops, rule_first, handed_on, read_same}
use Rattle.mc_tree.specs.Grammar.{PlainWhole}
use Rattle.mc_tree.specs.declared.tree.Module.TheViews.{roll-out-Plain}
use Rattle.mc_tree.specs.declared.tree.Plain.{Plain}
use Rattle.mc_tree.specs.declared.tree.Tree.TheVariants as tree
use Rattle.mc_parse.proofs.reader.Reader.plain_program.Goals as goal

pub returns-in_err-module_word-clause-refused : goal.returns-in_err-module_word-clause-refused
returns-in_err-module_word-clause-refused c = handed_on c.from_residual.result c.in_err-module_word.field-0.0 c.from_residual.ensures.1 (record {
  refuses = λ h stack. rule_first c.args.self.end PlainWhole c.args.depth stack c.args.rest.now c.requires.first (omega arith) ∙ stops c.in_err-module_word.ensures.refused h _ _;
})

pub returns-in_err-name-clause-refused : goal.returns-in_err-name-clause-refused
returns-in_err-name-clause-refused c = handed_on c.from_residual-in_err-name.result c.in_err-name.field-0.0 c.from_residual-in_err-name.ensures.1 (record {
  refuses = λ h stack. rule_first c.args.self.end PlainWhole c.args.depth stack c.args.rest.now c.requires.first (omega arith) ∙ past c.in_ok-module_word.ensures.ok _ _ ∙ stops c.in_err-name.ensures.refused h _ _;
})

pub returns-in_err-semicolon-clause-refused : goal.returns-in_err-semicolon-clause-refused
returns-in_err-semicolon-clause-refused c = handed_on c.from_residual-in_err-semicolon.result c.in_err-semicolon.field-0.0 c.from_residual-in_err-semicolon.ensures.1 (record {
  refuses = λ h stack. rule_first c.args.self.end PlainWhole c.args.depth stack c.args.rest.now c.requires.first (omega arith) ∙ past c.in_ok-module_word.ensures.ok _ _ ∙ past c.in_ok-name.ensures.ok _ _ ∙ stops c.in_err-semicolon.ensures.refused h _ _;
})

pub returns-in_err-block-clause-refused : goal.returns-in_err-block-clause-refused
returns-in_err-block-clause-refused c = handed_on c.from_residual-in_err-block.result c.in_err-block.field-0.0 c.from_residual-in_err-block.ensures.1 (record {
  refuses = λ h stack. rule_first c.args.self.end PlainWhole c.args.depth stack c.args.rest.now c.requires.first (omega arith) ∙ past c.in_ok-module_word.ensures.ok _ _ ∙ past c.in_ok-name.ensures.ok _ _ ∙ past c.in_ok-semicolon.ensures.ok _ _ ∙ stops c.in_err-block.ensures.refused h _ _;
})

pub returns-in_err-ending-clause-refused : goal.returns-in_err-ending-clause-refused
returns-in_err-ending-clause-refused c = handed_on c.from_residual-in_err-ending.result c.in_err-ending.field-0.0 c.from_residual-in_err-ending.ensures.1 (record {
  refuses = λ h stack. rule_first c.args.self.end PlainWhole c.args.depth stack c.args.rest.now c.requires.first (omega arith) ∙ past c.in_ok-module_word.ensures.ok _ _ ∙ past c.in_ok-name.ensures.ok _ _ ∙ past c.in_ok-semicolon.ensures.ok _ _ ∙ past c.in_ok-block.ensures.ok _ _ ∙ stops c.in_err-ending.ensures.refused h _ _;
})

pub returns-clause-shorter : goal.returns-clause-shorter
returns-clause-shorter c = omega (arith, c.in_ok-module_word.ensures.shorter, c.in_ok-name.ensures.shorter, c.in_ok-semicolon.ensures.shorter, c.in_ok-block.ensures.within, c.in_ok-ending.ensures.shorter)

pub returns-clause-ok : goal.returns-clause-ok
returns-clause-ok c = read_same (ap (λ (z : Plain). tree.Plain (record { module_word = c.in_ok-module_word.module_word.item; name = c.in_ok-name.name.item; semicolon = c.in_ok-semicolon.semicolon.item; block = z; end = c.in_ok-ending.ending.item.end; end_name = c.in_ok-ending.ending.item.name; dot = c.in_ok-ending.ending.item.mark })) (roll-out-Plain c.in_ok-block.block.item)) (record {
  reads = λ stack. rule_first c.args.self.end PlainWhole c.args.depth stack c.args.rest.now c.requires.first (omega arith) ∙ past c.in_ok-module_word.ensures.ok _ _ ∙ past c.in_ok-name.ensures.ok _ _ ∙ past c.in_ok-semicolon.ensures.ok _ _ ∙ past c.in_ok-block.ensures.ok _ _ ∙ past c.in_ok-ending.ensures.ok _ _;
})
