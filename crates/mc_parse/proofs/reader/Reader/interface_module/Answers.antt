use Rattle.std.proofs.Common.{◌∙◌, sym, ap, arith}
use Rattle.mc_parse.specs.Steps.{past, stops, rule_first, handed_on, read_same}
use Rattle.mc_parse.specs.Deep.{too_deep_at, deep_lists, deep_lists_refused, deep_face, deep_face_refused}
use Rattle.mc_tree.specs.Grammar.{InterfaceInside}
use Rattle.mc_tree.specs.declared.tree.Lists.{Lists}
use Rattle.mc_tree.specs.declared.tree.Module.TheOpen.{Module-F}
use Rattle.mc_tree.specs.declared.tree.Module.TheViews.{roll-Module, rolls-Interface}
use Rattle.mc_parse.proofs.reader.Reader.interface_module.Goals as goal

pub returns-in_err-inner-clause-refused : goal.returns-in_err-inner-clause-refused
returns-in_err-inner-clause-refused c = handed_on c.from_residual.result c.in_err-inner.field-0.0 c.from_residual.ensures.1 (too_deep_at InterfaceInside _ c.requires.first (omega (arith, c.in_err-inner.ensures.refused.1)) c.place.ensures c.in_err-inner.ensures.refused.0)

pub returns-in_err-interface_word-clause-refused : goal.returns-in_err-interface_word-clause-refused
returns-in_err-interface_word-clause-refused c = handed_on c.from_residual-in_err-interface_word.result c.in_err-interface_word.field-0.0 c.from_residual-in_err-interface_word.ensures.1 (record {
  refuses = λ h stack. rule_first c.args.self.end InterfaceInside c.args.depth stack c.args.rest.now c.requires.first (omega (arith, c.in_ok-inner.ensures.ok.0, c.in_ok-inner.ensures.ok.1)) ∙ stops c.in_err-interface_word.ensures.refused h _ _;
})

pub returns-in_err-module_word-clause-refused : goal.returns-in_err-module_word-clause-refused
returns-in_err-module_word-clause-refused c = handed_on c.from_residual-in_err-module_word.result c.in_err-module_word.field-0.0 c.from_residual-in_err-module_word.ensures.1 (record {
  refuses = λ h stack. rule_first c.args.self.end InterfaceInside c.args.depth stack c.args.rest.now c.requires.first (omega (arith, c.in_ok-inner.ensures.ok.0, c.in_ok-inner.ensures.ok.1)) ∙ past c.in_ok-interface_word.ensures.ok _ _ ∙ stops c.in_err-module_word.ensures.refused h _ _;
})

pub returns-in_err-name-clause-refused : goal.returns-in_err-name-clause-refused
returns-in_err-name-clause-refused c = handed_on c.from_residual-in_err-name.result c.in_err-name.field-0.0 c.from_residual-in_err-name.ensures.1 (record {
  refuses = λ h stack. rule_first c.args.self.end InterfaceInside c.args.depth stack c.args.rest.now c.requires.first (omega (arith, c.in_ok-inner.ensures.ok.0, c.in_ok-inner.ensures.ok.1)) ∙ past c.in_ok-interface_word.ensures.ok _ _ ∙ past c.in_ok-module_word.ensures.ok _ _ ∙ stops c.in_err-name.ensures.refused h _ _;
})

pub returns-in_err-semicolon-clause-refused : goal.returns-in_err-semicolon-clause-refused
returns-in_err-semicolon-clause-refused c = handed_on c.from_residual-in_err-semicolon.result c.in_err-semicolon.field-0.0 c.from_residual-in_err-semicolon.ensures.1 (record {
  refuses = λ h stack. rule_first c.args.self.end InterfaceInside c.args.depth stack c.args.rest.now c.requires.first (omega (arith, c.in_ok-inner.ensures.ok.0, c.in_ok-inner.ensures.ok.1)) ∙ past c.in_ok-interface_word.ensures.ok _ _ ∙ past c.in_ok-module_word.ensures.ok _ _ ∙ past c.in_ok-name.ensures.ok _ _ ∙ stops c.in_err-semicolon.ensures.refused h _ _;
})

pub returns-in_err-lists-clause-refused : goal.returns-in_err-lists-clause-refused
returns-in_err-lists-clause-refused c = handed_on c.from_residual-in_err-lists.result c.in_err-lists.field-0.0 c.from_residual-in_err-lists.ensures.1 (record {
  refuses = λ h stack. rule_first c.args.self.end InterfaceInside c.args.depth stack c.args.rest.now c.requires.first (omega (arith, c.in_ok-inner.ensures.ok.0, c.in_ok-inner.ensures.ok.1)) ∙ past c.in_ok-interface_word.ensures.ok _ _ ∙ past c.in_ok-module_word.ensures.ok _ _ ∙ past c.in_ok-name.ensures.ok _ _ ∙ past c.in_ok-semicolon.ensures.ok _ _ ∙ stops (deep_lists_refused c.in_ok-inner.ensures.ok.0 c.in_err-lists.ensures.refused) h _ _;
})

pub returns-in_err-block-clause-refused : goal.returns-in_err-block-clause-refused
returns-in_err-block-clause-refused c = handed_on c.from_residual-in_err-block.result c.in_err-block.field-0.0 c.from_residual-in_err-block.ensures.1 (record {
  refuses = λ h stack. rule_first c.args.self.end InterfaceInside c.args.depth stack c.args.rest.now c.requires.first (omega (arith, c.in_ok-inner.ensures.ok.0, c.in_ok-inner.ensures.ok.1)) ∙ past c.in_ok-interface_word.ensures.ok _ _ ∙ past c.in_ok-module_word.ensures.ok _ _ ∙ past c.in_ok-name.ensures.ok _ _ ∙ past c.in_ok-semicolon.ensures.ok _ _ ∙ past (deep_lists c.in_ok-inner.ensures.ok.0 c.in_ok-lists.ensures.ok) _ _ ∙ stops (deep_face_refused c.in_ok-inner.ensures.ok.0 c.in_err-block.ensures.refused) h _ _;
})

pub returns-in_err-ending-clause-refused : goal.returns-in_err-ending-clause-refused
returns-in_err-ending-clause-refused c = handed_on c.from_residual-in_err-ending.result c.in_err-ending.field-0.0 c.from_residual-in_err-ending.ensures.1 (record {
  refuses = λ h stack. rule_first c.args.self.end InterfaceInside c.args.depth stack c.args.rest.now c.requires.first (omega (arith, c.in_ok-inner.ensures.ok.0, c.in_ok-inner.ensures.ok.1)) ∙ past c.in_ok-interface_word.ensures.ok _ _ ∙ past c.in_ok-module_word.ensures.ok _ _ ∙ past c.in_ok-name.ensures.ok _ _ ∙ past c.in_ok-semicolon.ensures.ok _ _ ∙ past (deep_lists c.in_ok-inner.ensures.ok.0 c.in_ok-lists.ensures.ok) _ _ ∙ past (deep_face c.in_ok-inner.ensures.ok.0 c.in_ok-block.ensures.ok) _ _ ∙ stops c.in_err-ending.ensures.refused h _ _;
})

pub returns-clause-shorter : goal.returns-clause-shorter
returns-clause-shorter c = omega (arith, c.in_ok-interface_word.ensures.shorter, c.in_ok-module_word.ensures.shorter, c.in_ok-name.ensures.shorter, c.in_ok-semicolon.ensures.shorter, c.in_ok-lists.ensures.within, c.in_ok-block.ensures.within, c.in_ok-ending.ensures.shorter)

pub returns-clause-ok : goal.returns-clause-ok
returns-clause-ok c = read_same (ap (λ (z : Lists). roll-Module (Module-F.Interface (record { interface_word = c.in_ok-interface_word.interface_word.item; module_word = c.in_ok-module_word.module_word.item; name = c.in_ok-name.name.item; semicolon = c.in_ok-semicolon.semicolon.item; lists = z; block = c.in_ok-block.block.item; end = c.in_ok-ending.ending.item.end; end_name = c.in_ok-ending.ending.item.name; end_semicolon = c.in_ok-ending.ending.item.mark }))) (sym c.into_inner.ensures) ∙ rolls-Interface _) (record {
  reads = λ stack. rule_first c.args.self.end InterfaceInside c.args.depth stack c.args.rest.now c.requires.first (omega (arith, c.in_ok-inner.ensures.ok.0, c.in_ok-inner.ensures.ok.1)) ∙ past c.in_ok-interface_word.ensures.ok _ _ ∙ past c.in_ok-module_word.ensures.ok _ _ ∙ past c.in_ok-name.ensures.ok _ _ ∙ past c.in_ok-semicolon.ensures.ok _ _ ∙ past (deep_lists c.in_ok-inner.ensures.ok.0 c.in_ok-lists.ensures.ok) _ _ ∙ past (deep_face c.in_ok-inner.ensures.ok.0 c.in_ok-block.ensures.ok) _ _ ∙ past c.in_ok-ending.ensures.ok _ _;
})
