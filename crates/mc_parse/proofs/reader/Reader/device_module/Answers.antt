use Rattle.std.proofs.Common.{◌∙◌, sym, ap, arith}
use Rattle.mc_parse.specs.Steps.{past, stops, rule_first, handed_on, read_same}
use Rattle.mc_parse.specs.Deep.{too_deep_at, deep_device_head, deep_device_head_refused, deep_lists, deep_lists_refused, deep_device, deep_device_refused}
use Rattle.mc_tree.specs.Grammar.{DeviceInside}
use Rattle.mc_tree.specs.declared.tree.Bracket.{Bracket}
use Rattle.mc_tree.specs.declared.tree.Lists.{Lists}
use Rattle.mc_tree.specs.declared.tree.Module.TheOpen.{Module-F}
use Rattle.mc_tree.specs.declared.tree.Module.TheViews.{roll-Module, rolls-Device}
use Rattle.mc_parse.proofs.reader.Reader.device_module.Goals as goal

pub returns-in_err-inner-clause-refused : goal.returns-in_err-inner-clause-refused
returns-in_err-inner-clause-refused c = handed_on c.from_residual.result c.in_err-inner.field-0.0 c.from_residual.ensures.1 (too_deep_at DeviceInside _ c.requires.first (omega (arith, c.in_err-inner.ensures.refused.1)) c.place.ensures c.in_err-inner.ensures.refused.0)

pub returns-in_err-head-clause-refused : goal.returns-in_err-head-clause-refused
returns-in_err-head-clause-refused c = handed_on c.from_residual-in_err-head.result c.in_err-head.field-0.0 c.from_residual-in_err-head.ensures.1 (record {
  refuses = λ h stack. rule_first c.args.self.end DeviceInside c.args.depth stack c.args.rest.now c.requires.first (omega (arith, c.in_ok-inner.ensures.ok.0, c.in_ok-inner.ensures.ok.1)) ∙ stops (deep_device_head_refused c.in_ok-inner.ensures.ok.0 c.in_err-head.ensures.refused) h _ _;
})

pub returns-in_err-lists-clause-refused : goal.returns-in_err-lists-clause-refused
returns-in_err-lists-clause-refused c = handed_on c.from_residual-in_err-lists.result c.in_err-lists.field-0.0 c.from_residual-in_err-lists.ensures.1 (record {
  refuses = λ h stack. rule_first c.args.self.end DeviceInside c.args.depth stack c.args.rest.now c.requires.first (omega (arith, c.in_ok-inner.ensures.ok.0, c.in_ok-inner.ensures.ok.1)) ∙ past (deep_device_head c.in_ok-inner.ensures.ok.0 c.in_ok-head.ensures.ok) _ _ ∙ stops (deep_lists_refused c.in_ok-inner.ensures.ok.0 c.in_err-lists.ensures.refused) h _ _;
})

pub returns-in_err-block-clause-refused : goal.returns-in_err-block-clause-refused
returns-in_err-block-clause-refused c = handed_on c.from_residual-in_err-block.result c.in_err-block.field-0.0 c.from_residual-in_err-block.ensures.1 (record {
  refuses = λ h stack. rule_first c.args.self.end DeviceInside c.args.depth stack c.args.rest.now c.requires.first (omega (arith, c.in_ok-inner.ensures.ok.0, c.in_ok-inner.ensures.ok.1)) ∙ past (deep_device_head c.in_ok-inner.ensures.ok.0 c.in_ok-head.ensures.ok) _ _ ∙ past (deep_lists c.in_ok-inner.ensures.ok.0 c.in_ok-lists.ensures.ok) _ _ ∙ stops (deep_device_refused c.in_ok-inner.ensures.ok.0 c.in_err-block.ensures.refused) h _ _;
})

pub returns-in_err-ending-clause-refused : goal.returns-in_err-ending-clause-refused
returns-in_err-ending-clause-refused c = handed_on c.from_residual-in_err-ending.result c.in_err-ending.field-0.0 c.from_residual-in_err-ending.ensures.1 (record {
  refuses = λ h stack. rule_first c.args.self.end DeviceInside c.args.depth stack c.args.rest.now c.requires.first (omega (arith, c.in_ok-inner.ensures.ok.0, c.in_ok-inner.ensures.ok.1)) ∙ past (deep_device_head c.in_ok-inner.ensures.ok.0 c.in_ok-head.ensures.ok) _ _ ∙ past (deep_lists c.in_ok-inner.ensures.ok.0 c.in_ok-lists.ensures.ok) _ _ ∙ past (deep_device c.in_ok-inner.ensures.ok.0 c.in_ok-block.ensures.ok) _ _ ∙ stops c.in_err-ending.ensures.refused h _ _;
})

pub returns-clause-shorter : goal.returns-clause-shorter
returns-clause-shorter c = omega (arith, c.in_ok-head.ensures.shorter, c.in_ok-lists.ensures.within, c.in_ok-block.ensures.within, c.in_ok-ending.ensures.shorter)

pub returns-clause-ok : goal.returns-clause-ok
returns-clause-ok c = read_same (ap (λ (z : Bracket). roll-Module (Module-F.Device (record { device_word = c.in_ok-head.head.item.device_word; module_word = c.in_ok-head.head.item.module_word; name = c.in_ok-head.head.item.name; bracket = z; semicolon = c.in_ok-head.head.item.semicolon; lists = c.in_ok-lists.lists.item; block = c.in_ok-block.block.item; end = c.in_ok-ending.ending.item.end; end_name = c.in_ok-ending.ending.item.name; end_semicolon = c.in_ok-ending.ending.item.mark }))) (sym c.into_inner.ensures) ∙ ap (λ (l : Lists). roll-Module (Module-F.Device (record { device_word = c.in_ok-head.head.item.device_word; module_word = c.in_ok-head.head.item.module_word; name = c.in_ok-head.head.item.name; bracket = c.into_inner.result; semicolon = c.in_ok-head.head.item.semicolon; lists = l; block = c.in_ok-block.block.item; end = c.in_ok-ending.ending.item.end; end_name = c.in_ok-ending.ending.item.name; end_semicolon = c.in_ok-ending.ending.item.mark }))) (sym c.into_inner-2.ensures) ∙ rolls-Device _) (record {
  reads = λ stack. rule_first c.args.self.end DeviceInside c.args.depth stack c.args.rest.now c.requires.first (omega (arith, c.in_ok-inner.ensures.ok.0, c.in_ok-inner.ensures.ok.1)) ∙ past (deep_device_head c.in_ok-inner.ensures.ok.0 c.in_ok-head.ensures.ok) _ _ ∙ past (deep_lists c.in_ok-inner.ensures.ok.0 c.in_ok-lists.ensures.ok) _ _ ∙ past (deep_device c.in_ok-inner.ensures.ok.0 c.in_ok-block.ensures.ok) _ _ ∙ past c.in_ok-ending.ensures.ok _ _;
})
