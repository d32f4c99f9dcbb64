use Rattle.std.proofs.Common.{◌∙◌, [], ◌∷◌, ◌++◌, refl, sym, ap, arith}
use Rattle.mc_parse.specs.Steps.{past, stops, rule_first, handed_on, read_same, whole_read, mapped-mapped, grown}
use Rattle.std.proofs.lemmas.List.{append-nil}
use Rattle.mc_parse.specs.Views.{plain_read, part_same}
use Rattle.mc_parse.specs.Begins.{no_plain_parts, plain_as_module}
use Rattle.mc_parse.specs.Deep.{too_deep_at, deep_lists, deep_lists_refused, deep_plain, deep_plain_refused}
use Rattle.mc_tree.specs.Grammar.{BegunPhrase, PlainInside, PlainPartsPhrase, Sub}
use Rattle.mc_tree.specs.Phrases.{Trees}
use Rattle.mc_parse.specs.Decode.{mapped}
use Rattle.mc_tree.specs.declared.tree.Module.TheViews.{roll-out-Plain, roll-Module, roll-PlainModule, rolls-Module, rolls-Plain}
use Rattle.mc_tree.specs.declared.tree.Module.TheOpen.{Module-F}
use Rattle.mc_tree.specs.declared.tree.Lists.{Lists}
use Rattle.mc_tree.specs.declared.tree.Plain.{Plain}
use Rattle.mc_parse.proofs.reader.Reader.+module.Goals as goal

pub plain-returns-in_err-parts-clause-refused : goal.plain-returns-in_err-parts-clause-refused
plain-returns-in_err-parts-clause-refused t c = handed_on c.from_residual.result c.in_err-parts.field-0.0 c.from_residual.ensures.1 (record {
  refuses = λ h stack. c.in_err-parts.ensures.refused.refuses h (Sub c.args.depth BegunPhrase ∷ stack);
})

pub plain-returns-in_err-body-clause-refused : goal.plain-returns-in_err-body-clause-refused
plain-returns-in_err-body-clause-refused t c = handed_on c.from_residual-in_err-body.result c.in_err-body.field-0.0 c.from_residual-in_err-body.ensures.1 (record {
  refuses = λ h stack. c.in_ok-parts.ensures.ok.reads (Sub c.args.depth BegunPhrase ∷ stack) ∙ stops c.in_err-body.ensures.refused h _ _;
})

pub plain-returns-clause-ok : goal.plain-returns-clause-ok
plain-returns-clause-ok t c = plain_read _ _ _ refl (record {
  reads = λ stack. c.in_ok-parts.ensures.ok.reads (Sub c.args.depth BegunPhrase ∷ stack) ∙ past c.in_ok-body.ensures.ok _ _;
})

pub plain_parts-returns-clause-ok : goal.plain_parts-returns-clause-ok
plain_parts-returns-clause-ok t c =
    let n = rw c.in_default.is at c.in_ok-part.ensures.none in
    whole_read c.loop-items.invariant.read [] (no_plain_parts c.loop-items.left.now n.0.0 n.0.1 n.0.2 n.1 n.2 n.3.0 n.3.1 n.3.2) refl _ (append-nil _)

pub inner_module-returns-in_err-part-clause-refused : goal.inner_module-returns-in_err-part-clause-refused
inner_module-returns-in_err-part-clause-refused t c = handed_on c.from_residual.result c.in_err-part.field-0.0 c.from_residual.ensures.1 (record {
  refuses = λ h stack. plain_as_module c.args.self.end c.args.depth stack c.args.rest.now c.requires.first ∙ stops c.in_err-part.ensures.refused h _ _;
})

pub inner_module-returns-clause-ok : goal.inner_module-returns-clause-ok
inner_module-returns-clause-ok t c = part_same (rolls-Module _) (record {
  reads = λ stack. plain_as_module c.args.self.end c.args.depth stack c.args.rest.now c.requires.first ∙ past c.in_ok-part.ensures.ok _ _;
})

pub plain_module-returns-in_err-inner-clause-refused : goal.plain_module-returns-in_err-inner-clause-refused
plain_module-returns-in_err-inner-clause-refused t c = handed_on c.from_residual.result c.in_err-inner.field-0.0 c.from_residual.ensures.1 (too_deep_at PlainInside _ c.requires.first (omega (arith, c.in_err-inner.ensures.refused.1)) c.place.ensures c.in_err-inner.ensures.refused.0)

pub plain_module-returns-in_err-module_word-clause-refused : goal.plain_module-returns-in_err-module_word-clause-refused
plain_module-returns-in_err-module_word-clause-refused t c = handed_on c.from_residual-in_err-module_word.result c.in_err-module_word.field-0.0 c.from_residual-in_err-module_word.ensures.1 (record {
  refuses = λ h stack. rule_first c.args.self.end PlainInside c.args.depth stack c.args.rest.now c.requires.first (omega (arith, c.in_ok-inner.ensures.ok.0, c.in_ok-inner.ensures.ok.1)) ∙ stops c.in_err-module_word.ensures.refused h _ _;
})

pub plain_module-returns-in_err-name-clause-refused : goal.plain_module-returns-in_err-name-clause-refused
plain_module-returns-in_err-name-clause-refused t c = handed_on c.from_residual-in_err-name.result c.in_err-name.field-0.0 c.from_residual-in_err-name.ensures.1 (record {
  refuses = λ h stack. rule_first c.args.self.end PlainInside c.args.depth stack c.args.rest.now c.requires.first (omega (arith, c.in_ok-inner.ensures.ok.0, c.in_ok-inner.ensures.ok.1)) ∙ past c.in_ok-module_word.ensures.ok _ _ ∙ stops c.in_err-name.ensures.refused h _ _;
})

pub plain_module-returns-in_err-semicolon-clause-refused : goal.plain_module-returns-in_err-semicolon-clause-refused
plain_module-returns-in_err-semicolon-clause-refused t c = handed_on c.from_residual-in_err-semicolon.result c.in_err-semicolon.field-0.0 c.from_residual-in_err-semicolon.ensures.1 (record {
  refuses = λ h stack. rule_first c.args.self.end PlainInside c.args.depth stack c.args.rest.now c.requires.first (omega (arith, c.in_ok-inner.ensures.ok.0, c.in_ok-inner.ensures.ok.1)) ∙ past c.in_ok-module_word.ensures.ok _ _ ∙ past c.in_ok-name.ensures.ok _ _ ∙ stops c.in_err-semicolon.ensures.refused h _ _;
})

pub plain_module-returns-in_err-lists-clause-refused : goal.plain_module-returns-in_err-lists-clause-refused
plain_module-returns-in_err-lists-clause-refused t c = handed_on c.from_residual-in_err-lists.result c.in_err-lists.field-0.0 c.from_residual-in_err-lists.ensures.1 (record {
  refuses = λ h stack. rule_first c.args.self.end PlainInside c.args.depth stack c.args.rest.now c.requires.first (omega (arith, c.in_ok-inner.ensures.ok.0, c.in_ok-inner.ensures.ok.1)) ∙ past c.in_ok-module_word.ensures.ok _ _ ∙ past c.in_ok-name.ensures.ok _ _ ∙ past c.in_ok-semicolon.ensures.ok _ _ ∙ stops (deep_lists_refused c.in_ok-inner.ensures.ok.0 c.in_err-lists.ensures.refused) h _ _;
})

pub plain_module-returns-in_err-block-clause-refused : goal.plain_module-returns-in_err-block-clause-refused
plain_module-returns-in_err-block-clause-refused t c = handed_on c.from_residual-in_err-block.result c.in_err-block.field-0.0 c.from_residual-in_err-block.ensures.1 (record {
  refuses = λ h stack. rule_first c.args.self.end PlainInside c.args.depth stack c.args.rest.now c.requires.first (omega (arith, c.in_ok-inner.ensures.ok.0, c.in_ok-inner.ensures.ok.1)) ∙ past c.in_ok-module_word.ensures.ok _ _ ∙ past c.in_ok-name.ensures.ok _ _ ∙ past c.in_ok-semicolon.ensures.ok _ _ ∙ past (deep_lists c.in_ok-inner.ensures.ok.0 c.in_ok-lists.ensures.ok) _ _ ∙ stops (deep_plain_refused c.in_ok-inner.ensures.ok.0 c.in_err-block.ensures.refused) h _ _;
})

pub plain_module-returns-in_err-ending-clause-refused : goal.plain_module-returns-in_err-ending-clause-refused
plain_module-returns-in_err-ending-clause-refused t c = handed_on c.from_residual-in_err-ending.result c.in_err-ending.field-0.0 c.from_residual-in_err-ending.ensures.1 (record {
  refuses = λ h stack. rule_first c.args.self.end PlainInside c.args.depth stack c.args.rest.now c.requires.first (omega (arith, c.in_ok-inner.ensures.ok.0, c.in_ok-inner.ensures.ok.1)) ∙ past c.in_ok-module_word.ensures.ok _ _ ∙ past c.in_ok-name.ensures.ok _ _ ∙ past c.in_ok-semicolon.ensures.ok _ _ ∙ past (deep_lists c.in_ok-inner.ensures.ok.0 c.in_ok-lists.ensures.ok) _ _ ∙ past (deep_plain c.in_ok-block.block.item c.in_ok-inner.ensures.ok.0 c.in_ok-block.ensures.ok) _ _ ∙ stops c.in_err-ending.ensures.refused h _ _;
})

pub plain_module-returns-clause-shorter : goal.plain_module-returns-clause-shorter
plain_module-returns-clause-shorter t c = omega (arith, c.in_ok-module_word.ensures.shorter, c.in_ok-name.ensures.shorter, c.in_ok-semicolon.ensures.shorter, c.in_ok-lists.ensures.within, c.in_ok-block.ensures.within, c.in_ok-ending.ensures.shorter)

pub plain_module-returns-clause-ok : goal.plain_module-returns-clause-ok
plain_module-returns-clause-ok t c = read_same (ap (λ (z : Plain). roll-Module (Module-F.Plain (roll-PlainModule (record { module_word = c.in_ok-module_word.module_word.item; name = c.in_ok-name.name.item; semicolon = c.in_ok-semicolon.semicolon.item; lists = c.in_ok-lists.lists.item; block = z; end = c.in_ok-ending.ending.item.end; end_name = c.in_ok-ending.ending.item.name; end_semicolon = c.in_ok-ending.ending.item.mark })))) (roll-out-Plain c.in_ok-block.block.item) ∙ ap (λ (l : Lists). roll-Module (Module-F.Plain (roll-PlainModule (record { module_word = c.in_ok-module_word.module_word.item; name = c.in_ok-name.name.item; semicolon = c.in_ok-semicolon.semicolon.item; lists = l; block = c.in_ok-block.block.item; end = c.in_ok-ending.ending.item.end; end_name = c.in_ok-ending.ending.item.name; end_semicolon = c.in_ok-ending.ending.item.mark })))) (sym c.into_inner.ensures) ∙ rolls-Plain _) (record {
  reads = λ stack. rule_first c.args.self.end PlainInside c.args.depth stack c.args.rest.now c.requires.first (omega (arith, c.in_ok-inner.ensures.ok.0, c.in_ok-inner.ensures.ok.1)) ∙ past c.in_ok-module_word.ensures.ok _ _ ∙ past c.in_ok-name.ensures.ok _ _ ∙ past c.in_ok-semicolon.ensures.ok _ _ ∙ past (deep_lists c.in_ok-inner.ensures.ok.0 c.in_ok-lists.ensures.ok) _ _ ∙ past (deep_plain c.in_ok-block.block.item c.in_ok-inner.ensures.ok.0 c.in_ok-block.ensures.ok) _ _ ∙ past c.in_ok-ending.ensures.ok _ _;
})

pub plain_parts-loop-items-preserved : goal.plain_parts-loop-items-preserved
plain_parts-loop-items-preserved t c = let part = rw c.in-Some.is at c.in_ok-part.ensures.ok in
    let shorter = rw c.in-Some.is at c.in_ok-part.ensures.shorter in
    record {
      read = record { reads = λ stack. c.loop-items.invariant.read.reads stack ∙ ap (λ r. mapped (λ (q : Trees (Sub c.args.depth PlainPartsPhrase ∷ stack)). (c.loop-items.items ++ q.0, q.1)) r) (part.reads stack) ∙ mapped-mapped _ _ _ ∙ grown _ c.loop-items.items _ _ c.in_ok-push.ensures.ok };
      within = omega (arith, shorter, c.loop-items.invariant.within);
    }
