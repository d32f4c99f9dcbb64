use Rattle.std.proofs.Common.{◌≡◌, ◌∙◌, ap, ap₂, rules, true, codes, Option, Some, None}
use Rattle.std.specs.Prelude.{IsSomeAnd}
use Rattle.std.proofs.lemmas.Result.{IfOk-weaker}
use Rattle.clap.specs.declared.builder.range.ValueRange.{ValueRange}
use Rattle.clap.specs.Simple.{Shape, app_of_fields, on_top}
use Rattle.clap.specs.Words.{app_of, new_app, rule_of, with_rule}
use Rattle.mc_words.specs.Arguments.{journal, settings, word, plain}
use Rattle.mc_words.proofs.options.options.Goals as goal

some_is : (o : Option ValueRange) (r : ValueRange) → IsSomeAnd o (λ x. x ≡ r) → o ≡ Some r
some_is None r h = absurd h
some_is (Some x) r h = ap (λ (y : ValueRange). Some y) h

pub returns : goal.returns
returns c =
    let range = some_is c.num_args.result.num_vals (record { start_inclusive = 0; end_inclusive = 0 }) c.num_args.ensures.1 in
    let journal_is : rule_of c.default_missing_value-journal.result ≡ journal = search (rules, range) in
    let settings_is : rule_of c.action-settings.result ≡ settings = search rules in
    let word_is : rule_of c.action-word.result ≡ word = search rules in
    let no_name : app_of c.no_binary_name.result ≡ on_top (λ s. record s { no_binary_name = true }) (new_app (codes "modula")) = ap app_of_fields c.no_binary_name.ensures ∙ ap (on_top (λ (s : Shape). let t : Shape = record s { no_binary_name = true } in t)) c.new-4.ensures.app in
    let plain_is : app_of c.disable_help_flag.result ≡ plain = ap app_of_fields c.disable_help_flag.ensures ∙ ap (on_top (λ (s : Shape). let t : Shape = record s { disable_help_flag = true } in t)) no_name in
    IfOk-weaker c.arg-3.result _ _
    (λ r h. h.shape (search rules) ∙ ap₂ with_rule (c.in_ok-arg-2.ensures.shape (search rules) ∙ ap₂ with_rule (c.in_ok-arg.ensures.shape (search rules) ∙ ap₂ with_rule plain_is journal_is) settings_is) word_is)
    c.arg-3.ensures
