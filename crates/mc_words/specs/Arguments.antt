-- The arguments that `clap` is told of: options and words, each as often as it stands there.
use Rattle.std.specs.Prelude.{true, [], ◌∷◌, codes, Some}
use Rattle.clap.specs.declared.builder.action.ArgAction.TheVariants.{Append}
use Rattle.clap.specs.Walk.{Rule}
use Rattle.clap.specs.Simple.{App, new_app, new_rule, on_top, with_rule}

abbrev pub journal : Rule
journal = record (new_rule (codes "journal")) {
  long = Some (codes "journal");
  action = Some Append;
  range = Some (record { start_inclusive = 0; end_inclusive = 0 });
  missing = codes "journal" ∷ [];
}

abbrev pub settings : Rule
settings = record (new_rule (codes "settings")) { long = Some (codes "settings"); action = Some Append }

abbrev pub word : Rule
word = record (new_rule (codes "word")) { action = Some Append }

abbrev pub plain : App
plain = on_top (λ s. record s { no_binary_name = true; disable_help_flag = true }) (new_app (codes "modula"))

abbrev pub app : App
app = with_rule (with_rule (with_rule plain journal) settings) word
