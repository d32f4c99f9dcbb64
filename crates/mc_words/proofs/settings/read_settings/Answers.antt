use Rattle.std.proofs.Common.{◌≡◌, ◌≢◌, ◌&&◌, Bool, true, List, [], ◌∷◌, String, Global, string_bytes, Result, Ok, Err, IfOk, IfErr, refl, ap, sym, ◌∙◌}
use Rattle.std.specs.List.{list_all}
use Rattle.std.specs.Map.{keys_of}
use Rattle.toml.specs.Data.{Members}
use Rattle.toml.specs.View.{members_view, table_view}
use Rattle.toml.specs.declared.value.Value.{Value}
use Rattle.mc_word.specs.declared.word.Settings.{Settings}
use Rattle.mc_words.specs.declared.setting_fault.SettingFault.{SettingFault}
use Rattle.mc_words.specs.declared.setting_fault.SettingFault.TheVariants.{Memory}
use Rattle.mc_words.specs.Settings.{Numbers, numbers_of, is_known, are_known, chosen, settings_in, AnswersSettings, table}
use Rattle.mc_words.proofs.settings.read_settings.Goals as goal

known : (entries : List (String Global × Value)) → list_all (λ key. is_known (string_bytes key)) (keys_of entries) ≡ are_known (members_view entries)
known [] = refl
known (e ∷ entries) = ap (λ (b : Bool). is_known (string_bytes e.0) && b) (known entries)

known_settings : (found : Members) → are_known found ≡ true → settings_in found ≡ chosen found
known_settings found h = rw h refl

pub returns-then-not-has_known_keys-clause-refused : goal.returns-then-not-has_known_keys-clause-refused
returns-then-not-has_known_keys-clause-refused c no_memory =
    let unknown = sym (known c.in-Ok.table.entries) ∙ sym c.has_known_keys.ensures ∙ c.if-not-has_known_keys.true in
    table (table_view c.in-Ok.table) c.in-Ok.ensures.ok.0 c.in-Ok.ensures.ok.1 (rw unknown refl)

answered : (r : Result Settings SettingFault) (found : Members) (P : Result Numbers SettingFault → Type 0) → ((answer : Result Numbers SettingFault) → chosen found ≡ answer → P answer) → IfOk r (λ s. chosen found ≡ Ok (numbers_of s)) → IfOk r (λ s. P (Ok (numbers_of s)))
answered (Ok s) found P f h = f (Ok (numbers_of s)) h
answered (Err e) found P f h = tt

refused : (r : Result Settings SettingFault) (found : Members) (P : Result Numbers SettingFault → Type 0) → ((answer : Result Numbers SettingFault) → chosen found ≡ answer → P answer) → IfErr r (λ e. chosen found ≡ Err e) → IfErr r (λ e. e ≢ Memory → P (Err e))
refused (Ok s) found P f h = tt
refused (Err e) found P f h = λ no_memory. f (Err e) h

pub returns-clause-ok : goal.returns-clause-ok
returns-clause-ok c =
    let found : Members = table_view c.in-Ok.table in
    let known = sym (known c.in-Ok.table.entries) ∙ sym c.has_known_keys.ensures ∙ c.if-not-has_known_keys.false in
    answered c.chosen.result found (AnswersSettings c.args.bytes.now)
    (λ answer is. table found c.in-Ok.ensures.ok.0 c.in-Ok.ensures.ok.1 (sym (known_settings found known ∙ is)))
    c.chosen.ensures.ok

pub returns-clause-refused : goal.returns-clause-refused
returns-clause-refused c =
    let found : Members = table_view c.in-Ok.table in
    let known = sym (known c.in-Ok.table.entries) ∙ sym c.has_known_keys.ensures ∙ c.if-not-has_known_keys.false in
    refused c.chosen.result found (AnswersSettings c.args.bytes.now)
    (λ answer is. table found c.in-Ok.ensures.ok.0 c.in-Ok.ensures.ok.1 (sym (known_settings found known ∙ is)))
    c.chosen.ensures.refused
