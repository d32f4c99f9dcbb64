use Rattle.std.proofs.Common.{ℕ, List, [], Err, refl, ◌∙◌, subst, arith}
use Rattle.mc_words.specs.Settings.{AnswersSettings}
use Rattle.mc_words.specs.declared.setting_fault.SettingFault.{SettingFault}
use Rattle.mc_driver.specs.declared.files.FileKind.TheVariants.{Settings}
use Rattle.mc_shelf.specs.Outside.{View}
use Rattle.mc_driver.specs.Outside.{Says}
use Rattle.mc_driver.specs.Refusal.{setting_line}
use Rattle.mc_driver.specs.Stages.{AfterReadingSettings, no_settings}
use Rattle.mc_driver.proofs.Endings.{says_ends, not_loaded, after_load, no_memory_behind}
use Rattle.mc_driver.proofs.files.load_settings.Goals as goal

pub returns-in-Err-clause-refused : goal.returns-in-Err-clause-refused
returns-in-Err-clause-refused g c = not_loaded _ _ Settings _ [] (λ files bytes. AfterReadingSettings bytes (λ i a s t. ⊥)) _ c.in-Err.ensures.refused

pub returns-in-Some-clause-refused : goal.returns-in-Some-clause-refused
returns-in-Some-clause-refused g c =
    let S = g.S.Shelf in
    let bytes : List ℕ = c.in-Ok.bytes.items in
    let u : View = S.seen c.load.new.shelf in
    let w : View = S.seen c.say.new.shelf in
    let fault : SettingFault = c.in-Err-read_settings.fault in
    let has : AnswersSettings bytes (Err fault) = subst (λ (b : List ℕ). AnswersSettings b (Err fault)) c.as_slice.ensures.value (c.in-Err-read_settings.ensures.refused c.in-Some.ensures.0) in
    let said : Says u (setting_line fault) 10 c.say.result w = subst (λ (l : List ℕ). Says u l 10 c.say.result w) (c.as_slice-in-Some.ensures.value ∙ c.in-Some.ensures.1) c.say.ensures in
    after_load _ u w Settings c.args.name.now bytes [] (λ files b. AfterReadingSettings b (λ i a s t. ⊥)) c.say.result c.in-Ok.ensures.ok
    (says_ends u w [] (λ files. AfterReadingSettings bytes (λ i a s t. ⊥)) (setting_line fault) 10 c.say.result (λ e. omega arith) said (λ files told. no_settings fault c.in-Some.ensures.0 has refl (refl, refl)))

pub returns-clause-refused : goal.returns-clause-refused
returns-clause-refused g c = no_memory_behind _ _ Settings c.args.name.now c.in-Ok.bytes.items [] (λ files b. AfterReadingSettings b (λ i a s t. ⊥)) c.in-Ok.ensures.ok
