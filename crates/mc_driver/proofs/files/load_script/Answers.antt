use Rattle.std.proofs.Common.{ℕ, List, [], refl, ◌∙◌, subst, inl, inr, arith}
use Rattle.mc_script.specs.Texts.{HasFirstFault}
use Rattle.mc_script.specs.declared.fault.ScriptFault.{ScriptFault}
use Rattle.mc_driver.specs.declared.files.FileKind.TheVariants.{Script}
use Rattle.mc_shelf.specs.Outside.{View}
use Rattle.mc_driver.specs.Outside.{Says}
use Rattle.mc_driver.specs.Refusal.{script_line}
use Rattle.mc_driver.specs.Stages.{AfterScript, no_script}
use Rattle.mc_driver.proofs.Endings.{says_ends, not_loaded, after_load, no_memory_behind}
use Rattle.mc_driver.proofs.files.load_script.Goals as goal

pub returns-in-Err-clause-refused : goal.returns-in-Err-clause-refused
returns-in-Err-clause-refused g c = not_loaded _ _ Script _ [] (λ files bytes. AfterScript bytes (λ i a s t. ⊥)) _ c.in-Err.ensures.refused

pub returns-in-Some-clause-refused : goal.returns-in-Some-clause-refused
returns-in-Some-clause-refused g c =
    let S = g.S.Shelf in
    let bytes : List ℕ = c.in-Ok.text.items in
    let u : View = S.seen c.load.new.shelf in
    let w : View = S.seen c.say.new.shelf in
    let fault : ScriptFault = c.in-Err-read_script.fault in
    let has : HasFirstFault bytes fault = subst (λ (b : List ℕ). HasFirstFault b fault) c.as_slice.ensures.value (elim c.in-Err-read_script.ensures.refused [ inl e ↦ absurd (c.in-Some.ensures.0 e) | inr h ↦ h ]) in
    let said : Says u (script_line fault) 3 c.say.result w = subst (λ (l : List ℕ). Says u l 3 c.say.result w) (c.as_slice-in-Some.ensures.value ∙ c.in-Some.ensures.1) c.say.ensures in
    after_load _ u w Script c.args.name.now bytes [] (λ files b. AfterScript b (λ i a s t. ⊥)) c.say.result c.in-Ok.ensures.ok
    (says_ends u w [] (λ files. AfterScript bytes (λ i a s t. ⊥)) (script_line fault) 3 c.say.result (λ e. omega arith) said (λ files told. no_script fault has refl (refl, refl)))

pub returns-clause-refused : goal.returns-clause-refused
returns-clause-refused g c = no_memory_behind _ _ Script c.args.name.now c.in-Ok.text.items [] (λ files b. AfterScript b (λ i a s t. ⊥)) c.in-Ok.ensures.ok
