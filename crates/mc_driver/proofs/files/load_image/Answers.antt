use Rattle.std.proofs.Common.{ℕ, List, [], refl, ◌∙◌, subst, inl, inr, arith}
use Rattle.mc_image.specs.Faults.{HasFirstFault}
use Rattle.mc_image.specs.declared.fault.ImageFault.{ImageFault}
use Rattle.mc_driver.specs.declared.files.FileKind.TheVariants.{Image}
use Rattle.mc_shelf.specs.Outside.{View}
use Rattle.mc_driver.specs.Outside.{Says}
use Rattle.mc_driver.specs.Refusal.{image_line}
use Rattle.mc_driver.specs.Stages.{AfterImage, no_image}
use Rattle.mc_driver.proofs.Endings.{says_ends, not_loaded, after_load, no_memory_behind}
use Rattle.mc_driver.proofs.files.load_image.Goals as goal

pub returns-in-Err-clause-refused : goal.returns-in-Err-clause-refused
returns-in-Err-clause-refused g c = not_loaded _ _ Image _ [] (λ files bytes. AfterImage bytes (λ i a s t. ⊥)) _ c.in-Err.ensures.refused

pub returns-in-Some-clause-refused : goal.returns-in-Some-clause-refused
returns-in-Some-clause-refused g c =
    let S = g.S.Shelf in
    let bytes : List ℕ = c.in-Ok.bytes.items in
    let u : View = S.seen c.load.new.shelf in
    let w : View = S.seen c.say.new.shelf in
    let fault : ImageFault = c.in-Err-read_image.fault in
    let has : HasFirstFault bytes fault = subst (λ (b : List ℕ). HasFirstFault b fault) c.as_slice.ensures.value (elim c.in-Err-read_image.ensures.refused [ inl e ↦ absurd (c.in-Some.ensures.0 e) | inr h ↦ h ]) in
    let said : Says u (image_line fault) 4 c.say.result w = subst (λ (l : List ℕ). Says u l 4 c.say.result w) (c.as_slice-in-Some.ensures.value ∙ c.in-Some.ensures.1) c.say.ensures in
    after_load _ u w Image c.args.name.now bytes [] (λ files b. AfterImage b (λ i a s t. ⊥)) c.say.result c.in-Ok.ensures.ok
    (says_ends u w [] (λ files. AfterImage bytes (λ i a s t. ⊥)) (image_line fault) 4 c.say.result (λ e. omega arith) said (λ files told. no_image fault has refl (refl, refl)))

pub returns-clause-refused : goal.returns-clause-refused
returns-clause-refused g c = no_memory_behind _ _ Image c.args.name.now c.in-Ok.bytes.items [] (λ files b. AfterImage b (λ i a s t. ⊥)) c.in-Ok.ensures.ok
