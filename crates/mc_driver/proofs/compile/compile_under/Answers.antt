use Rattle.std.proofs.Common.{◌∷◌, [], ℕ, List, Some, refl, subst}
use Rattle.mc_shelf.specs.declared.ask.Ask.TheVariants.{Load, Save}
use Rattle.mc_words.specs.Settings.{Numbers, numbers_of}
use Rattle.mc_driver.specs.declared.files.FileKind.TheVariants.{Source}
use Rattle.mc_shelf.specs.Outside.{View}
use Rattle.mc_driver.specs.Outside.{EndsSaving}
use Rattle.mc_driver.specs.Stages.{SavesWhenDone}
use Rattle.mc_driver.specs.CompileAnswer.{AfterCompiling, IsCompiledUnder}
use Rattle.mc_driver.proofs.Asking.{load_first}
use Rattle.mc_driver.proofs.Endings.{not_loaded}
use Rattle.mc_driver.proofs.Saving.{saves_none, after_load_saving}
use Rattle.mc_driver.proofs.compile.compile_under.Goals as goal

pub returns-in-Ok : goal.returns-in-Ok
returns-in-Ok g c =
    let S = g.S.Shelf in
    let v : View = S.seen c.args.shelf.now in
    let u : View = S.seen c.load.new.shelf in
    let w : View = S.seen c.save_image.new.shelf in
    let name : List ℕ = c.args.image.now in
    let settings : Numbers = numbers_of c.args.settings in
    let bytes : List ℕ = c.in-Ok.bytes.items in
    after_load_saving v u w Source c.args.source.now bytes (Save name ∷ []) (Some name) (λ b before after. AfterCompiling b settings name before after) c.save_image.result c.in-Ok.ensures.ok
    (subst (λ (b : List ℕ). EndsSaving u (Save name ∷ []) (Some name) (SavesWhenDone (λ known. AfterCompiling b settings name)) c.save_image.result w) c.as_slice.ensures.value c.save_image.ensures)

pub returns-in-Err : goal.returns-in-Err
returns-in-Err g c =
    let S = g.S.Shelf in
    let v : View = S.seen c.args.shelf.now in
    let w : View = S.seen c.load.new.shelf in
    let source : List ℕ = c.args.source.now in
    let name : List ℕ = c.args.image.now in
    let settings : Numbers = numbers_of c.args.settings in
    saves_none v w (Load source ∷ []) (Save name ∷ []) (Some name) (λ known. IsCompiledUnder source name settings known v.files v.files) (SavesWhenDone (IsCompiledUnder source name settings)) c.in-Err.status
    (not_loaded v w Source source [] (λ known b. AfterCompiling b settings name v.files v.files) c.in-Err.status c.in-Err.ensures.refused)
    (λ files told some status text a. record { kept = λ other. refl; answers = a })
    (λ files told after all status text a. load_first Source source (λ b. AfterCompiling b settings name (Some files) after) (Some files) all status text a.answers)
