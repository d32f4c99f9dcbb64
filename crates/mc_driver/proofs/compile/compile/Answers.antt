use Rattle.std.proofs.Common.{◌≡◌, ◌∷◌, [], ◌++◌, ℕ, List, Option, Some, None, refl, sym, ap, subst}
use Rattle.std.specs.Prelude.{option_map}
use Rattle.mc_shelf.specs.declared.ask.Ask.TheVariants.{Load, Save}
use Rattle.mc_words.specs.Settings.{numbers_of}
use Rattle.mc_driver.specs.declared.files.FileKind.TheVariants.{Settings}
use Rattle.mc_shelf.specs.Outside.{View}
use Rattle.mc_driver.specs.Outside.{EndsSaving}
use Rattle.mc_driver.specs.Stages.{AfterLoad, AfterReadingSettings, settings_load}
use Rattle.mc_driver.specs.CompileAnswer.{IsCompiledUnder, IsCompileAnswer}
use Rattle.mc_driver.proofs.Asking.{load_first}
use Rattle.mc_driver.proofs.Endings.{refused_settings}
use Rattle.mc_driver.proofs.Saving.{saves_none, after_settings_saving}
use Rattle.mc_driver.proofs.compile.compile.Goals as goal

pub returns-in-None : goal.returns-in-None
returns-in-None g c =
    let S = g.S.Shelf in
    let v : View = S.seen c.args.shelf.now in
    let w : View = S.seen c.compile_under.new.shelf in
    let source : List ℕ = c.args.source.now in
    let image : List ℕ = c.args.image.now in
    let is : option_map (λ t. t.now) c.args.settings ≡ None = ap (λ s. option_map (λ t. t.now) s) c.in-None.is in
    subst (λ (o : Option (List ℕ)). EndsSaving v (settings_load o ++ Load source ∷ Save image ∷ []) (Some image) (IsCompileAnswer source image o) c.compile_under.result w) (sym is) c.compile_under.ensures

pub returns-in-Ok : goal.returns-in-Ok
returns-in-Ok g c =
    let S = g.S.Shelf in
    let v : View = S.seen c.args.shelf.now in
    let u : View = S.seen c.load_settings.new.shelf in
    let w : View = S.seen c.compile_under-in-Ok.new.shelf in
    let source : List ℕ = c.args.source.now in
    let image : List ℕ = c.args.image.now in
    let is : option_map (λ t. t.now) c.args.settings ≡ Some c.in-Some.name.now = ap (λ s. option_map (λ t. t.now) s) c.in-Some.is in
    let bytes = c.in-Ok.ensures.ok in
    subst (λ (o : Option (List ℕ)). EndsSaving v (settings_load o ++ Load source ∷ Save image ∷ []) (Some image) (IsCompileAnswer source image o) c.compile_under-in-Ok.result w) (sym is)
    (after_settings_saving v u w c.in-Some.name.now bytes.0 (numbers_of c.in-Ok.settings) (Load source ∷ Save image ∷ []) (Some image) (λ n known before after. IsCompiledUnder source image n known before after) c.compile_under-in-Ok.result bytes.1 bytes.2 c.compile_under-in-Ok.ensures)

pub returns-in-Err : goal.returns-in-Err
returns-in-Err g c =
    let S = g.S.Shelf in
    let v : View = S.seen c.args.shelf.now in
    let w : View = S.seen c.load_settings.new.shelf in
    let source : List ℕ = c.args.source.now in
    let image : List ℕ = c.args.image.now in
    let name : List ℕ = c.in-Some.name.now in
    let is : option_map (λ t. t.now) c.args.settings ≡ Some name = ap (λ s. option_map (λ t. t.now) s) c.in-Some.is in
    subst (λ (o : Option (List ℕ)). EndsSaving v (settings_load o ++ Load source ∷ Save image ∷ []) (Some image) (IsCompileAnswer source image o) c.in-Err.status w) (sym is)
    (saves_none v w (Load name ∷ []) (Load source ∷ Save image ∷ []) (Some image) (AfterLoad Settings name (λ b. AfterReadingSettings b (λ n a s t. ⊥))) (IsCompileAnswer source image (Some name)) c.in-Err.status c.in-Err.ensures.refused
    (λ known may some status text a. record { kept = λ other. refl; answers = refused_settings name (λ known n. IsCompiledUnder source image n known v.files v.files) known some status text a })
    (λ files told after all status text a. load_first Settings name (λ b. AfterReadingSettings b (λ n. IsCompiledUnder source image n (Some files) (Some files) after)) (Some files) all status text a.answers))
