use Rattle.std.proofs.Common.{◌∷◌, [], ◌∙◌, ℕ, List, Some, refl, subst}
use Rattle.mc_shelf.specs.declared.ask.Ask.TheVariants.{Save}
use Rattle.mc_words.specs.Settings.{Numbers, numbers_of}
use Rattle.mc_shelf.specs.Outside.{View}
use Rattle.mc_driver.specs.Refusal.{IsSaid}
use Rattle.mc_driver.specs.Stages.{AsksNothing, IsSaved, SavesWhenDone}
use Rattle.mc_driver.specs.CompileAnswer.{AfterCompiling, saves}
use Rattle.mc_driver.proofs.Asking.{begins_none, compiled_first}
use Rattle.mc_driver.proofs.Refused.{compile_refused}
use Rattle.mc_driver.proofs.Saving.{saves_none, saving_as}
use Rattle.mc_driver.proofs.compile.save_image.Goals as goal

pub returns-in-Ok : goal.returns-in-Ok
returns-in-Ok g c =
    let S = g.S.Shelf in
    let v : View = S.seen c.args.shelf.now in
    let w : View = S.seen c.save.new.shelf in
    let name : List ℕ = c.args.image.now in
    let settings : Numbers = numbers_of c.args.settings in
    let made = c.in-Ok.ensures.ok in
    saving_as v w (Save name ∷ []) (Some name) (λ known. IsSaved name c.as_slice.result.now) (SavesWhenDone (λ known. AfterCompiling c.args.source.now settings name)) c.save.result c.save.ensures
    (λ known may after some status text s. record {
      kept = λ other. absurd (other s.said.0);
      answers = saves made.0 made.1 (subst (λ (b : List ℕ). IsSaved name b v.files after some status text) (c.as_slice.ensures.value ∙ made.2) s);
    })
    (λ files told after all status text a. compiled_first c.args.source.now settings name made.0 (Some files) after all status text made.1 a.answers)

pub returns-in-Err : goal.returns-in-Err
returns-in-Err g c =
    let S = g.S.Shelf in
    let v : View = S.seen c.args.shelf.now in
    let w : View = S.seen c.refuse.new.shelf in
    let source : List ℕ = c.args.source.now in
    let name : List ℕ = c.args.image.now in
    let settings : Numbers = numbers_of c.args.settings in
    saves_none v w [] (Save name ∷ []) (Some name) (λ files. AsksNothing (IsSaid c.in-Err.refusal)) (SavesWhenDone (λ known. AfterCompiling source settings name)) c.refuse.result c.refuse.ensures
    (λ known may some status text said. record { kept = λ other. refl; answers = compile_refused source settings name c.in-Err.refusal v.files v.files some status text c.in-Err.ensures.refused said.0 said.1 })
    (λ files told after all status text a. begins_none all)
