use Rattle.std.proofs.Common.{ℕ, Bool, List, [], ◌∷◌}
use Rattle.mc_shelf.specs.declared.ask.Ask.TheVariants.{Load}
use Rattle.mc_image.specs.Image.{ImageState}
use Rattle.mc_script.specs.Script.{ScriptState}
use Rattle.mc_driver.specs.declared.files.FileKind.TheVariants.{Script}
use Rattle.mc_driver.specs.declared.ending.Origin.TheVariants.{Foreign}
use Rattle.mc_shelf.specs.Outside.{View}
use Rattle.mc_driver.specs.Run.{IsReport}
use Rattle.mc_driver.specs.Stages.{AsksNothing, AfterLoad, AfterScript}
use Rattle.mc_driver.proofs.Endings.{no_image_ends, after_image, no_script_ends, after_script}
use Rattle.mc_driver.proofs.run.exec.Goals as goal

pub returns-in-Err : goal.returns-in-Err
returns-in-Err g c =
    no_image_ends _ _ c.args.image.now (Load c.args.script.now ∷ []) (λ files i. AfterLoad Script c.args.script.now (λ lines. AfterScript lines (λ s. AsksNothing (IsReport Foreign c.args.journal i s))) files) _ c.in-Err.ensures.refused

pub returns-in-Err-load_script : goal.returns-in-Err-load_script
returns-in-Err-load_script g c =
    let S = g.S.Shelf in
    let v : View = S.seen c.args.shelf.now in
    let u : View = S.seen c.load_image.new.shelf in
    let w : View = S.seen c.load_script.new.shelf in
    let image : ImageState = c.in-Ok.image in
    let journal : Bool = c.args.journal in
    let name : List ℕ = c.args.script.now in
    let bytes = c.in-Ok.ensures.ok in
    after_image v u w c.args.image.now bytes.0 image (Load name ∷ []) (λ files i. AfterLoad Script name (λ lines. AfterScript lines (λ s. AsksNothing (IsReport Foreign journal i s))) files) _ bytes.1 bytes.2
    (no_script_ends u w name (λ s. AsksNothing (IsReport Foreign journal image s)) _ c.in-Err-load_script.ensures.refused)

pub returns : goal.returns
returns g c =
    let S = g.S.Shelf in
    let v : View = S.seen c.args.shelf.now in
    let u : View = S.seen c.load_image.new.shelf in
    let u2 : View = S.seen c.load_script.new.shelf in
    let w : View = S.seen c.play.new.shelf in
    let image : ImageState = c.in-Ok.image in
    let script : ScriptState = c.in-Ok-load_script.script in
    let journal : Bool = c.args.journal in
    let name : List ℕ = c.args.script.now in
    let bytes = c.in-Ok.ensures.ok in
    let text = c.in-Ok-load_script.ensures.ok in
    after_image v u w c.args.image.now bytes.0 image (Load name ∷ []) (λ files i. AfterLoad Script name (λ lines. AfterScript lines (λ s. AsksNothing (IsReport Foreign journal i s))) files) c.play.result bytes.1 bytes.2
    (after_script u u2 w name text.0 script (λ s. AsksNothing (IsReport Foreign journal image s)) c.play.result text.1 text.2 c.play.ensures)
