use Rattle.std.proofs.Common.{◌≢◌, ℕ, Bool, List, [], refl, sym, ◌∙◌, arith}
use Rattle.mc_words.specs.Settings.{Numbers, numbers_of}
use Rattle.mc_image.specs.Image.{ImageState}
use Rattle.mc_script.specs.Script.{ScriptState}
use Rattle.mc_compile.specs.Tracks.{CompiledFrom}
use Rattle.mc_straight.specs.Form.{program_of, size_of}
use Rattle.mc_driver.specs.declared.ending.Origin.TheVariants.{Compiled as CompiledOrigin}
use Rattle.mc_shelf.specs.Outside.{View}
use Rattle.mc_driver.specs.Run.{IsReport}
use Rattle.mc_driver.specs.Refusal.{IsSaid}
use Rattle.mc_driver.specs.Stages.{AsksNothing}
use Rattle.mc_driver.specs.RunAnswer.{AfterSource, runs}
use Rattle.mc_driver.proofs.Asking.{begins_none}
use Rattle.mc_driver.proofs.Endings.{ends_as}
use Rattle.mc_driver.proofs.Headline.{run_of_program}
use Rattle.mc_driver.proofs.Refused.{run_refused}
use Rattle.mc_driver.proofs.run.run_source.Goals as goal

pub returns-in-Ok : goal.returns-in-Ok
returns-in-Ok g c =
    let S = g.S.Shelf in
    let v : View = S.seen c.args.shelf.now in
    let w : View = S.seen c.play.new.shelf in
    let image : ImageState = c.in-Ok.image in
    let script : ScriptState = c.args.script.now in
    let journal : Bool = c.args.journal in
    let source : List ℕ = c.args.source.now in
    let settings : Numbers = numbers_of c.args.settings in
    let made : CompiledFrom source settings.workspace_words settings.processes image = c.in-Ok.ensures.ok in
    ends_as v w [] [] (λ files. AsksNothing (IsReport CompiledOrigin journal image script)) (λ files. AsksNothing (AfterSource source settings journal script)) c.play.result c.play.ensures
    (λ files told some status text report. (
      report.0,
      runs (record {
        image = image;
        compiled = made;
        report = report.1;
        meaning = run_of_program (program_of made.form) (record { workspace = settings.workspace_words; processes = settings.processes; size = size_of made.straight.tokens }) image script report.1.made made.compiled report.1.stops (omega (arith, c.args.settings.workspace_least));
      }),
    ))
    (λ files told all status text a. begins_none all)

pub returns-in-Err : goal.returns-in-Err
returns-in-Err g c =
    let S = g.S.Shelf in
    let v : View = S.seen c.args.shelf.now in
    let w : View = S.seen c.refuse.new.shelf in
    let script : ScriptState = c.args.script.now in
    let journal : Bool = c.args.journal in
    let source : List ℕ = c.args.source.now in
    let settings : Numbers = numbers_of c.args.settings in
    ends_as v w [] [] (λ files. AsksNothing (IsSaid c.in-Err.refusal)) (λ files. AsksNothing (AfterSource source settings journal script)) c.refuse.result c.refuse.ensures
    (λ files told some status text said. (said.0, run_refused source settings journal script c.in-Err.refusal status text c.in-Err.ensures.refused said.1))
    (λ files told all status text a. begins_none all)
