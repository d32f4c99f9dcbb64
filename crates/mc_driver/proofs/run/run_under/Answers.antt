use Rattle.std.proofs.Common.{ℕ, Bool, List, [], ◌∷◌, subst}
use Rattle.mc_shelf.specs.declared.ask.Ask.TheVariants.{Load}
use Rattle.mc_words.specs.Settings.{Numbers, numbers_of}
use Rattle.mc_script.specs.Script.{ScriptState}
use Rattle.mc_driver.specs.declared.files.FileKind.TheVariants.{Source, Script}
use Rattle.mc_shelf.specs.Outside.{View}
use Rattle.mc_driver.specs.Outside.{Ends}
use Rattle.mc_driver.specs.Stages.{AsksNothing, AfterLoad, AfterScript}
use Rattle.mc_driver.specs.RunAnswer.{AfterSource}
use Rattle.mc_driver.proofs.Endings.{not_loaded, after_load, no_script_ends, after_script}
use Rattle.mc_driver.proofs.run.run_under.Goals as goal

pub returns-in-Err : goal.returns-in-Err
returns-in-Err g c =
    not_loaded _ _ Source c.args.source.now (Load c.args.script.now ∷ []) (λ files bytes. AfterLoad Script c.args.script.now (λ lines. AfterScript lines (λ s. AsksNothing (AfterSource bytes (numbers_of c.args.settings) c.args.journal s))) files) _ c.in-Err.ensures.refused

pub returns-in-Err-load_script : goal.returns-in-Err-load_script
returns-in-Err-load_script g c =
    let S = g.S.Shelf in
    let v : View = S.seen c.args.shelf.now in
    let u : View = S.seen c.load.new.shelf in
    let w : View = S.seen c.load_script.new.shelf in
    let bytes : List ℕ = c.in-Ok.source.items in
    let journal : Bool = c.args.journal in
    let settings : Numbers = numbers_of c.args.settings in
    let name : List ℕ = c.args.script.now in
    after_load v u w Source c.args.source.now bytes (Load name ∷ []) (λ files b. AfterLoad Script name (λ lines. AfterScript lines (λ s. AsksNothing (AfterSource b settings journal s))) files) _ c.in-Ok.ensures.ok
    (no_script_ends u w name (λ s. AsksNothing (AfterSource bytes settings journal s)) _ c.in-Err-load_script.ensures.refused)

pub returns : goal.returns
returns g c =
    let S = g.S.Shelf in
    let v : View = S.seen c.args.shelf.now in
    let u : View = S.seen c.load.new.shelf in
    let u2 : View = S.seen c.load_script.new.shelf in
    let w : View = S.seen c.run_source.new.shelf in
    let bytes : List ℕ = c.in-Ok.source.items in
    let script : ScriptState = c.in-Ok-load_script.script in
    let journal : Bool = c.args.journal in
    let settings : Numbers = numbers_of c.args.settings in
    let name : List ℕ = c.args.script.now in
    let text = c.in-Ok-load_script.ensures.ok in
    let ran : Ends u2 [] (λ files. AsksNothing (AfterSource bytes settings journal script)) c.run_source.result w =
    subst (λ (b : List ℕ). Ends u2 [] (λ files. AsksNothing (AfterSource b settings journal script)) c.run_source.result w) c.as_slice.ensures.value c.run_source.ensures in
    after_load v u w Source c.args.source.now bytes (Load name ∷ []) (λ files b. AfterLoad Script name (λ lines. AfterScript lines (λ s. AsksNothing (AfterSource b settings journal s))) files) c.run_source.result c.in-Ok.ensures.ok
    (after_script u u2 w name text.0 script (λ s. AsksNothing (AfterSource bytes settings journal s)) c.run_source.result text.1 text.2 ran)
