use Rattle.std.proofs.Common.{◌≡◌, ℕ, Bool, List, [], ◌∷◌, ◌++◌, Option, Some, None, sym, ap, subst}
use Rattle.std.specs.Prelude.{option_map}
use Rattle.mc_shelf.specs.declared.ask.Ask.TheVariants.{Load}
use Rattle.mc_words.specs.Settings.{numbers_of}
use Rattle.mc_shelf.specs.Outside.{View}
use Rattle.mc_driver.specs.Outside.{Ends}
use Rattle.mc_driver.specs.RunAnswer.{IsRunUnder, IsRunAnswer}
use Rattle.mc_driver.specs.Stages.{settings_load}
use Rattle.mc_driver.proofs.Endings.{after_settings, no_settings_end}
use Rattle.mc_driver.proofs.run.run.Goals as goal

pub returns-in-None : goal.returns-in-None
returns-in-None g c =
    let S = g.S.Shelf in
    let v : View = S.seen c.args.shelf.now in
    let w : View = S.seen c.run_under.new.shelf in
    let source : List ℕ = c.args.source.now in
    let script : List ℕ = c.args.script.now in
    let journal : Bool = c.args.journal in
    let is : option_map (λ t. t.now) c.args.settings ≡ None = ap (λ s. option_map (λ t. t.now) s) c.in-None.is in
    subst (λ (o : Option (List ℕ)). Ends v (settings_load o ++ Load source ∷ Load script ∷ []) (IsRunAnswer source script o journal) c.run_under.result w) (sym is) c.run_under.ensures

pub returns-in-Ok : goal.returns-in-Ok
returns-in-Ok g c =
    let S = g.S.Shelf in
    let v : View = S.seen c.args.shelf.now in
    let w : View = S.seen c.run_under-in-Ok.new.shelf in
    let source : List ℕ = c.args.source.now in
    let script : List ℕ = c.args.script.now in
    let journal : Bool = c.args.journal in
    let is : option_map (λ t. t.now) c.args.settings ≡ Some c.in-Some.name.now = ap (λ s. option_map (λ t. t.now) s) c.in-Some.is in
    let u : View = S.seen c.load_settings.new.shelf in
    let bytes = c.in-Ok.ensures.ok in
    subst (λ (o : Option (List ℕ)). Ends v (settings_load o ++ Load source ∷ Load script ∷ []) (IsRunAnswer source script o journal) c.run_under-in-Ok.result w) (sym is)
    (after_settings v u w c.in-Some.name.now bytes.0 (numbers_of c.in-Ok.settings) (Load source ∷ Load script ∷ []) (λ files. IsRunUnder source script journal files) c.run_under-in-Ok.result bytes.1 bytes.2 c.run_under-in-Ok.ensures)

pub returns-in-Err : goal.returns-in-Err
returns-in-Err g c =
    let S = g.S.Shelf in
    let v : View = S.seen c.args.shelf.now in
    let w : View = S.seen c.load_settings.new.shelf in
    let source : List ℕ = c.args.source.now in
    let script : List ℕ = c.args.script.now in
    let journal : Bool = c.args.journal in
    let is : option_map (λ t. t.now) c.args.settings ≡ Some c.in-Some.name.now = ap (λ s. option_map (λ t. t.now) s) c.in-Some.is in
    subst (λ (o : Option (List ℕ)). Ends v (settings_load o ++ Load source ∷ Load script ∷ []) (IsRunAnswer source script o journal) c.in-Err.status w) (sym is)
    (no_settings_end v w c.in-Some.name.now (Load source ∷ Load script ∷ []) (λ files. IsRunUnder source script journal files) c.in-Err.status c.in-Err.ensures.refused)
