use Rattle.std.proofs.Common.{◌≡◌, ◌∷◌, [], sym, ap, subst, Option, Some}
use Rattle.std.specs.Prelude.{◌++◌, option_map}
use Rattle.mc_shelf.specs.declared.ask.Ask.TheVariants.{Load}
use Rattle.mc_words.specs.declared.command.Command.{Command}
use Rattle.mc_words.specs.Commands.{Order, Run, Compile, Exec, Check, Generate, order_of}
use Rattle.mc_shelf.specs.Outside.{View}
use Rattle.mc_driver.specs.Outside.{EndsSaving}
use Rattle.mc_driver.specs.Answer.{AnswersTo, asks_of, target_of}
use Rattle.mc_driver.specs.RunAnswer.{IsRunAnswer}
use Rattle.mc_driver.specs.ExecAnswer.{IsExecAnswer}
use Rattle.mc_driver.specs.CheckAnswer.{IsCheckAnswer}
use Rattle.mc_driver.specs.Stages.{settings_load}
use Rattle.mc_driver.proofs.Saving.{plain_ends}
use Rattle.mc_driver.proofs.command.obey.Goals as goal

order_at : (k l : Command) → k ≡ l → Some (order_of k) ≡ Some (order_of l)
order_at k l e = ap (λ (x : Command). let o : Option Order = Some (order_of x) in o) e

pub returns-in-Run : goal.returns-in-Run
returns-in-Run g c =
    let S = g.S.Shelf in
    let v : View = S.seen c.args.shelf.now in
    let w : View = S.seen c.run.new.shelf in
    let settings = option_map (λ t. t.now) c.in-Run.settings in
    let order : Option Order = Some (Run c.in-Run.source.now c.in-Run.script.now settings c.in-Run.journal) in
    let is : Some (order_of c.args.command) ≡ order = order_at c.args.command _ c.in-Run.is in
    subst (λ (o : Option Order). EndsSaving v (asks_of o) (target_of o) (AnswersTo o) c.run.result w) (sym is)
    (plain_ends v w (settings_load settings ++ Load c.in-Run.source.now ∷ Load c.in-Run.script.now ∷ []) (IsRunAnswer c.in-Run.source.now c.in-Run.script.now settings c.in-Run.journal) c.run.result c.run.ensures)

pub returns-in-Exec : goal.returns-in-Exec
returns-in-Exec g c =
    let S = g.S.Shelf in
    let v : View = S.seen c.args.shelf.now in
    let w : View = S.seen c.exec.new.shelf in
    let order : Option Order = Some (Exec c.in-Exec.image.now c.in-Exec.script.now c.in-Exec.journal) in
    let is : Some (order_of c.args.command) ≡ order = order_at c.args.command _ c.in-Exec.is in
    subst (λ (o : Option Order). EndsSaving v (asks_of o) (target_of o) (AnswersTo o) c.exec.result w) (sym is)
    (plain_ends v w (Load c.in-Exec.image.now ∷ Load c.in-Exec.script.now ∷ []) (IsExecAnswer c.in-Exec.image.now c.in-Exec.script.now c.in-Exec.journal) c.exec.result c.exec.ensures)

pub returns-in-Compile : goal.returns-in-Compile
returns-in-Compile g c =
    let S = g.S.Shelf in
    let v : View = S.seen c.args.shelf.now in
    let w : View = S.seen c.compile.new.shelf in
    let order : Option Order = Some (Compile c.in-Compile.source.now c.in-Compile.image.now (option_map (λ t. t.now) c.in-Compile.settings)) in
    let is : Some (order_of c.args.command) ≡ order = order_at c.args.command _ c.in-Compile.is in
    subst (λ (o : Option Order). EndsSaving v (asks_of o) (target_of o) (AnswersTo o) c.compile.result w) (sym is) c.compile.ensures

pub returns-in-Check : goal.returns-in-Check
returns-in-Check g c =
    let S = g.S.Shelf in
    let v : View = S.seen c.args.shelf.now in
    let w : View = S.seen c.check.new.shelf in
    let order : Option Order = Some (Check c.in-Check.source.now) in
    let is : Some (order_of c.args.command) ≡ order = order_at c.args.command _ c.in-Check.is in
    subst (λ (o : Option Order). EndsSaving v (asks_of o) (target_of o) (AnswersTo o) c.check.result w) (sym is)
    (plain_ends v w (Load c.in-Check.source.now ∷ []) (IsCheckAnswer c.in-Check.source.now) c.check.result c.check.ensures)

pub returns-in-Generate : goal.returns-in-Generate
returns-in-Generate g c =
    let S = g.S.Shelf in
    let v : View = S.seen c.args.shelf.now in
    let w : View = S.seen c.generate.new.shelf in
    let order : Option Order = Some (Generate c.in-Generate.n) in
    let is : Some (order_of c.args.command) ≡ order = order_at c.args.command _ c.in-Generate.is in
    subst (λ (o : Option Order). EndsSaving v (asks_of o) (target_of o) (AnswersTo o) c.generate.result w) (sym is) c.generate.ensures
