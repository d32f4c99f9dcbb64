use Rattle.std.proofs.Common.{◌≡◌, [], refl, sym, subst, arith, Option, None, map}
use Rattle.std.specs.Prelude.{codes, string_bytes}
use Rattle.mc_words.specs.Commands.{Order, command_of}
use Rattle.mc_shelf.specs.Outside.{View}
use Rattle.mc_driver.specs.Outside.{EndsSaving}
use Rattle.mc_driver.specs.Refusal.{IsLine}
use Rattle.mc_driver.specs.Stages.{AsksNothing, SavesNothing}
use Rattle.mc_driver.specs.Answer.{AnswersTo, asks_of, target_of}
use Rattle.mc_driver.proofs.Endings.{says_ends}
use Rattle.mc_driver.proofs.Saving.{plain_ends}
use Rattle.mc_driver.proofs.command.answer.Goals as goal

pub returns-in-Ok : goal.returns-in-Ok
returns-in-Ok g c =
    let S = g.S.Shelf in
    let v : View = S.seen c.args.shelf.now in
    let w : View = S.seen c.obey.new.shelf in
    subst (λ (o : Option Order). EndsSaving v (asks_of o) (target_of o) (AnswersTo o) c.obey.result w) (sym c.in-Ok.ensures.ok) c.obey.ensures

pub returns-in-Err-NoCommand : goal.returns-in-Err-NoCommand
returns-in-Err-NoCommand g c =
    let S = g.S.Shelf in
    let v : View = S.seen c.args.shelf.now in
    let w : View = S.seen c.say.new.shelf in
    let said : EndsSaving v [] None (SavesNothing (λ files. AsksNothing (IsLine 1 (codes "words\n")))) c.say.result w =
    plain_ends v w [] (λ files. AsksNothing (IsLine 1 (codes "words\n"))) c.say.result (says_ends v w [] (λ files. AsksNothing (IsLine 1 (codes "words\n"))) (codes "words\n") 1 c.say.result (λ e. omega arith) c.say.ensures (λ files told. (refl, (refl, refl)))) in
    let n : Option Order = None in
    let none : command_of (map string_bytes c.args.words.now) ≡ n = c.in-Err-NoCommand.ensures.none (cc (c.in-Err-NoCommand.field-0-is)) in
    subst (λ (o : Option Order). EndsSaving v (asks_of o) (target_of o) (AnswersTo o) c.say.result w) (sym none) said
