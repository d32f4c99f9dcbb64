use Rattle.std.proofs.Common.{◌≡◌, ℕ, ◌+◌, Bool, List, [], refl, sym, ap, ◌∙◌, subst}
use Rattle.std.specs.Prelude.{IsSome}
use Rattle.mc_image.specs.Image.{ImageState}
use Rattle.mc_script.specs.Script.{ScriptState}
use Rattle.pdp_machine.specs.Timed.{Timed, Advanced}
use Rattle.pdp_machine.specs.Run.{advances, machine_run}
use Rattle.pdp_machine.specs.Stopping.{run_stops}
use Rattle.mc_driver.specs.declared.ending.Origin.{Origin}
use Rattle.mc_shelf.specs.declared.shelf.PutFault.{PutFault}
use Rattle.mc_shelf.specs.Outside.{View}
use Rattle.mc_driver.specs.Outside.{Breaks}
use Rattle.mc_driver.specs.Run.{status_of, ending_for, text_of, IsReport}
use Rattle.mc_driver.specs.Stages.{AsksNothing}
use Rattle.mc_driver.proofs.Endings.{report_ends, breaks_ends, tight_ends}
use Rattle.mc_driver.proofs.Headline.{plain_status}
use Rattle.mc_driver.proofs.run.play.Goals as goal

pub returns-in-Ok-print_report : goal.returns-in-Ok-print_report
unfolding machine_run
returns-in-Ok-print_report g c =
    let S = g.S.Shelf in
    let v : View = S.seen c.args.shelf.now in
    let w : View = S.seen c.print_report.new.shelf in
    let origin : Origin = c.args.origin in
    let journal : Bool = c.args.journal in
    let image : ImageState = c.args.image.now in
    let script : ScriptState = c.args.script.now in
    let m : Timed = c.in-Ok.machine in
    let run : Advanced = machine_run image script in
    let whole : advances (m.limit + 1) m ≡ run = ap (λ (x : Timed). advances (x.limit + 1) x) c.in-Ok.ensures.value in
    let stops : IsSome run.machine.stop = subst (λ (a : Advanced). IsSome a.machine.stop) whole (run_stops m c.in-Ok.ensures.timed) in
    let text : List ℕ = text_of origin journal (advances (m.limit + 1) m) in
    let text_is : text ≡ text_of origin journal run = ap (λ (a : Advanced). text_of origin journal a) whole in
    let ends : c.in-Ok-print_report.ending ≡ ending_for origin run.machine = c.in-Ok-print_report.ensures.ending ∙ ap (λ (a : Advanced). ending_for origin a.machine) whole in
    let status_is : c.status_of.result ≡ status_of (ending_for origin run.machine) = c.status_of.ensures ∙ ap status_of ends in
    let plain = plain_status (ending_for origin run.machine) in
    report_ends v w (λ files. AsksNothing (IsReport origin journal image script)) text c.status_of.result (λ e. plain.0 (sym status_is ∙ e)) (λ e. plain.1 (sym status_is ∙ e)) (λ e. plain.2 (sym status_is ∙ e)) c.in-Ok-print_report.ensures.ok
    (λ files told. (refl, record { made = c.in-Ok.ensures.made; stops = stops; text_is = text_is; status_is = status_is }))

pub returns-in-Err-Failed : goal.returns-in-Err-Failed
unfolding machine_run
returns-in-Err-Failed g c =
    let S = g.S.Shelf in
    let v : View = S.seen c.args.shelf.now in
    let w : View = S.seen c.print_report.new.shelf in
    let origin : Origin = c.args.origin in
    let journal : Bool = c.args.journal in
    let image : ImageState = c.args.image.now in
    let script : ScriptState = c.args.script.now in
    let m : Timed = c.in-Ok.machine in
    let run : Advanced = machine_run image script in
    let whole : advances (m.limit + 1) m ≡ run = ap (λ (x : Timed). advances (x.limit + 1) x) c.in-Ok.ensures.value in
    let stops : IsSome run.machine.stop = subst (λ (a : Advanced). IsSome a.machine.stop) whole (run_stops m c.in-Ok.ensures.timed) in
    let text : List ℕ = text_of origin journal (advances (m.limit + 1) m) in
    let text_is : text ≡ text_of origin journal run = ap (λ (a : Advanced). text_of origin journal a) whole in
    breaks_ends v w (λ files. AsksNothing (IsReport origin journal image script)) text (status_of (ending_for origin run.machine)) (subst (λ (f : PutFault). Breaks v [] text f w) c.in-Err-Failed.field-0-is c.in-Err-Failed.ensures.refused)
    (λ files told. (refl, record { made = c.in-Ok.ensures.made; stops = stops; text_is = text_is; status_is = refl }))

pub returns : goal.returns
unfolding machine_run
returns g c =
    let S = g.S.Shelf in
    let v : View = S.seen c.args.shelf.now in
    let w : View = S.seen c.print_report.new.shelf in
    let origin : Origin = c.args.origin in
    let journal : Bool = c.args.journal in
    let image : ImageState = c.args.image.now in
    let script : ScriptState = c.args.script.now in
    let m : Timed = c.in-Ok.machine in
    let run : Advanced = machine_run image script in
    let whole : advances (m.limit + 1) m ≡ run = ap (λ (x : Timed). advances (x.limit + 1) x) c.in-Ok.ensures.value in
    let stops : IsSome run.machine.stop = subst (λ (a : Advanced). IsSome a.machine.stop) whole (run_stops m c.in-Ok.ensures.timed) in
    let text : List ℕ = text_of origin journal (advances (m.limit + 1) m) in
    let text_is : text ≡ text_of origin journal run = ap (λ (a : Advanced). text_of origin journal a) whole in
    tight_ends v w (λ files. AsksNothing (IsReport origin journal image script)) text (status_of (ending_for origin run.machine)) (subst (λ (f : PutFault). Breaks v [] text f w) c.in-Err-Memory.field-0-is c.in-Err-Memory.ensures.refused)
    (λ files told. (refl, record { made = c.in-Ok.ensures.made; stops = stops; text_is = text_is; status_is = refl }))
