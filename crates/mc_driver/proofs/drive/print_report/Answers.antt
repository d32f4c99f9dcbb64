use Rattle.std.proofs.Common.{◌≡◌, ◌+◌, ℕ, Bool, List, [], ◌++◌, Option, sym, ap, ◌∙◌, subst}
use Rattle.std.proofs.lemmas.List.{append-nil}
use Rattle.mc_shelf.specs.declared.shelf.PutFault.{PutFault}
use Rattle.pdp_machine.specs.declared.stop.Stop.{Stop}
use Rattle.pdp_machine.specs.Timed.{Timed, Advanced}
use Rattle.pdp_machine.specs.Run.{advances}
use Rattle.mc_report.specs.declared.ending.Ending.{Ending}
use Rattle.mc_report.specs.Report.{count_line, ending_line}
use Rattle.mc_shelf.specs.Outside.{View}
use Rattle.mc_driver.specs.Outside.{Streams, Breaks, lines_of}
use Rattle.mc_driver.specs.Run.{ending_at, ending_for, trap_word}
use Rattle.mc_driver.proofs.Streams.{streams_then, streams_print, breaks_then, breaks_before, handed_on}
use Rattle.mc_driver.proofs.drive.print_report.Goals as goal

pub returns-in_err-stop-clause-refused : goal.returns-in_err-stop-clause-refused
returns-in_err-stop-clause-refused g c =
    let run : Advanced = advances (c.args.machine.now.limit + 1) c.args.machine.now in
    let journal : Bool = c.args.journal in
    let last : List ℕ = count_line run.machine.instructions ++ ending_line (ending_for c.args.origin run.machine) in
    let fault : PutFault = c.in_err-stop.field-0.0 in
    handed_on c.from_residual.result fault _ c.from_residual.ensures.1 (breaks_before _ _ [] (lines_of journal run.entries) last fault c.in_err-stop.ensures.refused)

pub returns-in_err-put-clause-refused : goal.returns-in_err-put-clause-refused
returns-in_err-put-clause-refused g c =
    let run : Advanced = advances (c.args.machine.now.limit + 1) c.args.machine.now in
    let m : Timed = c.drive.new.machine in
    let journal : Bool = c.args.journal in
    let S = g.S.Shelf in
    let u : View = S.seen c.drive.new.shelf in
    let w : View = S.seen c.put.new.shelf in
    let e1 = ap (λ (s : Option Stop). ending_at c.args.origin s c.peek.result c.peek-2.result) (sym c.in_ok-stop.ensures.stop) in
    let e2 = ap (λ (x : ℕ). ending_at c.args.origin m.stop x c.peek-2.result) c.peek.ensures in
    let e3 = ap (λ (x : ℕ). ending_at c.args.origin m.stop (trap_word m) x) c.peek-2.ensures in
    let ends : c.ending_at-ending.result ≡ ending_for c.args.origin run.machine = c.ending_at-ending.ensures.value ∙ e1 ∙ e2 ∙ e3 ∙ ap (ending_for c.args.origin) c.in_ok-stop.ensures.machine in
    let count : c.instructions.result ≡ run.machine.instructions = c.instructions.ensures ∙ ap (λ (x : Timed). x.instructions) c.in_ok-stop.ensures.machine in
    let last : List ℕ = count_line run.machine.instructions ++ ending_line (ending_for c.args.origin run.machine) in
    let said : c.as_slice.result.now ≡ last =
    c.as_slice.ensures.value ∙ c.last_lines-lines.ensures ∙ ap (λ (n : ℕ). count_line n ++ ending_line c.ending_at-ending.result) count ∙ ap (λ (e : Ending). count_line run.machine.instructions ++ ending_line e) ends in
    let fault : PutFault = c.in_err-put.field-0.0 in
    let here : Breaks u c.drive.new.pieces last fault w = subst (λ (l : List ℕ). Breaks u c.drive.new.pieces l fault w) said c.in_err-put.ensures.refused in
    handed_on c.from_residual-in_err-put.result fault _ c.from_residual-in_err-put.ensures.1
    (breaks_then _ u w [] (lines_of journal run.entries) c.drive.new.pieces last fault c.in_ok-stop.ensures.ok here)

pub returns-in_err-flush-clause-refused : goal.returns-in_err-flush-clause-refused
returns-in_err-flush-clause-refused g c =
    let run : Advanced = advances (c.args.machine.now.limit + 1) c.args.machine.now in
    let m : Timed = c.drive.new.machine in
    let journal : Bool = c.args.journal in
    let S = g.S.Shelf in
    let v : View = S.seen c.args.shelf.now in
    let u : View = S.seen c.drive.new.shelf in
    let w : View = S.seen c.put.new.shelf in
    let z : View = S.seen c.flush.new.shelf in
    let e1 = ap (λ (s : Option Stop). ending_at c.args.origin s c.peek.result c.peek-2.result) (sym c.in_ok-stop.ensures.stop) in
    let e2 = ap (λ (x : ℕ). ending_at c.args.origin m.stop x c.peek-2.result) c.peek.ensures in
    let e3 = ap (λ (x : ℕ). ending_at c.args.origin m.stop (trap_word m) x) c.peek-2.ensures in
    let ends : c.ending_at-ending.result ≡ ending_for c.args.origin run.machine = c.ending_at-ending.ensures.value ∙ e1 ∙ e2 ∙ e3 ∙ ap (ending_for c.args.origin) c.in_ok-stop.ensures.machine in
    let count : c.instructions.result ≡ run.machine.instructions = c.instructions.ensures ∙ ap (λ (x : Timed). x.instructions) c.in_ok-stop.ensures.machine in
    let last : List ℕ = count_line run.machine.instructions ++ ending_line (ending_for c.args.origin run.machine) in
    let said : c.as_slice.result.now ≡ last =
    c.as_slice.ensures.value ∙ c.last_lines-lines.ensures ∙ ap (λ (n : ℕ). count_line n ++ ending_line c.ending_at-ending.result) count ∙ ap (λ (e : Ending). count_line run.machine.instructions ++ ending_line e) ends in
    let fault : PutFault = c.in_err-flush.field-0.0 in
    let both : Streams v [] (lines_of journal run.entries ++ last) w c.put.new.pieces =
    streams_then v u w [] (lines_of journal run.entries) c.drive.new.pieces last c.put.new.pieces c.in_ok-stop.ensures.ok (subst (λ (l : List ℕ). Streams u c.drive.new.pieces l w c.put.new.pieces) said c.in_ok-put.ensures.ok) in
    let all = breaks_then v w z [] (lines_of journal run.entries ++ last) c.put.new.pieces [] fault both c.in_err-flush.ensures.refused in
    handed_on c.from_residual-in_err-flush.result fault _ c.from_residual-in_err-flush.ensures.1
    (subst (λ (l : List ℕ). Breaks v [] l fault z) (append-nil (lines_of journal run.entries ++ last)) all)

pub returns-clause-ok : goal.returns-clause-ok
returns-clause-ok g c =
    let run : Advanced = advances (c.args.machine.now.limit + 1) c.args.machine.now in
    let m : Timed = c.drive.new.machine in
    let journal : Bool = c.args.journal in
    let S = g.S.Shelf in
    let v : View = S.seen c.args.shelf.now in
    let u : View = S.seen c.drive.new.shelf in
    let w : View = S.seen c.put.new.shelf in
    let z : View = S.seen c.flush.new.shelf in
    let e1 = ap (λ (s : Option Stop). ending_at c.args.origin s c.peek.result c.peek-2.result) (sym c.in_ok-stop.ensures.stop) in
    let e2 = ap (λ (x : ℕ). ending_at c.args.origin m.stop x c.peek-2.result) c.peek.ensures in
    let e3 = ap (λ (x : ℕ). ending_at c.args.origin m.stop (trap_word m) x) c.peek-2.ensures in
    let ends : c.ending_at-ending.result ≡ ending_for c.args.origin run.machine = c.ending_at-ending.ensures.value ∙ e1 ∙ e2 ∙ e3 ∙ ap (ending_for c.args.origin) c.in_ok-stop.ensures.machine in
    let count : c.instructions.result ≡ run.machine.instructions = c.instructions.ensures ∙ ap (λ (x : Timed). x.instructions) c.in_ok-stop.ensures.machine in
    let last : List ℕ = count_line run.machine.instructions ++ ending_line (ending_for c.args.origin run.machine) in
    let said : c.as_slice.result.now ≡ last =
    c.as_slice.ensures.value ∙ c.last_lines-lines.ensures ∙ ap (λ (n : ℕ). count_line n ++ ending_line c.ending_at-ending.result) count ∙ ap (λ (e : Ending). count_line run.machine.instructions ++ ending_line e) ends in
    let both : Streams v [] (lines_of journal run.entries ++ last) w c.put.new.pieces =
    streams_then v u w [] (lines_of journal run.entries) c.drive.new.pieces last c.put.new.pieces c.in_ok-stop.ensures.ok (subst (λ (l : List ℕ). Streams u c.drive.new.pieces l w c.put.new.pieces) said c.in_ok-put.ensures.ok) in
    streams_print v w z [] (lines_of journal run.entries ++ last) c.put.new.pieces both c.in_ok-flush.ensures.ok
