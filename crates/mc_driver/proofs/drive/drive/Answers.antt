use Rattle.std.proofs.Common.{◌≡◌, ◌<◌, ◌+◌, ◌-◌, suc, ℕ, Bool, List, [], ◌++◌, length, Some, refl, sym, ap, ◌∙◌, subst, arith}
use Rattle.mc_shelf.specs.declared.shelf.PutFault.{PutFault}
use Rattle.pdp_dev.specs.declared.entry.Entry.{Entry}
use Rattle.pdp_machine.specs.Timed.{Timed, Advanced}
use Rattle.pdp_machine.specs.Run.{advances}
use Rattle.mc_shelf.specs.Outside.{View}
use Rattle.mc_driver.specs.Outside.{Streams, Breaks, lines_of}
use Rattle.mc_driver.proofs.Ran.{one_more_entries, one_more_machine, ran_to_stop, advances_grow}
use Rattle.mc_driver.proofs.Streams.{streams_none, streams_then, breaks_then, breaks_before, handed_on, lines-append}
use Rattle.mc_driver.proofs.drive.drive.Goals as goal

pub loop-i-init : goal.loop-i-init
unfolding advances
loop-i-init g c =
    let none : length c.args.pieces.now < 4096 = subst (λ (l : List ℕ). length l < 4096) (sym c.requires) (omega arith) in
    let S = g.S.Shelf in
    let v : View = S.seen c.args.shelf.now in
    record {
      late = omega arith;
      limit = refl;
      machine = refl;
      fits = none;
      streams = subst (λ (l : List ℕ). Streams v [] [] v l) (sym c.requires) (streams_none v []);
    }

pub loop-i-preserved : goal.loop-i-preserved
loop-i-preserved g c =
    let m : Timed = c.args.machine.now in
    let i : ℕ = c.loop-i._i in
    let journal : Bool = c.args.journal in
    let before : List Entry = (advances i m).entries in
    let more : List Entry = c.as_slice.result.now in
    let S = g.S.Shelf in
    let v : View = S.seen c.args.shelf.now in
    let w : View = S.seen c.put_lines.new.shelf in
    let added = one_more_entries m c.loop-i.machine i before more (before ++ more) refl c.loop-i.invariant.machine (c.as_slice.ensures.value ∙ c.advance-more.ensures.entries) refl in
    let both = streams_then v _ w [] (lines_of journal before) _ (lines_of journal more) c.put_lines.new.pieces c.loop-i.invariant.streams c.in_ok-put_lines.ensures.ok in
    let here = subst (λ (l : List ℕ). Streams v [] l w c.put_lines.new.pieces) (sym (lines-append journal before more) ∙ ap (lines_of journal) added) both in
    let next : suc i ≡ i + 1 = omega arith in
    record {
      late = omega (arith, c.loop-i.invariant.late, c.advance-more.ensures.later (rw c.in_default.is refl));
      limit = c.advance-more.ensures.limit ∙ c.loop-i.invariant.limit;
      machine = one_more_machine m c.loop-i.machine c.advance-more.new.self i c.loop-i.invariant.machine c.advance-more.ensures.machine ∙ ap (λ (k : ℕ). (advances k m).machine) next;
      fits = c.in_ok-put_lines.ensures.fits;
      streams = subst (λ (k : ℕ). Streams v [] (lines_of journal (advances k m).entries) w c.put_lines.new.pieces) next here;
    }

pub returns-in_err-put_lines-clause-stands : goal.returns-in_err-put_lines-clause-stands
returns-in_err-put_lines-clause-stands g c =
    (suc c.loop-i._i, one_more_machine c.args.machine.now c.loop-i.machine c.advance-more.new.self c.loop-i._i c.loop-i.invariant.machine c.advance-more.ensures.machine)

pub returns-in_err-put_lines-clause-refused : goal.returns-in_err-put_lines-clause-refused
returns-in_err-put_lines-clause-refused g c =
    let m : Timed = c.args.machine.now in
    let i : ℕ = c.loop-i._i in
    let journal : Bool = c.args.journal in
    let before : List Entry = (advances i m).entries in
    let more : List Entry = c.as_slice.result.now in
    let S = g.S.Shelf in
    let v : View = S.seen c.args.shelf.now in
    let w : View = S.seen c.put_lines.new.shelf in
    let fault : PutFault = c.in_err-put_lines.field-0.0 in
    let here = breaks_then v _ w [] (lines_of journal before) _ (lines_of journal more) fault c.loop-i.invariant.streams c.in_err-put_lines.ensures.refused in
    let added = one_more_entries m c.loop-i.machine i before more (before ++ more) refl c.loop-i.invariant.machine (c.as_slice.ensures.value ∙ c.advance-more.ensures.entries) refl in
    let grow = advances_grow (suc i) (m.limit - i) m in
    let bound : i < m.limit + 1 = omega (arith, c.limit.ensures, c.from-i-end.ensures, c.loop-i-test.true) in
    let n : (m.limit - i) + suc i ≡ m.limit + 1 = omega arith in
    let all : (lines_of journal before ++ lines_of journal more) ++ lines_of journal grow.0 ≡ lines_of journal (advances (m.limit + 1) m).entries =
    ap (λ (l : List ℕ). l ++ lines_of journal grow.0) (sym (lines-append journal before more)) ∙ sym (lines-append journal (before ++ more) grow.0) ∙ ap (lines_of journal) (ap (λ (l : List Entry). l ++ grow.0) added ∙ sym grow.1) ∙ ap (λ (k : ℕ). lines_of journal (advances k m).entries) n in
    let whole = breaks_before v w [] (lines_of journal before ++ lines_of journal more) (lines_of journal grow.0) fault here in
    handed_on c.from_residual.result fault (λ f. Breaks v [] (lines_of journal (advances (m.limit + 1) m).entries) f w) c.from_residual.ensures.1 (subst (λ (l : List ℕ). Breaks v [] l fault w) all whole)

pub returns-in-Some-clause-machine : goal.returns-in-Some-clause-machine
returns-in-Some-clause-machine g c =
    let m : Timed = c.args.machine.now in
    let i : ℕ = c.loop-i._i in
    let bound : i < m.limit + 1 = omega (arith, c.limit.ensures, c.from-i-end.ensures, c.loop-i-test.true) in
    let machine = one_more_machine m c.loop-i.machine c.advance-more.new.self i c.loop-i.invariant.machine c.advance-more.ensures.machine in
    let stop = ap (λ (x : Timed). x.stop) (sym machine) ∙ ap (λ (x : Timed). x.stop) c.advance-more.ensures.machine ∙ sym c.advance-more.ensures.stop ∙ c.in-Some.is in
    let all = ran_to_stop m i m.limit (Some c.in-Some.stop) bound stop refl in
    machine ∙ ap (λ (a : Advanced). a.machine) all

pub returns-in-Some-clause-stands : goal.returns-in-Some-clause-stands
returns-in-Some-clause-stands g c =
    (suc c.loop-i._i, one_more_machine c.args.machine.now c.loop-i.machine c.advance-more.new.self c.loop-i._i c.loop-i.invariant.machine c.advance-more.ensures.machine)

pub returns-in-Some-clause-ok : goal.returns-in-Some-clause-ok
returns-in-Some-clause-ok g c =
    let m : Timed = c.args.machine.now in
    let i : ℕ = c.loop-i._i in
    let bound : i < m.limit + 1 = omega (arith, c.limit.ensures, c.from-i-end.ensures, c.loop-i-test.true) in
    let machine = one_more_machine m c.loop-i.machine c.advance-more.new.self i c.loop-i.invariant.machine c.advance-more.ensures.machine in
    let stop = ap (λ (x : Timed). x.stop) (sym machine) ∙ ap (λ (x : Timed). x.stop) c.advance-more.ensures.machine ∙ sym c.advance-more.ensures.stop ∙ c.in-Some.is in
    let all = ran_to_stop m i m.limit (Some c.in-Some.stop) bound stop refl in
    let journal : Bool = c.args.journal in
    let before : List Entry = (advances i m).entries in
    let more : List Entry = c.as_slice.result.now in
    let S = g.S.Shelf in
    let v : View = S.seen c.args.shelf.now in
    let w : View = S.seen c.put_lines.new.shelf in
    let added = one_more_entries m c.loop-i.machine i before more (before ++ more) refl c.loop-i.invariant.machine (c.as_slice.ensures.value ∙ c.advance-more.ensures.entries) refl in
    let both = streams_then v _ w [] (lines_of journal before) _ (lines_of journal more) c.put_lines.new.pieces c.loop-i.invariant.streams c.in_ok-put_lines.ensures.ok in
    let here = subst (λ (l : List ℕ). Streams v [] l w c.put_lines.new.pieces) (sym (lines-append journal before more) ∙ ap (lines_of journal) added) both in
    subst (λ (a : Advanced). Streams v [] (lines_of journal a.entries) w c.put_lines.new.pieces) all here
