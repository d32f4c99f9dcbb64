use Rattle.std.proofs.Common.{suc, ℕ, List, ◌++◌, take, drop, sym, ap, ◌∙◌, subst}
use Rattle.mc_shelf.specs.declared.shelf.PutFault.{PutFault}
use Rattle.pdp_dev.specs.declared.entry.Entry.{Entry}
use Rattle.pdp_dev.specs.declared.entry.Entry.TheVariants.{Event}
use Rattle.pdp_dev.specs.declared.entry.Event.TheVariants.{Key}
use Rattle.mc_shelf.specs.Outside.{View}
use Rattle.mc_driver.specs.Outside.{Streams, Breaks, lines_of}
use Rattle.mc_driver.proofs.Streams.{streams_none, streams_then, breaks_then, breaks_before, handed_on, lines_more, lines_whole}
use Rattle.mc_driver.proofs.drive.put_lines.Goals as goal

pub loop-entry-init : goal.loop-entry-init
loop-entry-init g c = record { fits = c.requires; streams = streams_none _ c.args.pieces.now }

pub loop-entry-preserved : goal.loop-entry-preserved
loop-entry-preserved g c =
    let i : ℕ = c.loop-entry.entry-index in
    let entries : List Entry = c.args.entries.now in
    let S = g.S.Shelf in
    let v : View = S.seen c.args.shelf.now in
    let w : View = S.seen c.put.new.shelf in
    let is = c.as_slice.ensures.value ∙ c.line_of.ensures in
    let more = lines_more c.args.journal entries i (Event (Key 0)) c.loop-entry-test.true in
    let both = streams_then v _ w c.args.pieces.now (lines_of c.args.journal (take i entries)) _ c.as_slice.result.now c.put.new.pieces c.loop-entry.invariant.streams c.in_ok-put.ensures.ok in
    let same = ap (λ (l : List ℕ). lines_of c.args.journal (take i entries) ++ l) is ∙ sym more in
    record {
      fits = c.in_ok-put.ensures.fits;
      streams = subst (λ (l : List ℕ). Streams v c.args.pieces.now l w c.put.new.pieces) same both;
    }

pub returns-in_err-put-clause-refused : goal.returns-in_err-put-clause-refused
returns-in_err-put-clause-refused g c =
    let i : ℕ = c.loop-entry.entry-index in
    let entries : List Entry = c.args.entries.now in
    let S = g.S.Shelf in
    let v : View = S.seen c.args.shelf.now in
    let w : View = S.seen c.put.new.shelf in
    let fault : PutFault = c.in_err-put.field-0.0 in
    let is = c.as_slice.ensures.value ∙ c.line_of.ensures in
    let here = breaks_then v _ w c.args.pieces.now (lines_of c.args.journal (take i entries)) _ c.as_slice.result.now fault c.loop-entry.invariant.streams c.in_err-put.ensures.refused in
    let whole = lines_whole c.args.journal entries i (Event (Key 0)) c.loop-entry-test.true in
    let all = breaks_before v w c.args.pieces.now (lines_of c.args.journal (take i entries) ++ c.as_slice.result.now) (lines_of c.args.journal (drop (suc i) entries)) fault here in
    let same = ap (λ (l : List ℕ). (lines_of c.args.journal (take i entries) ++ l) ++ lines_of c.args.journal (drop (suc i) entries)) is ∙ sym whole in
    handed_on c.from_residual.result fault (λ f. Breaks v c.args.pieces.now (lines_of c.args.journal entries) f w) c.from_residual.ensures.1 (subst (λ (l : List ℕ). Breaks v c.args.pieces.now l fault w) same all)
