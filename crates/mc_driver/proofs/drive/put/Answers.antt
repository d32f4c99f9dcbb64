use Rattle.std.proofs.Common.{suc, ℕ, List, [], ◌∷◌, ◌++◌, take, drop, sym, subst}
use Rattle.std.specs.Prelude.{slice_index}
use Rattle.std.proofs.lemmas.Grind.{take_at_read}
use Rattle.mc_shelf.specs.declared.shelf.PutFault.{PutFault}
use Rattle.mc_shelf.specs.Outside.{View}
use Rattle.mc_driver.specs.Outside.{Streams, Breaks}
use Rattle.mc_driver.proofs.Streams.{streams_none, streams_then, breaks_then, breaks_before, handed_on, behind_one}
use Rattle.mc_driver.proofs.drive.put.Goals as goal

pub loop-byte-init : goal.loop-byte-init
loop-byte-init g c = record { fits = c.requires; streams = streams_none _ c.args.pieces.now }

pub loop-byte-preserved : goal.loop-byte-preserved
loop-byte-preserved g c =
    let parts = (take_at_read c.args.bytes.now c.loop-byte.byte-index 0 c.loop-byte-test.true).1 in
    let S = g.S.Shelf in
    let v : View = S.seen c.args.shelf.now in
    let w : View = S.seen c.put_byte.new.shelf in
    record {
      fits = c.in_ok-put_byte.ensures.fits;
      streams = subst (λ (l : List ℕ). Streams v c.args.pieces.now l w c.put_byte.new.pieces) (sym parts) (streams_then v _ w c.args.pieces.now (take c.loop-byte.byte-index c.args.bytes.now) _ _ _ c.loop-byte.invariant.streams c.in_ok-put_byte.ensures.ok);
    }

pub returns-in_err-put_byte-clause-refused : goal.returns-in_err-put_byte-clause-refused
returns-in_err-put_byte-clause-refused g c =
    let i : ℕ = c.loop-byte.byte-index in
    let bytes : List ℕ = c.args.bytes.now in
    let S = g.S.Shelf in
    let v : View = S.seen c.args.shelf.now in
    let w : View = S.seen c.put_byte.new.shelf in
    let fault : PutFault = c.in_err-put_byte.field-0.0 in
    let here = breaks_then v _ w c.args.pieces.now (take i bytes) _ _ fault c.loop-byte.invariant.streams c.in_err-put_byte.ensures.refused in
    let whole = behind_one bytes i 0 c.loop-byte-test.true in
    let all = breaks_before v w c.args.pieces.now (take i bytes ++ slice_index bytes i ∷ []) (drop (suc i) bytes) fault here in
    handed_on c.from_residual.result fault (λ f. Breaks v c.args.pieces.now bytes f w) c.from_residual.ensures.1 (subst (λ (l : List ℕ). Breaks v c.args.pieces.now l fault w) (sym whole) all)
