use Rattle.std.proofs.Common.{arith, ◌≡◌, ◌+◌, ◌++◌, length, ℕ, List, [], ◌∷◌, sym, ◌∙◌, ap, take, get_or, refl}
use Rattle.std.proofs.lemmas.List.{take_more}
use Rattle.mc_expand.specs.declared.pieces.Piece.{Piece}
use Rattle.mc_expand.specs.declared.pieces.Piece.TheVariants as piece
use Rattle.mc_expand.specs.Pieces.{items_of}
use Rattle.mc_expand.proofs.Steps.{items_more, places_more, entries_more, items_start, places_start, entries_start}
use Rattle.mc_expand.proofs.laid.lay_out.Goals as goal

pub loop-piece-init : goal.loop-piece-init
loop-piece-init c = record {
  items = c.new-items.ensures.items ∙ sym (items_start c.args.workspace c.args.p.now);
  places = c.new-places.ensures.items ∙ sym (places_start c.args.workspace c.args.p.now);
  entries = c.new-entries.ensures.items ∙ sym (entries_start c.args.workspace c.args.p.now);
}

pub loop-piece-preserved : goal.loop-piece-preserved
loop-piece-preserved c =
    let d : Piece = piece.Passes 0 in
    let k : ℕ = c.loop-piece.piece-index in
    let x : Piece = get_or c.args.pieces.now k d in
    let front : List Piece = take k c.args.pieces.now in
    let more : take (k + 1) c.args.pieces.now ≡ front ++ x ∷ [] = take_more c.args.pieces.now k d (omega arith) in
    let size : c.len.result ≡ 0 + length (items_of c.args.workspace c.args.p.now front) = omega (arith, c.len.ensures, ap length c.loop-piece.invariant.items) in
    let size-2 : c.len-in-loop-piece.result ≡ 0 + length (items_of c.args.workspace c.args.p.now front) = omega (arith, c.len-in-loop-piece.ensures, ap length c.loop-piece.invariant.items) in
    record {
      items = rw (c.in_ok-push_piece.ensures, more, items_more c.args.workspace c.args.p.now front x, c.loop-piece.invariant.items) refl;
      places = rw (c.in_ok-note_place.ensures, more, places_more c.args.workspace c.args.p.now 0 front x, c.loop-piece.invariant.places, size) refl;
      entries = rw (c.in_ok-note_entry.ensures, more, entries_more c.args.workspace c.args.p.now 0 front x, c.loop-piece.invariant.entries, size-2) refl;
    }
