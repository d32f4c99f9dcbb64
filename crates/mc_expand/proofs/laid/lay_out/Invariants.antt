use Rattle.std.proofs.Common.{◌≡◌, take}
use Rattle.mc_expand.specs.Pieces.{items_of, places_from, entries_from}
use Rattle.mc_expand.proofs.laid.lay_out.Given as goal

abbrev pub invariant-loop-piece : goal.invariant-loop-piece
invariant-loop-piece l = record {
  items : l.items.items ≡ items_of l.workspace l.p (take l.piece-index l.pieces);
  places : l.places.items ≡ places_from l.workspace l.p 0 (take l.piece-index l.pieces);
  entries : l.entries.items ≡ entries_from l.workspace l.p 0 (take l.piece-index l.pieces);
}
