use Rattle.std.proofs.Common.{◌<◌, length, take}
use Rattle.mc_driver.specs.Outside.{Streams, lines_of}
use Rattle.mc_driver.proofs.drive.put_lines.Given as goal

abbrev pub invariant-loop-entry : goal.invariant-loop-entry
invariant-loop-entry g l =
    let S = g.S.Shelf in
    record {
      fits : length l.pieces < 4096;
      streams : Streams (S.seen l.fn.shelf) l.fn.pieces (lines_of l.journal (take l.entry-index l.entries)) (S.seen l.shelf) l.pieces;
    }
