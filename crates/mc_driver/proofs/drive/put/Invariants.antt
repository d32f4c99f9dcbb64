use Rattle.std.proofs.Common.{◌<◌, length, take}
use Rattle.mc_driver.specs.Outside.{Streams}
use Rattle.mc_driver.proofs.drive.put.Given as goal

abbrev pub invariant-loop-byte : goal.invariant-loop-byte
invariant-loop-byte g l =
    let S = g.S.Shelf in
    record {
      fits : length l.pieces < 4096;
      streams : Streams (S.seen l.fn.shelf) l.fn.pieces (take l.byte-index l.bytes) (S.seen l.shelf) l.pieces;
    }
