use Rattle.std.proofs.Common.{◌≡◌, ◌<◌, ◌≤◌, [], length}
use Rattle.pdp_machine.specs.Run.{advances}
use Rattle.mc_driver.specs.Outside.{Streams, lines_of}
use Rattle.mc_driver.proofs.drive.drive.Given as goal

abbrev pub invariant-loop-i : goal.invariant-loop-i
invariant-loop-i g l =
    let S = g.S.Shelf in
    record {
      late : l._i ≤ l.machine.time;
      limit : l.machine.limit ≡ l.fn.machine.limit;
      machine : l.machine ≡ (advances l._i l.fn.machine).machine;
      fits : length l.pieces < 4096;
      streams : Streams (S.seen l.fn.shelf) [] (lines_of l.journal (advances l._i l.fn.machine).entries) (S.seen l.shelf) l.pieces;
    }
