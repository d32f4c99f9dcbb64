-- What is gone from `rest` was appended.
use Rattle.std.proofs.Common.{◌≡◌, List, ℕ, ◌++◌, length}
use Rattle.std.specs.Io.KnownBytes.{Appends}
use Rattle.mc_edge.proofs.dir_shelf.write_bytes.Given as goal

abbrev pub invariant-writes : goal.invariant-writes
invariant-writes g l = (done : List ℕ) × (l.initial.rest ≡ done ++ l.rest) × Appends (g.W.Write.contents l.initial.to) (g.W.Write.contents l.to) done

abbrev pub decreases-writes : goal.decreases-writes
decreases-writes g l = length l.rest
