-- What was read is gone from the front of what was left, and no read has failed.
use Rattle.std.proofs.Common.{◌≡◌, ◌+◌, ◌-◌, vec_len}
use Rattle.std.specs.Io.KnownBytes.{Consumes}
use Rattle.mc_edge.proofs.dir_shelf.read_bytes.Given as goal

abbrev pub invariant-pieces : goal.invariant-pieces
invariant-pieces g l = Consumes (g.T.Read.remaining l.initial.from.from) (g.T.Read.remaining l.from.from) l.bytes.items × (l.from.failures ≡ l.initial.from.failures)

abbrev pub decreases-pieces : goal.decreases-pieces
decreases-pieces g l = l.max + 1 - vec_len l.bytes
