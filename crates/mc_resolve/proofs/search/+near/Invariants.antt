use Rattle.std.proofs.Common.{length}
use Rattle.mc_resolve.proofs.search.+near.Given as goal

abbrev pub decreases-near : goal.decreases-near
decreases-near l = length l.scopes.now
