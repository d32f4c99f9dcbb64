use Rattle.std.proofs.Common.{length}
use Rattle.mc_resolve.proofs.search.+far.Given as goal

abbrev pub decreases-far : goal.decreases-far
decreases-far l = length l.scopes.now
