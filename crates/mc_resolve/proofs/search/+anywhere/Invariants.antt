use Rattle.std.proofs.Common.{length}
use Rattle.mc_resolve.proofs.search.+anywhere.Given as goal

abbrev pub decreases-anywhere : goal.decreases-anywhere
decreases-anywhere l = length l.scopes.now
