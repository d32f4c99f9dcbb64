use Rattle.std.proofs.Common.{length}
use Rattle.mc_resolve.proofs.scope.+home.Given as goal

abbrev pub decreases-home : goal.decreases-home
decreases-home l = length l.scopes.now
