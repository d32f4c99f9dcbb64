use Rattle.std.proofs.Common.{sym}
use Rattle.mc_resolve.proofs.Inside.{innermost-split}
use Rattle.mc_resolve.proofs.scope.innermost.Goals as goal

pub returns-in-Some : goal.returns-in-Some
returns-in-Some c = sym (innermost-split c.args.scopes.now c.in-Some.scope.now c.in-Some.field-0-1.now c.in-Some.ensures.cases)
