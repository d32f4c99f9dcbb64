use Rattle.std.proofs.Common.{ap, sym, ◌∙◌}
use Rattle.mc_prog.specs.Scopes.{innermost as innermost_of}
use Rattle.mc_resolve.proofs.Inside.{outer-split}
use Rattle.mc_resolve.proofs.scope.second.Goals as goal

pub returns-in-Some : goal.returns-in-Some
returns-in-Some c = c.innermost.ensures ∙ sym (ap innermost_of (outer-split c.args.scopes.now c.in-Some.field-0-0.now c.in-Some.further.now c.in-Some.ensures.cases))
