use Rattle.std.proofs.Common.{sym, ◌∙◌}
use Rattle.mc_resolve.proofs.Inside.{home-record, home-other}
use Rattle.mc_resolve.proofs.scope.+home.Goals as goal

pub returns-in-Record : goal.returns-in-Record
returns-in-Record t c = c.home.ensures ∙ sym (home-record c.args.scopes.now c.in-Some.scope.now c.in-Some.further.now c.in-Some.ensures.cases c.in-Record.is)

pub returns-in-Block : goal.returns-in-Block
returns-in-Block t c = sym (home-other c.args.scopes.now c.in-Some.scope.now c.in-Some.further.now c.in-Some.ensures.cases c.in-Block.is)
