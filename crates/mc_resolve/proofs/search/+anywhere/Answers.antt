use Rattle.std.proofs.Common.{sym, ◌∙◌}
use Rattle.mc_resolve.proofs.Inside.{numbers-found, numbers-further}
use Rattle.mc_resolve.proofs.search.+anywhere.Goals as goal

pub returns-in-Some-find : goal.returns-in-Some-find
returns-in-Some-find t c = sym (numbers-found c.args.known.now.places c.args.name.now c.args.scopes.now c.in-Some.scope.now c.in-Some.further.now c.in-Some.ensures.cases c.in-Some-find.place (sym c.find.ensures ∙ c.in-Some-find.is))

pub returns-in-None : goal.returns-in-None
returns-in-None t c = c.anywhere.ensures ∙ sym (numbers-further c.args.known.now.places c.args.name.now c.args.scopes.now c.in-Some.scope.now c.in-Some.further.now c.in-Some.ensures.cases (sym c.find.ensures ∙ c.in-None.is))
