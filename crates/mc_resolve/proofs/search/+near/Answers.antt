use Rattle.std.proofs.Common.{sym, ◌∙◌}
use Rattle.mc_resolve.proofs.Inside.{near-found, near-block, near-other}
use Rattle.mc_resolve.proofs.search.+near.Goals as goal

pub returns-in-Some-find : goal.returns-in-Some-find
returns-in-Some-find t c = sym (near-found c.args.known.now.places c.args.name.now c.args.scopes.now c.in-Some.scope.now c.in-Some.further.now c.in-Some.ensures.cases c.in-Some-find.place (sym c.find.ensures ∙ c.in-Some-find.is))

pub returns-in-Block : goal.returns-in-Block
returns-in-Block t c = sym (near-block c.args.known.now.places c.args.name.now c.args.scopes.now c.in-Some.scope.now c.in-Some.further.now c.in-Some.ensures.cases (sym c.find.ensures ∙ c.in-None.is) c.in-Block.is)

pub returns-in-Code : goal.returns-in-Code
returns-in-Code t c = c.near.ensures ∙ sym (near-other c.args.known.now.places c.args.name.now c.args.scopes.now c.in-Some.scope.now c.in-Some.further.now c.in-Some.ensures.cases (sym c.find.ensures ∙ c.in-None.is) c.in-Code.is)
