use Rattle.std.proofs.Common.{ap, sym, ◌∙◌}
use Rattle.mc_resolve.specs.Table.{first_found}
use Rattle.mc_resolve.proofs.Inside.{far-block, far-other}
use Rattle.mc_resolve.proofs.search.+far.Goals as goal

pub returns-in-Block : goal.returns-in-Block
returns-in-Block t c = c.anywhere.ensures ∙ sym (ap (λ ss. first_found c.args.known.now.places ss c.args.name.now) (far-block c.args.scopes.now c.in-Some.scope.now c.in-Some.further.now c.in-Some.ensures.cases c.in-Block.is))

pub returns-in-Code : goal.returns-in-Code
returns-in-Code t c = c.far.ensures ∙ sym (ap (λ ss. first_found c.args.known.now.places ss c.args.name.now) (far-other c.args.scopes.now c.in-Some.scope.now c.in-Some.further.now c.in-Some.ensures.cases c.in-Code.is))
