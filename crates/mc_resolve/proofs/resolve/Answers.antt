use Rattle.std.proofs.Common.{◌∙◌, [], subst}
use Rattle.mc_prog.specs.Scopes.{placed}
use Rattle.mc_resolve.specs.Refusals.{IsItsFault, IsRefused}
use Rattle.mc_resolve.specs.Stands.{Stands}
use Rattle.mc_resolve.proofs.Answering.{its-fault, if-err}
use Rattle.mc_resolve.proofs.resolve.Goals as goal

pub returns-clause-refused : goal.returns-clause-refused
returns-clause-refused c =
    let all = c.as_slice.ensures.value ∙ c.in_ok-items.ensures in
    let st = subst (λ items. Stands (placed [] items) c.in_ok-resolver.resolver) all c.in_ok-resolver.ensures in
    if-err (IsItsFault c.in_ok-resolver.resolver.fault) (IsRefused c.args.tree.now) c.answer.result c.answer.ensures.refused (its-fault c.args.tree.now c.in_ok-resolver.resolver st)
