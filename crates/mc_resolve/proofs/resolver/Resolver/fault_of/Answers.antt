use Rattle.std.proofs.Common.{ap, ◌∙◌, subst}
use Rattle.std.specs.Prelude.{None, option_map}
use Rattle.mc_prog.specs.Scopes.{innermost, outer, declared_by as declared_by_item, IsUnlisted}
use Rattle.mc_resolve.specs.Around.{around}
use Rattle.mc_resolve.specs.Items.{item_of}
use Rattle.mc_resolve.specs.Stands.{IsOnly}
use Rattle.mc_resolve.specs.Views.{named_of}
use Rattle.mc_resolve.proofs.Faults.{uses-least, lists-least}
use Rattle.mc_resolve.proofs.resolver.Resolver.fault_of.Goals as goal

pub returns-in-Uses : goal.returns-in-Uses
returns-in-Uses c = λ before st. uses-least before c.args.note.now c.in-Uses.name c.in-Uses.is c.unknown.result (c.unknown.ensures before st)

-- src/resolver.rt: a name of a use list that is known around its module
pub returns-in-None : goal.returns-in-None
returns-in-None c = λ before st.
    let scopes = c.args.self.now.scopes.items in
    let unlisted : IsOnly (IsUnlisted before (innermost (outer (around scopes))) c.in-Lists.name.now) None =
    subst (λ o. IsOnly (IsUnlisted before (innermost (outer (around scopes))) c.in-Lists.name.now) o) c.in-None.is (subst (λ s. IsOnly (IsUnlisted before s c.in-Lists.name.now) c.unlisted.result) (c.second.ensures ∙ ap (λ ss. innermost (outer (around ss))) c.as_slice-scopes.ensures.value) (c.unlisted.ensures before st)) in
    lists-least before c.args.note.now c.in-Lists.name c.in-Lists.is c.args.self.now st c.twice.result unlisted (option_map named_of c.declared_by.result)
    (c.declared_by.ensures ∙ ap (λ ss. declared_by_item (item_of c.args.note.now) (around ss)) c.as_slice-scopes.ensures.value) (c.twice.ensures before st)
