use Rattle.std.proofs.Common.{ap, ◌∙◌, subst}
use Rattle.std.specs.Prelude.{option_map, ◌++◌}
use Rattle.mc_prog.specs.Notes.{Item}
use Rattle.mc_resolve.specs.Around.{around}
use Rattle.mc_resolve.specs.Items.{item_of}
use Rattle.mc_resolve.specs.Stands.{Stands, with_item}
use Rattle.mc_resolve.specs.Uses.{naming_of}
use Rattle.mc_resolve.specs.Views.{named_of}
use Rattle.mc_resolve.specs.declared.resolver.Resolver.{Resolver}
use Rattle.mc_resolve.proofs.Steps.{step-stands, if-ok}
use Rattle.mc_resolve.proofs.resolver.Resolver.step.Goals as goal

-- src/resolver.rt: one more item
pub returns : goal.returns
returns c = if-ok _ _ c.enter.result c.enter.ensures (λ u entered before count st.
    let e = c.effect_of-effect.ensures in
    let after : Resolver = record { scopes = c.enter.new.scopes; declared = c.put_own.new.self; own = c.put_own-2.new.self; known = c.put_at.new.self; fault = c.earlier-self.result; names = c.add_use.new.names } in
    subst (λ (item : Item). Stands (with_item item before) after) c.item.view_is
    (step-stands before c.args.self.now after st (item_of c.item.inside.note) c.args.number count c.effect_of-effect.result.fault (e.fault before st) c.earlier-self.ensures
    (c.in_ok-add_use.ensures ∙ ap (λ ss. c.args.self.now.names.items ++ naming_of c.args.self.now.known.places (around ss) (item_of c.item.inside.note)) c.as_slice.ensures.value)
    (option_map named_of c.effect_of-effect.result.declared) e.declared c.in_ok-put_own.ensures
    (option_map named_of c.effect_of-effect.result.own) e.own c.in_ok-put_own-2.ensures
    (option_map named_of c.effect_of-effect.result.known) e.known c.effect_of-effect.result.place e.place c.in_ok-put_at.ensures entered))
