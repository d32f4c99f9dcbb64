use Rattle.std.specs.Prelude.{Option, Some, cond}
use Rattle.std.specs.BTreeMap as tree
use Rattle.std.specs.Ordering.{nat_cmp, is_eq}
use Rattle.std.proofs.Common.{ap, ◌∙◌}
use Rattle.mc_tree.specs.declared.place.Place.{Place}
use Rattle.mc_rules.specs.FirstPlaces.{earliest}
use Rattle.mc_rules.proofs.FirstLaws.{noted-first}
use Rattle.mc_rules.proofs.signals.note_first.Goals as goal

-- each variable has its first place, behind one more
pub returns : goal.returns
returns c = λ list are cell. let s = c.args.signalling in
    noted-first list s cell _ _ _ (are s.variable) (are cell)
    (c.in_ok-insert.ensures.updates.0 cell
    ∙ ap (λ (p : Place). cond (is_eq (nat_cmp s.variable cell)) (Some p) (tree.get nat_cmp c.args.firsts.now cell))
    (c.earliest.ensures ∙ ap (λ (o : Option Place). earliest o s.place) (c.copied-known.ensures ∙ c.get.ensures.value)))
