-- What each node of a type does to names, by its parts.
use Rattle.std.specs.Prelude.{◌≡◌, List, ◌∷◌}
use Rattle.std.proofs.Common.{ap, sym, ◌∙◌}
use Rattle.mc_tree.specs.declared.place.Place.{Place}
use Rattle.mc_tree.specs.declared.tree.Id.{Id}
use Rattle.mc_tree.specs.declared.tree.Ids.{Ids}
use Rattle.mc_tree.specs.declared.tree.After.{After}
use Rattle.mc_tree.specs.declared.tree.Range.{Range}
use Rattle.mc_tree.specs.declared.tree.TypeTree.{TypeTree}
use Rattle.mc_tree.specs.declared.tree.Fields.{Fields}
use Rattle.mc_tree.specs.declared.tree.TypeTree.TheVariants as type_of
use Rattle.mc_tree.specs.declared.tree.TypeTree.TheOpen.{TypeTree-F}
use Rattle.mc_tree.specs.declared.tree.TypeTree.TheFolds.{fold-roll-TypeTree, fold_out-Fields}
use Rattle.mc_tree.specs.declared.tree.TypeTree.TheViews.{out-Fields}
use Rattle.mc_prog.specs.Notes.{Notes, Item, Record, Opens, Closes, Declares, Field, Knows, Uses, each, after, ids}
use Rattle.mc_prog.specs.DeclarationNames.{type_tree, fields, range, type_tree_step, fields_step}
use Rattle.mc_resolve.proofs.PartLaws.{each-map_after}

pub fields-is : (x : Fields) (rest : List Item) → fields x rest ≡ ids Field (out-Fields x).names (type_tree (out-Fields x).of rest)
unfolding fields type_tree
fields-is x rest = ap (λ (w : Notes). w rest) (fold_out-Fields Notes Notes type_tree_step fields_step x)

pub named-is : (id : Id) (rest : List Item) → type_tree (type_of.Name id) rest ≡ Uses id ∷ rest
unfolding type_tree
named-is id rest = ap (λ (y : TypeTree). type_tree y rest) (sym (type_of.rolls-Name id)) ∙ ap (λ (w : Notes). w rest) (fold-roll-TypeTree Notes Notes type_tree_step fields_step (TypeTree-F.Name id))

pub values-is : (opening : Place) (values : Ids) (closing : Place) (rest : List Item) → type_tree (type_of.Values opening values closing) rest ≡ ids Declares values (ids Knows values rest)
unfolding type_tree
values-is opening values closing rest = ap (λ (y : TypeTree). type_tree y rest) (sym (type_of.rolls-Values opening values closing)) ∙ ap (λ (w : Notes). w rest) (fold-roll-TypeTree Notes Notes type_tree_step fields_step (TypeTree-F.Values opening values closing))

pub array-is : (word : Place) (first : Range) (more : List (After Range)) (of : Place) (element : TypeTree) (rest : List Item) → type_tree (type_of.Array word first more of element) rest ≡ range first (each (after range) more (type_tree element rest))
unfolding type_tree
array-is word first more of element rest = ap (λ (y : TypeTree). type_tree y rest) (sym (type_of.rolls-Array word first more of element)) ∙ ap (λ (w : Notes). w rest) (fold-roll-TypeTree Notes Notes type_tree_step fields_step (TypeTree-F.Array word first more of element))

pub in_record-is : (word : Place) (first : Fields) (more : List (After Fields)) (end : Place) (rest : List Item) → type_tree (type_of.Record word first more end) rest ≡ Opens Record ∷ fields first (each (after fields) more (Closes ∷ rest))
unfolding type_tree fields
in_record-is word first more end rest = ap (λ (y : TypeTree). type_tree y rest) (sym (type_of.rolls-Record word first more end)) ∙ ap (λ (w : Notes). w rest) (fold-roll-TypeTree Notes Notes type_tree_step fields_step (TypeTree-F.Record word first more end)) ∙ ap (λ (z : List Item). Opens Record ∷ fields first z) (each-map_after fields more (Closes ∷ rest))

pub ruleset type_laws = (fields-is, named-is, values-is, array-is, in_record-is)
