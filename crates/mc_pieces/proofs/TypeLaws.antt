-- What each node of a type adds, by its parts.
use Rattle.std.specs.Prelude.{◌≡◌, List, Some}
use Rattle.std.proofs.Common.{ap, sym, ◌∙◌}
use Rattle.mc_tree.specs.declared.place.Place.{Place}
use Rattle.mc_tree.specs.declared.tree.After.{After}
use Rattle.mc_tree.specs.declared.tree.Fields.{Fields}
use Rattle.mc_tree.specs.declared.tree.Id.{Id}
use Rattle.mc_tree.specs.declared.tree.Ids.{Ids}
use Rattle.mc_tree.specs.declared.tree.Range.{Range}
use Rattle.mc_tree.specs.declared.tree.TypeTree.{TypeTree}
use Rattle.mc_tree.specs.declared.tree.TypeTree.TheVariants as type_of
use Rattle.mc_tree.specs.declared.tree.TypeTree.TheOpen.{TypeTree-F}
use Rattle.mc_tree.specs.declared.tree.TypeTree.TheFolds.{fold-roll-TypeTree, fold_out-Fields}
use Rattle.mc_tree.specs.declared.tree.TypeTree.TheViews.{out-Fields}
use Rattle.mc_prog.specs.Pieces.{Gather, Gathered, TypeName, Enumeration, EnumerationValue, Array, Record, FieldGroup, closed, leaf, node, within, each, each_name, after}
use Rattle.mc_prog.specs.DeclarationPieces.{count, range, type_tree, fields, type_tree_step, fields_step}
use Rattle.mc_pieces.specs.Walks.{behind, emptied}
use Rattle.mc_pieces.proofs.PartLaws.{each-map_after}

pub fields-is : (x : Fields) (g : Gathered) → fields x g ≡ node (Some (out-Fields x).names.first.place) (FieldGroup (out-Fields x).names) (type_tree (out-Fields x).of) g
unfolding fields type_tree
fields-is x g = ap (λ (w : Gather). w g) (fold_out-Fields Gather Gather type_tree_step fields_step x)

pub named-is : (id : Id) (g : Gathered) → type_tree (type_of.Name id) g ≡ leaf id.place (TypeName id) g
unfolding type_tree
named-is id g = ap (λ (y : TypeTree). type_tree y g) (sym (type_of.rolls-Name id)) ∙ ap (λ (w : Gather). w g) (fold-roll-TypeTree Gather Gather type_tree_step fields_step (TypeTree-F.Name id))

pub values-is : (opening : Place) (values : Ids) (closing : Place) (g : Gathered) → type_tree (type_of.Values opening values closing) g ≡ within (λ (i : Gathered). each_name EnumerationValue values (leaf opening (Enumeration (count values)) i)) g
unfolding type_tree
values-is opening values closing g = ap (λ (y : TypeTree). type_tree y g) (sym (type_of.rolls-Values opening values closing)) ∙ ap (λ (w : Gather). w g) (fold-roll-TypeTree Gather Gather type_tree_step fields_step (TypeTree-F.Values opening values closing))

pub array-is : (word : Place) (first : Range) (more : List (After Range)) (of : Place) (element : TypeTree) (g : Gathered) → type_tree (type_of.Array word first more of element) g ≡ node (Some word) Array (λ (i : Gathered). type_tree element (each (after range) more (range first i))) g
unfolding type_tree
array-is word first more of element g = ap (λ (y : TypeTree). type_tree y g) (sym (type_of.rolls-Array word first more of element)) ∙ ap (λ (w : Gather). w g) (fold-roll-TypeTree Gather Gather type_tree_step fields_step (TypeTree-F.Array word first more of element))

pub in_record-is : (word : Place) (first : Fields) (more : List (After Fields)) (end : Place) (g : Gathered) → type_tree (type_of.Record word first more end) g ≡ node (Some word) Record (λ (i : Gathered). each (after fields) more (fields first i)) g
unfolding type_tree fields
in_record-is word first more end g = ap (λ (y : TypeTree). type_tree y g) (sym (type_of.rolls-Record word first more end)) ∙ ap (λ (w : Gather). w g) (fold-roll-TypeTree Gather Gather type_tree_step fields_step (TypeTree-F.Record word first more end)) ∙ ap (λ (z : Gathered). behind g.parts (closed (Some word) Record z)) (each-map_after fields more (fields first (emptied g)))

pub ruleset type_laws = (fields-is, named-is, values-is, array-is, in_record-is)
