-- What each node of a type writes, by its parts.
use Rattle.std.specs.Prelude.{◌≡◌, ℕ, suc, List}
use Rattle.std.proofs.Common.{ap, ◌∙◌}
use Rattle.mc_tree.specs.declared.place.Place.{Place}
use Rattle.mc_tree.specs.declared.token.Kind.TheVariants.{Reserved as ReservedKind, Name, Symbol as SymbolKind}
use Rattle.mc_tree.specs.declared.tree.Id.{Id}
use Rattle.mc_tree.specs.declared.tree.After.{After}
use Rattle.mc_tree.specs.declared.token.Reserved.TheVariants.{ArrayWord, EndWord, OfWord, RecordWord}
use Rattle.mc_tree.specs.declared.token.Symbol.TheVariants.{LeftParen, RightParen, Comma, Semicolon, Colon}
use Rattle.mc_tree.specs.declared.tree.Ids.{Ids}
use Rattle.mc_tree.specs.declared.tree.Range.{Range}
use Rattle.mc_tree.specs.declared.tree.TypeTree.{TypeTree}
use Rattle.mc_tree.specs.declared.tree.Fields.{Fields}
use Rattle.mc_tree.specs.declared.tree.TypeTree.TheOpen.{TypeTree-F}
use Rattle.mc_tree.specs.declared.tree.TypeTree.TheFolds.{fold-roll-TypeTree, fold-roll-Fields}
use Rattle.mc_tree.specs.declared.tree.TypeTree.TheViews.{roll-TypeTree, roll-Fields}
use Rattle.mc_tree.specs.Leaves.{Leaf, Writes, begin, word, mark, each, after}
use Rattle.mc_tree.specs.ExpressionLaws.{each-map_after}
use Rattle.mc_tree.specs.Declarations.{ids, range, type_tree, fields, type_tree_step, fields_step}

pub named_type-is : (id : Id) (d : ℕ) (rest : List Leaf)
    → type_tree (roll-TypeTree (TypeTree-F.Name id)) d rest ≡ begin (suc d) (Name id.text) id.place rest
unfolding type_tree
named_type-is id d rest = ap (λ (w : Writes). w d rest) (fold-roll-TypeTree Writes Writes type_tree_step fields_step (TypeTree-F.Name id))

pub values-is : (opening : Place) (values : Ids) (closing : Place) (d : ℕ) (rest : List Leaf)
    → type_tree (roll-TypeTree (TypeTree-F.Values opening values closing)) d rest ≡ begin (suc d) (SymbolKind LeftParen) opening (ids values (suc d) (mark RightParen closing rest))
unfolding type_tree
values-is opening values closing d rest = ap (λ (w : Writes). w d rest) (fold-roll-TypeTree Writes Writes type_tree_step fields_step (TypeTree-F.Values opening values closing))

pub array-is : (place : Place) (first : Range) (more : List (After Range)) (of : Place) (element : TypeTree) (d : ℕ) (rest : List Leaf)
    → type_tree (roll-TypeTree (TypeTree-F.Array place first more of element)) d rest ≡ begin (suc d) (ReservedKind ArrayWord) place (range first (suc d) (each (after Comma range) more (suc d) (word OfWord of (type_tree element (suc d) rest))))
unfolding type_tree
array-is place first more of element d rest = ap (λ (w : Writes). w d rest) (fold-roll-TypeTree Writes Writes type_tree_step fields_step (TypeTree-F.Array place first more of element))

pub record-is : (place : Place) (first : Fields) (more : List (After Fields)) (end : Place) (d : ℕ) (rest : List Leaf)
    → type_tree (roll-TypeTree (TypeTree-F.Record place first more end)) d rest ≡ begin (suc d) (ReservedKind RecordWord) place (fields first (suc d) (each (after Semicolon fields) more (suc d) (word EndWord end rest)))
unfolding fields type_tree
record-is place first more end d rest = ap (λ (w : Writes). w d rest) (fold-roll-TypeTree Writes Writes type_tree_step fields_step (TypeTree-F.Record place first more end)) ∙ ap (λ (z : List Leaf). begin (suc d) (ReservedKind RecordWord) place (fields first (suc d) (z))) (each-map_after Semicolon fields more (suc d) (word EndWord end rest))

pub fields-is : (names : Ids) (colon : Place) (of : TypeTree) (d : ℕ) (rest : List Leaf)
    → fields (roll-Fields (record { names = names; colon = colon; of = of })) d rest ≡ ids names d (mark Colon colon (type_tree of d rest))
unfolding fields type_tree
fields-is names colon of d rest = ap (λ (w : Writes). w d rest) (fold-roll-Fields Writes Writes type_tree_step fields_step (record { names = names; colon = colon; of = of }))
