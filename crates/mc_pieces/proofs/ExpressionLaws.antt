-- What each node of an expression adds, by its parts.
use Rattle.std.specs.Prelude.{◌≡◌, ℕ, List, [], ◌∷◌, Option, Some, None, map, refl}
use Rattle.std.proofs.Common.{ap, sym, ◌∙◌}
use Rattle.mc_tree.specs.declared.place.Place.{Place}
use Rattle.mc_tree.specs.declared.tree.Id.{Id}
use Rattle.mc_tree.specs.declared.tree.After.{After}
use Rattle.mc_tree.specs.declared.expression.Factor.{Factor}
use Rattle.mc_tree.specs.declared.expression.Selector.{Selector}
use Rattle.mc_tree.specs.declared.expression.AddedTerm.{AddedTerm}
use Rattle.mc_tree.specs.declared.expression.Args.{Args}
use Rattle.mc_tree.specs.declared.expression.Compared.{Compared}
use Rattle.mc_tree.specs.declared.expression.Designator.{Designator}
use Rattle.mc_tree.specs.declared.expression.Element.{Element}
use Rattle.mc_tree.specs.declared.expression.Elements.{Elements}
use Rattle.mc_tree.specs.declared.expression.Expr.{Expr}
use Rattle.mc_tree.specs.declared.expression.MultipliedFactor.{MultipliedFactor}
use Rattle.mc_tree.specs.declared.expression.Simple.{Simple}
use Rattle.mc_tree.specs.declared.expression.Term.{Term}
use Rattle.mc_tree.specs.declared.expression.Factor.TheVariants as factor_of
use Rattle.mc_tree.specs.declared.expression.Selector.TheVariants as selector_of
use Rattle.mc_tree.specs.declared.expression.Factor.TheOpen.{Factor-F, Selector-F}
use Rattle.mc_tree.specs.declared.expression.Factor.TheFolds.{fold-roll-Factor, fold-roll-Selector, fold-roll-Expr, fold-roll-Element, fold_out-AddedTerm, fold_out-Args, fold_out-Compared, fold_out-Designator, fold_out-Elements, fold_out-MultipliedFactor, fold_out-Simple, fold_out-Term}
use Rattle.mc_tree.specs.declared.expression.Factor.TheViews.{roll-Expr, roll-out-Expr, roll-Element, roll-out-Element, out-AddedTerm, out-Args, out-Compared, out-Element, out-Elements, out-Expr, out-MultipliedFactor, out-Simple, out-Term}
use Rattle.mc_prog.specs.Pieces.{Gather, Gathered, Number, Character, Text, Name, Select, Designated, Calling, Group, Negation, Bits, Element as ElementPiece, Sum, Product, Comparison, closed, leaf, node, within, each, maybe, after}
use Rattle.mc_prog.specs.ExpressionPieces.{factor, selector, added_term, args, compared, designator, element, elements, expr, multiplied_factor, simple, term, index, signed, factor_step, selector_step, added_term_step, args_step, compared_step, designator_step, element_step, elements_step, expr_step, multiplied_factor_step, simple_step, term_step}
use Rattle.mc_pieces.specs.Walks.{behind, emptied, indexed}
use Rattle.mc_pieces.proofs.PartLaws.{each-map, each-map_after}

expr-at : (left_ : Simple) (compared_ : Option Compared) (g : Gathered) → expr (roll-Expr (record { left = left_; compared = compared_ })) g ≡ within (λ (i : Gathered). maybe compared compared_ (simple left_ i)) g
unfolding expr simple compared
expr-at left_ None g = ap (λ (w : Gather). w g) (fold-roll-Expr Gather Gather Gather Gather Gather Gather Gather Gather Gather Gather Gather Gather factor_step selector_step added_term_step args_step compared_step designator_step element_step elements_step expr_step multiplied_factor_step simple_step term_step (record { left = left_; compared = None }))
expr-at left_ (Some part) g = ap (λ (w : Gather). w g) (fold-roll-Expr Gather Gather Gather Gather Gather Gather Gather Gather Gather Gather Gather Gather factor_step selector_step added_term_step args_step compared_step designator_step element_step elements_step expr_step multiplied_factor_step simple_step term_step (record { left = left_; compared = (Some part) }))

pub expr-is : (x : Expr) (g : Gathered) → expr x g ≡ within (λ (i : Gathered). maybe compared (out-Expr x).compared (simple (out-Expr x).left i)) g
expr-is x g = ap (λ (y : Expr). expr y g) (sym (roll-out-Expr x)) ∙ expr-at (out-Expr x).left (out-Expr x).compared g

pub compared-is : (x : Compared) (g : Gathered) → compared x g ≡ closed None (Comparison (out-Compared x).relation) (simple (out-Compared x).right g)
unfolding compared simple
compared-is x g = ap (λ (w : Gather). w g) (fold_out-Compared Gather Gather Gather Gather Gather Gather Gather Gather Gather Gather Gather Gather factor_step selector_step added_term_step args_step compared_step designator_step element_step elements_step expr_step multiplied_factor_step simple_step term_step x)

pub simple-is : (x : Simple) (g : Gathered) → simple x g ≡ within (λ (i : Gathered). each added_term (out-Simple x).more (signed (out-Simple x).sign (term (out-Simple x).first i))) g
unfolding simple term added_term
simple-is x g = ap (λ (w : Gather). w g) (fold_out-Simple Gather Gather Gather Gather Gather Gather Gather Gather Gather Gather Gather Gather factor_step selector_step added_term_step args_step compared_step designator_step element_step elements_step expr_step multiplied_factor_step simple_step term_step x) ∙ ap (behind g.parts) (each-map added_term (out-Simple x).more (signed (out-Simple x).sign (term (out-Simple x).first (emptied g))))

pub added_term-is : (x : AddedTerm) (g : Gathered) → added_term x g ≡ closed None (Sum (out-AddedTerm x).operator) (term (out-AddedTerm x).term g)
unfolding added_term term
added_term-is x g = ap (λ (w : Gather). w g) (fold_out-AddedTerm Gather Gather Gather Gather Gather Gather Gather Gather Gather Gather Gather Gather factor_step selector_step added_term_step args_step compared_step designator_step element_step elements_step expr_step multiplied_factor_step simple_step term_step x)

pub term-is : (x : Term) (g : Gathered) → term x g ≡ within (λ (i : Gathered). each multiplied_factor (out-Term x).more (factor (out-Term x).first i)) g
unfolding term factor multiplied_factor
term-is x g = ap (λ (w : Gather). w g) (fold_out-Term Gather Gather Gather Gather Gather Gather Gather Gather Gather Gather Gather Gather factor_step selector_step added_term_step args_step compared_step designator_step element_step elements_step expr_step multiplied_factor_step simple_step term_step x) ∙ ap (behind g.parts) (each-map multiplied_factor (out-Term x).more (factor (out-Term x).first (emptied g)))

pub multiplied_factor-is : (x : MultipliedFactor) (g : Gathered) → multiplied_factor x g ≡ closed None (Product (out-MultipliedFactor x).operator) (factor (out-MultipliedFactor x).factor g)
unfolding multiplied_factor factor
multiplied_factor-is x g = ap (λ (w : Gather). w g) (fold_out-MultipliedFactor Gather Gather Gather Gather Gather Gather Gather Gather Gather Gather Gather Gather factor_step selector_step added_term_step args_step compared_step designator_step element_step elements_step expr_step multiplied_factor_step simple_step term_step x)

pub designator-is : (x : Designator) (g : Gathered) → designator x g ≡ within (λ (i : Gathered). each selector x.selectors (leaf x.name.place (Name x.name) i)) g
unfolding designator selector
designator-is x g = ap (λ (w : Gather). w g) (fold_out-Designator Gather Gather Gather Gather Gather Gather Gather Gather Gather Gather Gather Gather factor_step selector_step added_term_step args_step compared_step designator_step element_step elements_step expr_step multiplied_factor_step simple_step term_step x) ∙ ap (behind g.parts) (each-map selector x.selectors (leaf x.name.place (Name x.name) (emptied g)))

pub args-is : (x : Args) (g : Gathered) → args x g ≡ each (after expr) (out-Args x).more (expr (out-Args x).first g)
unfolding args expr
args-is x g = ap (λ (w : Gather). w g) (fold_out-Args Gather Gather Gather Gather Gather Gather Gather Gather Gather Gather Gather Gather factor_step selector_step added_term_step args_step compared_step designator_step element_step elements_step expr_step multiplied_factor_step simple_step term_step x) ∙ each-map_after expr (out-Args x).more (expr (out-Args x).first g)

pub elements-is : (x : Elements) (g : Gathered) → elements x g ≡ each (after element) (out-Elements x).more (element (out-Elements x).first g)
unfolding elements element
elements-is x g = ap (λ (w : Gather). w g) (fold_out-Elements Gather Gather Gather Gather Gather Gather Gather Gather Gather Gather Gather Gather factor_step selector_step added_term_step args_step compared_step designator_step element_step elements_step expr_step multiplied_factor_step simple_step term_step x) ∙ each-map_after element (out-Elements x).more (element (out-Elements x).first g)

element-at : (first_ : Expr) (last_ : Option (After Expr)) (g : Gathered) → element (roll-Element (record { first = first_; last = last_ })) g ≡ node None ElementPiece (λ (i : Gathered). maybe (after expr) last_ (expr first_ i)) g
unfolding element expr
element-at first_ None g = ap (λ (w : Gather). w g) (fold-roll-Element Gather Gather Gather Gather Gather Gather Gather Gather Gather Gather Gather Gather factor_step selector_step added_term_step args_step compared_step designator_step element_step elements_step expr_step multiplied_factor_step simple_step term_step (record { first = first_; last = None }))
element-at first_ (Some part) g = ap (λ (w : Gather). w g) (fold-roll-Element Gather Gather Gather Gather Gather Gather Gather Gather Gather Gather Gather Gather factor_step selector_step added_term_step args_step compared_step designator_step element_step elements_step expr_step multiplied_factor_step simple_step term_step (record { first = first_; last = (Some part) }))

pub element-is : (x : Element) (g : Gathered) → element x g ≡ node None ElementPiece (λ (i : Gathered). maybe (after expr) (out-Element x).last (expr (out-Element x).first i)) g
element-is x g = ap (λ (y : Element). element y g) (sym (roll-out-Element x)) ∙ element-at (out-Element x).first (out-Element x).last g

pub number-is : (value : ℕ) (place : Place) (g : Gathered) → factor (factor_of.Number value place) g ≡ leaf place (Number value) g
unfolding factor
number-is value place g = ap (λ (y : Factor). factor y g) (sym (factor_of.rolls-Number value place)) ∙ ap (λ (w : Gather). w g) (fold-roll-Factor Gather Gather Gather Gather Gather Gather Gather Gather Gather Gather Gather Gather factor_step selector_step added_term_step args_step compared_step designator_step element_step elements_step expr_step multiplied_factor_step simple_step term_step (Factor-F.Number value place))

pub character-is : (value : ℕ) (place : Place) (g : Gathered) → factor (factor_of.Character value place) g ≡ leaf place (Character value) g
unfolding factor
character-is value place g = ap (λ (y : Factor). factor y g) (sym (factor_of.rolls-Character value place)) ∙ ap (λ (w : Gather). w g) (fold-roll-Factor Gather Gather Gather Gather Gather Gather Gather Gather Gather Gather Gather Gather factor_step selector_step added_term_step args_step compared_step designator_step element_step elements_step expr_step multiplied_factor_step simple_step term_step (Factor-F.Character value place))

pub text-is : (text : List ℕ) (place : Place) (g : Gathered) → factor (factor_of.Text text place) g ≡ leaf place (Text text) g
unfolding factor
text-is text place g = ap (λ (y : Factor). factor y g) (sym (factor_of.rolls-Text text place)) ∙ ap (λ (w : Gather). w g) (fold-roll-Factor Gather Gather Gather Gather Gather Gather Gather Gather Gather Gather Gather Gather factor_step selector_step added_term_step args_step compared_step designator_step element_step elements_step expr_step multiplied_factor_step simple_step term_step (Factor-F.Text text place))

pub designated-is : (x : Designator) (g : Gathered) → factor (factor_of.Designator x) g ≡ node None Designated (designator x) g
unfolding factor designator
designated-is x g = ap (λ (y : Factor). factor y g) (sym (factor_of.rolls-Designator x)) ∙ ap (λ (w : Gather). w g) (fold-roll-Factor Gather Gather Gather Gather Gather Gather Gather Gather Gather Gather Gather Gather factor_step selector_step added_term_step args_step compared_step designator_step element_step elements_step expr_step multiplied_factor_step simple_step term_step (Factor-F.Designator x))

pub called-is : (id : Id) (x : Args) (g : Gathered) → factor (factor_of.Call id x) g ≡ node (Some id.place) (Calling id) (args x) g
unfolding factor args
called-is id x g = ap (λ (y : Factor). factor y g) (sym (factor_of.rolls-Call id x)) ∙ ap (λ (w : Gather). w g) (fold-roll-Factor Gather Gather Gather Gather Gather Gather Gather Gather Gather Gather Gather Gather factor_step selector_step added_term_step args_step compared_step designator_step element_step elements_step expr_step multiplied_factor_step simple_step term_step (Factor-F.Call id x))

pub group-is : (opening : Place) (inner : Expr) (closing : Place) (g : Gathered) → factor (factor_of.Group opening inner closing) g ≡ node (Some opening) Group (expr inner) g
unfolding factor expr
group-is opening inner closing g = ap (λ (y : Factor). factor y g) (sym (factor_of.rolls-Group opening inner closing)) ∙ ap (λ (w : Gather). w g) (fold-roll-Factor Gather Gather Gather Gather Gather Gather Gather Gather Gather Gather Gather Gather factor_step selector_step added_term_step args_step compared_step designator_step element_step elements_step expr_step multiplied_factor_step simple_step term_step (Factor-F.Group opening inner closing))

pub not-is : (place : Place) (inner : Factor) (g : Gathered) → factor (factor_of.Not place inner) g ≡ node (Some place) Negation (factor inner) g
unfolding factor
not-is place inner g = ap (λ (y : Factor). factor y g) (sym (factor_of.rolls-Not place inner)) ∙ ap (λ (w : Gather). w g) (fold-roll-Factor Gather Gather Gather Gather Gather Gather Gather Gather Gather Gather Gather Gather factor_step selector_step added_term_step args_step compared_step designator_step element_step elements_step expr_step multiplied_factor_step simple_step term_step (Factor-F.Not place inner))

pub bits-is : (opening : Place) (inside : Option Elements) (closing : Place) (g : Gathered) → factor (factor_of.Bits opening inside closing) g ≡ node (Some opening) Bits (maybe elements inside) g
unfolding factor elements
bits-is opening None closing g = ap (λ (y : Factor). factor y g) (sym (factor_of.rolls-Bits opening None closing)) ∙ ap (λ (w : Gather). w g) (fold-roll-Factor Gather Gather Gather Gather Gather Gather Gather Gather Gather Gather Gather Gather factor_step selector_step added_term_step args_step compared_step designator_step element_step elements_step expr_step multiplied_factor_step simple_step term_step (Factor-F.Bits opening None closing))
bits-is opening (Some part) closing g = ap (λ (y : Factor). factor y g) (sym (factor_of.rolls-Bits opening (Some part) closing)) ∙ ap (λ (w : Gather). w g) (fold-roll-Factor Gather Gather Gather Gather Gather Gather Gather Gather Gather Gather Gather Gather factor_step selector_step added_term_step args_step compared_step designator_step element_step elements_step expr_step multiplied_factor_step simple_step term_step (Factor-F.Bits opening (Some part) closing))

pub field-is : (dot : Place) (id : Id) (g : Gathered) → selector (selector_of.Field dot id) g ≡ closed None (Select id) g
unfolding selector
field-is dot id g = ap (λ (y : Selector). selector y g) (sym (selector_of.rolls-Field dot id)) ∙ ap (λ (w : Gather). w g) (fold-roll-Selector Gather Gather Gather Gather Gather Gather Gather Gather Gather Gather Gather Gather factor_step selector_step added_term_step args_step compared_step designator_step element_step elements_step expr_step multiplied_factor_step simple_step term_step (Selector-F.Field dot id))

each-index : (xs : List (After Expr)) (g : Gathered) → each (after index) (map (λ (a : After Expr). record { mark = a.mark; item = expr a.item }) xs) g ≡ each (after indexed) xs g
each-index [] g = refl
each-index (x ∷ xs) g = each-index xs (indexed x.item g)

pub index-is : (opening : Place) (first : Expr) (more : List (After Expr)) (closing : Place) (g : Gathered) → selector (selector_of.Index opening first more closing) g ≡ each (after indexed) more (indexed first g)
unfolding selector expr
index-is opening first more closing g = ap (λ (y : Selector). selector y g) (sym (selector_of.rolls-Index opening first more closing)) ∙ ap (λ (w : Gather). w g) (fold-roll-Selector Gather Gather Gather Gather Gather Gather Gather Gather Gather Gather Gather Gather factor_step selector_step added_term_step args_step compared_step designator_step element_step elements_step expr_step multiplied_factor_step simple_step term_step (Selector-F.Index opening first more closing)) ∙ each-index more (indexed first g)

pub ruleset expression_laws = (expr-is, compared-is, simple-is, added_term-is, term-is, multiplied_factor-is, designator-is, args-is, elements-is, element-is, number-is, character-is, text-is, designated-is, called-is, group-is, not-is, bits-is, field-is, index-is)
