-- What each node of an expression does to names, by its parts.
use Rattle.std.specs.Prelude.{◌≡◌, ℕ, List, ◌∷◌, Option, Some, None}
use Rattle.std.proofs.Common.{ap, sym, ◌∙◌}
use Rattle.mc_tree.specs.declared.place.Place.{Place}
use Rattle.mc_tree.specs.declared.tree.Id.{Id}
use Rattle.mc_tree.specs.declared.tree.After.{After}
use Rattle.mc_tree.specs.declared.expression.Factor.{Factor}
use Rattle.mc_tree.specs.declared.expression.Selector.{Selector}
use Rattle.mc_tree.specs.declared.expression.AddedTerm.{AddedTerm}
use Rattle.mc_tree.specs.declared.expression.Args.{Args}
use Rattle.mc_tree.specs.declared.expression.Compared.{Compared}
use Rattle.mc_tree.specs.declared.expression.Designator.{Designator}
use Rattle.mc_tree.specs.declared.expression.Element.{Element}
use Rattle.mc_tree.specs.declared.expression.Elements.{Elements}
use Rattle.mc_tree.specs.declared.expression.Expr.{Expr}
use Rattle.mc_tree.specs.declared.expression.MultipliedFactor.{MultipliedFactor}
use Rattle.mc_tree.specs.declared.expression.Simple.{Simple}
use Rattle.mc_tree.specs.declared.expression.Term.{Term}
use Rattle.mc_tree.specs.declared.expression.Factor.TheVariants as factor_of
use Rattle.mc_tree.specs.declared.expression.Selector.TheVariants as selector_of
use Rattle.mc_tree.specs.declared.expression.Factor.TheOpen.{Factor-F, Selector-F}
use Rattle.mc_tree.specs.declared.expression.Factor.TheFolds.{fold-roll-Factor, fold-roll-Selector, fold-roll-Expr, fold-roll-Element, fold_out-AddedTerm, fold_out-Args, fold_out-Compared, fold_out-Designator, fold_out-Elements, fold_out-MultipliedFactor, fold_out-Simple, fold_out-Term}
use Rattle.mc_tree.specs.declared.expression.Factor.TheViews.{roll-Expr, roll-out-Expr, roll-Element, roll-out-Element, out-AddedTerm, out-Args, out-Compared, out-Element, out-Elements, out-Expr, out-MultipliedFactor, out-Simple, out-Term}
use Rattle.mc_prog.specs.Notes.{Notes, Item, Uses, each, maybe, after}
use Rattle.mc_prog.specs.ExpressionNames.{factor, selector, added_term, args, compared, designator, element, elements, expr, multiplied_factor, simple, term, factor_step, selector_step, added_term_step, args_step, compared_step, designator_step, element_step, elements_step, expr_step, multiplied_factor_step, simple_step, term_step}
use Rattle.mc_resolve.proofs.PartLaws.{each-map, each-map_after}

expr-at : (left_ : Simple) (compared_ : Option Compared) (rest : List Item) → expr (roll-Expr (record { left = left_; compared = compared_ })) rest ≡ simple left_ (maybe compared compared_ rest)
unfolding expr simple compared
expr-at left_ None rest = ap (λ (w : Notes). w rest) (fold-roll-Expr Notes Notes Notes Notes Notes Notes Notes Notes Notes Notes Notes Notes factor_step selector_step added_term_step args_step compared_step designator_step element_step elements_step expr_step multiplied_factor_step simple_step term_step (record { left = left_; compared = None }))
expr-at left_ (Some part) rest = ap (λ (w : Notes). w rest) (fold-roll-Expr Notes Notes Notes Notes Notes Notes Notes Notes Notes Notes Notes Notes factor_step selector_step added_term_step args_step compared_step designator_step element_step elements_step expr_step multiplied_factor_step simple_step term_step (record { left = left_; compared = (Some part) }))

pub expr-is : (x : Expr) (rest : List Item) → expr x rest ≡ simple (out-Expr x).left (maybe compared (out-Expr x).compared rest)
expr-is x rest = ap (λ (y : Expr). expr y rest) (sym (roll-out-Expr x)) ∙ expr-at (out-Expr x).left (out-Expr x).compared rest

pub compared-is : (x : Compared) (rest : List Item) → compared x rest ≡ simple (out-Compared x).right rest
unfolding compared simple
compared-is x rest = ap (λ (w : Notes). w rest) (fold_out-Compared Notes Notes Notes Notes Notes Notes Notes Notes Notes Notes Notes Notes factor_step selector_step added_term_step args_step compared_step designator_step element_step elements_step expr_step multiplied_factor_step simple_step term_step x)

pub simple-is : (x : Simple) (rest : List Item) → simple x rest ≡ term (out-Simple x).first (each added_term (out-Simple x).more rest)
unfolding simple term added_term
simple-is x rest = ap (λ (w : Notes). w rest) (fold_out-Simple Notes Notes Notes Notes Notes Notes Notes Notes Notes Notes Notes Notes factor_step selector_step added_term_step args_step compared_step designator_step element_step elements_step expr_step multiplied_factor_step simple_step term_step x) ∙ ap (term (out-Simple x).first) (each-map added_term (out-Simple x).more rest)

pub added_term-is : (x : AddedTerm) (rest : List Item) → added_term x rest ≡ term (out-AddedTerm x).term rest
unfolding added_term term
added_term-is x rest = ap (λ (w : Notes). w rest) (fold_out-AddedTerm Notes Notes Notes Notes Notes Notes Notes Notes Notes Notes Notes Notes factor_step selector_step added_term_step args_step compared_step designator_step element_step elements_step expr_step multiplied_factor_step simple_step term_step x)

pub term-is : (x : Term) (rest : List Item) → term x rest ≡ factor (out-Term x).first (each multiplied_factor (out-Term x).more rest)
unfolding term factor multiplied_factor
term-is x rest = ap (λ (w : Notes). w rest) (fold_out-Term Notes Notes Notes Notes Notes Notes Notes Notes Notes Notes Notes Notes factor_step selector_step added_term_step args_step compared_step designator_step element_step elements_step expr_step multiplied_factor_step simple_step term_step x) ∙ ap (factor (out-Term x).first) (each-map multiplied_factor (out-Term x).more rest)

pub multiplied_factor-is : (x : MultipliedFactor) (rest : List Item) → multiplied_factor x rest ≡ factor (out-MultipliedFactor x).factor rest
unfolding multiplied_factor factor
multiplied_factor-is x rest = ap (λ (w : Notes). w rest) (fold_out-MultipliedFactor Notes Notes Notes Notes Notes Notes Notes Notes Notes Notes Notes Notes factor_step selector_step added_term_step args_step compared_step designator_step element_step elements_step expr_step multiplied_factor_step simple_step term_step x)

pub designator-is : (x : Designator) (rest : List Item) → designator x rest ≡ Uses x.name ∷ each selector x.selectors rest
unfolding designator selector
designator-is x rest = ap (λ (w : Notes). w rest) (fold_out-Designator Notes Notes Notes Notes Notes Notes Notes Notes Notes Notes Notes Notes factor_step selector_step added_term_step args_step compared_step designator_step element_step elements_step expr_step multiplied_factor_step simple_step term_step x) ∙ ap (λ (z : List Item). Uses x.name ∷ z) (each-map selector x.selectors rest)

pub args-is : (x : Args) (rest : List Item) → args x rest ≡ expr (out-Args x).first (each (after expr) (out-Args x).more rest)
unfolding args expr
args-is x rest = ap (λ (w : Notes). w rest) (fold_out-Args Notes Notes Notes Notes Notes Notes Notes Notes Notes Notes Notes Notes factor_step selector_step added_term_step args_step compared_step designator_step element_step elements_step expr_step multiplied_factor_step simple_step term_step x) ∙ ap (expr (out-Args x).first) (each-map_after expr (out-Args x).more rest)

pub elements-is : (x : Elements) (rest : List Item) → elements x rest ≡ element (out-Elements x).first (each (after element) (out-Elements x).more rest)
unfolding elements element
elements-is x rest = ap (λ (w : Notes). w rest) (fold_out-Elements Notes Notes Notes Notes Notes Notes Notes Notes Notes Notes Notes Notes factor_step selector_step added_term_step args_step compared_step designator_step element_step elements_step expr_step multiplied_factor_step simple_step term_step x) ∙ ap (element (out-Elements x).first) (each-map_after element (out-Elements x).more rest)

element-at : (first_ : Expr) (last_ : Option (After Expr)) (rest : List Item) → element (roll-Element (record { first = first_; last = last_ })) rest ≡ expr first_ (maybe (after expr) last_ rest)
unfolding element expr
element-at first_ None rest = ap (λ (w : Notes). w rest) (fold-roll-Element Notes Notes Notes Notes Notes Notes Notes Notes Notes Notes Notes Notes factor_step selector_step added_term_step args_step compared_step designator_step element_step elements_step expr_step multiplied_factor_step simple_step term_step (record { first = first_; last = None }))
element-at first_ (Some part) rest = ap (λ (w : Notes). w rest) (fold-roll-Element Notes Notes Notes Notes Notes Notes Notes Notes Notes Notes Notes Notes factor_step selector_step added_term_step args_step compared_step designator_step element_step elements_step expr_step multiplied_factor_step simple_step term_step (record { first = first_; last = (Some part) }))

pub element-is : (x : Element) (rest : List Item) → element x rest ≡ expr (out-Element x).first (maybe (after expr) (out-Element x).last rest)
element-is x rest = ap (λ (y : Element). element y rest) (sym (roll-out-Element x)) ∙ element-at (out-Element x).first (out-Element x).last rest

pub number-is : (value : ℕ) (place : Place) (rest : List Item) → factor (factor_of.Number value place) rest ≡ rest
unfolding factor
number-is value place rest = ap (λ (y : Factor). factor y rest) (sym (factor_of.rolls-Number value place)) ∙ ap (λ (w : Notes). w rest) (fold-roll-Factor Notes Notes Notes Notes Notes Notes Notes Notes Notes Notes Notes Notes factor_step selector_step added_term_step args_step compared_step designator_step element_step elements_step expr_step multiplied_factor_step simple_step term_step (Factor-F.Number value place))

pub character-is : (value : ℕ) (place : Place) (rest : List Item) → factor (factor_of.Character value place) rest ≡ rest
unfolding factor
character-is value place rest = ap (λ (y : Factor). factor y rest) (sym (factor_of.rolls-Character value place)) ∙ ap (λ (w : Notes). w rest) (fold-roll-Factor Notes Notes Notes Notes Notes Notes Notes Notes Notes Notes Notes Notes factor_step selector_step added_term_step args_step compared_step designator_step element_step elements_step expr_step multiplied_factor_step simple_step term_step (Factor-F.Character value place))

pub text-is : (text : List ℕ) (place : Place) (rest : List Item) → factor (factor_of.Text text place) rest ≡ rest
unfolding factor
text-is text place rest = ap (λ (y : Factor). factor y rest) (sym (factor_of.rolls-Text text place)) ∙ ap (λ (w : Notes). w rest) (fold-roll-Factor Notes Notes Notes Notes Notes Notes Notes Notes Notes Notes Notes Notes factor_step selector_step added_term_step args_step compared_step designator_step element_step elements_step expr_step multiplied_factor_step simple_step term_step (Factor-F.Text text place))

pub designated-is : (x : Designator) (rest : List Item) → factor (factor_of.Designator x) rest ≡ designator x rest
unfolding factor designator
designated-is x rest = ap (λ (y : Factor). factor y rest) (sym (factor_of.rolls-Designator x)) ∙ ap (λ (w : Notes). w rest) (fold-roll-Factor Notes Notes Notes Notes Notes Notes Notes Notes Notes Notes Notes Notes factor_step selector_step added_term_step args_step compared_step designator_step element_step elements_step expr_step multiplied_factor_step simple_step term_step (Factor-F.Designator x))

pub called-is : (id : Id) (x : Args) (rest : List Item) → factor (factor_of.Call id x) rest ≡ Uses id ∷ args x rest
unfolding factor args
called-is id x rest = ap (λ (y : Factor). factor y rest) (sym (factor_of.rolls-Call id x)) ∙ ap (λ (w : Notes). w rest) (fold-roll-Factor Notes Notes Notes Notes Notes Notes Notes Notes Notes Notes Notes Notes factor_step selector_step added_term_step args_step compared_step designator_step element_step elements_step expr_step multiplied_factor_step simple_step term_step (Factor-F.Call id x))

pub group-is : (opening : Place) (inner : Expr) (closing : Place) (rest : List Item) → factor (factor_of.Group opening inner closing) rest ≡ expr inner rest
unfolding factor expr
group-is opening inner closing rest = ap (λ (y : Factor). factor y rest) (sym (factor_of.rolls-Group opening inner closing)) ∙ ap (λ (w : Notes). w rest) (fold-roll-Factor Notes Notes Notes Notes Notes Notes Notes Notes Notes Notes Notes Notes factor_step selector_step added_term_step args_step compared_step designator_step element_step elements_step expr_step multiplied_factor_step simple_step term_step (Factor-F.Group opening inner closing))

pub not-is : (place : Place) (inner : Factor) (rest : List Item) → factor (factor_of.Not place inner) rest ≡ factor inner rest
unfolding factor
not-is place inner rest = ap (λ (y : Factor). factor y rest) (sym (factor_of.rolls-Not place inner)) ∙ ap (λ (w : Notes). w rest) (fold-roll-Factor Notes Notes Notes Notes Notes Notes Notes Notes Notes Notes Notes Notes factor_step selector_step added_term_step args_step compared_step designator_step element_step elements_step expr_step multiplied_factor_step simple_step term_step (Factor-F.Not place inner))

pub bits-is : (opening : Place) (inside : Option Elements) (closing : Place) (rest : List Item) → factor (factor_of.Bits opening inside closing) rest ≡ maybe elements inside rest
unfolding factor elements
bits-is opening None closing rest = ap (λ (y : Factor). factor y rest) (sym (factor_of.rolls-Bits opening None closing)) ∙ ap (λ (w : Notes). w rest) (fold-roll-Factor Notes Notes Notes Notes Notes Notes Notes Notes Notes Notes Notes Notes factor_step selector_step added_term_step args_step compared_step designator_step element_step elements_step expr_step multiplied_factor_step simple_step term_step (Factor-F.Bits opening None closing))
bits-is opening (Some part) closing rest = ap (λ (y : Factor). factor y rest) (sym (factor_of.rolls-Bits opening (Some part) closing)) ∙ ap (λ (w : Notes). w rest) (fold-roll-Factor Notes Notes Notes Notes Notes Notes Notes Notes Notes Notes Notes Notes factor_step selector_step added_term_step args_step compared_step designator_step element_step elements_step expr_step multiplied_factor_step simple_step term_step (Factor-F.Bits opening (Some part) closing))

pub field-is : (dot : Place) (id : Id) (rest : List Item) → selector (selector_of.Field dot id) rest ≡ rest
unfolding selector
field-is dot id rest = ap (λ (y : Selector). selector y rest) (sym (selector_of.rolls-Field dot id)) ∙ ap (λ (w : Notes). w rest) (fold-roll-Selector Notes Notes Notes Notes Notes Notes Notes Notes Notes Notes Notes Notes factor_step selector_step added_term_step args_step compared_step designator_step element_step elements_step expr_step multiplied_factor_step simple_step term_step (Selector-F.Field dot id))

pub index-is : (opening : Place) (first : Expr) (more : List (After Expr)) (closing : Place) (rest : List Item) → selector (selector_of.Index opening first more closing) rest ≡ expr first (each (after expr) more rest)
unfolding selector expr
index-is opening first more closing rest = ap (λ (y : Selector). selector y rest) (sym (selector_of.rolls-Index opening first more closing)) ∙ ap (λ (w : Notes). w rest) (fold-roll-Selector Notes Notes Notes Notes Notes Notes Notes Notes Notes Notes Notes Notes factor_step selector_step added_term_step args_step compared_step designator_step element_step elements_step expr_step multiplied_factor_step simple_step term_step (Selector-F.Index opening first more closing)) ∙ ap (expr first) (each-map_after expr more rest)

pub ruleset expression_laws = (expr-is, compared-is, simple-is, added_term-is, term-is, multiplied_factor-is, designator-is, args-is, elements-is, element-is, number-is, character-is, text-is, designated-is, called-is, group-is, not-is, bits-is, field-is, index-is)
