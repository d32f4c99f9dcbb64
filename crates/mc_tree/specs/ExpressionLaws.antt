-- What each node of an expression writes, by its parts.
use Rattle.std.specs.Prelude.{◌≡◌, ℕ, suc, List, [], ◌∷◌, Option, Some, None, map, refl}
use Rattle.std.proofs.Common.{ap, ◌∙◌}
use Rattle.mc_tree.specs.declared.place.Place.{Place}
use Rattle.mc_tree.specs.declared.token.Kind.TheVariants.{Reserved as ReservedKind, Name, Number, Char, Text, Symbol as SymbolKind}
use Rattle.mc_tree.specs.declared.tree.Id.{Id}
use Rattle.mc_tree.specs.declared.tree.After.{After}
use Rattle.mc_tree.specs.declared.token.Reserved.TheVariants.{NotWord}
use Rattle.mc_tree.specs.declared.token.Symbol.{Symbol}
use Rattle.mc_tree.specs.declared.token.Symbol.TheVariants.{LeftParen, RightParen, LeftBracket, RightBracket, Comma, Colon, Dot}
use Rattle.mc_tree.specs.declared.expression.Relation.{Relation}
use Rattle.mc_tree.specs.declared.expression.Sign.{Sign}
use Rattle.mc_tree.specs.declared.expression.Adding.{Adding}
use Rattle.mc_tree.specs.declared.expression.Multiplying.{Multiplying}
use Rattle.mc_tree.specs.declared.expression.Factor.{Factor}
use Rattle.mc_tree.specs.declared.expression.Selector.{Selector}
use Rattle.mc_tree.specs.declared.expression.AddedTerm.{AddedTerm}
use Rattle.mc_tree.specs.declared.expression.Args.{Args}
use Rattle.mc_tree.specs.declared.expression.Compared.{Compared}
use Rattle.mc_tree.specs.declared.expression.Designator.{Designator}
use Rattle.mc_tree.specs.declared.expression.Element.{Element}
use Rattle.mc_tree.specs.declared.expression.Elements.{Elements}
use Rattle.mc_tree.specs.declared.expression.Expr.{Expr}
use Rattle.mc_tree.specs.declared.expression.MultipliedFactor.{MultipliedFactor}
use Rattle.mc_tree.specs.declared.expression.Simple.{Simple}
use Rattle.mc_tree.specs.declared.expression.Term.{Term}
use Rattle.mc_tree.specs.declared.expression.Factor.TheOpen.{Factor-F, Selector-F}
use Rattle.mc_tree.specs.declared.expression.Factor.TheFolds.{fold-roll-Factor, fold-roll-Selector, fold-roll-AddedTerm, fold-roll-Args, fold-roll-Compared, fold-roll-Designator, fold-roll-Element, fold-roll-Elements, fold-roll-Expr, fold-roll-MultipliedFactor, fold-roll-Simple, fold-roll-Term}
use Rattle.mc_tree.specs.declared.expression.Factor.TheViews.{roll-Factor, roll-Selector, roll-AddedTerm, roll-Args, roll-Compared, roll-Designator, roll-Element, roll-Elements, roll-Expr, roll-MultipliedFactor, roll-Simple, roll-Term}
use Rattle.mc_tree.specs.Leaves.{Leaf, Writes, put, begin, mark, name, each, maybe, after, itself}
use Rattle.mc_tree.specs.Expressions.{relation_symbol, adding_kind, multiplying_kind, signed, factor, selector, added_term, args, compared, designator, element, elements, expr, multiplied_factor, simple, term, factor_step, selector_step, added_term_step, args_step, compared_step, designator_step, element_step, elements_step, expr_step, multiplied_factor_step, simple_step, term_step}

pub each-map : {A : Type 0} (f : A → Writes) (xs : List A) (d : ℕ) (rest : List Leaf) → each itself (map f xs) d rest ≡ each f xs d rest
each-map f [] d rest = refl
each-map f (x ∷ xs) d rest = ap (f x d) (each-map f xs d rest)

pub each-map_after : {A : Type 0} (s : Symbol) (f : A → Writes) (xs : List (After A)) (d : ℕ) (rest : List Leaf)
    → each (after s itself) (map (λ (a : After A). record { mark = a.mark; item = f a.item }) xs) d rest ≡ each (after s f) xs d rest
each-map_after s f [] d rest = refl
each-map_after s f (x ∷ xs) d rest = ap (λ (z : List Leaf). mark s x.mark (f x.item d z)) (each-map_after s f xs d rest)

pub expr-is : (left : Simple) (right : Option Compared) (d : ℕ) (rest : List Leaf)
    → expr (roll-Expr (record { left = left; compared = right })) d rest ≡ simple left d (maybe compared right d rest)
unfolding compared expr simple
expr-is left None d rest = ap (λ (w : Writes). w d rest) (fold-roll-Expr Writes Writes Writes Writes Writes Writes Writes Writes Writes Writes Writes Writes factor_step selector_step added_term_step args_step compared_step designator_step element_step elements_step expr_step multiplied_factor_step simple_step term_step (record { left = left; compared = None }))
expr-is left (Some x) d rest = ap (λ (w : Writes). w d rest) (fold-roll-Expr Writes Writes Writes Writes Writes Writes Writes Writes Writes Writes Writes Writes factor_step selector_step added_term_step args_step compared_step designator_step element_step elements_step expr_step multiplied_factor_step simple_step term_step (record { left = left; compared = (Some x) }))

pub compared-is : (relation : Relation) (place : Place) (right : Simple) (d : ℕ) (rest : List Leaf)
    → compared (roll-Compared (record { relation = relation; place = place; right = right })) d rest ≡ mark (relation_symbol relation) place (simple right d rest)
unfolding compared simple
compared-is relation place right d rest = ap (λ (w : Writes). w d rest) (fold-roll-Compared Writes Writes Writes Writes Writes Writes Writes Writes Writes Writes Writes Writes factor_step selector_step added_term_step args_step compared_step designator_step element_step elements_step expr_step multiplied_factor_step simple_step term_step (record { relation = relation; place = place; right = right }))

pub simple-is : (sign : Option (Sign × Place)) (first : Term) (more : List AddedTerm) (d : ℕ) (rest : List Leaf)
    → simple (roll-Simple (record { sign = sign; first = first; more = more })) d rest ≡ signed sign (term first d (each added_term more d rest))
unfolding added_term simple term
simple-is sign first more d rest = ap (λ (w : Writes). w d rest) (fold-roll-Simple Writes Writes Writes Writes Writes Writes Writes Writes Writes Writes Writes Writes factor_step selector_step added_term_step args_step compared_step designator_step element_step elements_step expr_step multiplied_factor_step simple_step term_step (record { sign = sign; first = first; more = more })) ∙ ap (λ (z : List Leaf). signed sign (term first d (z))) (each-map added_term more d rest)

pub added_term-is : (operator : Adding) (place : Place) (term_ : Term) (d : ℕ) (rest : List Leaf)
    → added_term (roll-AddedTerm (record { operator = operator; place = place; term = term_ })) d rest ≡ put (adding_kind operator) place (term term_ d rest)
unfolding added_term term
added_term-is operator place term_ d rest = ap (λ (w : Writes). w d rest) (fold-roll-AddedTerm Writes Writes Writes Writes Writes Writes Writes Writes Writes Writes Writes Writes factor_step selector_step added_term_step args_step compared_step designator_step element_step elements_step expr_step multiplied_factor_step simple_step term_step (record { operator = operator; place = place; term = term_ }))

pub term-is : (first : Factor) (more : List MultipliedFactor) (d : ℕ) (rest : List Leaf)
    → term (roll-Term (record { first = first; more = more })) d rest ≡ factor first d (each multiplied_factor more d rest)
unfolding factor multiplied_factor term
term-is first more d rest = ap (λ (w : Writes). w d rest) (fold-roll-Term Writes Writes Writes Writes Writes Writes Writes Writes Writes Writes Writes Writes factor_step selector_step added_term_step args_step compared_step designator_step element_step elements_step expr_step multiplied_factor_step simple_step term_step (record { first = first; more = more })) ∙ ap (λ (z : List Leaf). factor first d (z)) (each-map multiplied_factor more d rest)

pub multiplied_factor-is : (operator : Multiplying) (place : Place) (factor_ : Factor) (d : ℕ) (rest : List Leaf)
    → multiplied_factor (roll-MultipliedFactor (record { operator = operator; place = place; factor = factor_ })) d rest ≡ put (multiplying_kind operator) place (factor factor_ d rest)
unfolding factor multiplied_factor
multiplied_factor-is operator place factor_ d rest = ap (λ (w : Writes). w d rest) (fold-roll-MultipliedFactor Writes Writes Writes Writes Writes Writes Writes Writes Writes Writes Writes Writes factor_step selector_step added_term_step args_step compared_step designator_step element_step elements_step expr_step multiplied_factor_step simple_step term_step (record { operator = operator; place = place; factor = factor_ }))

pub number-is : (value : ℕ) (place : Place) (d : ℕ) (rest : List Leaf)
    → factor (roll-Factor (Factor-F.Number value place)) d rest ≡ begin (suc d) (Number value) place rest
unfolding factor
number-is value place d rest = ap (λ (w : Writes). w d rest) (fold-roll-Factor Writes Writes Writes Writes Writes Writes Writes Writes Writes Writes Writes Writes factor_step selector_step added_term_step args_step compared_step designator_step element_step elements_step expr_step multiplied_factor_step simple_step term_step (Factor-F.Number value place))

pub character-is : (value : ℕ) (place : Place) (d : ℕ) (rest : List Leaf)
    → factor (roll-Factor (Factor-F.Character value place)) d rest ≡ begin (suc d) (Char value) place rest
unfolding factor
character-is value place d rest = ap (λ (w : Writes). w d rest) (fold-roll-Factor Writes Writes Writes Writes Writes Writes Writes Writes Writes Writes Writes Writes factor_step selector_step added_term_step args_step compared_step designator_step element_step elements_step expr_step multiplied_factor_step simple_step term_step (Factor-F.Character value place))

pub text-is : (text : List ℕ) (place : Place) (d : ℕ) (rest : List Leaf)
    → factor (roll-Factor (Factor-F.Text text place)) d rest ≡ begin (suc d) (Text text) place rest
unfolding factor
text-is text place d rest = ap (λ (w : Writes). w d rest) (fold-roll-Factor Writes Writes Writes Writes Writes Writes Writes Writes Writes Writes Writes Writes factor_step selector_step added_term_step args_step compared_step designator_step element_step elements_step expr_step multiplied_factor_step simple_step term_step (Factor-F.Text text place))

pub designated-is : (x : Designator) (d : ℕ) (rest : List Leaf)
    → factor (roll-Factor (Factor-F.Designator x)) d rest ≡ designator x d rest
unfolding designator factor
designated-is x d rest = ap (λ (w : Writes). w d rest) (fold-roll-Factor Writes Writes Writes Writes Writes Writes Writes Writes Writes Writes Writes Writes factor_step selector_step added_term_step args_step compared_step designator_step element_step elements_step expr_step multiplied_factor_step simple_step term_step (Factor-F.Designator x))

pub called-is : (id : Id) (x : Args) (d : ℕ) (rest : List Leaf)
    → factor (roll-Factor (Factor-F.Call id x)) d rest ≡ begin (suc d) (Name id.text) id.place (args x (suc d) rest)
unfolding args factor
called-is id x d rest = ap (λ (w : Writes). w d rest) (fold-roll-Factor Writes Writes Writes Writes Writes Writes Writes Writes Writes Writes Writes Writes factor_step selector_step added_term_step args_step compared_step designator_step element_step elements_step expr_step multiplied_factor_step simple_step term_step (Factor-F.Call id x))

pub group-is : (opening : Place) (inner : Expr) (closing : Place) (d : ℕ) (rest : List Leaf)
    → factor (roll-Factor (Factor-F.Group opening inner closing)) d rest ≡ begin (suc d) (SymbolKind LeftParen) opening (expr inner (suc d) (mark RightParen closing rest))
unfolding expr factor
group-is opening inner closing d rest = ap (λ (w : Writes). w d rest) (fold-roll-Factor Writes Writes Writes Writes Writes Writes Writes Writes Writes Writes Writes Writes factor_step selector_step added_term_step args_step compared_step designator_step element_step elements_step expr_step multiplied_factor_step simple_step term_step (Factor-F.Group opening inner closing))

pub not-is : (place : Place) (inner : Factor) (d : ℕ) (rest : List Leaf)
    → factor (roll-Factor (Factor-F.Not place inner)) d rest ≡ begin (suc d) (ReservedKind NotWord) place (factor inner (suc d) rest)
unfolding factor
not-is place inner d rest = ap (λ (w : Writes). w d rest) (fold-roll-Factor Writes Writes Writes Writes Writes Writes Writes Writes Writes Writes Writes Writes factor_step selector_step added_term_step args_step compared_step designator_step element_step elements_step expr_step multiplied_factor_step simple_step term_step (Factor-F.Not place inner))

pub bits-is : (opening : Place) (inside : Option Elements) (closing : Place) (d : ℕ) (rest : List Leaf)
    → factor (roll-Factor (Factor-F.Bits opening inside closing)) d rest ≡ begin (suc d) (SymbolKind LeftBracket) opening (maybe elements inside (suc d) (mark RightBracket closing rest))
unfolding elements factor
bits-is opening None closing d rest = ap (λ (w : Writes). w d rest) (fold-roll-Factor Writes Writes Writes Writes Writes Writes Writes Writes Writes Writes Writes Writes factor_step selector_step added_term_step args_step compared_step designator_step element_step elements_step expr_step multiplied_factor_step simple_step term_step (Factor-F.Bits opening None closing))
bits-is opening (Some x) closing d rest = ap (λ (w : Writes). w d rest) (fold-roll-Factor Writes Writes Writes Writes Writes Writes Writes Writes Writes Writes Writes Writes factor_step selector_step added_term_step args_step compared_step designator_step element_step elements_step expr_step multiplied_factor_step simple_step term_step (Factor-F.Bits opening (Some x) closing))

pub designator-is : (id : Id) (selectors : List Selector) (d : ℕ) (rest : List Leaf)
    → designator (roll-Designator (record { name = id; selectors = selectors })) d rest ≡ begin (suc d) (Name id.text) id.place (each selector selectors (suc d) rest)
unfolding designator selector
designator-is id selectors d rest = ap (λ (w : Writes). w d rest) (fold-roll-Designator Writes Writes Writes Writes Writes Writes Writes Writes Writes Writes Writes Writes factor_step selector_step added_term_step args_step compared_step designator_step element_step elements_step expr_step multiplied_factor_step simple_step term_step (record { name = id; selectors = selectors })) ∙ ap (λ (z : List Leaf). begin (suc d) (Name id.text) id.place (z)) (each-map selector selectors (suc d) rest)

pub field-is : (dot : Place) (id : Id) (d : ℕ) (rest : List Leaf)
    → selector (roll-Selector (Selector-F.Field dot id)) d rest ≡ mark Dot dot (name id rest)
unfolding selector
field-is dot id d rest = ap (λ (w : Writes). w d rest) (fold-roll-Selector Writes Writes Writes Writes Writes Writes Writes Writes Writes Writes Writes Writes factor_step selector_step added_term_step args_step compared_step designator_step element_step elements_step expr_step multiplied_factor_step simple_step term_step (Selector-F.Field dot id))

pub index-is : (opening : Place) (first : Expr) (more : List (After Expr)) (closing : Place) (d : ℕ) (rest : List Leaf)
    → selector (roll-Selector (Selector-F.Index opening first more closing)) d rest ≡ mark LeftBracket opening (expr first d (each (after Comma expr) more d (mark RightBracket closing rest)))
unfolding expr selector
index-is opening first more closing d rest = ap (λ (w : Writes). w d rest) (fold-roll-Selector Writes Writes Writes Writes Writes Writes Writes Writes Writes Writes Writes Writes factor_step selector_step added_term_step args_step compared_step designator_step element_step elements_step expr_step multiplied_factor_step simple_step term_step (Selector-F.Index opening first more closing)) ∙ ap (λ (z : List Leaf). mark LeftBracket opening (expr first d (z))) (each-map_after Comma expr more d (mark RightBracket closing rest))

pub args-is : (opening : Place) (first : Expr) (more : List (After Expr)) (closing : Place) (d : ℕ) (rest : List Leaf)
    → args (roll-Args (record { opening = opening; first = first; more = more; closing = closing })) d rest ≡ mark LeftParen opening (expr first d (each (after Comma expr) more d (mark RightParen closing rest)))
unfolding args expr
args-is opening first more closing d rest = ap (λ (w : Writes). w d rest) (fold-roll-Args Writes Writes Writes Writes Writes Writes Writes Writes Writes Writes Writes Writes factor_step selector_step added_term_step args_step compared_step designator_step element_step elements_step expr_step multiplied_factor_step simple_step term_step (record { opening = opening; first = first; more = more; closing = closing })) ∙ ap (λ (z : List Leaf). mark LeftParen opening (expr first d (z))) (each-map_after Comma expr more d (mark RightParen closing rest))

pub elements-is : (first : Element) (more : List (After Element)) (d : ℕ) (rest : List Leaf)
    → elements (roll-Elements (record { first = first; more = more })) d rest ≡ element first d (each (after Comma element) more d rest)
unfolding element elements
elements-is first more d rest = ap (λ (w : Writes). w d rest) (fold-roll-Elements Writes Writes Writes Writes Writes Writes Writes Writes Writes Writes Writes Writes factor_step selector_step added_term_step args_step compared_step designator_step element_step elements_step expr_step multiplied_factor_step simple_step term_step (record { first = first; more = more })) ∙ ap (λ (z : List Leaf). element first d (z)) (each-map_after Comma element more d rest)

pub element-is : (first : Expr) (last : Option (After Expr)) (d : ℕ) (rest : List Leaf)
    → element (roll-Element (record { first = first; last = last })) d rest ≡ expr first d (maybe (after Colon expr) last d rest)
unfolding element expr
element-is first None d rest = ap (λ (w : Writes). w d rest) (fold-roll-Element Writes Writes Writes Writes Writes Writes Writes Writes Writes Writes Writes Writes factor_step selector_step added_term_step args_step compared_step designator_step element_step elements_step expr_step multiplied_factor_step simple_step term_step (record { first = first; last = None }))
element-is first (Some x) d rest = ap (λ (w : Writes). w d rest) (fold-roll-Element Writes Writes Writes Writes Writes Writes Writes Writes Writes Writes Writes Writes factor_step selector_step added_term_step args_step compared_step designator_step element_step elements_step expr_step multiplied_factor_step simple_step term_step (record { first = first; last = (Some x) }))
