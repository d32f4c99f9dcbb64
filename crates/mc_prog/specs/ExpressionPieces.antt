-- The pieces of expressions. Each step says it of one node, whose parts stand there as what they add.
use Rattle.std.specs.Prelude.{Option, Some, None}
use Rattle.mc_tree.specs.declared.expression.AddedTerm.{AddedTerm}
use Rattle.mc_tree.specs.declared.expression.Args.{Args}
use Rattle.mc_tree.specs.declared.expression.Compared.{Compared}
use Rattle.mc_tree.specs.declared.expression.Designator.{Designator}
use Rattle.mc_tree.specs.declared.expression.Element.{Element}
use Rattle.mc_tree.specs.declared.expression.Elements.{Elements}
use Rattle.mc_tree.specs.declared.expression.Expr.{Expr}
use Rattle.mc_tree.specs.declared.expression.Factor.{Factor}
use Rattle.mc_tree.specs.declared.expression.MultipliedFactor.{MultipliedFactor}
use Rattle.mc_tree.specs.declared.expression.Selector.{Selector}
use Rattle.mc_tree.specs.declared.expression.Simple.{Simple}
use Rattle.mc_tree.specs.declared.expression.Term.{Term}
use Rattle.mc_tree.specs.declared.expression.Factor.TheOpen.{Factor-F, Selector-F, AddedTerm-F, Args-F, Compared-F, Designator-F, Element-F, Elements-F, Expr-F, MultipliedFactor-F, Simple-F, Term-F}
use Rattle.mc_tree.specs.declared.expression.Factor.TheFolds.{fold-Factor, fold-Selector, fold-AddedTerm, fold-Args, fold-Compared, fold-Designator, fold-Element, fold-Elements, fold-Expr, fold-MultipliedFactor, fold-Simple, fold-Term}
use Rattle.mc_tree.specs.declared.expression.Sign.{Sign}
use Rattle.mc_tree.specs.declared.place.Place.{Place}
use Rattle.mc_prog.specs.Pieces.{Gather, Number, Character, Text, Name, Select, Index, Designated, Calling, Group, Negation, Bits, Element as ElementPiece, Signed, Sum, Product, Comparison, closed, within, node, leaf, each, maybe, after, itself}

abbrev pub AddedTermLayer : Type 0
AddedTermLayer = AddedTerm-F Gather Gather Gather Gather Gather Gather Gather Gather Gather Gather Gather Gather

abbrev pub ArgsLayer : Type 0
ArgsLayer = Args-F Gather Gather Gather Gather Gather Gather Gather Gather Gather Gather Gather Gather

abbrev pub ComparedLayer : Type 0
ComparedLayer = Compared-F Gather Gather Gather Gather Gather Gather Gather Gather Gather Gather Gather Gather

abbrev pub DesignatorLayer : Type 0
DesignatorLayer = Designator-F Gather Gather Gather Gather Gather Gather Gather Gather Gather Gather Gather Gather

abbrev pub ElementLayer : Type 0
ElementLayer = Element-F Gather Gather Gather Gather Gather Gather Gather Gather Gather Gather Gather Gather

abbrev pub ElementsLayer : Type 0
ElementsLayer = Elements-F Gather Gather Gather Gather Gather Gather Gather Gather Gather Gather Gather Gather

abbrev pub ExprLayer : Type 0
ExprLayer = Expr-F Gather Gather Gather Gather Gather Gather Gather Gather Gather Gather Gather Gather

abbrev pub FactorLayer : Type 0
FactorLayer = Factor-F Gather Gather Gather Gather Gather Gather Gather Gather Gather Gather Gather Gather

abbrev pub MultipliedFactorLayer : Type 0
MultipliedFactorLayer = MultipliedFactor-F Gather Gather Gather Gather Gather Gather Gather Gather Gather Gather Gather Gather

abbrev pub SelectorLayer : Type 0
SelectorLayer = Selector-F Gather Gather Gather Gather Gather Gather Gather Gather Gather Gather Gather Gather

abbrev pub SimpleLayer : Type 0
SimpleLayer = Simple-F Gather Gather Gather Gather Gather Gather Gather Gather Gather Gather Gather Gather

abbrev pub TermLayer : Type 0
TermLayer = Term-F Gather Gather Gather Gather Gather Gather Gather Gather Gather Gather Gather Gather

-- What is compared becomes the left part of the comparison. So it is with sums, products and designators: what stands so
-- far becomes the first part of the next piece.
abbrev pub expr_step : ExprLayer → Gather
expr_step e g = within (λ i. maybe itself e.compared (e.left i)) g

abbrev pub compared_step : ComparedLayer → Gather
compared_step c g = closed None (Comparison c.relation) (c.right g)

-- the sign, where there is one, over the first term
abbrev pub signed : Option (Sign × Place) → Gather
signed None g = g
signed (Some s) g = closed (Some s.1) (Signed s.0) g

abbrev pub simple_step : SimpleLayer → Gather
simple_step s g = within (λ i. each itself s.more (signed s.sign (s.first i))) g

abbrev pub added_term_step : AddedTermLayer → Gather
added_term_step a g = closed None (Sum a.operator) (a.term g)

abbrev pub term_step : TermLayer → Gather
term_step t g = within (λ i. each itself t.more (t.first i)) g

abbrev pub multiplied_factor_step : MultipliedFactorLayer → Gather
multiplied_factor_step m g = closed None (Product m.operator) (m.factor g)

abbrev pub factor_step : FactorLayer → Gather
factor_step (Factor-F.Number value place) g = leaf place (Number value) g
factor_step (Factor-F.Character value place) g = leaf place (Character value) g
factor_step (Factor-F.Text text place) g = leaf place (Text text) g
factor_step (Factor-F.Designator designator) g = node None Designated designator g
factor_step (Factor-F.Call id args) g = node (Some id.place) (Calling id) args g
factor_step (Factor-F.Group opening inner closing) g = node (Some opening) Group inner g
factor_step (Factor-F.Not not inner) g = node (Some not) Negation inner g
factor_step (Factor-F.Bits opening elements closing) g = node (Some opening) Bits (maybe itself elements) g

abbrev pub designator_step : DesignatorLayer → Gather
designator_step x g = within (λ i. each itself x.selectors (leaf x.name.place (Name x.name) i)) g

-- an index becomes one piece with the designator before it
abbrev pub index : Gather → Gather
index expr g = closed None Index (expr g)

abbrev pub selector_step : SelectorLayer → Gather
selector_step (Selector-F.Field dot field) g = closed None (Select field) g
selector_step (Selector-F.Index opening first more closing) g = each (after index) more (index first g)

abbrev pub args_step : ArgsLayer → Gather
args_step a g = each (after itself) a.more (a.first g)

abbrev pub elements_step : ElementsLayer → Gather
elements_step x g = each (after itself) x.more (x.first g)

abbrev pub element_step : ElementLayer → Gather
element_step x g = node None ElementPiece (λ i. maybe (after itself) x.last (x.first i)) g

unfoldable pub factor : Factor → Gather
factor = fold-Factor Gather Gather Gather Gather Gather Gather Gather Gather Gather Gather Gather Gather factor_step selector_step added_term_step args_step compared_step designator_step element_step elements_step expr_step multiplied_factor_step simple_step term_step

unfoldable pub selector : Selector → Gather
selector = fold-Selector Gather Gather Gather Gather Gather Gather Gather Gather Gather Gather Gather Gather factor_step selector_step added_term_step args_step compared_step designator_step element_step elements_step expr_step multiplied_factor_step simple_step term_step

unfoldable pub added_term : AddedTerm → Gather
added_term = fold-AddedTerm Gather Gather Gather Gather Gather Gather Gather Gather Gather Gather Gather Gather factor_step selector_step added_term_step args_step compared_step designator_step element_step elements_step expr_step multiplied_factor_step simple_step term_step

unfoldable pub args : Args → Gather
args = fold-Args Gather Gather Gather Gather Gather Gather Gather Gather Gather Gather Gather Gather factor_step selector_step added_term_step args_step compared_step designator_step element_step elements_step expr_step multiplied_factor_step simple_step term_step

unfoldable pub compared : Compared → Gather
compared = fold-Compared Gather Gather Gather Gather Gather Gather Gather Gather Gather Gather Gather Gather factor_step selector_step added_term_step args_step compared_step designator_step element_step elements_step expr_step multiplied_factor_step simple_step term_step

unfoldable pub designator : Designator → Gather
designator = fold-Designator Gather Gather Gather Gather Gather Gather Gather Gather Gather Gather Gather Gather factor_step selector_step added_term_step args_step compared_step designator_step element_step elements_step expr_step multiplied_factor_step simple_step term_step

unfoldable pub element : Element → Gather
element = fold-Element Gather Gather Gather Gather Gather Gather Gather Gather Gather Gather Gather Gather factor_step selector_step added_term_step args_step compared_step designator_step element_step elements_step expr_step multiplied_factor_step simple_step term_step

unfoldable pub elements : Elements → Gather
elements = fold-Elements Gather Gather Gather Gather Gather Gather Gather Gather Gather Gather Gather Gather factor_step selector_step added_term_step args_step compared_step designator_step element_step elements_step expr_step multiplied_factor_step simple_step term_step

unfoldable pub expr : Expr → Gather
expr = fold-Expr Gather Gather Gather Gather Gather Gather Gather Gather Gather Gather Gather Gather factor_step selector_step added_term_step args_step compared_step designator_step element_step elements_step expr_step multiplied_factor_step simple_step term_step

unfoldable pub multiplied_factor : MultipliedFactor → Gather
multiplied_factor = fold-MultipliedFactor Gather Gather Gather Gather Gather Gather Gather Gather Gather Gather Gather Gather factor_step selector_step added_term_step args_step compared_step designator_step element_step elements_step expr_step multiplied_factor_step simple_step term_step

unfoldable pub simple : Simple → Gather
simple = fold-Simple Gather Gather Gather Gather Gather Gather Gather Gather Gather Gather Gather Gather factor_step selector_step added_term_step args_step compared_step designator_step element_step elements_step expr_step multiplied_factor_step simple_step term_step

unfoldable pub term : Term → Gather
term = fold-Term Gather Gather Gather Gather Gather Gather Gather Gather Gather Gather Gather Gather factor_step selector_step added_term_step args_step compared_step designator_step element_step elements_step expr_step multiplied_factor_step simple_step term_step
