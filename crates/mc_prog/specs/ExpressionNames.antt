-- The names that expressions use, in their order. Each step says it of one node, whose parts stand there as what they use.
use Rattle.std.specs.Prelude.{◌∷◌}
use Rattle.mc_tree.specs.declared.expression.AddedTerm.{AddedTerm}
use Rattle.mc_tree.specs.declared.expression.Args.{Args}
use Rattle.mc_tree.specs.declared.expression.Compared.{Compared}
use Rattle.mc_tree.specs.declared.expression.Designator.{Designator}
use Rattle.mc_tree.specs.declared.expression.Element.{Element}
use Rattle.mc_tree.specs.declared.expression.Elements.{Elements}
use Rattle.mc_tree.specs.declared.expression.Expr.{Expr}
use Rattle.mc_tree.specs.declared.expression.Factor.{Factor}
use Rattle.mc_tree.specs.declared.expression.MultipliedFactor.{MultipliedFactor}
use Rattle.mc_tree.specs.declared.expression.Selector.{Selector}
use Rattle.mc_tree.specs.declared.expression.Simple.{Simple}
use Rattle.mc_tree.specs.declared.expression.Term.{Term}
use Rattle.mc_tree.specs.declared.expression.Factor.TheOpen.{Factor-F, Selector-F, AddedTerm-F, Args-F, Compared-F, Designator-F, Element-F, Elements-F, Expr-F, MultipliedFactor-F, Simple-F, Term-F}
use Rattle.mc_tree.specs.declared.expression.Factor.TheFolds.{fold-Factor, fold-Selector, fold-AddedTerm, fold-Args, fold-Compared, fold-Designator, fold-Element, fold-Elements, fold-Expr, fold-MultipliedFactor, fold-Simple, fold-Term}
use Rattle.mc_prog.specs.Notes.{Notes, Uses, each, maybe, after, itself}

abbrev pub AddedTermLayer : Type 0
AddedTermLayer = AddedTerm-F Notes Notes Notes Notes Notes Notes Notes Notes Notes Notes Notes Notes

abbrev pub ArgsLayer : Type 0
ArgsLayer = Args-F Notes Notes Notes Notes Notes Notes Notes Notes Notes Notes Notes Notes

abbrev pub ComparedLayer : Type 0
ComparedLayer = Compared-F Notes Notes Notes Notes Notes Notes Notes Notes Notes Notes Notes Notes

abbrev pub DesignatorLayer : Type 0
DesignatorLayer = Designator-F Notes Notes Notes Notes Notes Notes Notes Notes Notes Notes Notes Notes

abbrev pub ElementLayer : Type 0
ElementLayer = Element-F Notes Notes Notes Notes Notes Notes Notes Notes Notes Notes Notes Notes

abbrev pub ElementsLayer : Type 0
ElementsLayer = Elements-F Notes Notes Notes Notes Notes Notes Notes Notes Notes Notes Notes Notes

abbrev pub ExprLayer : Type 0
ExprLayer = Expr-F Notes Notes Notes Notes Notes Notes Notes Notes Notes Notes Notes Notes

abbrev pub FactorLayer : Type 0
FactorLayer = Factor-F Notes Notes Notes Notes Notes Notes Notes Notes Notes Notes Notes Notes

abbrev pub MultipliedFactorLayer : Type 0
MultipliedFactorLayer = MultipliedFactor-F Notes Notes Notes Notes Notes Notes Notes Notes Notes Notes Notes Notes

abbrev pub SelectorLayer : Type 0
SelectorLayer = Selector-F Notes Notes Notes Notes Notes Notes Notes Notes Notes Notes Notes Notes

abbrev pub SimpleLayer : Type 0
SimpleLayer = Simple-F Notes Notes Notes Notes Notes Notes Notes Notes Notes Notes Notes Notes

abbrev pub TermLayer : Type 0
TermLayer = Term-F Notes Notes Notes Notes Notes Notes Notes Notes Notes Notes Notes Notes

abbrev pub expr_step : ExprLayer → Notes
expr_step e rest = e.left (maybe itself e.compared rest)

abbrev pub compared_step : ComparedLayer → Notes
compared_step c rest = c.right rest

abbrev pub simple_step : SimpleLayer → Notes
simple_step s rest = s.first (each itself s.more rest)

abbrev pub added_term_step : AddedTermLayer → Notes
added_term_step a rest = a.term rest

abbrev pub term_step : TermLayer → Notes
term_step t rest = t.first (each itself t.more rest)

abbrev pub multiplied_factor_step : MultipliedFactorLayer → Notes
multiplied_factor_step m rest = m.factor rest

abbrev pub factor_step : FactorLayer → Notes
factor_step (Factor-F.Number value place) rest = rest
factor_step (Factor-F.Character value place) rest = rest
factor_step (Factor-F.Text text place) rest = rest
factor_step (Factor-F.Designator designator) rest = designator rest
factor_step (Factor-F.Call id args) rest = Uses id ∷ args rest
factor_step (Factor-F.Group opening inner closing) rest = inner rest
factor_step (Factor-F.Not not inner) rest = inner rest
factor_step (Factor-F.Bits opening elements closing) rest = maybe itself elements rest

abbrev pub designator_step : DesignatorLayer → Notes
designator_step x rest = Uses x.name ∷ each itself x.selectors rest

-- The name of a field is no use: it is sought in the record.
abbrev pub selector_step : SelectorLayer → Notes
selector_step (Selector-F.Field dot field) rest = rest
selector_step (Selector-F.Index opening first more closing) rest = first (each (after itself) more rest)

abbrev pub args_step : ArgsLayer → Notes
args_step a rest = a.first (each (after itself) a.more rest)

abbrev pub elements_step : ElementsLayer → Notes
elements_step x rest = x.first (each (after itself) x.more rest)

abbrev pub element_step : ElementLayer → Notes
element_step x rest = x.first (maybe (after itself) x.last rest)

unfoldable pub factor : Factor → Notes
factor = fold-Factor Notes Notes Notes Notes Notes Notes Notes Notes Notes Notes Notes Notes factor_step selector_step added_term_step args_step compared_step designator_step element_step elements_step expr_step multiplied_factor_step simple_step term_step

unfoldable pub selector : Selector → Notes
selector = fold-Selector Notes Notes Notes Notes Notes Notes Notes Notes Notes Notes Notes Notes factor_step selector_step added_term_step args_step compared_step designator_step element_step elements_step expr_step multiplied_factor_step simple_step term_step

unfoldable pub added_term : AddedTerm → Notes
added_term = fold-AddedTerm Notes Notes Notes Notes Notes Notes Notes Notes Notes Notes Notes Notes factor_step selector_step added_term_step args_step compared_step designator_step element_step elements_step expr_step multiplied_factor_step simple_step term_step

unfoldable pub args : Args → Notes
args = fold-Args Notes Notes Notes Notes Notes Notes Notes Notes Notes Notes Notes Notes factor_step selector_step added_term_step args_step compared_step designator_step element_step elements_step expr_step multiplied_factor_step simple_step term_step

unfoldable pub compared : Compared → Notes
compared = fold-Compared Notes Notes Notes Notes Notes Notes Notes Notes Notes Notes Notes Notes factor_step selector_step added_term_step args_step compared_step designator_step element_step elements_step expr_step multiplied_factor_step simple_step term_step

unfoldable pub designator : Designator → Notes
designator = fold-Designator Notes Notes Notes Notes Notes Notes Notes Notes Notes Notes Notes Notes factor_step selector_step added_term_step args_step compared_step designator_step element_step elements_step expr_step multiplied_factor_step simple_step term_step

unfoldable pub element : Element → Notes
element = fold-Element Notes Notes Notes Notes Notes Notes Notes Notes Notes Notes Notes Notes factor_step selector_step added_term_step args_step compared_step designator_step element_step elements_step expr_step multiplied_factor_step simple_step term_step

unfoldable pub elements : Elements → Notes
elements = fold-Elements Notes Notes Notes Notes Notes Notes Notes Notes Notes Notes Notes Notes factor_step selector_step added_term_step args_step compared_step designator_step element_step elements_step expr_step multiplied_factor_step simple_step term_step

unfoldable pub expr : Expr → Notes
expr = fold-Expr Notes Notes Notes Notes Notes Notes Notes Notes Notes Notes Notes Notes factor_step selector_step added_term_step args_step compared_step designator_step element_step elements_step expr_step multiplied_factor_step simple_step term_step

unfoldable pub multiplied_factor : MultipliedFactor → Notes
multiplied_factor = fold-MultipliedFactor Notes Notes Notes Notes Notes Notes Notes Notes Notes Notes Notes Notes factor_step selector_step added_term_step args_step compared_step designator_step element_step elements_step expr_step multiplied_factor_step simple_step term_step

unfoldable pub simple : Simple → Notes
simple = fold-Simple Notes Notes Notes Notes Notes Notes Notes Notes Notes Notes Notes Notes factor_step selector_step added_term_step args_step compared_step designator_step element_step elements_step expr_step multiplied_factor_step simple_step term_step

unfoldable pub term : Term → Notes
term = fold-Term Notes Notes Notes Notes Notes Notes Notes Notes Notes Notes Notes Notes factor_step selector_step added_term_step args_step compared_step designator_step element_step elements_step expr_step multiplied_factor_step simple_step term_step
