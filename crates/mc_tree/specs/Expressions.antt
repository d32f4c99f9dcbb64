-- How the parts of expressions are written, by the productions of the grammar. Each step says it of one node, whose
-- parts stand there as what they write.
use Rattle.std.specs.Prelude.{suc, List, Option, Some, None}
use Rattle.mc_tree.specs.declared.place.Place.{Place}
use Rattle.mc_tree.specs.declared.token.Kind.TheVariants.{Reserved as ReservedKind, Name, Number, Char, Text, Symbol as SymbolKind}
use Rattle.mc_tree.specs.declared.token.Reserved.TheVariants.{AndWord, DivWord, ModWord, NotWord, OrWord, XorWord}
use Rattle.mc_tree.specs.declared.token.Symbol.{Symbol}
use Rattle.mc_tree.specs.declared.token.Symbol.TheVariants.{Plus, Minus, Times, Equal, Unequal, Less, LessEqual, Greater, GreaterEqual, LeftParen, RightParen, LeftBracket, RightBracket, Comma, Colon, Dot}
use Rattle.mc_tree.specs.declared.token.Kind.{Kind}
use Rattle.mc_tree.specs.declared.expression.Relation.{Relation}
use Rattle.mc_tree.specs.declared.expression.Relation.TheVariants as relation
use Rattle.mc_tree.specs.declared.expression.Sign.{Sign}
use Rattle.mc_tree.specs.declared.expression.Sign.TheVariants as sign
use Rattle.mc_tree.specs.declared.expression.Adding.{Adding}
use Rattle.mc_tree.specs.declared.expression.Adding.TheVariants as adding
use Rattle.mc_tree.specs.declared.expression.Multiplying.{Multiplying}
use Rattle.mc_tree.specs.declared.expression.Multiplying.TheVariants as multiplying
use Rattle.mc_tree.specs.declared.expression.Factor.{Factor}
use Rattle.mc_tree.specs.declared.expression.Selector.{Selector}
use Rattle.mc_tree.specs.declared.expression.AddedTerm.{AddedTerm}
use Rattle.mc_tree.specs.declared.expression.Args.{Args}
use Rattle.mc_tree.specs.declared.expression.Compared.{Compared}
use Rattle.mc_tree.specs.declared.expression.Designator.{Designator}
use Rattle.mc_tree.specs.declared.expression.Element.{Element}
use Rattle.mc_tree.specs.declared.expression.Elements.{Elements}
use Rattle.mc_tree.specs.declared.expression.Expr.{Expr}
use Rattle.mc_tree.specs.declared.expression.MultipliedFactor.{MultipliedFactor}
use Rattle.mc_tree.specs.declared.expression.Simple.{Simple}
use Rattle.mc_tree.specs.declared.expression.Term.{Term}
use Rattle.mc_tree.specs.declared.expression.Factor.TheOpen.{Factor-F, Selector-F, AddedTerm-F, Args-F, Compared-F, Designator-F, Element-F, Elements-F, Expr-F, MultipliedFactor-F, Simple-F, Term-F}
use Rattle.mc_tree.specs.declared.expression.Factor.TheFolds.{fold-Factor, fold-Selector, fold-AddedTerm, fold-Args, fold-Compared, fold-Designator, fold-Element, fold-Elements, fold-Expr, fold-MultipliedFactor, fold-Simple, fold-Term}
use Rattle.mc_tree.specs.Leaves.{Leaf, Writes, put, begin, mark, name, each, maybe, after, itself}

abbrev pub relation_symbol : Relation → Symbol
relation_symbol relation.Equal = Equal
relation_symbol relation.Unequal = Unequal
relation_symbol relation.Less = Less
relation_symbol relation.LessEqual = LessEqual
relation_symbol relation.Greater = Greater
relation_symbol relation.GreaterEqual = GreaterEqual

abbrev pub sign_symbol : Sign → Symbol
sign_symbol sign.Plus = Plus
sign_symbol sign.Minus = Minus

abbrev pub adding_kind : Adding → Kind
adding_kind adding.Plus = SymbolKind Plus
adding_kind adding.Minus = SymbolKind Minus
adding_kind adding.Or = ReservedKind OrWord
adding_kind adding.Xor = ReservedKind XorWord

abbrev pub multiplying_kind : Multiplying → Kind
multiplying_kind multiplying.Times = SymbolKind Times
multiplying_kind multiplying.Div = ReservedKind DivWord
multiplying_kind multiplying.Mod = ReservedKind ModWord
multiplying_kind multiplying.And = ReservedKind AndWord

abbrev pub FactorLayer : Type 0
FactorLayer = Factor-F Writes Writes Writes Writes Writes Writes Writes Writes Writes Writes Writes Writes

abbrev pub SelectorLayer : Type 0
SelectorLayer = Selector-F Writes Writes Writes Writes Writes Writes Writes Writes Writes Writes Writes Writes

abbrev pub AddedTermLayer : Type 0
AddedTermLayer = AddedTerm-F Writes Writes Writes Writes Writes Writes Writes Writes Writes Writes Writes Writes

abbrev pub ArgsLayer : Type 0
ArgsLayer = Args-F Writes Writes Writes Writes Writes Writes Writes Writes Writes Writes Writes Writes

abbrev pub ComparedLayer : Type 0
ComparedLayer = Compared-F Writes Writes Writes Writes Writes Writes Writes Writes Writes Writes Writes Writes

abbrev pub DesignatorLayer : Type 0
DesignatorLayer = Designator-F Writes Writes Writes Writes Writes Writes Writes Writes Writes Writes Writes Writes

abbrev pub ElementLayer : Type 0
ElementLayer = Element-F Writes Writes Writes Writes Writes Writes Writes Writes Writes Writes Writes Writes

abbrev pub ElementsLayer : Type 0
ElementsLayer = Elements-F Writes Writes Writes Writes Writes Writes Writes Writes Writes Writes Writes Writes

abbrev pub ExprLayer : Type 0
ExprLayer = Expr-F Writes Writes Writes Writes Writes Writes Writes Writes Writes Writes Writes Writes

abbrev pub MultipliedFactorLayer : Type 0
MultipliedFactorLayer = MultipliedFactor-F Writes Writes Writes Writes Writes Writes Writes Writes Writes Writes Writes Writes

abbrev pub SimpleLayer : Type 0
SimpleLayer = Simple-F Writes Writes Writes Writes Writes Writes Writes Writes Writes Writes Writes Writes

abbrev pub TermLayer : Type 0
TermLayer = Term-F Writes Writes Writes Writes Writes Writes Writes Writes Writes Writes Writes Writes

-- `Simple [ relation Simple ]`
abbrev pub expr_step : ExprLayer → Writes
expr_step e d rest = e.left d (maybe itself e.compared d rest)

abbrev pub compared_step : ComparedLayer → Writes
compared_step c d rest = mark (relation_symbol c.relation) c.place (c.right d rest)

abbrev pub signed : Option (Sign × Place) → List Leaf → List Leaf
signed None rest = rest
signed (Some s) rest = mark (sign_symbol s.0) s.1 rest

-- `[ "+" | "-" ] Term { ( "+" | "-" | or | xor ) Term }`
abbrev pub simple_step : SimpleLayer → Writes
simple_step s d rest = signed s.sign (s.first d (each itself s.more d rest))

abbrev pub added_term_step : AddedTermLayer → Writes
added_term_step a d rest = put (adding_kind a.operator) a.place (a.term d rest)

-- `Factor { ( "*" | div | mod | and ) Factor }`
abbrev pub term_step : TermLayer → Writes
term_step t d rest = t.first d (each itself t.more d rest)

abbrev pub multiplied_factor_step : MultipliedFactorLayer → Writes
multiplied_factor_step m d rest = put (multiplying_kind m.operator) m.place (m.factor d rest)

-- A factor is a counting node: its first token begins it, and its parts stand in it.
abbrev pub factor_step : FactorLayer → Writes
factor_step (Factor-F.Number value place) d rest = begin (suc d) (Number value) place rest
factor_step (Factor-F.Character value place) d rest = begin (suc d) (Char value) place rest
factor_step (Factor-F.Text text place) d rest = begin (suc d) (Text text) place rest
factor_step (Factor-F.Designator designator) d rest = designator d rest
factor_step (Factor-F.Call id args) d rest = begin (suc d) (Name id.text) id.place (args (suc d) rest)
factor_step (Factor-F.Group opening inner closing) d rest = begin (suc d) (SymbolKind LeftParen) opening (inner (suc d) (mark RightParen closing rest))
factor_step (Factor-F.Not not inner) d rest = begin (suc d) (ReservedKind NotWord) not (inner (suc d) rest)
factor_step (Factor-F.Bits opening elements closing) d rest = begin (suc d) (SymbolKind LeftBracket) opening (maybe itself elements (suc d) (mark RightBracket closing rest))

-- `id { "." id | "[" Expr { "," Expr } "]" }`. Its name is the first token of the factor or the statement that it begins.
abbrev pub designator_step : DesignatorLayer → Writes
designator_step x d rest = begin (suc d) (Name x.name.text) x.name.place (each itself x.selectors (suc d) rest)

abbrev pub selector_step : SelectorLayer → Writes
selector_step (Selector-F.Field dot field) d rest = mark Dot dot (name field rest)
selector_step (Selector-F.Index opening first more closing) d rest = mark LeftBracket opening (first d (each (after Comma itself) more d (mark RightBracket closing rest)))

-- `"(" Expr { "," Expr } ")"`
abbrev pub args_step : ArgsLayer → Writes
args_step a d rest = mark LeftParen a.opening (a.first d (each (after Comma itself) a.more d (mark RightParen a.closing rest)))

-- `Element { "," Element }`
abbrev pub elements_step : ElementsLayer → Writes
elements_step x d rest = x.first d (each (after Comma itself) x.more d rest)

-- `Expr [ ":" Expr ]`
abbrev pub element_step : ElementLayer → Writes
element_step x d rest = x.first d (maybe (after Colon itself) x.last d rest)

unfoldable pub factor : Factor → Writes
factor = fold-Factor Writes Writes Writes Writes Writes Writes Writes Writes Writes Writes Writes Writes factor_step selector_step added_term_step args_step compared_step designator_step element_step elements_step expr_step multiplied_factor_step simple_step term_step

unfoldable pub selector : Selector → Writes
selector = fold-Selector Writes Writes Writes Writes Writes Writes Writes Writes Writes Writes Writes Writes factor_step selector_step added_term_step args_step compared_step designator_step element_step elements_step expr_step multiplied_factor_step simple_step term_step

unfoldable pub added_term : AddedTerm → Writes
added_term = fold-AddedTerm Writes Writes Writes Writes Writes Writes Writes Writes Writes Writes Writes Writes factor_step selector_step added_term_step args_step compared_step designator_step element_step elements_step expr_step multiplied_factor_step simple_step term_step

unfoldable pub args : Args → Writes
args = fold-Args Writes Writes Writes Writes Writes Writes Writes Writes Writes Writes Writes Writes factor_step selector_step added_term_step args_step compared_step designator_step element_step elements_step expr_step multiplied_factor_step simple_step term_step

unfoldable pub compared : Compared → Writes
compared = fold-Compared Writes Writes Writes Writes Writes Writes Writes Writes Writes Writes Writes Writes factor_step selector_step added_term_step args_step compared_step designator_step element_step elements_step expr_step multiplied_factor_step simple_step term_step

unfoldable pub designator : Designator → Writes
designator = fold-Designator Writes Writes Writes Writes Writes Writes Writes Writes Writes Writes Writes Writes factor_step selector_step added_term_step args_step compared_step designator_step element_step elements_step expr_step multiplied_factor_step simple_step term_step

unfoldable pub element : Element → Writes
element = fold-Element Writes Writes Writes Writes Writes Writes Writes Writes Writes Writes Writes Writes factor_step selector_step added_term_step args_step compared_step designator_step element_step elements_step expr_step multiplied_factor_step simple_step term_step

unfoldable pub elements : Elements → Writes
elements = fold-Elements Writes Writes Writes Writes Writes Writes Writes Writes Writes Writes Writes Writes factor_step selector_step added_term_step args_step compared_step designator_step element_step elements_step expr_step multiplied_factor_step simple_step term_step

unfoldable pub expr : Expr → Writes
expr = fold-Expr Writes Writes Writes Writes Writes Writes Writes Writes Writes Writes Writes Writes factor_step selector_step added_term_step args_step compared_step designator_step element_step elements_step expr_step multiplied_factor_step simple_step term_step

unfoldable pub multiplied_factor : MultipliedFactor → Writes
multiplied_factor = fold-MultipliedFactor Writes Writes Writes Writes Writes Writes Writes Writes Writes Writes Writes Writes factor_step selector_step added_term_step args_step compared_step designator_step element_step elements_step expr_step multiplied_factor_step simple_step term_step

unfoldable pub simple : Simple → Writes
simple = fold-Simple Writes Writes Writes Writes Writes Writes Writes Writes Writes Writes Writes Writes factor_step selector_step added_term_step args_step compared_step designator_step element_step elements_step expr_step multiplied_factor_step simple_step term_step

unfoldable pub term : Term → Writes
term = fold-Term Writes Writes Writes Writes Writes Writes Writes Writes Writes Writes Writes Writes factor_step selector_step added_term_step args_step compared_step designator_step element_step elements_step expr_step multiplied_factor_step simple_step term_step
