-- The rule by which a phrase goes on at a class begins with that class; depths of what rules leave to be read.
use Rattle.std.specs.Prelude.{◌≡◌, ◌≤◌, ℕ, suc, [], ◌∷◌, Option, Some, None, is_some, refl}
use Rattle.std.proofs.Common.{ap, ◌∙◌, sym, arith}
use Rattle.std.proofs.lemmas.Bool.{false≢true}
use Rattle.mc_tree.specs.declared.token.Reserved.TheVariants.{AndWord, ArrayWord, BeginWord, CaseWord, ConstWord, DefineWord, DeviceWord, DivWord, DoWord, ElseWord, ElsifWord, EndWord, IfWord, InterfaceWord, LoopWord, ModWord, ModuleWord, NotWord, OrWord, ProcedureWord, ProcessWord, RecordWord, RepeatWord, TypeWord, UseWord, VarWord, WhenWord, WhileWord, XorWord}
use Rattle.mc_tree.specs.declared.token.Symbol.TheVariants.{Plus, Minus, Times, Equal, Unequal, Less, LessEqual, Greater, GreaterEqual, LeftParen, LeftBracket, RightBracket, Comma, Semicolon, Colon, Becomes, Dot}
use Rattle.mc_tree.specs.declared.expression.Relation.TheVariants as relation
use Rattle.mc_tree.specs.declared.expression.Sign.TheVariants as sign
use Rattle.mc_tree.specs.declared.expression.Adding.TheVariants as adding
use Rattle.mc_tree.specs.declared.expression.Multiplying.TheVariants as multiplying
use Rattle.mc_tree.specs.Classes.{Class, ReservedClass, NameClass, NumberClass, CharacterClass, TextClass, SymbolClass}
use Rattle.mc_tree.specs.Grammar.{Phrase, ExprPhrase, ExprTailPhrase, SimplePhrase, SimpleTailPhrase, TermPhrase, TermTailPhrase, FactorPhrase, BitsTailPhrase, ElementPhrase, ElementTailPhrase, CommaElementsPhrase, CommaExprsPhrase, FactorTailPhrase, SelectorsPhrase, StatementPhrase, StatementsPhrase, StatementTailPhrase, AssigningPhrase, ElsifsPhrase, ElsePhrase, ExitsPhrase, LastBodyPhrase, ArmPhrase, ArmsPhrase, TypePhrase, RangePhrase, CommaRangesPhrase, IdsPhrase, CommaIdsPhrase, FieldsPhrase, MoreFieldsPhrase, DeclPhrase, ConstPhrase, ConstsPhrase, TypeDeclPhrase, TypeDeclsPhrase, VarIdPhrase, AddressPhrase, VarPhrase, CommaVarIdsPhrase, VarsPhrase, DeclsPhrase, ProcedurePhrase, ProcessPhrase, DriverPhrase, ParamsPhrase, AnswerPhrase, SectionPhrase, SectionsPhrase, PlainPartsPhrase, FacePartsPhrase, DevicePartsPhrase, BegunPhrase, DefinesPhrase, UsesPhrase, ModulePhrase, ProgramPhrase, Rule, ExprBy, Compare, Signed, SimpleBy, Add, TermBy, Multiply, NumberFactor, CharacterFactor, TextFactor, NameFactor, GroupFactor, NotFactor, BitsFactor, NoBits, BitsBy, ElementBy, LastElement, MoreElements, MoreExprs, CallFactor, FieldFactor, IndexFactor, FieldSelector, IndexSelector, NameStatement, IfStatement, WhileStatement, RepeatStatement, LoopStatement, CaseStatement, MoreStatements, CallStatement, AssignStatement, FieldStatement, IndexStatement, AssignTo, FieldTo, IndexTo, MoreElsifs, ElseBody, MoreExits, DoBody, ArmBy, MoreArms, NamedType, ValuesType, ArrayType, RecordType, RangeBy, MoreRanges, FirstId, MoreIds, FieldsBy, NextFields, ConstDecl, TypesDecl, VarDecl, OneConst, ConstsBy, OneType, TypeDeclsBy, OneVarId, AddressBracket, VarBy, MoreVarIds, VarsBy, DeclsBy, OneProcedure, OneProcess, OneDriver, SomeParams, SomeAnswer, ConstSection, VarSection, SectionBy, MoreSections, PlainDecl, PlainProcedure, PlainProcess, PlainInner, FaceDecl, FaceProcedure, DeviceDecl, DeviceProcedure, DeviceDriver, SomeBegun, SomeDefines, SomeUses, PlainInside, InterfaceInside, DeviceInside, PlainWhole, DeviceWhole, first, Take, Sub, Stack, parts, depth_of_first}
use Rattle.mc_tree.specs.NextRules.{next, lifted}

same_rule : {phrase : Phrase} (q r : Rule phrase) → Some q ≡ Some r → q ≡ r
same_rule q r h = cc

of_lifted : {inner phrase : Phrase} (f : Rule inner → Rule phrase) (class : Class) (o : Option (Rule inner)) (r : Rule phrase)
    → ((q : Rule inner) → first (f q) ≡ first q) → ((q : Rule inner) → o ≡ Some q → first q ≡ class) → lifted f o ≡ Some r → first r ≡ class
of_lifted f class None r same later h = absurd (false≢true (ap is_some h))
of_lifted f class (Some q) r same later h = ap first (sym (same_rule (f q) r h)) ∙ same q ∙ later q refl

factor-next : (class : Class) (r : Rule FactorPhrase) → next FactorPhrase class ≡ Some r → first r ≡ class
factor-next NumberClass r h = ap first (sym (same_rule NumberFactor r h))
factor-next CharacterClass r h = ap first (sym (same_rule CharacterFactor r h))
factor-next TextClass r h = ap first (sym (same_rule TextFactor r h))
factor-next NameClass r h = ap first (sym (same_rule NameFactor r h))
factor-next (SymbolClass LeftParen) r h = ap first (sym (same_rule GroupFactor r h))
factor-next (ReservedClass NotWord) r h = ap first (sym (same_rule NotFactor r h))
factor-next (SymbolClass LeftBracket) r h = ap first (sym (same_rule BitsFactor r h))
factor-next _ r h = absurd (false≢true (ap is_some h))

term-next : (class : Class) (r : Rule TermPhrase) → next TermPhrase class ≡ Some r → first r ≡ class
term-next class r h = of_lifted TermBy class (next FactorPhrase class) r (λ q. refl) (factor-next class) h

simple-next : (class : Class) (r : Rule SimplePhrase) → next SimplePhrase class ≡ Some r → first r ≡ class
simple-next (SymbolClass Plus) r h = ap first (sym (same_rule (Signed sign.Plus) r h))
simple-next (SymbolClass Minus) r h = ap first (sym (same_rule (Signed sign.Minus) r h))
simple-next NumberClass r h = ap first (sym (same_rule (SimpleBy (TermBy NumberFactor)) r h))
simple-next CharacterClass r h = ap first (sym (same_rule (SimpleBy (TermBy CharacterFactor)) r h))
simple-next TextClass r h = ap first (sym (same_rule (SimpleBy (TermBy TextFactor)) r h))
simple-next NameClass r h = ap first (sym (same_rule (SimpleBy (TermBy NameFactor)) r h))
simple-next (SymbolClass LeftParen) r h = ap first (sym (same_rule (SimpleBy (TermBy GroupFactor)) r h))
simple-next (ReservedClass NotWord) r h = ap first (sym (same_rule (SimpleBy (TermBy NotFactor)) r h))
simple-next (SymbolClass LeftBracket) r h = ap first (sym (same_rule (SimpleBy (TermBy BitsFactor)) r h))
simple-next _ r h = absurd (false≢true (ap is_some h))

expr-next : (class : Class) (r : Rule ExprPhrase) → next ExprPhrase class ≡ Some r → first r ≡ class
expr-next class r h = of_lifted ExprBy class (next SimplePhrase class) r (λ q. refl) (simple-next class) h

expr_tail-next : (class : Class) (r : Rule ExprTailPhrase) → next ExprTailPhrase class ≡ Some r → first r ≡ class
expr_tail-next (SymbolClass Equal) r h = ap first (sym (same_rule (Compare relation.Equal) r h))
expr_tail-next (SymbolClass Unequal) r h = ap first (sym (same_rule (Compare relation.Unequal) r h))
expr_tail-next (SymbolClass Less) r h = ap first (sym (same_rule (Compare relation.Less) r h))
expr_tail-next (SymbolClass LessEqual) r h = ap first (sym (same_rule (Compare relation.LessEqual) r h))
expr_tail-next (SymbolClass Greater) r h = ap first (sym (same_rule (Compare relation.Greater) r h))
expr_tail-next (SymbolClass GreaterEqual) r h = ap first (sym (same_rule (Compare relation.GreaterEqual) r h))
expr_tail-next _ r h = absurd (false≢true (ap is_some h))

simple_tail-next : (class : Class) (r : Rule SimpleTailPhrase) → next SimpleTailPhrase class ≡ Some r → first r ≡ class
simple_tail-next (SymbolClass Plus) r h = ap first (sym (same_rule (Add adding.Plus) r h))
simple_tail-next (SymbolClass Minus) r h = ap first (sym (same_rule (Add adding.Minus) r h))
simple_tail-next (ReservedClass OrWord) r h = ap first (sym (same_rule (Add adding.Or) r h))
simple_tail-next (ReservedClass XorWord) r h = ap first (sym (same_rule (Add adding.Xor) r h))
simple_tail-next _ r h = absurd (false≢true (ap is_some h))

term_tail-next : (class : Class) (r : Rule TermTailPhrase) → next TermTailPhrase class ≡ Some r → first r ≡ class
term_tail-next (SymbolClass Times) r h = ap first (sym (same_rule (Multiply multiplying.Times) r h))
term_tail-next (ReservedClass DivWord) r h = ap first (sym (same_rule (Multiply multiplying.Div) r h))
term_tail-next (ReservedClass ModWord) r h = ap first (sym (same_rule (Multiply multiplying.Mod) r h))
term_tail-next (ReservedClass AndWord) r h = ap first (sym (same_rule (Multiply multiplying.And) r h))
term_tail-next _ r h = absurd (false≢true (ap is_some h))

element-next : (class : Class) (r : Rule ElementPhrase) → next ElementPhrase class ≡ Some r → first r ≡ class
element-next class r h = of_lifted ElementBy class (next ExprPhrase class) r (λ q. refl) (expr-next class) h

bits_tail-next : (class : Class) (r : Rule BitsTailPhrase) → next BitsTailPhrase class ≡ Some r → first r ≡ class
bits_tail-next (SymbolClass RightBracket) r h = ap first (sym (same_rule NoBits r h))
bits_tail-next (SymbolClass Plus) r h = ap first (sym (same_rule (BitsBy (ElementBy (ExprBy (Signed sign.Plus)))) r h))
bits_tail-next (SymbolClass Minus) r h = ap first (sym (same_rule (BitsBy (ElementBy (ExprBy (Signed sign.Minus)))) r h))
bits_tail-next NumberClass r h = ap first (sym (same_rule (BitsBy (ElementBy (ExprBy (SimpleBy (TermBy NumberFactor))))) r h))
bits_tail-next CharacterClass r h = ap first (sym (same_rule (BitsBy (ElementBy (ExprBy (SimpleBy (TermBy CharacterFactor))))) r h))
bits_tail-next TextClass r h = ap first (sym (same_rule (BitsBy (ElementBy (ExprBy (SimpleBy (TermBy TextFactor))))) r h))
bits_tail-next NameClass r h = ap first (sym (same_rule (BitsBy (ElementBy (ExprBy (SimpleBy (TermBy NameFactor))))) r h))
bits_tail-next (SymbolClass LeftParen) r h = ap first (sym (same_rule (BitsBy (ElementBy (ExprBy (SimpleBy (TermBy GroupFactor))))) r h))
bits_tail-next (ReservedClass NotWord) r h = ap first (sym (same_rule (BitsBy (ElementBy (ExprBy (SimpleBy (TermBy NotFactor))))) r h))
bits_tail-next (SymbolClass LeftBracket) r h = ap first (sym (same_rule (BitsBy (ElementBy (ExprBy (SimpleBy (TermBy BitsFactor))))) r h))
bits_tail-next _ r h = absurd (false≢true (ap is_some h))

element_tail-next : (class : Class) (r : Rule ElementTailPhrase) → next ElementTailPhrase class ≡ Some r → first r ≡ class
element_tail-next (SymbolClass Colon) r h = ap first (sym (same_rule LastElement r h))
element_tail-next _ r h = absurd (false≢true (ap is_some h))

comma_elements-next : (class : Class) (r : Rule CommaElementsPhrase) → next CommaElementsPhrase class ≡ Some r → first r ≡ class
comma_elements-next (SymbolClass Comma) r h = ap first (sym (same_rule MoreElements r h))
comma_elements-next _ r h = absurd (false≢true (ap is_some h))

comma_exprs-next : (class : Class) (r : Rule CommaExprsPhrase) → next CommaExprsPhrase class ≡ Some r → first r ≡ class
comma_exprs-next (SymbolClass Comma) r h = ap first (sym (same_rule MoreExprs r h))
comma_exprs-next _ r h = absurd (false≢true (ap is_some h))

factor_tail-next : (class : Class) (r : Rule FactorTailPhrase) → next FactorTailPhrase class ≡ Some r → first r ≡ class
factor_tail-next (SymbolClass LeftParen) r h = ap first (sym (same_rule CallFactor r h))
factor_tail-next (SymbolClass Dot) r h = ap first (sym (same_rule FieldFactor r h))
factor_tail-next (SymbolClass LeftBracket) r h = ap first (sym (same_rule IndexFactor r h))
factor_tail-next _ r h = absurd (false≢true (ap is_some h))

selectors-next : (class : Class) (r : Rule SelectorsPhrase) → next SelectorsPhrase class ≡ Some r → first r ≡ class
selectors-next (SymbolClass Dot) r h = ap first (sym (same_rule FieldSelector r h))
selectors-next (SymbolClass LeftBracket) r h = ap first (sym (same_rule IndexSelector r h))
selectors-next _ r h = absurd (false≢true (ap is_some h))

statement-next : (class : Class) (r : Rule StatementPhrase) → next StatementPhrase class ≡ Some r → first r ≡ class
statement-next NameClass r h = ap first (sym (same_rule NameStatement r h))
statement-next (ReservedClass IfWord) r h = ap first (sym (same_rule IfStatement r h))
statement-next (ReservedClass WhileWord) r h = ap first (sym (same_rule WhileStatement r h))
statement-next (ReservedClass RepeatWord) r h = ap first (sym (same_rule RepeatStatement r h))
statement-next (ReservedClass LoopWord) r h = ap first (sym (same_rule LoopStatement r h))
statement-next (ReservedClass CaseWord) r h = ap first (sym (same_rule CaseStatement r h))
statement-next _ r h = absurd (false≢true (ap is_some h))

statements-next : (class : Class) (r : Rule StatementsPhrase) → next StatementsPhrase class ≡ Some r → first r ≡ class
statements-next (SymbolClass Semicolon) r h = ap first (sym (same_rule MoreStatements r h))
statements-next _ r h = absurd (false≢true (ap is_some h))

statement_tail-next : (class : Class) (r : Rule StatementTailPhrase) → next StatementTailPhrase class ≡ Some r → first r ≡ class
statement_tail-next (SymbolClass LeftParen) r h = ap first (sym (same_rule CallStatement r h))
statement_tail-next (SymbolClass Becomes) r h = ap first (sym (same_rule AssignStatement r h))
statement_tail-next (SymbolClass Dot) r h = ap first (sym (same_rule FieldStatement r h))
statement_tail-next (SymbolClass LeftBracket) r h = ap first (sym (same_rule IndexStatement r h))
statement_tail-next _ r h = absurd (false≢true (ap is_some h))

assigning-next : (class : Class) (r : Rule AssigningPhrase) → next AssigningPhrase class ≡ Some r → first r ≡ class
assigning-next (SymbolClass Becomes) r h = ap first (sym (same_rule AssignTo r h))
assigning-next (SymbolClass Dot) r h = ap first (sym (same_rule FieldTo r h))
assigning-next (SymbolClass LeftBracket) r h = ap first (sym (same_rule IndexTo r h))
assigning-next _ r h = absurd (false≢true (ap is_some h))

elsifs-next : (class : Class) (r : Rule ElsifsPhrase) → next ElsifsPhrase class ≡ Some r → first r ≡ class
elsifs-next (ReservedClass ElsifWord) r h = ap first (sym (same_rule MoreElsifs r h))
elsifs-next _ r h = absurd (false≢true (ap is_some h))

else-next : (class : Class) (r : Rule ElsePhrase) → next ElsePhrase class ≡ Some r → first r ≡ class
else-next (ReservedClass ElseWord) r h = ap first (sym (same_rule ElseBody r h))
else-next _ r h = absurd (false≢true (ap is_some h))

exits-next : (class : Class) (r : Rule ExitsPhrase) → next ExitsPhrase class ≡ Some r → first r ≡ class
exits-next (ReservedClass WhenWord) r h = ap first (sym (same_rule MoreExits r h))
exits-next _ r h = absurd (false≢true (ap is_some h))

last_body-next : (class : Class) (r : Rule LastBodyPhrase) → next LastBodyPhrase class ≡ Some r → first r ≡ class
last_body-next (ReservedClass DoWord) r h = ap first (sym (same_rule DoBody r h))
last_body-next _ r h = absurd (false≢true (ap is_some h))

arm-next : (class : Class) (r : Rule ArmPhrase) → next ArmPhrase class ≡ Some r → first r ≡ class
arm-next class r h = of_lifted ArmBy class (next ExprPhrase class) r (λ q. refl) (expr-next class) h

arms-next : (class : Class) (r : Rule ArmsPhrase) → next ArmsPhrase class ≡ Some r → first r ≡ class
arms-next (SymbolClass Semicolon) r h = ap first (sym (same_rule MoreArms r h))
arms-next _ r h = absurd (false≢true (ap is_some h))

type-next : (class : Class) (r : Rule TypePhrase) → next TypePhrase class ≡ Some r → first r ≡ class
type-next NameClass r h = ap first (sym (same_rule NamedType r h))
type-next (SymbolClass LeftParen) r h = ap first (sym (same_rule ValuesType r h))
type-next (ReservedClass ArrayWord) r h = ap first (sym (same_rule ArrayType r h))
type-next (ReservedClass RecordWord) r h = ap first (sym (same_rule RecordType r h))
type-next _ r h = absurd (false≢true (ap is_some h))

range-next : (class : Class) (r : Rule RangePhrase) → next RangePhrase class ≡ Some r → first r ≡ class
range-next class r h = of_lifted RangeBy class (next ExprPhrase class) r (λ q. refl) (expr-next class) h

comma_ranges-next : (class : Class) (r : Rule CommaRangesPhrase) → next CommaRangesPhrase class ≡ Some r → first r ≡ class
comma_ranges-next (SymbolClass Comma) r h = ap first (sym (same_rule MoreRanges r h))
comma_ranges-next _ r h = absurd (false≢true (ap is_some h))

ids-next : (class : Class) (r : Rule IdsPhrase) → next IdsPhrase class ≡ Some r → first r ≡ class
ids-next NameClass r h = ap first (sym (same_rule FirstId r h))
ids-next _ r h = absurd (false≢true (ap is_some h))

comma_ids-next : (class : Class) (r : Rule CommaIdsPhrase) → next CommaIdsPhrase class ≡ Some r → first r ≡ class
comma_ids-next (SymbolClass Comma) r h = ap first (sym (same_rule MoreIds r h))
comma_ids-next _ r h = absurd (false≢true (ap is_some h))

fields-next : (class : Class) (r : Rule FieldsPhrase) → next FieldsPhrase class ≡ Some r → first r ≡ class
fields-next class r h = of_lifted FieldsBy class (next IdsPhrase class) r (λ q. refl) (ids-next class) h

more_fields-next : (class : Class) (r : Rule MoreFieldsPhrase) → next MoreFieldsPhrase class ≡ Some r → first r ≡ class
more_fields-next (SymbolClass Semicolon) r h = ap first (sym (same_rule NextFields r h))
more_fields-next _ r h = absurd (false≢true (ap is_some h))

decl-next : (class : Class) (r : Rule DeclPhrase) → next DeclPhrase class ≡ Some r → first r ≡ class
decl-next (ReservedClass ConstWord) r h = ap first (sym (same_rule ConstDecl r h))
decl-next (ReservedClass TypeWord) r h = ap first (sym (same_rule TypesDecl r h))
decl-next (ReservedClass VarWord) r h = ap first (sym (same_rule VarDecl r h))
decl-next _ r h = absurd (false≢true (ap is_some h))

const-next : (class : Class) (r : Rule ConstPhrase) → next ConstPhrase class ≡ Some r → first r ≡ class
const-next NameClass r h = ap first (sym (same_rule OneConst r h))
const-next _ r h = absurd (false≢true (ap is_some h))

consts-next : (class : Class) (r : Rule ConstsPhrase) → next ConstsPhrase class ≡ Some r → first r ≡ class
consts-next class r h = of_lifted ConstsBy class (next ConstPhrase class) r (λ q. refl) (const-next class) h

type_decl-next : (class : Class) (r : Rule TypeDeclPhrase) → next TypeDeclPhrase class ≡ Some r → first r ≡ class
type_decl-next NameClass r h = ap first (sym (same_rule OneType r h))
type_decl-next _ r h = absurd (false≢true (ap is_some h))

type_decls-next : (class : Class) (r : Rule TypeDeclsPhrase) → next TypeDeclsPhrase class ≡ Some r → first r ≡ class
type_decls-next class r h = of_lifted TypeDeclsBy class (next TypeDeclPhrase class) r (λ q. refl) (type_decl-next class) h

var_id-next : (class : Class) (r : Rule VarIdPhrase) → next VarIdPhrase class ≡ Some r → first r ≡ class
var_id-next NameClass r h = ap first (sym (same_rule OneVarId r h))
var_id-next _ r h = absurd (false≢true (ap is_some h))

address-next : (class : Class) (r : Rule AddressPhrase) → next AddressPhrase class ≡ Some r → first r ≡ class
address-next (SymbolClass LeftBracket) r h = ap first (sym (same_rule AddressBracket r h))
address-next _ r h = absurd (false≢true (ap is_some h))

var-next : (class : Class) (r : Rule VarPhrase) → next VarPhrase class ≡ Some r → first r ≡ class
var-next class r h = of_lifted VarBy class (next VarIdPhrase class) r (λ q. refl) (var_id-next class) h

comma_var_ids-next : (class : Class) (r : Rule CommaVarIdsPhrase) → next CommaVarIdsPhrase class ≡ Some r → first r ≡ class
comma_var_ids-next (SymbolClass Comma) r h = ap first (sym (same_rule MoreVarIds r h))
comma_var_ids-next _ r h = absurd (false≢true (ap is_some h))

vars-next : (class : Class) (r : Rule VarsPhrase) → next VarsPhrase class ≡ Some r → first r ≡ class
vars-next class r h = of_lifted VarsBy class (next VarPhrase class) r (λ q. refl) (var-next class) h

decls-next : (class : Class) (r : Rule DeclsPhrase) → next DeclsPhrase class ≡ Some r → first r ≡ class
decls-next class r h = of_lifted DeclsBy class (next DeclPhrase class) r (λ q. refl) (decl-next class) h

procedure-next : (class : Class) (r : Rule ProcedurePhrase) → next ProcedurePhrase class ≡ Some r → first r ≡ class
procedure-next (ReservedClass ProcedureWord) r h = ap first (sym (same_rule OneProcedure r h))
procedure-next _ r h = absurd (false≢true (ap is_some h))

process-next : (class : Class) (r : Rule ProcessPhrase) → next ProcessPhrase class ≡ Some r → first r ≡ class
process-next (ReservedClass ProcessWord) r h = ap first (sym (same_rule OneProcess r h))
process-next _ r h = absurd (false≢true (ap is_some h))

driver-next : (class : Class) (r : Rule DriverPhrase) → next DriverPhrase class ≡ Some r → first r ≡ class
driver-next (ReservedClass ProcessWord) r h = ap first (sym (same_rule OneDriver r h))
driver-next _ r h = absurd (false≢true (ap is_some h))

params-next : (class : Class) (r : Rule ParamsPhrase) → next ParamsPhrase class ≡ Some r → first r ≡ class
params-next (SymbolClass LeftParen) r h = ap first (sym (same_rule SomeParams r h))
params-next _ r h = absurd (false≢true (ap is_some h))

answer-next : (class : Class) (r : Rule AnswerPhrase) → next AnswerPhrase class ≡ Some r → first r ≡ class
answer-next (SymbolClass Colon) r h = ap first (sym (same_rule SomeAnswer r h))
answer-next _ r h = absurd (false≢true (ap is_some h))

section-next : (class : Class) (r : Rule SectionPhrase) → next SectionPhrase class ≡ Some r → first r ≡ class
section-next (ReservedClass ConstWord) r h = ap first (sym (same_rule ConstSection r h))
section-next (ReservedClass VarWord) r h = ap first (sym (same_rule VarSection r h))
section-next NameClass r h = ap first (sym (same_rule (SectionBy FirstId) r h))
section-next _ r h = absurd (false≢true (ap is_some h))

sections-next : (class : Class) (r : Rule SectionsPhrase) → next SectionsPhrase class ≡ Some r → first r ≡ class
sections-next (SymbolClass Semicolon) r h = ap first (sym (same_rule MoreSections r h))
sections-next _ r h = absurd (false≢true (ap is_some h))

module-next : (class : Class) (r : Rule ModulePhrase) → next ModulePhrase class ≡ Some r → first r ≡ class
module-next (ReservedClass ModuleWord) r h = ap first (sym (same_rule PlainInside r h))
module-next (ReservedClass InterfaceWord) r h = ap first (sym (same_rule InterfaceInside r h))
module-next (ReservedClass DeviceWord) r h = ap first (sym (same_rule DeviceInside r h))
module-next _ r h = absurd (false≢true (ap is_some h))

plain_parts-next : (class : Class) (r : Rule PlainPartsPhrase) → next PlainPartsPhrase class ≡ Some r → first r ≡ class
plain_parts-next (ReservedClass ConstWord) r h = ap first (sym (same_rule (PlainDecl ConstDecl) r h))
plain_parts-next (ReservedClass TypeWord) r h = ap first (sym (same_rule (PlainDecl TypesDecl) r h))
plain_parts-next (ReservedClass VarWord) r h = ap first (sym (same_rule (PlainDecl VarDecl) r h))
plain_parts-next (ReservedClass ProcedureWord) r h = ap first (sym (same_rule (PlainProcedure OneProcedure) r h))
plain_parts-next (ReservedClass ProcessWord) r h = ap first (sym (same_rule (PlainProcess OneProcess) r h))
plain_parts-next (ReservedClass ModuleWord) r h = ap first (sym (same_rule (PlainInner PlainInside) r h))
plain_parts-next (ReservedClass InterfaceWord) r h = ap first (sym (same_rule (PlainInner InterfaceInside) r h))
plain_parts-next (ReservedClass DeviceWord) r h = ap first (sym (same_rule (PlainInner DeviceInside) r h))
plain_parts-next _ r h = absurd (false≢true (ap is_some h))

face_parts-next : (class : Class) (r : Rule FacePartsPhrase) → next FacePartsPhrase class ≡ Some r → first r ≡ class
face_parts-next (ReservedClass ConstWord) r h = ap first (sym (same_rule (FaceDecl ConstDecl) r h))
face_parts-next (ReservedClass TypeWord) r h = ap first (sym (same_rule (FaceDecl TypesDecl) r h))
face_parts-next (ReservedClass VarWord) r h = ap first (sym (same_rule (FaceDecl VarDecl) r h))
face_parts-next (ReservedClass ProcedureWord) r h = ap first (sym (same_rule (FaceProcedure OneProcedure) r h))
face_parts-next _ r h = absurd (false≢true (ap is_some h))

device_parts-next : (class : Class) (r : Rule DevicePartsPhrase) → next DevicePartsPhrase class ≡ Some r → first r ≡ class
device_parts-next (ReservedClass ConstWord) r h = ap first (sym (same_rule (DeviceDecl ConstDecl) r h))
device_parts-next (ReservedClass TypeWord) r h = ap first (sym (same_rule (DeviceDecl TypesDecl) r h))
device_parts-next (ReservedClass VarWord) r h = ap first (sym (same_rule (DeviceDecl VarDecl) r h))
device_parts-next (ReservedClass ProcedureWord) r h = ap first (sym (same_rule (DeviceProcedure OneProcedure) r h))
device_parts-next (ReservedClass ProcessWord) r h = ap first (sym (same_rule (DeviceDriver OneDriver) r h))
device_parts-next _ r h = absurd (false≢true (ap is_some h))

begun-next : (class : Class) (r : Rule BegunPhrase) → next BegunPhrase class ≡ Some r → first r ≡ class
begun-next (ReservedClass BeginWord) r h = ap first (sym (same_rule SomeBegun r h))
begun-next _ r h = absurd (false≢true (ap is_some h))

defines-next : (class : Class) (r : Rule DefinesPhrase) → next DefinesPhrase class ≡ Some r → first r ≡ class
defines-next (ReservedClass DefineWord) r h = ap first (sym (same_rule SomeDefines r h))
defines-next _ r h = absurd (false≢true (ap is_some h))

uses-next : (class : Class) (r : Rule UsesPhrase) → next UsesPhrase class ≡ Some r → first r ≡ class
uses-next (ReservedClass UseWord) r h = ap first (sym (same_rule SomeUses r h))
uses-next _ r h = absurd (false≢true (ap is_some h))

program-next : (class : Class) (r : Rule ProgramPhrase) → next ProgramPhrase class ≡ Some r → first r ≡ class
program-next (ReservedClass ModuleWord) r h = ap first (sym (same_rule PlainWhole r h))
program-next (ReservedClass DeviceWord) r h = ap first (sym (same_rule DeviceWhole r h))
program-next _ r h = absurd (false≢true (ap is_some h))

pub first-next : (phrase : Phrase) (class : Class) (r : Rule phrase) → next phrase class ≡ Some r → first r ≡ class
first-next ExprPhrase = expr-next
first-next ExprTailPhrase = expr_tail-next
first-next SimplePhrase = simple-next
first-next SimpleTailPhrase = simple_tail-next
first-next TermPhrase = term-next
first-next TermTailPhrase = term_tail-next
first-next FactorPhrase = factor-next
first-next BitsTailPhrase = bits_tail-next
first-next ElementPhrase = element-next
first-next ElementTailPhrase = element_tail-next
first-next CommaElementsPhrase = comma_elements-next
first-next CommaExprsPhrase = comma_exprs-next
first-next FactorTailPhrase = factor_tail-next
first-next SelectorsPhrase = selectors-next
first-next StatementPhrase = statement-next
first-next StatementsPhrase = statements-next
first-next StatementTailPhrase = statement_tail-next
first-next AssigningPhrase = assigning-next
first-next ElsifsPhrase = elsifs-next
first-next ElsePhrase = else-next
first-next ExitsPhrase = exits-next
first-next LastBodyPhrase = last_body-next
first-next ArmPhrase = arm-next
first-next ArmsPhrase = arms-next
first-next TypePhrase = type-next
first-next RangePhrase = range-next
first-next CommaRangesPhrase = comma_ranges-next
first-next IdsPhrase = ids-next
first-next CommaIdsPhrase = comma_ids-next
first-next FieldsPhrase = fields-next
first-next MoreFieldsPhrase = more_fields-next
first-next DeclPhrase = decl-next
first-next ConstPhrase = const-next
first-next ConstsPhrase = consts-next
first-next TypeDeclPhrase = type_decl-next
first-next TypeDeclsPhrase = type_decls-next
first-next VarIdPhrase = var_id-next
first-next AddressPhrase = address-next
first-next VarPhrase = var-next
first-next CommaVarIdsPhrase = comma_var_ids-next
first-next VarsPhrase = vars-next
first-next DeclsPhrase = decls-next
first-next ProcedurePhrase = procedure-next
first-next ProcessPhrase = process-next
first-next DriverPhrase = driver-next
first-next ParamsPhrase = params-next
first-next AnswerPhrase = answer-next
first-next SectionPhrase = section-next
first-next SectionsPhrase = sections-next
first-next PlainPartsPhrase = plain_parts-next
first-next FacePartsPhrase = face_parts-next
first-next DevicePartsPhrase = device_parts-next
first-next BegunPhrase = begun-next
first-next DefinesPhrase = defines-next
first-next UsesPhrase = uses-next
first-next ModulePhrase = module-next
first-next ProgramPhrase = program-next

-- at most so many counting nodes stand around each phrase that is to be read
abbrev pub Shallow : Stack → Type 0
Shallow [] = Unit {0}
Shallow (Take class ∷ stack) = Shallow stack
Shallow (Sub d phrase ∷ stack) = (d ≤ 64) × Shallow stack

pub depth_of_first-le : {phrase : Phrase} (r : Rule phrase) (d : ℕ) → depth_of_first r d ≤ suc d
depth_of_first-le (ExprBy r) d = depth_of_first-le r d
depth_of_first-le (SimpleBy r) d = depth_of_first-le r d
depth_of_first-le (TermBy r) d = depth_of_first-le r d
depth_of_first-le (BitsBy r) d = depth_of_first-le r d
depth_of_first-le (ElementBy r) d = depth_of_first-le r d
depth_of_first-le (ArmBy r) d = depth_of_first-le r d
depth_of_first-le (RangeBy r) d = depth_of_first-le r d
depth_of_first-le (FieldsBy r) d = depth_of_first-le r d
depth_of_first-le (ConstsBy r) d = depth_of_first-le r d
depth_of_first-le (TypeDeclsBy r) d = depth_of_first-le r d
depth_of_first-le (VarBy r) d = depth_of_first-le r d
depth_of_first-le (VarsBy r) d = depth_of_first-le r d
depth_of_first-le (DeclsBy r) d = depth_of_first-le r d
depth_of_first-le (SectionBy r) d = depth_of_first-le r d
depth_of_first-le (PlainDecl r) d = depth_of_first-le r d
depth_of_first-le (PlainProcedure r) d = depth_of_first-le r d
depth_of_first-le (PlainProcess r) d = depth_of_first-le r d
depth_of_first-le (PlainInner r) d = depth_of_first-le r d
depth_of_first-le (FaceDecl r) d = depth_of_first-le r d
depth_of_first-le (FaceProcedure r) d = depth_of_first-le r d
depth_of_first-le (DeviceDecl r) d = depth_of_first-le r d
depth_of_first-le (DeviceProcedure r) d = depth_of_first-le r d
depth_of_first-le (DeviceDriver r) d = depth_of_first-le r d
depth_of_first-le _ d = omega arith

pub Shallow-parts : {phrase : Phrase} (r : Rule phrase) (d : ℕ) (stack : Stack) → d ≤ 64 → depth_of_first r d ≤ 64 → Shallow stack → Shallow (parts r d stack)
Shallow-parts (ExprBy r) d stack small depth below = Shallow-parts r d (Sub d ExprTailPhrase ∷ stack) small depth (small, below)
Shallow-parts (Compare op) d stack small depth below = (small, below)
Shallow-parts (Signed op) d stack small depth below = (small, (small, below))
Shallow-parts (SimpleBy r) d stack small depth below = Shallow-parts r d (Sub d SimpleTailPhrase ∷ stack) small depth (small, below)
Shallow-parts (Add op) d stack small depth below = (small, (small, below))
Shallow-parts (TermBy r) d stack small depth below = Shallow-parts r d (Sub d TermTailPhrase ∷ stack) small depth (small, below)
Shallow-parts (Multiply op) d stack small depth below = (small, (small, below))
Shallow-parts NumberFactor d stack small depth below = below
Shallow-parts CharacterFactor d stack small depth below = below
Shallow-parts TextFactor d stack small depth below = below
Shallow-parts NameFactor d stack small depth below = (depth, below)
Shallow-parts GroupFactor d stack small depth below = (depth, below)
Shallow-parts NotFactor d stack small depth below = (depth, below)
Shallow-parts BitsFactor d stack small depth below = (depth, below)
Shallow-parts NoBits d stack small depth below = below
Shallow-parts (BitsBy r) d stack small depth below = Shallow-parts r d (Sub d CommaElementsPhrase ∷ Take (SymbolClass RightBracket) ∷ stack) small depth (small, below)
Shallow-parts (ElementBy r) d stack small depth below = Shallow-parts r d (Sub d ElementTailPhrase ∷ stack) small depth (small, below)
Shallow-parts LastElement d stack small depth below = (small, below)
Shallow-parts MoreElements d stack small depth below = (small, (small, below))
Shallow-parts MoreExprs d stack small depth below = (small, (small, below))
Shallow-parts CallFactor d stack small depth below = (small, (small, below))
Shallow-parts FieldFactor d stack small depth below = (small, below)
Shallow-parts IndexFactor d stack small depth below = (small, (small, (small, below)))
Shallow-parts FieldSelector d stack small depth below = (small, below)
Shallow-parts IndexSelector d stack small depth below = (small, (small, (small, below)))
Shallow-parts NameStatement d stack small depth below = (depth, below)
Shallow-parts IfStatement d stack small depth below = (depth, (depth, (depth, (depth, (depth, below)))))
Shallow-parts WhileStatement d stack small depth below = (depth, (depth, (depth, below)))
Shallow-parts RepeatStatement d stack small depth below = (depth, (depth, (depth, below)))
Shallow-parts LoopStatement d stack small depth below = (depth, (depth, (depth, below)))
Shallow-parts CaseStatement d stack small depth below = (depth, (depth, (depth, below)))
Shallow-parts MoreStatements d stack small depth below = (small, (small, below))
Shallow-parts CallStatement d stack small depth below = (small, (small, below))
Shallow-parts AssignStatement d stack small depth below = (small, below)
Shallow-parts FieldStatement d stack small depth below = (small, below)
Shallow-parts IndexStatement d stack small depth below = (small, (small, (small, below)))
Shallow-parts AssignTo d stack small depth below = (small, below)
Shallow-parts FieldTo d stack small depth below = (small, below)
Shallow-parts IndexTo d stack small depth below = (small, (small, (small, below)))
Shallow-parts MoreElsifs d stack small depth below = (small, (small, (small, (small, below))))
Shallow-parts ElseBody d stack small depth below = (small, (small, below))
Shallow-parts MoreExits d stack small depth below = (small, (small, (small, (small, (small, below)))))
Shallow-parts DoBody d stack small depth below = (small, (small, below))
Shallow-parts (ArmBy r) d stack small depth below = Shallow-parts r d (Sub d CommaExprsPhrase ∷ Take (SymbolClass Colon) ∷ Take (ReservedClass BeginWord) ∷ Sub d StatementPhrase ∷ Sub d StatementsPhrase ∷ Take (ReservedClass EndWord) ∷ stack) small depth (small, (small, (small, below)))
Shallow-parts MoreArms d stack small depth below = (small, (small, below))
Shallow-parts NamedType d stack small depth below = below
Shallow-parts ValuesType d stack small depth below = (depth, below)
Shallow-parts ArrayType d stack small depth below = (depth, (depth, (depth, below)))
Shallow-parts RecordType d stack small depth below = (depth, (depth, below))
Shallow-parts (RangeBy r) d stack small depth below = Shallow-parts r d (Take (SymbolClass Colon) ∷ Sub d ExprPhrase ∷ stack) small depth (small, below)
Shallow-parts MoreRanges d stack small depth below = (small, (small, below))
Shallow-parts FirstId d stack small depth below = (small, below)
Shallow-parts MoreIds d stack small depth below = (small, below)
Shallow-parts (FieldsBy r) d stack small depth below = Shallow-parts r d (Take (SymbolClass Colon) ∷ Sub d TypePhrase ∷ stack) small depth (small, below)
Shallow-parts NextFields d stack small depth below = (small, (small, below))
Shallow-parts ConstDecl d stack small depth below = (small, (small, below))
Shallow-parts TypesDecl d stack small depth below = (small, (small, below))
Shallow-parts VarDecl d stack small depth below = (small, (small, below))
Shallow-parts OneConst d stack small depth below = (small, below)
Shallow-parts (ConstsBy r) d stack small depth below = Shallow-parts r d (Sub d ConstsPhrase ∷ stack) small depth (small, below)
Shallow-parts OneType d stack small depth below = (small, below)
Shallow-parts (TypeDeclsBy r) d stack small depth below = Shallow-parts r d (Sub d TypeDeclsPhrase ∷ stack) small depth (small, below)
Shallow-parts OneVarId d stack small depth below = (small, below)
Shallow-parts AddressBracket d stack small depth below = (small, below)
Shallow-parts (VarBy r) d stack small depth below = Shallow-parts r d (Sub d CommaVarIdsPhrase ∷ Take (SymbolClass Colon) ∷ Sub d TypePhrase ∷ Take (SymbolClass Semicolon) ∷ stack) small depth (small, (small, below))
Shallow-parts MoreVarIds d stack small depth below = (small, (small, below))
Shallow-parts (VarsBy r) d stack small depth below = Shallow-parts r d (Sub d VarsPhrase ∷ stack) small depth (small, below)
Shallow-parts (DeclsBy r) d stack small depth below = Shallow-parts r d (Sub d DeclsPhrase ∷ stack) small depth (small, below)
Shallow-parts OneProcedure d stack small depth below = (small, (small, (small, (small, (small, below)))))
Shallow-parts OneProcess d stack small depth below = (small, (small, (small, (small, below))))
Shallow-parts OneDriver d stack small depth below = (small, (small, (small, (small, below))))
Shallow-parts SomeParams d stack small depth below = (small, (small, below))
Shallow-parts SomeAnswer d stack small depth below = below
Shallow-parts ConstSection d stack small depth below = (small, below)
Shallow-parts VarSection d stack small depth below = (small, below)
Shallow-parts (SectionBy r) d stack small depth below = Shallow-parts r d (Take (SymbolClass Colon) ∷ Take NameClass ∷ stack) small depth below
Shallow-parts MoreSections d stack small depth below = (small, (small, below))
Shallow-parts (PlainDecl r) d stack small depth below = Shallow-parts r d (Sub d PlainPartsPhrase ∷ stack) small depth (small, below)
Shallow-parts (PlainProcedure r) d stack small depth below = Shallow-parts r d (Sub d PlainPartsPhrase ∷ stack) small depth (small, below)
Shallow-parts (PlainProcess r) d stack small depth below = Shallow-parts r d (Sub d PlainPartsPhrase ∷ stack) small depth (small, below)
Shallow-parts (PlainInner r) d stack small depth below = Shallow-parts r d (Sub d PlainPartsPhrase ∷ stack) small depth (small, below)
Shallow-parts (FaceDecl r) d stack small depth below = Shallow-parts r d (Sub d FacePartsPhrase ∷ stack) small depth (small, below)
Shallow-parts (FaceProcedure r) d stack small depth below = Shallow-parts r d (Sub d FacePartsPhrase ∷ stack) small depth (small, below)
Shallow-parts (DeviceDecl r) d stack small depth below = Shallow-parts r d (Sub d DevicePartsPhrase ∷ stack) small depth (small, below)
Shallow-parts (DeviceProcedure r) d stack small depth below = Shallow-parts r d (Sub d DevicePartsPhrase ∷ stack) small depth (small, below)
Shallow-parts (DeviceDriver r) d stack small depth below = Shallow-parts r d (Sub d DevicePartsPhrase ∷ stack) small depth (small, below)
Shallow-parts SomeBegun d stack small depth below = (small, (small, below))
Shallow-parts SomeDefines d stack small depth below = (small, below)
Shallow-parts SomeUses d stack small depth below = (small, below)
Shallow-parts PlainInside d stack small depth below = (depth, (depth, (depth, (depth, below))))
Shallow-parts InterfaceInside d stack small depth below = (depth, (depth, (depth, (depth, below))))
Shallow-parts DeviceInside d stack small depth below = (depth, (depth, (depth, (depth, (depth, below)))))
Shallow-parts PlainWhole d stack small depth below = (small, (small, below))
Shallow-parts DeviceWhole d stack small depth below = (small, (small, (small, below)))
