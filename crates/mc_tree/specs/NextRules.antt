-- How the phrases of the grammar go on at a token of a class, and the classes that they could still take up.
use Rattle.std.specs.Prelude.{◌≡◌, List, [], ◌∷◌, ◌++◌, Option, Some, None, refl}
use Rattle.std.proofs.Common.{ap}
use Rattle.mc_tree.specs.declared.token.Reserved.TheVariants.{AndWord, ArrayWord, BeginWord, CaseWord, ConstWord, DefineWord, DeviceWord, DivWord, DoWord, ElseWord, ElsifWord, IfWord, InterfaceWord, LoopWord, ModWord, ModuleWord, NotWord, OrWord, ProcedureWord, ProcessWord, RecordWord, RepeatWord, TypeWord, UseWord, VarWord, WhenWord, WhileWord, XorWord}
use Rattle.mc_tree.specs.declared.token.Symbol.TheVariants.{Plus, Minus, Times, Equal, Unequal, Less, LessEqual, Greater, GreaterEqual, LeftParen, LeftBracket, RightBracket, Comma, Semicolon, Colon, Becomes, Dot}
use Rattle.mc_tree.specs.declared.expression.Relation.TheVariants as relation
use Rattle.mc_tree.specs.declared.expression.Sign.TheVariants as sign
use Rattle.mc_tree.specs.declared.expression.Adding.TheVariants as adding
use Rattle.mc_tree.specs.declared.expression.Multiplying.TheVariants as multiplying
use Rattle.mc_tree.specs.Classes.{Class, ReservedClass, NameClass, NumberClass, CharacterClass, TextClass, SymbolClass}
use Rattle.mc_tree.specs.Grammar.{Phrase, ExprPhrase, ExprTailPhrase, SimplePhrase, SimpleTailPhrase, TermPhrase, TermTailPhrase, FactorPhrase, BitsTailPhrase, ElementPhrase, ElementTailPhrase, CommaElementsPhrase, CommaExprsPhrase, FactorTailPhrase, SelectorsPhrase, StatementPhrase, StatementsPhrase, StatementTailPhrase, AssigningPhrase, ElsifsPhrase, ElsePhrase, ExitsPhrase, LastBodyPhrase, ArmPhrase, ArmsPhrase, TypePhrase, RangePhrase, CommaRangesPhrase, IdsPhrase, CommaIdsPhrase, FieldsPhrase, MoreFieldsPhrase, DeclPhrase, ConstPhrase, ConstsPhrase, TypeDeclPhrase, TypeDeclsPhrase, VarIdPhrase, AddressPhrase, VarPhrase, CommaVarIdsPhrase, VarsPhrase, DeclsPhrase, ProcedurePhrase, ProcessPhrase, DriverPhrase, ParamsPhrase, AnswerPhrase, SectionPhrase, SectionsPhrase, PlainPartsPhrase, FacePartsPhrase, DevicePartsPhrase, BegunPhrase, DefinesPhrase, UsesPhrase, ModulePhrase, ProgramPhrase, Rule, ExprBy, Compare, Signed, SimpleBy, Add, TermBy, Multiply, NumberFactor, CharacterFactor, TextFactor, NameFactor, GroupFactor, NotFactor, BitsFactor, NoBits, BitsBy, ElementBy, LastElement, MoreElements, MoreExprs, CallFactor, FieldFactor, IndexFactor, FieldSelector, IndexSelector, NameStatement, IfStatement, WhileStatement, RepeatStatement, LoopStatement, CaseStatement, MoreStatements, CallStatement, AssignStatement, FieldStatement, IndexStatement, AssignTo, FieldTo, IndexTo, MoreElsifs, ElseBody, MoreExits, DoBody, ArmBy, MoreArms, NamedType, ValuesType, ArrayType, RecordType, RangeBy, MoreRanges, FirstId, MoreIds, FieldsBy, NextFields, ConstDecl, TypesDecl, VarDecl, OneConst, ConstsBy, OneType, TypeDeclsBy, OneVarId, AddressBracket, VarBy, MoreVarIds, VarsBy, DeclsBy, OneProcedure, OneProcess, OneDriver, SomeParams, SomeAnswer, ConstSection, VarSection, SectionBy, MoreSections, PlainDecl, PlainProcedure, PlainProcess, PlainInner, FaceDecl, FaceProcedure, DeviceDecl, DeviceProcedure, DeviceDriver, SomeBegun, SomeDefines, SomeUses, PlainInside, InterfaceInside, DeviceInside, PlainWhole, DeviceWhole, first}

-- The rule by which a phrase goes on at a token of a class.
abbrev pub lifted : {A B : Type 0} → (A → B) → Option A → Option B
lifted f None = None
lifted f (Some x) = Some (f x)

abbrev next_factor : Class → Option (Rule FactorPhrase)
next_factor NumberClass = Some NumberFactor
next_factor CharacterClass = Some CharacterFactor
next_factor TextClass = Some TextFactor
next_factor NameClass = Some NameFactor
next_factor (SymbolClass LeftParen) = Some GroupFactor
next_factor (ReservedClass NotWord) = Some NotFactor
next_factor (SymbolClass LeftBracket) = Some BitsFactor
next_factor _ = None

abbrev next_term : Class → Option (Rule TermPhrase)
next_term class = lifted TermBy (next_factor class)

abbrev next_simple : Class → Option (Rule SimplePhrase)
next_simple (SymbolClass Plus) = Some (Signed sign.Plus)
next_simple (SymbolClass Minus) = Some (Signed sign.Minus)
next_simple NumberClass = Some (SimpleBy (TermBy NumberFactor))
next_simple CharacterClass = Some (SimpleBy (TermBy CharacterFactor))
next_simple TextClass = Some (SimpleBy (TermBy TextFactor))
next_simple NameClass = Some (SimpleBy (TermBy NameFactor))
next_simple (SymbolClass LeftParen) = Some (SimpleBy (TermBy GroupFactor))
next_simple (ReservedClass NotWord) = Some (SimpleBy (TermBy NotFactor))
next_simple (SymbolClass LeftBracket) = Some (SimpleBy (TermBy BitsFactor))
next_simple _ = None

abbrev next_expr : Class → Option (Rule ExprPhrase)
next_expr class = lifted ExprBy (next_simple class)

abbrev next_expr_tail : Class → Option (Rule ExprTailPhrase)
next_expr_tail (SymbolClass Equal) = Some (Compare relation.Equal)
next_expr_tail (SymbolClass Unequal) = Some (Compare relation.Unequal)
next_expr_tail (SymbolClass Less) = Some (Compare relation.Less)
next_expr_tail (SymbolClass LessEqual) = Some (Compare relation.LessEqual)
next_expr_tail (SymbolClass Greater) = Some (Compare relation.Greater)
next_expr_tail (SymbolClass GreaterEqual) = Some (Compare relation.GreaterEqual)
next_expr_tail _ = None

abbrev next_simple_tail : Class → Option (Rule SimpleTailPhrase)
next_simple_tail (SymbolClass Plus) = Some (Add adding.Plus)
next_simple_tail (SymbolClass Minus) = Some (Add adding.Minus)
next_simple_tail (ReservedClass OrWord) = Some (Add adding.Or)
next_simple_tail (ReservedClass XorWord) = Some (Add adding.Xor)
next_simple_tail _ = None

abbrev next_term_tail : Class → Option (Rule TermTailPhrase)
next_term_tail (SymbolClass Times) = Some (Multiply multiplying.Times)
next_term_tail (ReservedClass DivWord) = Some (Multiply multiplying.Div)
next_term_tail (ReservedClass ModWord) = Some (Multiply multiplying.Mod)
next_term_tail (ReservedClass AndWord) = Some (Multiply multiplying.And)
next_term_tail _ = None

abbrev next_element : Class → Option (Rule ElementPhrase)
next_element class = lifted ElementBy (next_expr class)

abbrev next_bits_tail : Class → Option (Rule BitsTailPhrase)
next_bits_tail (SymbolClass RightBracket) = Some NoBits
next_bits_tail (SymbolClass Plus) = Some (BitsBy (ElementBy (ExprBy (Signed sign.Plus))))
next_bits_tail (SymbolClass Minus) = Some (BitsBy (ElementBy (ExprBy (Signed sign.Minus))))
next_bits_tail NumberClass = Some (BitsBy (ElementBy (ExprBy (SimpleBy (TermBy NumberFactor)))))
next_bits_tail CharacterClass = Some (BitsBy (ElementBy (ExprBy (SimpleBy (TermBy CharacterFactor)))))
next_bits_tail TextClass = Some (BitsBy (ElementBy (ExprBy (SimpleBy (TermBy TextFactor)))))
next_bits_tail NameClass = Some (BitsBy (ElementBy (ExprBy (SimpleBy (TermBy NameFactor)))))
next_bits_tail (SymbolClass LeftParen) = Some (BitsBy (ElementBy (ExprBy (SimpleBy (TermBy GroupFactor)))))
next_bits_tail (ReservedClass NotWord) = Some (BitsBy (ElementBy (ExprBy (SimpleBy (TermBy NotFactor)))))
next_bits_tail (SymbolClass LeftBracket) = Some (BitsBy (ElementBy (ExprBy (SimpleBy (TermBy BitsFactor)))))
next_bits_tail _ = None

abbrev next_element_tail : Class → Option (Rule ElementTailPhrase)
next_element_tail (SymbolClass Colon) = Some LastElement
next_element_tail _ = None

abbrev next_comma_elements : Class → Option (Rule CommaElementsPhrase)
next_comma_elements (SymbolClass Comma) = Some MoreElements
next_comma_elements _ = None

abbrev next_comma_exprs : Class → Option (Rule CommaExprsPhrase)
next_comma_exprs (SymbolClass Comma) = Some MoreExprs
next_comma_exprs _ = None

abbrev next_factor_tail : Class → Option (Rule FactorTailPhrase)
next_factor_tail (SymbolClass LeftParen) = Some CallFactor
next_factor_tail (SymbolClass Dot) = Some FieldFactor
next_factor_tail (SymbolClass LeftBracket) = Some IndexFactor
next_factor_tail _ = None

abbrev next_selectors : Class → Option (Rule SelectorsPhrase)
next_selectors (SymbolClass Dot) = Some FieldSelector
next_selectors (SymbolClass LeftBracket) = Some IndexSelector
next_selectors _ = None

abbrev next_statement : Class → Option (Rule StatementPhrase)
next_statement NameClass = Some NameStatement
next_statement (ReservedClass IfWord) = Some IfStatement
next_statement (ReservedClass WhileWord) = Some WhileStatement
next_statement (ReservedClass RepeatWord) = Some RepeatStatement
next_statement (ReservedClass LoopWord) = Some LoopStatement
next_statement (ReservedClass CaseWord) = Some CaseStatement
next_statement _ = None

abbrev next_statements : Class → Option (Rule StatementsPhrase)
next_statements (SymbolClass Semicolon) = Some MoreStatements
next_statements _ = None

abbrev next_statement_tail : Class → Option (Rule StatementTailPhrase)
next_statement_tail (SymbolClass LeftParen) = Some CallStatement
next_statement_tail (SymbolClass Becomes) = Some AssignStatement
next_statement_tail (SymbolClass Dot) = Some FieldStatement
next_statement_tail (SymbolClass LeftBracket) = Some IndexStatement
next_statement_tail _ = None

abbrev next_assigning : Class → Option (Rule AssigningPhrase)
next_assigning (SymbolClass Becomes) = Some AssignTo
next_assigning (SymbolClass Dot) = Some FieldTo
next_assigning (SymbolClass LeftBracket) = Some IndexTo
next_assigning _ = None

abbrev next_elsifs : Class → Option (Rule ElsifsPhrase)
next_elsifs (ReservedClass ElsifWord) = Some MoreElsifs
next_elsifs _ = None

abbrev next_else : Class → Option (Rule ElsePhrase)
next_else (ReservedClass ElseWord) = Some ElseBody
next_else _ = None

abbrev next_exits : Class → Option (Rule ExitsPhrase)
next_exits (ReservedClass WhenWord) = Some MoreExits
next_exits _ = None

abbrev next_last_body : Class → Option (Rule LastBodyPhrase)
next_last_body (ReservedClass DoWord) = Some DoBody
next_last_body _ = None

abbrev next_arm : Class → Option (Rule ArmPhrase)
next_arm class = lifted ArmBy (next_expr class)

abbrev next_arms : Class → Option (Rule ArmsPhrase)
next_arms (SymbolClass Semicolon) = Some MoreArms
next_arms _ = None

abbrev next_type : Class → Option (Rule TypePhrase)
next_type NameClass = Some NamedType
next_type (SymbolClass LeftParen) = Some ValuesType
next_type (ReservedClass ArrayWord) = Some ArrayType
next_type (ReservedClass RecordWord) = Some RecordType
next_type _ = None

abbrev next_range : Class → Option (Rule RangePhrase)
next_range class = lifted RangeBy (next_expr class)

abbrev next_comma_ranges : Class → Option (Rule CommaRangesPhrase)
next_comma_ranges (SymbolClass Comma) = Some MoreRanges
next_comma_ranges _ = None

abbrev next_ids : Class → Option (Rule IdsPhrase)
next_ids NameClass = Some FirstId
next_ids _ = None

abbrev next_comma_ids : Class → Option (Rule CommaIdsPhrase)
next_comma_ids (SymbolClass Comma) = Some MoreIds
next_comma_ids _ = None

abbrev next_fields : Class → Option (Rule FieldsPhrase)
next_fields class = lifted FieldsBy (next_ids class)

abbrev next_more_fields : Class → Option (Rule MoreFieldsPhrase)
next_more_fields (SymbolClass Semicolon) = Some NextFields
next_more_fields _ = None

abbrev next_decl : Class → Option (Rule DeclPhrase)
next_decl (ReservedClass ConstWord) = Some ConstDecl
next_decl (ReservedClass TypeWord) = Some TypesDecl
next_decl (ReservedClass VarWord) = Some VarDecl
next_decl _ = None

abbrev next_const : Class → Option (Rule ConstPhrase)
next_const NameClass = Some OneConst
next_const _ = None

abbrev next_consts : Class → Option (Rule ConstsPhrase)
next_consts class = lifted ConstsBy (next_const class)

abbrev next_type_decl : Class → Option (Rule TypeDeclPhrase)
next_type_decl NameClass = Some OneType
next_type_decl _ = None

abbrev next_type_decls : Class → Option (Rule TypeDeclsPhrase)
next_type_decls class = lifted TypeDeclsBy (next_type_decl class)

abbrev next_var_id : Class → Option (Rule VarIdPhrase)
next_var_id NameClass = Some OneVarId
next_var_id _ = None

abbrev next_address : Class → Option (Rule AddressPhrase)
next_address (SymbolClass LeftBracket) = Some AddressBracket
next_address _ = None

abbrev next_var : Class → Option (Rule VarPhrase)
next_var class = lifted VarBy (next_var_id class)

abbrev next_comma_var_ids : Class → Option (Rule CommaVarIdsPhrase)
next_comma_var_ids (SymbolClass Comma) = Some MoreVarIds
next_comma_var_ids _ = None

abbrev next_vars : Class → Option (Rule VarsPhrase)
next_vars class = lifted VarsBy (next_var class)

abbrev next_decls : Class → Option (Rule DeclsPhrase)
next_decls class = lifted DeclsBy (next_decl class)

abbrev next_procedure : Class → Option (Rule ProcedurePhrase)
next_procedure (ReservedClass ProcedureWord) = Some OneProcedure
next_procedure _ = None

abbrev next_process : Class → Option (Rule ProcessPhrase)
next_process (ReservedClass ProcessWord) = Some OneProcess
next_process _ = None

abbrev next_driver : Class → Option (Rule DriverPhrase)
next_driver (ReservedClass ProcessWord) = Some OneDriver
next_driver _ = None

abbrev next_params : Class → Option (Rule ParamsPhrase)
next_params (SymbolClass LeftParen) = Some SomeParams
next_params _ = None

abbrev next_answer : Class → Option (Rule AnswerPhrase)
next_answer (SymbolClass Colon) = Some SomeAnswer
next_answer _ = None

abbrev next_section : Class → Option (Rule SectionPhrase)
next_section (ReservedClass ConstWord) = Some ConstSection
next_section (ReservedClass VarWord) = Some VarSection
next_section NameClass = Some (SectionBy FirstId)
next_section _ = None

abbrev next_sections : Class → Option (Rule SectionsPhrase)
next_sections (SymbolClass Semicolon) = Some MoreSections
next_sections _ = None

abbrev next_module : Class → Option (Rule ModulePhrase)
next_module (ReservedClass ModuleWord) = Some PlainInside
next_module (ReservedClass InterfaceWord) = Some InterfaceInside
next_module (ReservedClass DeviceWord) = Some DeviceInside
next_module _ = None

abbrev next_plain_parts : Class → Option (Rule PlainPartsPhrase)
next_plain_parts (ReservedClass ConstWord) = Some (PlainDecl ConstDecl)
next_plain_parts (ReservedClass TypeWord) = Some (PlainDecl TypesDecl)
next_plain_parts (ReservedClass VarWord) = Some (PlainDecl VarDecl)
next_plain_parts (ReservedClass ProcedureWord) = Some (PlainProcedure OneProcedure)
next_plain_parts (ReservedClass ProcessWord) = Some (PlainProcess OneProcess)
next_plain_parts (ReservedClass ModuleWord) = Some (PlainInner PlainInside)
next_plain_parts (ReservedClass InterfaceWord) = Some (PlainInner InterfaceInside)
next_plain_parts (ReservedClass DeviceWord) = Some (PlainInner DeviceInside)
next_plain_parts _ = None

abbrev next_face_parts : Class → Option (Rule FacePartsPhrase)
next_face_parts (ReservedClass ConstWord) = Some (FaceDecl ConstDecl)
next_face_parts (ReservedClass TypeWord) = Some (FaceDecl TypesDecl)
next_face_parts (ReservedClass VarWord) = Some (FaceDecl VarDecl)
next_face_parts (ReservedClass ProcedureWord) = Some (FaceProcedure OneProcedure)
next_face_parts _ = None

abbrev next_device_parts : Class → Option (Rule DevicePartsPhrase)
next_device_parts (ReservedClass ConstWord) = Some (DeviceDecl ConstDecl)
next_device_parts (ReservedClass TypeWord) = Some (DeviceDecl TypesDecl)
next_device_parts (ReservedClass VarWord) = Some (DeviceDecl VarDecl)
next_device_parts (ReservedClass ProcedureWord) = Some (DeviceProcedure OneProcedure)
next_device_parts (ReservedClass ProcessWord) = Some (DeviceDriver OneDriver)
next_device_parts _ = None

abbrev next_begun : Class → Option (Rule BegunPhrase)
next_begun (ReservedClass BeginWord) = Some SomeBegun
next_begun _ = None

abbrev next_defines : Class → Option (Rule DefinesPhrase)
next_defines (ReservedClass DefineWord) = Some SomeDefines
next_defines _ = None

abbrev next_uses : Class → Option (Rule UsesPhrase)
next_uses (ReservedClass UseWord) = Some SomeUses
next_uses _ = None

abbrev next_program : Class → Option (Rule ProgramPhrase)
next_program (ReservedClass ModuleWord) = Some PlainWhole
next_program (ReservedClass DeviceWord) = Some DeviceWhole
next_program _ = None

abbrev pub next : (phrase : Phrase) → Class → Option (Rule phrase)
next ExprPhrase = next_expr
next ExprTailPhrase = next_expr_tail
next SimplePhrase = next_simple
next SimpleTailPhrase = next_simple_tail
next TermPhrase = next_term
next TermTailPhrase = next_term_tail
next FactorPhrase = next_factor
next BitsTailPhrase = next_bits_tail
next ElementPhrase = next_element
next ElementTailPhrase = next_element_tail
next CommaElementsPhrase = next_comma_elements
next CommaExprsPhrase = next_comma_exprs
next FactorTailPhrase = next_factor_tail
next SelectorsPhrase = next_selectors
next StatementPhrase = next_statement
next StatementsPhrase = next_statements
next StatementTailPhrase = next_statement_tail
next AssigningPhrase = next_assigning
next ElsifsPhrase = next_elsifs
next ElsePhrase = next_else
next ExitsPhrase = next_exits
next LastBodyPhrase = next_last_body
next ArmPhrase = next_arm
next ArmsPhrase = next_arms
next TypePhrase = next_type
next RangePhrase = next_range
next CommaRangesPhrase = next_comma_ranges
next IdsPhrase = next_ids
next CommaIdsPhrase = next_comma_ids
next FieldsPhrase = next_fields
next MoreFieldsPhrase = next_more_fields
next DeclPhrase = next_decl
next ConstPhrase = next_const
next ConstsPhrase = next_consts
next TypeDeclPhrase = next_type_decl
next TypeDeclsPhrase = next_type_decls
next VarIdPhrase = next_var_id
next AddressPhrase = next_address
next VarPhrase = next_var
next CommaVarIdsPhrase = next_comma_var_ids
next VarsPhrase = next_vars
next DeclsPhrase = next_decls
next ProcedurePhrase = next_procedure
next ProcessPhrase = next_process
next DriverPhrase = next_driver
next ParamsPhrase = next_params
next AnswerPhrase = next_answer
next SectionPhrase = next_section
next SectionsPhrase = next_sections
next PlainPartsPhrase = next_plain_parts
next FacePartsPhrase = next_face_parts
next DevicePartsPhrase = next_device_parts
next BegunPhrase = next_begun
next DefinesPhrase = next_defines
next UsesPhrase = next_uses
next ModulePhrase = next_module
next ProgramPhrase = next_program

pub next-first : {phrase : Phrase} (r : Rule phrase) → next phrase (first r) ≡ Some r
next-first (ExprBy r) = ap (lifted ExprBy) (next-first r)
next-first (Compare relation.Equal) = refl
next-first (Compare relation.Unequal) = refl
next-first (Compare relation.Less) = refl
next-first (Compare relation.LessEqual) = refl
next-first (Compare relation.Greater) = refl
next-first (Compare relation.GreaterEqual) = refl
next-first (Signed sign.Plus) = refl
next-first (Signed sign.Minus) = refl
next-first (SimpleBy (TermBy NumberFactor)) = refl
next-first (SimpleBy (TermBy CharacterFactor)) = refl
next-first (SimpleBy (TermBy TextFactor)) = refl
next-first (SimpleBy (TermBy NameFactor)) = refl
next-first (SimpleBy (TermBy GroupFactor)) = refl
next-first (SimpleBy (TermBy NotFactor)) = refl
next-first (SimpleBy (TermBy BitsFactor)) = refl
next-first (Add adding.Plus) = refl
next-first (Add adding.Minus) = refl
next-first (Add adding.Or) = refl
next-first (Add adding.Xor) = refl
next-first (TermBy r) = ap (lifted TermBy) (next-first r)
next-first (Multiply multiplying.Times) = refl
next-first (Multiply multiplying.Div) = refl
next-first (Multiply multiplying.Mod) = refl
next-first (Multiply multiplying.And) = refl
next-first NumberFactor = refl
next-first CharacterFactor = refl
next-first TextFactor = refl
next-first NameFactor = refl
next-first GroupFactor = refl
next-first NotFactor = refl
next-first BitsFactor = refl
next-first NoBits = refl
next-first (BitsBy (ElementBy (ExprBy (Signed sign.Plus)))) = refl
next-first (BitsBy (ElementBy (ExprBy (Signed sign.Minus)))) = refl
next-first (BitsBy (ElementBy (ExprBy (SimpleBy (TermBy NumberFactor))))) = refl
next-first (BitsBy (ElementBy (ExprBy (SimpleBy (TermBy CharacterFactor))))) = refl
next-first (BitsBy (ElementBy (ExprBy (SimpleBy (TermBy TextFactor))))) = refl
next-first (BitsBy (ElementBy (ExprBy (SimpleBy (TermBy NameFactor))))) = refl
next-first (BitsBy (ElementBy (ExprBy (SimpleBy (TermBy GroupFactor))))) = refl
next-first (BitsBy (ElementBy (ExprBy (SimpleBy (TermBy NotFactor))))) = refl
next-first (BitsBy (ElementBy (ExprBy (SimpleBy (TermBy BitsFactor))))) = refl
next-first (ElementBy r) = ap (lifted ElementBy) (next-first r)
next-first LastElement = refl
next-first MoreElements = refl
next-first MoreExprs = refl
next-first CallFactor = refl
next-first FieldFactor = refl
next-first IndexFactor = refl
next-first FieldSelector = refl
next-first IndexSelector = refl
next-first NameStatement = refl
next-first IfStatement = refl
next-first WhileStatement = refl
next-first RepeatStatement = refl
next-first LoopStatement = refl
next-first CaseStatement = refl
next-first MoreStatements = refl
next-first CallStatement = refl
next-first AssignStatement = refl
next-first FieldStatement = refl
next-first IndexStatement = refl
next-first AssignTo = refl
next-first FieldTo = refl
next-first IndexTo = refl
next-first MoreElsifs = refl
next-first ElseBody = refl
next-first MoreExits = refl
next-first DoBody = refl
next-first (ArmBy r) = ap (lifted ArmBy) (next-first r)
next-first MoreArms = refl
next-first NamedType = refl
next-first ValuesType = refl
next-first ArrayType = refl
next-first RecordType = refl
next-first (RangeBy r) = ap (lifted RangeBy) (next-first r)
next-first MoreRanges = refl
next-first FirstId = refl
next-first MoreIds = refl
next-first (FieldsBy r) = ap (lifted FieldsBy) (next-first r)
next-first NextFields = refl
next-first ConstDecl = refl
next-first TypesDecl = refl
next-first VarDecl = refl
next-first OneConst = refl
next-first (ConstsBy r) = ap (lifted ConstsBy) (next-first r)
next-first OneType = refl
next-first (TypeDeclsBy r) = ap (lifted TypeDeclsBy) (next-first r)
next-first OneVarId = refl
next-first AddressBracket = refl
next-first (VarBy r) = ap (lifted VarBy) (next-first r)
next-first MoreVarIds = refl
next-first (VarsBy r) = ap (lifted VarsBy) (next-first r)
next-first (DeclsBy r) = ap (lifted DeclsBy) (next-first r)
next-first OneProcedure = refl
next-first OneProcess = refl
next-first OneDriver = refl
next-first SomeParams = refl
next-first SomeAnswer = refl
next-first ConstSection = refl
next-first VarSection = refl
next-first (SectionBy FirstId) = refl
next-first MoreSections = refl
next-first (PlainDecl ConstDecl) = refl
next-first (PlainDecl TypesDecl) = refl
next-first (PlainDecl VarDecl) = refl
next-first (PlainProcedure OneProcedure) = refl
next-first (PlainProcess OneProcess) = refl
next-first (PlainInner PlainInside) = refl
next-first (PlainInner InterfaceInside) = refl
next-first (PlainInner DeviceInside) = refl
next-first (FaceDecl ConstDecl) = refl
next-first (FaceDecl TypesDecl) = refl
next-first (FaceDecl VarDecl) = refl
next-first (FaceProcedure OneProcedure) = refl
next-first (DeviceDecl ConstDecl) = refl
next-first (DeviceDecl TypesDecl) = refl
next-first (DeviceDecl VarDecl) = refl
next-first (DeviceProcedure OneProcedure) = refl
next-first (DeviceDriver OneDriver) = refl
next-first SomeBegun = refl
next-first SomeDefines = refl
next-first SomeUses = refl
next-first PlainInside = refl
next-first InterfaceInside = refl
next-first DeviceInside = refl
next-first PlainWhole = refl
next-first DeviceWhole = refl

abbrev selecting : List Class
selecting = (SymbolClass LeftParen) ∷ (SymbolClass Dot) ∷ (SymbolClass LeftBracket) ∷ []

abbrev multiplied : List Class
multiplied = (SymbolClass Times) ∷ (ReservedClass DivWord) ∷ (ReservedClass ModWord) ∷ (ReservedClass AndWord) ∷ []

abbrev added : List Class
added = (SymbolClass Plus) ∷ (SymbolClass Minus) ∷ (ReservedClass OrWord) ∷ (ReservedClass XorWord) ∷ []

abbrev related : List Class
related = (SymbolClass Equal) ∷ (SymbolClass Unequal) ∷ (SymbolClass Less) ∷ (SymbolClass LessEqual) ∷ (SymbolClass Greater) ∷ (SymbolClass GreaterEqual) ∷ []

abbrev begun_statement : List Class
begun_statement = NameClass ∷ (ReservedClass IfWord) ∷ (ReservedClass WhileWord) ∷ (ReservedClass RepeatWord) ∷ (ReservedClass LoopWord) ∷ (ReservedClass CaseWord) ∷ []

abbrev declared : List Class
declared = NameClass ∷ (ReservedClass ConstWord) ∷ (ReservedClass TypeWord) ∷ (ReservedClass VarWord) ∷ []

-- The classes that a phrase could still take up where it may already end: what stands behind it begins with none of them.
abbrev pub continuing : Phrase → List Class
continuing ExprPhrase = selecting ++ multiplied ++ added ++ related
continuing ExprTailPhrase = selecting ++ multiplied ++ added ++ related
continuing SimplePhrase = selecting ++ multiplied ++ added
continuing SimpleTailPhrase = selecting ++ multiplied ++ added
continuing TermPhrase = selecting ++ multiplied
continuing TermTailPhrase = selecting ++ multiplied
continuing FactorPhrase = selecting
continuing BitsTailPhrase = []
continuing ElementPhrase = (SymbolClass Colon) ∷ (selecting ++ multiplied ++ added ++ related)
continuing ElementTailPhrase = (SymbolClass Colon) ∷ (selecting ++ multiplied ++ added ++ related)
continuing CommaElementsPhrase = (SymbolClass Colon) ∷ (SymbolClass Comma) ∷ (selecting ++ multiplied ++ added ++ related)
continuing CommaExprsPhrase = (SymbolClass Comma) ∷ (selecting ++ multiplied ++ added ++ related)
continuing FactorTailPhrase = selecting
continuing SelectorsPhrase = (SymbolClass Dot) ∷ (SymbolClass LeftBracket) ∷ []
continuing StatementPhrase = (SymbolClass Becomes) ∷ (selecting ++ multiplied ++ added ++ related ++ begun_statement)
continuing StatementsPhrase = (SymbolClass Becomes) ∷ (SymbolClass Semicolon) ∷ (selecting ++ multiplied ++ added ++ related ++ begun_statement)
continuing StatementTailPhrase = (SymbolClass Becomes) ∷ (selecting ++ multiplied ++ added ++ related)
continuing AssigningPhrase = selecting ++ multiplied ++ added ++ related
continuing ElsifsPhrase = (ReservedClass ElsifWord) ∷ (SymbolClass Becomes) ∷ (SymbolClass Semicolon) ∷ (selecting ++ multiplied ++ added ++ related ++ begun_statement)
continuing ElsePhrase = (ReservedClass ElseWord) ∷ (SymbolClass Becomes) ∷ (SymbolClass Semicolon) ∷ (selecting ++ multiplied ++ added ++ related ++ begun_statement)
continuing ExitsPhrase = (ReservedClass WhenWord) ∷ (SymbolClass Becomes) ∷ (SymbolClass Semicolon) ∷ (selecting ++ multiplied ++ added ++ related ++ begun_statement)
continuing LastBodyPhrase = (ReservedClass DoWord) ∷ (SymbolClass Becomes) ∷ (SymbolClass Semicolon) ∷ (selecting ++ multiplied ++ added ++ related ++ begun_statement)
continuing ArmPhrase = []
continuing ArmsPhrase = (SymbolClass Semicolon) ∷ []
continuing TypePhrase = []
continuing RangePhrase = selecting ++ multiplied ++ added ++ related
continuing CommaRangesPhrase = (SymbolClass Comma) ∷ (selecting ++ multiplied ++ added ++ related)
continuing IdsPhrase = (SymbolClass Comma) ∷ []
continuing CommaIdsPhrase = (SymbolClass Comma) ∷ []
continuing FieldsPhrase = []
continuing MoreFieldsPhrase = (SymbolClass Semicolon) ∷ []
continuing DeclPhrase = NameClass ∷ []
continuing ConstPhrase = []
continuing ConstsPhrase = NameClass ∷ []
continuing TypeDeclPhrase = []
continuing TypeDeclsPhrase = NameClass ∷ []
continuing VarIdPhrase = (SymbolClass LeftBracket) ∷ []
continuing AddressPhrase = (SymbolClass LeftBracket) ∷ []
continuing VarPhrase = []
continuing CommaVarIdsPhrase = (SymbolClass Comma) ∷ (SymbolClass LeftBracket) ∷ []
continuing VarsPhrase = NameClass ∷ []
continuing DeclsPhrase = declared
continuing ProcedurePhrase = []
continuing ProcessPhrase = []
continuing DriverPhrase = []
continuing ParamsPhrase = (SymbolClass LeftParen) ∷ []
continuing AnswerPhrase = (SymbolClass Colon) ∷ []
continuing SectionPhrase = []
continuing SectionsPhrase = (SymbolClass Semicolon) ∷ []
continuing PlainPartsPhrase = (ReservedClass DeviceWord) ∷ (ReservedClass InterfaceWord) ∷ (ReservedClass ModuleWord) ∷ (ReservedClass ProcedureWord) ∷ (ReservedClass ProcessWord) ∷ declared
continuing FacePartsPhrase = (ReservedClass ProcedureWord) ∷ declared
continuing DevicePartsPhrase = (ReservedClass ProcedureWord) ∷ (ReservedClass ProcessWord) ∷ declared
continuing BegunPhrase = (ReservedClass BeginWord) ∷ (SymbolClass Becomes) ∷ (SymbolClass Semicolon) ∷ (selecting ++ multiplied ++ added ++ related ++ begun_statement)
continuing DefinesPhrase = (ReservedClass DefineWord) ∷ []
continuing UsesPhrase = (ReservedClass UseWord) ∷ []
continuing ModulePhrase = []
continuing ProgramPhrase = []
