-- What each phrase of the factored grammar stands for in a tree, and the tree that a rule makes of its parts.
use Rattle.std.specs.Prelude.{ℕ, List, [], ◌∷◌, Option, Some, None, ◌⊎◌}
use Rattle.std.proofs.Common.{inl, inr}
use Rattle.mc_tree.specs.declared.place.Place.{Place}
use Rattle.mc_tree.specs.declared.token.Reserved.TheVariants.{BeginWord, DefineWord, DoWord, ElseWord, EndWord, UseWord}
use Rattle.mc_tree.specs.declared.token.Symbol.TheVariants.{RightBracket, Comma, Semicolon, Colon, Becomes}
use Rattle.mc_tree.specs.declared.expression.Factor.{Factor}
use Rattle.mc_tree.specs.declared.expression.Selector.{Selector}
use Rattle.mc_tree.specs.declared.expression.AddedTerm.{AddedTerm}
use Rattle.mc_tree.specs.declared.expression.Args.{Args}
use Rattle.mc_tree.specs.declared.expression.Compared.{Compared}
use Rattle.mc_tree.specs.declared.expression.Element.{Element}
use Rattle.mc_tree.specs.declared.expression.Elements.{Elements}
use Rattle.mc_tree.specs.declared.expression.Expr.{Expr}
use Rattle.mc_tree.specs.declared.expression.MultipliedFactor.{MultipliedFactor}
use Rattle.mc_tree.specs.declared.expression.Simple.{Simple}
use Rattle.mc_tree.specs.declared.expression.Term.{Term}
use Rattle.mc_tree.specs.declared.statement.Statement.{Statement}
use Rattle.mc_tree.specs.declared.statement.Arm.{Arm}
use Rattle.mc_tree.specs.declared.statement.Body.{Body}
use Rattle.mc_tree.specs.declared.statement.Elsif.{Elsif}
use Rattle.mc_tree.specs.declared.statement.Exit.{Exit}
use Rattle.mc_tree.specs.declared.tree.TypeTree.{TypeTree}
use Rattle.mc_tree.specs.declared.tree.Fields.{Fields}
use Rattle.mc_tree.specs.declared.tree.Range.{Range}
use Rattle.mc_tree.specs.declared.tree.Ids.{Ids}
use Rattle.mc_tree.specs.declared.tree.Bracket.{Bracket}
use Rattle.mc_tree.specs.declared.tree.Const.{Const}
use Rattle.mc_tree.specs.declared.tree.TypeDecl.{TypeDecl}
use Rattle.mc_tree.specs.declared.tree.Var.{Var}
use Rattle.mc_tree.specs.declared.tree.VarId.{VarId}
use Rattle.mc_tree.specs.declared.tree.Decl.{Decl}
use Rattle.mc_tree.specs.declared.tree.Procedure.{Procedure}
use Rattle.mc_tree.specs.declared.tree.Process.{Process}
use Rattle.mc_tree.specs.declared.tree.Driver.{Driver}
use Rattle.mc_tree.specs.declared.tree.Params.{Params}
use Rattle.mc_tree.specs.declared.tree.Section.{Section}
use Rattle.mc_tree.specs.declared.tree.Module.{Module}
use Rattle.mc_tree.specs.declared.tree.PlainPart.{PlainPart}
use Rattle.mc_tree.specs.declared.tree.Begun.{Begun}
use Rattle.mc_tree.specs.declared.tree.NameList.{NameList}
use Rattle.mc_tree.specs.declared.tree.FacePart.{FacePart}
use Rattle.mc_tree.specs.declared.tree.DevicePart.{DevicePart}
use Rattle.mc_tree.specs.declared.tree.Tree.{Tree}
use Rattle.mc_tree.specs.declared.tree.Id.{Id}
use Rattle.mc_tree.specs.declared.tree.After.{After}
use Rattle.mc_tree.specs.declared.tree.Decl.TheVariants as decl
use Rattle.mc_tree.specs.declared.tree.Mode.TheVariants as mode
use Rattle.mc_tree.specs.declared.tree.FacePart.TheVariants as face_part
use Rattle.mc_tree.specs.declared.tree.DevicePart.TheVariants as device_part
use Rattle.mc_tree.specs.declared.tree.Tree.TheVariants as tree
use Rattle.mc_tree.specs.declared.expression.Factor.TheOpen.{Factor-F, Selector-F}
use Rattle.mc_tree.specs.declared.statement.Statement.TheOpen.{Statement-F}
use Rattle.mc_tree.specs.declared.tree.TypeTree.TheOpen.{TypeTree-F}
use Rattle.mc_tree.specs.declared.tree.Module.TheOpen.{Module-F, PlainPart-F}
use Rattle.mc_tree.specs.declared.expression.Factor.TheViews.{roll-Factor, roll-Selector, roll-AddedTerm, roll-Args, roll-Compared, roll-Designator, roll-Element, roll-Elements, roll-Expr, roll-MultipliedFactor, roll-Simple, roll-Term}
use Rattle.mc_tree.specs.declared.statement.Statement.TheViews.{roll-Statement, roll-Arm, roll-Body, roll-Case, roll-Elsif, roll-Exit, roll-If, roll-Loop, roll-Repeat, roll-While}
use Rattle.mc_tree.specs.declared.tree.TypeTree.TheViews.{roll-TypeTree, roll-Fields}
use Rattle.mc_tree.specs.declared.tree.Module.TheViews.{roll-Module, roll-PlainPart, roll-Plain, roll-PlainModule}
use Rattle.mc_tree.specs.Leaves.{Leaf, Writes, put, mark, each, maybe, after, after_word}
use Rattle.mc_tree.specs.Expressions.{factor, selector, added_term, args, compared, element, elements, expr, multiplied_factor, simple, term}
use Rattle.mc_tree.specs.Statements.{statement, arm, body, elsif, exit}
use Rattle.mc_tree.specs.Declarations.{type_tree, fields, range, ids, one_name, bracket, const_, type_decl, var_id, var_, declaration, section, params, procedure, process, driver}
use Rattle.mc_tree.specs.Trees.{begun, name_list, face_one, device_one, module_, plain_part, program}
use Rattle.mc_tree.specs.Classes.{ReservedClass, NameClass, SymbolClass, Data, kind_of}
use Rattle.mc_tree.specs.Grammar.{Phrase, ExprPhrase, ExprTailPhrase, SimplePhrase, SimpleTailPhrase, TermPhrase, TermTailPhrase, FactorPhrase, BitsTailPhrase, ElementPhrase, ElementTailPhrase, CommaElementsPhrase, CommaExprsPhrase, FactorTailPhrase, SelectorsPhrase, StatementPhrase, StatementsPhrase, StatementTailPhrase, AssigningPhrase, ElsifsPhrase, ElsePhrase, ExitsPhrase, LastBodyPhrase, ArmPhrase, ArmsPhrase, TypePhrase, RangePhrase, CommaRangesPhrase, IdsPhrase, CommaIdsPhrase, FieldsPhrase, MoreFieldsPhrase, DeclPhrase, ConstPhrase, ConstsPhrase, TypeDeclPhrase, TypeDeclsPhrase, VarIdPhrase, AddressPhrase, VarPhrase, CommaVarIdsPhrase, VarsPhrase, DeclsPhrase, ProcedurePhrase, ProcessPhrase, DriverPhrase, ParamsPhrase, AnswerPhrase, SectionPhrase, SectionsPhrase, PlainPartsPhrase, FacePartsPhrase, DevicePartsPhrase, BegunPhrase, DefinesPhrase, UsesPhrase, ModulePhrase, ProgramPhrase, Rule, ExprBy, Compare, Signed, SimpleBy, Add, TermBy, Multiply, NumberFactor, CharacterFactor, TextFactor, NameFactor, GroupFactor, NotFactor, BitsFactor, NoBits, BitsBy, ElementBy, LastElement, MoreElements, MoreExprs, CallFactor, FieldFactor, IndexFactor, FieldSelector, IndexSelector, NameStatement, IfStatement, WhileStatement, RepeatStatement, LoopStatement, CaseStatement, MoreStatements, CallStatement, AssignStatement, FieldStatement, IndexStatement, AssignTo, FieldTo, IndexTo, MoreElsifs, ElseBody, MoreExits, DoBody, ArmBy, MoreArms, NamedType, ValuesType, ArrayType, RecordType, RangeBy, MoreRanges, FirstId, MoreIds, FieldsBy, NextFields, ConstDecl, TypesDecl, VarDecl, OneConst, ConstsBy, OneType, TypeDeclsBy, OneVarId, AddressBracket, VarBy, MoreVarIds, VarsBy, DeclsBy, OneProcedure, OneProcess, OneDriver, SomeParams, SomeAnswer, ConstSection, VarSection, SectionBy, MoreSections, PlainDecl, PlainProcedure, PlainProcess, PlainInner, FaceDecl, FaceProcedure, DeviceDecl, DeviceProcedure, DeviceDriver, SomeBegun, SomeDefines, SomeUses, PlainInside, InterfaceInside, DeviceInside, PlainWhole, DeviceWhole, first, Take, Sub, Stack, parts}

-- the rest of an assignment behind a name
pub record Assigned : Type 0 where
  pub selectors : List Selector
  pub becomes : Place
  pub value : Expr

abbrev pub Of : Phrase → Type 0
Of ExprPhrase = Expr
Of ExprTailPhrase = Option Compared
Of SimplePhrase = Simple
Of SimpleTailPhrase = List AddedTerm
Of TermPhrase = Term
Of TermTailPhrase = List MultipliedFactor
Of FactorPhrase = Factor
Of BitsTailPhrase = Option Elements × Place
Of ElementPhrase = Element
Of ElementTailPhrase = Option (After Expr)
Of CommaElementsPhrase = List (After Element)
Of CommaExprsPhrase = List (After Expr)
Of FactorTailPhrase = Args ⊎ List Selector
Of SelectorsPhrase = List Selector
Of StatementPhrase = Statement
Of StatementsPhrase = List (After Statement)
Of StatementTailPhrase = Option Args ⊎ Assigned
Of AssigningPhrase = Assigned
Of ElsifsPhrase = List Elsif
Of ElsePhrase = Option (After Body)
Of ExitsPhrase = List Exit
Of LastBodyPhrase = Option (After Body)
Of ArmPhrase = Arm
Of ArmsPhrase = List (After Arm)
Of TypePhrase = TypeTree
Of RangePhrase = Range
Of CommaRangesPhrase = List (After Range)
Of IdsPhrase = Ids
Of CommaIdsPhrase = List (After Id)
Of FieldsPhrase = Fields
Of MoreFieldsPhrase = List (After Fields)
Of DeclPhrase = Decl
Of ConstPhrase = Const
Of ConstsPhrase = List Const
Of TypeDeclPhrase = TypeDecl
Of TypeDeclsPhrase = List TypeDecl
Of VarIdPhrase = VarId
Of AddressPhrase = Option Bracket
Of VarPhrase = Var
Of CommaVarIdsPhrase = List (After VarId)
Of VarsPhrase = List Var
Of DeclsPhrase = List Decl
Of ProcedurePhrase = Procedure
Of ProcessPhrase = Process
Of DriverPhrase = Driver
Of ParamsPhrase = Option Params
Of AnswerPhrase = Option (After Id)
Of SectionPhrase = Section
Of SectionsPhrase = List (After Section)
Of PlainPartsPhrase = List PlainPart
Of FacePartsPhrase = List FacePart
Of DevicePartsPhrase = List DevicePart
Of BegunPhrase = Option Begun
Of DefinesPhrase = Option NameList
Of UsesPhrase = Option NameList
Of ModulePhrase = Module
Of ProgramPhrase = Tree

-- what stands behind the `[` of a constant of bits
abbrev pub bits_tail : Option Elements × Place → Writes
bits_tail x d rest = maybe elements x.0 d (mark RightBracket x.1 rest)

-- what stands behind the name of a factor
abbrev pub factor_tail : Args ⊎ List Selector → Writes
factor_tail (inl x) d rest = args x d rest
factor_tail (inr xs) d rest = each selector xs d rest

abbrev pub assigned : Assigned → Writes
assigned a d rest = each selector a.selectors d (mark Becomes a.becomes (expr a.value d rest))

-- what stands behind the name of a statement
abbrev pub statement_tail : Option Args ⊎ Assigned → Writes
statement_tail (inl x) d rest = maybe args x d rest
statement_tail (inr a) d rest = assigned a d rest

abbrev pub writes : (phrase : Phrase) → Of phrase → Writes
writes ExprPhrase = expr
writes ExprTailPhrase = maybe compared
writes SimplePhrase = simple
writes SimpleTailPhrase = each added_term
writes TermPhrase = term
writes TermTailPhrase = each multiplied_factor
writes FactorPhrase = factor
writes BitsTailPhrase = bits_tail
writes ElementPhrase = element
writes ElementTailPhrase = maybe (after Colon expr)
writes CommaElementsPhrase = each (after Comma element)
writes CommaExprsPhrase = each (after Comma expr)
writes FactorTailPhrase = factor_tail
writes SelectorsPhrase = each selector
writes StatementPhrase = statement
writes StatementsPhrase = each (after Semicolon statement)
writes StatementTailPhrase = statement_tail
writes AssigningPhrase = assigned
writes ElsifsPhrase = each elsif
writes ElsePhrase = maybe (after_word ElseWord body)
writes ExitsPhrase = each exit
writes LastBodyPhrase = maybe (after_word DoWord body)
writes ArmPhrase = arm
writes ArmsPhrase = each (after Semicolon arm)
writes TypePhrase = type_tree
writes RangePhrase = range
writes CommaRangesPhrase = each (after Comma range)
writes IdsPhrase = ids
writes CommaIdsPhrase = each (after Comma one_name)
writes FieldsPhrase = fields
writes MoreFieldsPhrase = each (after Semicolon fields)
writes DeclPhrase = declaration
writes ConstPhrase = const_
writes ConstsPhrase = each const_
writes TypeDeclPhrase = type_decl
writes TypeDeclsPhrase = each type_decl
writes VarIdPhrase = var_id
writes AddressPhrase = maybe bracket
writes VarPhrase = var_
writes CommaVarIdsPhrase = each (after Comma var_id)
writes VarsPhrase = each var_
writes DeclsPhrase = each declaration
writes ProcedurePhrase = procedure
writes ProcessPhrase = process
writes DriverPhrase = driver
writes ParamsPhrase = maybe params
writes AnswerPhrase = maybe (after Colon one_name)
writes SectionPhrase = section
writes SectionsPhrase = each (after Semicolon section)
writes PlainPartsPhrase = each plain_part
writes FacePartsPhrase = each face_one
writes DevicePartsPhrase = each device_one
writes BegunPhrase = maybe begun
writes DefinesPhrase = maybe (name_list DefineWord)
writes UsesPhrase = maybe (name_list UseWord)
writes ModulePhrase = module_
writes ProgramPhrase = program

-- the trees of all that is to be read
abbrev pub Trees : Stack → Type 0
Trees [] = Unit {0}
Trees (Take class ∷ stack) = (Data class × Place) × Trees stack
Trees (Sub d phrase ∷ stack) = Of phrase × Trees stack

abbrev pub all : (stack : Stack) → Trees stack → List Leaf
all [] ts = []
all (Take class ∷ stack) ts = put (kind_of class ts.0.0) ts.0.1 (all stack ts.1)
all (Sub d phrase ∷ stack) ts = writes phrase ts.0 d (all stack ts.1)

abbrev pub id_at : List ℕ × Place → Id
id_at a = record { text = a.0; place = a.1 }

abbrev pub factor_of : Id → Args ⊎ List Selector → Factor
factor_of id (inl x) = roll-Factor (Factor-F.Call id x)
factor_of id (inr xs) = roll-Factor (Factor-F.Designator (roll-Designator (record { name = id; selectors = xs })))

abbrev pub statement_of : Id → Option Args ⊎ Assigned → Statement
statement_of id (inl x) = roll-Statement (Statement-F.Call id x)
statement_of id (inr a) = roll-Statement (Statement-F.Assignment (roll-Designator (record { name = id; selectors = a.selectors })) a.becomes a.value)

-- a phrase that begins as another does, of that and its further parts
abbrev pub grow_expr_by : (d : ℕ) (stack : Stack) → Of SimplePhrase × Trees (Sub d ExprTailPhrase ∷ stack) → Of ExprPhrase × Trees stack
grow_expr_by d stack q = (roll-Expr (record { left = q.0; compared = q.1.0 }), q.1.1)

abbrev pub grow_simple_by : (d : ℕ) (stack : Stack) → Of TermPhrase × Trees (Sub d SimpleTailPhrase ∷ stack) → Of SimplePhrase × Trees stack
grow_simple_by d stack q = (roll-Simple (record { sign = None; first = q.0; more = q.1.0 }), q.1.1)

abbrev pub grow_term_by : (d : ℕ) (stack : Stack) → Of FactorPhrase × Trees (Sub d TermTailPhrase ∷ stack) → Of TermPhrase × Trees stack
grow_term_by d stack q = (roll-Term (record { first = q.0; more = q.1.0 }), q.1.1)

abbrev pub grow_bits_by : (d : ℕ) (stack : Stack) → Of ElementPhrase × Trees (Sub d CommaElementsPhrase ∷ Take (SymbolClass RightBracket) ∷ stack) → Of BitsTailPhrase × Trees stack
grow_bits_by d stack q = ((Some (roll-Elements (record { first = q.0; more = q.1.0 })), q.1.1.0.1), q.1.1.1)

abbrev pub grow_element_by : (d : ℕ) (stack : Stack) → Of ExprPhrase × Trees (Sub d ElementTailPhrase ∷ stack) → Of ElementPhrase × Trees stack
grow_element_by d stack q = (roll-Element (record { first = q.0; last = q.1.0 }), q.1.1)

abbrev pub grow_arm_by : (d : ℕ) (stack : Stack) → Of ExprPhrase × Trees (Sub d CommaExprsPhrase ∷ Take (SymbolClass Colon) ∷ Take (ReservedClass BeginWord) ∷ Sub d StatementPhrase ∷ Sub d StatementsPhrase ∷ Take (ReservedClass EndWord) ∷ stack) → Of ArmPhrase × Trees stack
grow_arm_by d stack q = (roll-Arm (record { first = q.0; more = q.1.0; colon = q.1.1.0.1; begin = q.1.1.1.0.1; body = (roll-Body (record { first = q.1.1.1.1.0; more = q.1.1.1.1.1.0 })); end = q.1.1.1.1.1.1.0.1 }), q.1.1.1.1.1.1.1)

abbrev pub grow_range_by : (d : ℕ) (stack : Stack) → Of ExprPhrase × Trees (Take (SymbolClass Colon) ∷ Sub d ExprPhrase ∷ stack) → Of RangePhrase × Trees stack
grow_range_by d stack q = ((record { low = q.0; colon = q.1.0.1; high = q.1.1.0 }), q.1.1.1)

abbrev pub grow_fields_by : (d : ℕ) (stack : Stack) → Of IdsPhrase × Trees (Take (SymbolClass Colon) ∷ Sub d TypePhrase ∷ stack) → Of FieldsPhrase × Trees stack
grow_fields_by d stack q = (roll-Fields (record { names = q.0; colon = q.1.0.1; of = q.1.1.0 }), q.1.1.1)

abbrev pub grow_consts_by : (d : ℕ) (stack : Stack) → Of ConstPhrase × Trees (Sub d ConstsPhrase ∷ stack) → Of ConstsPhrase × Trees stack
grow_consts_by d stack q = (q.0 ∷ q.1.0, q.1.1)

abbrev pub grow_type_decls_by : (d : ℕ) (stack : Stack) → Of TypeDeclPhrase × Trees (Sub d TypeDeclsPhrase ∷ stack) → Of TypeDeclsPhrase × Trees stack
grow_type_decls_by d stack q = (q.0 ∷ q.1.0, q.1.1)

abbrev pub grow_var_by : (d : ℕ) (stack : Stack) → Of VarIdPhrase × Trees (Sub d CommaVarIdsPhrase ∷ Take (SymbolClass Colon) ∷ Sub d TypePhrase ∷ Take (SymbolClass Semicolon) ∷ stack) → Of VarPhrase × Trees stack
grow_var_by d stack q = ((record { first = q.0; more = q.1.0; colon = q.1.1.0.1; of = q.1.1.1.0; semicolon = q.1.1.1.1.0.1 }), q.1.1.1.1.1)

abbrev pub grow_vars_by : (d : ℕ) (stack : Stack) → Of VarPhrase × Trees (Sub d VarsPhrase ∷ stack) → Of VarsPhrase × Trees stack
grow_vars_by d stack q = (q.0 ∷ q.1.0, q.1.1)

abbrev pub grow_decls_by : (d : ℕ) (stack : Stack) → Of DeclPhrase × Trees (Sub d DeclsPhrase ∷ stack) → Of DeclsPhrase × Trees stack
grow_decls_by d stack q = (q.0 ∷ q.1.0, q.1.1)

abbrev pub grow_section_by : (d : ℕ) (stack : Stack) → Of IdsPhrase × Trees (Take (SymbolClass Colon) ∷ Take NameClass ∷ stack) → Of SectionPhrase × Trees stack
grow_section_by d stack q = ((record { mode = None; names = q.0; colon = q.1.0.1; of = (id_at q.1.1.0) }), q.1.1.1)

abbrev pub grow_plain_decl : (d : ℕ) (stack : Stack) → Of DeclPhrase × Trees (Sub d PlainPartsPhrase ∷ stack) → Of PlainPartsPhrase × Trees stack
grow_plain_decl d stack q = (roll-PlainPart (PlainPart-F.Decl q.0) ∷ q.1.0, q.1.1)

abbrev pub grow_plain_procedure : (d : ℕ) (stack : Stack) → Of ProcedurePhrase × Trees (Sub d PlainPartsPhrase ∷ stack) → Of PlainPartsPhrase × Trees stack
grow_plain_procedure d stack q = (roll-PlainPart (PlainPart-F.Procedure q.0) ∷ q.1.0, q.1.1)

abbrev pub grow_plain_process : (d : ℕ) (stack : Stack) → Of ProcessPhrase × Trees (Sub d PlainPartsPhrase ∷ stack) → Of PlainPartsPhrase × Trees stack
grow_plain_process d stack q = (roll-PlainPart (PlainPart-F.Process q.0) ∷ q.1.0, q.1.1)

abbrev pub grow_plain_inner : (d : ℕ) (stack : Stack) → Of ModulePhrase × Trees (Sub d PlainPartsPhrase ∷ stack) → Of PlainPartsPhrase × Trees stack
grow_plain_inner d stack q = (roll-PlainPart (PlainPart-F.Module q.0) ∷ q.1.0, q.1.1)

abbrev pub grow_face_decl : (d : ℕ) (stack : Stack) → Of DeclPhrase × Trees (Sub d FacePartsPhrase ∷ stack) → Of FacePartsPhrase × Trees stack
grow_face_decl d stack q = (face_part.Decl q.0 ∷ q.1.0, q.1.1)

abbrev pub grow_face_procedure : (d : ℕ) (stack : Stack) → Of ProcedurePhrase × Trees (Sub d FacePartsPhrase ∷ stack) → Of FacePartsPhrase × Trees stack
grow_face_procedure d stack q = (face_part.Procedure q.0 ∷ q.1.0, q.1.1)

abbrev pub grow_device_decl : (d : ℕ) (stack : Stack) → Of DeclPhrase × Trees (Sub d DevicePartsPhrase ∷ stack) → Of DevicePartsPhrase × Trees stack
grow_device_decl d stack q = (device_part.Decl q.0 ∷ q.1.0, q.1.1)

abbrev pub grow_device_procedure : (d : ℕ) (stack : Stack) → Of ProcedurePhrase × Trees (Sub d DevicePartsPhrase ∷ stack) → Of DevicePartsPhrase × Trees stack
grow_device_procedure d stack q = (device_part.Procedure q.0 ∷ q.1.0, q.1.1)

abbrev pub grow_device_driver : (d : ℕ) (stack : Stack) → Of DriverPhrase × Trees (Sub d DevicePartsPhrase ∷ stack) → Of DevicePartsPhrase × Trees stack
grow_device_driver d stack q = (device_part.Driver q.0 ∷ q.1.0, q.1.1)

-- the tree that a rule makes of its first token and its parts, and the trees behind it
abbrev pub make : {phrase : Phrase} (r : Rule phrase) (d : ℕ) (stack : Stack) → Data (first r) → Place → Trees (parts r d stack) → Of phrase × Trees stack
make (ExprBy r) d stack v p ps = grow_expr_by d stack (make r d (Sub d ExprTailPhrase ∷ stack) v p ps)
make (Compare op) d stack v p ps = (Some (roll-Compared (record { relation = op; place = p; right = ps.0 })), ps.1)
make (Signed op) d stack v p ps = (roll-Simple (record { sign = Some (op, p); first = ps.0; more = ps.1.0 }), ps.1.1)
make (SimpleBy r) d stack v p ps = grow_simple_by d stack (make r d (Sub d SimpleTailPhrase ∷ stack) v p ps)
make (Add op) d stack v p ps = (roll-AddedTerm (record { operator = op; place = p; term = ps.0 }) ∷ ps.1.0, ps.1.1)
make (TermBy r) d stack v p ps = grow_term_by d stack (make r d (Sub d TermTailPhrase ∷ stack) v p ps)
make (Multiply op) d stack v p ps = (roll-MultipliedFactor (record { operator = op; place = p; factor = ps.0 }) ∷ ps.1.0, ps.1.1)
make NumberFactor d stack v p ps = (roll-Factor (Factor-F.Number v p), ps)
make CharacterFactor d stack v p ps = (roll-Factor (Factor-F.Character v p), ps)
make TextFactor d stack v p ps = (roll-Factor (Factor-F.Text v p), ps)
make NameFactor d stack v p ps = (factor_of (record { text = v; place = p }) ps.0, ps.1)
make GroupFactor d stack v p ps = (roll-Factor (Factor-F.Group p ps.0 ps.1.0.1), ps.1.1)
make NotFactor d stack v p ps = (roll-Factor (Factor-F.Not p ps.0), ps.1)
make BitsFactor d stack v p ps = (roll-Factor (Factor-F.Bits p ps.0.0 ps.0.1), ps.1)
make NoBits d stack v p ps = ((None, p), ps)
make (BitsBy r) d stack v p ps = grow_bits_by d stack (make r d (Sub d CommaElementsPhrase ∷ Take (SymbolClass RightBracket) ∷ stack) v p ps)
make (ElementBy r) d stack v p ps = grow_element_by d stack (make r d (Sub d ElementTailPhrase ∷ stack) v p ps)
make LastElement d stack v p ps = (Some (record { mark = p; item = ps.0 }), ps.1)
make MoreElements d stack v p ps = ((record { mark = p; item = ps.0 }) ∷ ps.1.0, ps.1.1)
make MoreExprs d stack v p ps = ((record { mark = p; item = ps.0 }) ∷ ps.1.0, ps.1.1)
make CallFactor d stack v p ps = (inl (roll-Args (record { opening = p; first = ps.0; more = ps.1.0; closing = ps.1.1.0.1 })), ps.1.1.1)
make FieldFactor d stack v p ps = (inr (roll-Selector (Selector-F.Field p (id_at ps.0)) ∷ ps.1.0), ps.1.1)
make IndexFactor d stack v p ps = (inr (roll-Selector (Selector-F.Index p ps.0 ps.1.0 ps.1.1.0.1) ∷ ps.1.1.1.0), ps.1.1.1.1)
make FieldSelector d stack v p ps = (roll-Selector (Selector-F.Field p (id_at ps.0)) ∷ ps.1.0, ps.1.1)
make IndexSelector d stack v p ps = (roll-Selector (Selector-F.Index p ps.0 ps.1.0 ps.1.1.0.1) ∷ ps.1.1.1.0, ps.1.1.1.1)
make NameStatement d stack v p ps = (statement_of (record { text = v; place = p }) ps.0, ps.1)
make IfStatement d stack v p ps = ((roll-Statement (Statement-F.If (roll-If (record { word = p; condition = ps.0; then = ps.1.0.1; body = (roll-Body (record { first = ps.1.1.0; more = ps.1.1.1.0 })); elsifs = ps.1.1.1.1.0; otherwise = ps.1.1.1.1.1.0; end = ps.1.1.1.1.1.1.0.1 })))), ps.1.1.1.1.1.1.1)
make WhileStatement d stack v p ps = ((roll-Statement (Statement-F.While (roll-While (record { word = p; condition = ps.0; do_ = ps.1.0.1; body = (roll-Body (record { first = ps.1.1.0; more = ps.1.1.1.0 })); end = ps.1.1.1.1.0.1 })))), ps.1.1.1.1.1)
make RepeatStatement d stack v p ps = ((roll-Statement (Statement-F.Repeat (roll-Repeat (record { word = p; body = (roll-Body (record { first = ps.0; more = ps.1.0 })); until = ps.1.1.0.1; condition = ps.1.1.1.0 })))), ps.1.1.1.1)
make LoopStatement d stack v p ps = ((roll-Statement (Statement-F.Loop (roll-Loop (record { word = p; body = (roll-Body (record { first = ps.0; more = ps.1.0 })); exits = ps.1.1.0; end = ps.1.1.1.0.1 })))), ps.1.1.1.1)
make CaseStatement d stack v p ps = ((roll-Statement (Statement-F.Case (roll-Case (record { word = p; choice = ps.0; of = ps.1.0.1; first = ps.1.1.0; more = ps.1.1.1.0; end = ps.1.1.1.1.0.1 })))), ps.1.1.1.1.1)
make MoreStatements d stack v p ps = ((record { mark = p; item = ps.0 }) ∷ ps.1.0, ps.1.1)
make CallStatement d stack v p ps = (inl (Some (roll-Args (record { opening = p; first = ps.0; more = ps.1.0; closing = ps.1.1.0.1 }))), ps.1.1.1)
make AssignStatement d stack v p ps = (inr (record { selectors = []; becomes = p; value = ps.0 }), ps.1)
make FieldStatement d stack v p ps = (inr (record { selectors = roll-Selector (Selector-F.Field p (id_at ps.0)) ∷ ps.1.0.selectors; becomes = ps.1.0.becomes; value = ps.1.0.value }), ps.1.1)
make IndexStatement d stack v p ps = (inr (record { selectors = roll-Selector (Selector-F.Index p ps.0 ps.1.0 ps.1.1.0.1) ∷ ps.1.1.1.0.selectors; becomes = ps.1.1.1.0.becomes; value = ps.1.1.1.0.value }), ps.1.1.1.1)
make AssignTo d stack v p ps = ((record { selectors = []; becomes = p; value = ps.0 }), ps.1)
make FieldTo d stack v p ps = ((record { selectors = roll-Selector (Selector-F.Field p (id_at ps.0)) ∷ ps.1.0.selectors; becomes = ps.1.0.becomes; value = ps.1.0.value }), ps.1.1)
make IndexTo d stack v p ps = ((record { selectors = roll-Selector (Selector-F.Index p ps.0 ps.1.0 ps.1.1.0.1) ∷ ps.1.1.1.0.selectors; becomes = ps.1.1.1.0.becomes; value = ps.1.1.1.0.value }), ps.1.1.1.1)
make MoreElsifs d stack v p ps = (roll-Elsif (record { word = p; condition = ps.0; then = ps.1.0.1; body = (roll-Body (record { first = ps.1.1.0; more = ps.1.1.1.0 })) }) ∷ ps.1.1.1.1.0, ps.1.1.1.1.1)
make ElseBody d stack v p ps = (Some (record { mark = p; item = (roll-Body (record { first = ps.0; more = ps.1.0 })) }), ps.1.1)
make MoreExits d stack v p ps = (roll-Exit (record { when = p; condition = ps.0; last = ps.1.0; exit = ps.1.1.0.1; body = (roll-Body (record { first = ps.1.1.1.0; more = ps.1.1.1.1.0 })) }) ∷ ps.1.1.1.1.1.0, ps.1.1.1.1.1.1)
make DoBody d stack v p ps = (Some (record { mark = p; item = (roll-Body (record { first = ps.0; more = ps.1.0 })) }), ps.1.1)
make (ArmBy r) d stack v p ps = grow_arm_by d stack (make r d (Sub d CommaExprsPhrase ∷ Take (SymbolClass Colon) ∷ Take (ReservedClass BeginWord) ∷ Sub d StatementPhrase ∷ Sub d StatementsPhrase ∷ Take (ReservedClass EndWord) ∷ stack) v p ps)
make MoreArms d stack v p ps = ((record { mark = p; item = ps.0 }) ∷ ps.1.0, ps.1.1)
make NamedType d stack v p ps = (roll-TypeTree (TypeTree-F.Name (record { text = v; place = p })), ps)
make ValuesType d stack v p ps = (roll-TypeTree (TypeTree-F.Values p ps.0 ps.1.0.1), ps.1.1)
make ArrayType d stack v p ps = (roll-TypeTree (TypeTree-F.Array p ps.0 ps.1.0 ps.1.1.0.1 ps.1.1.1.0), ps.1.1.1.1)
make RecordType d stack v p ps = (roll-TypeTree (TypeTree-F.Record p ps.0 ps.1.0 ps.1.1.0.1), ps.1.1.1)
make (RangeBy r) d stack v p ps = grow_range_by d stack (make r d (Take (SymbolClass Colon) ∷ Sub d ExprPhrase ∷ stack) v p ps)
make MoreRanges d stack v p ps = ((record { mark = p; item = ps.0 }) ∷ ps.1.0, ps.1.1)
make FirstId d stack v p ps = ((record { first = (record { text = v; place = p }); more = ps.0 }), ps.1)
make MoreIds d stack v p ps = ((record { mark = p; item = (id_at ps.0) }) ∷ ps.1.0, ps.1.1)
make (FieldsBy r) d stack v p ps = grow_fields_by d stack (make r d (Take (SymbolClass Colon) ∷ Sub d TypePhrase ∷ stack) v p ps)
make NextFields d stack v p ps = ((record { mark = p; item = ps.0 }) ∷ ps.1.0, ps.1.1)
make ConstDecl d stack v p ps = (decl.Const p ps.0 ps.1.0, ps.1.1)
make TypesDecl d stack v p ps = (decl.Type p ps.0 ps.1.0, ps.1.1)
make VarDecl d stack v p ps = (decl.Var p ps.0 ps.1.0, ps.1.1)
make OneConst d stack v p ps = ((record { name = (record { text = v; place = p }); equal = ps.0.1; value = ps.1.0; semicolon = ps.1.1.0.1 }), ps.1.1.1)
make (ConstsBy r) d stack v p ps = grow_consts_by d stack (make r d (Sub d ConstsPhrase ∷ stack) v p ps)
make OneType d stack v p ps = ((record { name = (record { text = v; place = p }); equal = ps.0.1; meaning = ps.1.0; semicolon = ps.1.1.0.1 }), ps.1.1.1)
make (TypeDeclsBy r) d stack v p ps = grow_type_decls_by d stack (make r d (Sub d TypeDeclsPhrase ∷ stack) v p ps)
make OneVarId d stack v p ps = ((record { name = (record { text = v; place = p }); address = ps.0 }), ps.1)
make AddressBracket d stack v p ps = (Some (record { opening = p; value = ps.0; closing = ps.1.0.1 }), ps.1.1)
make (VarBy r) d stack v p ps = grow_var_by d stack (make r d (Sub d CommaVarIdsPhrase ∷ Take (SymbolClass Colon) ∷ Sub d TypePhrase ∷ Take (SymbolClass Semicolon) ∷ stack) v p ps)
make MoreVarIds d stack v p ps = ((record { mark = p; item = ps.0 }) ∷ ps.1.0, ps.1.1)
make (VarsBy r) d stack v p ps = grow_vars_by d stack (make r d (Sub d VarsPhrase ∷ stack) v p ps)
make (DeclsBy r) d stack v p ps = grow_decls_by d stack (make r d (Sub d DeclsPhrase ∷ stack) v p ps)
make OneProcedure d stack v p ps = ((record { procedure = p; name = (id_at ps.0); params = ps.1.0; answer = ps.1.1.0; semicolon = ps.1.1.1.0.1; local = (record { declarations = ps.1.1.1.1.0; begin = ps.1.1.1.1.1.0.1; body = (roll-Body (record { first = ps.1.1.1.1.1.1.0; more = ps.1.1.1.1.1.1.1.0 })) }); end = ps.1.1.1.1.1.1.1.1.0.1; end_name = (id_at ps.1.1.1.1.1.1.1.1.1.0); end_semicolon = ps.1.1.1.1.1.1.1.1.1.1.0.1 }), ps.1.1.1.1.1.1.1.1.1.1.1)
make OneProcess d stack v p ps = ((record { process = p; name = (id_at ps.0); params = ps.1.0; semicolon = ps.1.1.0.1; local = (record { declarations = ps.1.1.1.0; begin = ps.1.1.1.1.0.1; body = (roll-Body (record { first = ps.1.1.1.1.1.0; more = ps.1.1.1.1.1.1.0 })) }); end = ps.1.1.1.1.1.1.1.0.1; end_name = (id_at ps.1.1.1.1.1.1.1.1.0); end_semicolon = ps.1.1.1.1.1.1.1.1.1.0.1 }), ps.1.1.1.1.1.1.1.1.1.1)
make OneDriver d stack v p ps = ((record { process = p; name = (id_at ps.0); bracket = (record { opening = ps.1.0.1; value = ps.1.1.0; closing = ps.1.1.1.0.1 }); semicolon = ps.1.1.1.1.0.1; local = (record { declarations = ps.1.1.1.1.1.0; begin = ps.1.1.1.1.1.1.0.1; body = (roll-Body (record { first = ps.1.1.1.1.1.1.1.0; more = ps.1.1.1.1.1.1.1.1.0 })) }); end = ps.1.1.1.1.1.1.1.1.1.0.1; end_name = (id_at ps.1.1.1.1.1.1.1.1.1.1.0); end_semicolon = ps.1.1.1.1.1.1.1.1.1.1.1.0.1 }), ps.1.1.1.1.1.1.1.1.1.1.1.1)
make SomeParams d stack v p ps = (Some (record { opening = p; first = ps.0; more = ps.1.0; closing = ps.1.1.0.1 }), ps.1.1.1)
make SomeAnswer d stack v p ps = (Some (record { mark = p; item = (id_at ps.0) }), ps.1)
make ConstSection d stack v p ps = ((record { mode = Some (mode.Const p); names = ps.0; colon = ps.1.0.1; of = (id_at ps.1.1.0) }), ps.1.1.1)
make VarSection d stack v p ps = ((record { mode = Some (mode.Var p); names = ps.0; colon = ps.1.0.1; of = (id_at ps.1.1.0) }), ps.1.1.1)
make (SectionBy r) d stack v p ps = grow_section_by d stack (make r d (Take (SymbolClass Colon) ∷ Take NameClass ∷ stack) v p ps)
make MoreSections d stack v p ps = ((record { mark = p; item = ps.0 }) ∷ ps.1.0, ps.1.1)
make (PlainDecl r) d stack v p ps = grow_plain_decl d stack (make r d (Sub d PlainPartsPhrase ∷ stack) v p ps)
make (PlainProcedure r) d stack v p ps = grow_plain_procedure d stack (make r d (Sub d PlainPartsPhrase ∷ stack) v p ps)
make (PlainProcess r) d stack v p ps = grow_plain_process d stack (make r d (Sub d PlainPartsPhrase ∷ stack) v p ps)
make (PlainInner r) d stack v p ps = grow_plain_inner d stack (make r d (Sub d PlainPartsPhrase ∷ stack) v p ps)
make (FaceDecl r) d stack v p ps = grow_face_decl d stack (make r d (Sub d FacePartsPhrase ∷ stack) v p ps)
make (FaceProcedure r) d stack v p ps = grow_face_procedure d stack (make r d (Sub d FacePartsPhrase ∷ stack) v p ps)
make (DeviceDecl r) d stack v p ps = grow_device_decl d stack (make r d (Sub d DevicePartsPhrase ∷ stack) v p ps)
make (DeviceProcedure r) d stack v p ps = grow_device_procedure d stack (make r d (Sub d DevicePartsPhrase ∷ stack) v p ps)
make (DeviceDriver r) d stack v p ps = grow_device_driver d stack (make r d (Sub d DevicePartsPhrase ∷ stack) v p ps)
make SomeBegun d stack v p ps = (Some (record { begin = p; body = (roll-Body (record { first = ps.0; more = ps.1.0 })) }), ps.1.1)
make SomeDefines d stack v p ps = (Some (record { word = p; names = ps.0; semicolon = ps.1.0.1 }), ps.1.1)
make SomeUses d stack v p ps = (Some (record { word = p; names = ps.0; semicolon = ps.1.0.1 }), ps.1.1)
make PlainInside d stack v p ps = (roll-Module (Module-F.Plain (roll-PlainModule (record { module_word = p; name = (id_at ps.0); semicolon = ps.1.0.1; lists = (record { define = ps.1.1.0; use_ = ps.1.1.1.0 }); block = roll-Plain (record { parts = ps.1.1.1.1.0; body = ps.1.1.1.1.1.0 }); end = ps.1.1.1.1.1.1.0.1; end_name = (id_at ps.1.1.1.1.1.1.1.0); end_semicolon = ps.1.1.1.1.1.1.1.1.0.1 }))), ps.1.1.1.1.1.1.1.1.1)
make InterfaceInside d stack v p ps = (roll-Module (Module-F.Interface (record { interface_word = p; module_word = ps.0.1; name = (id_at ps.1.0); semicolon = ps.1.1.0.1; lists = (record { define = ps.1.1.1.0; use_ = ps.1.1.1.1.0 }); block = (record { parts = ps.1.1.1.1.1.0; body = ps.1.1.1.1.1.1.0 }); end = ps.1.1.1.1.1.1.1.0.1; end_name = (id_at ps.1.1.1.1.1.1.1.1.0); end_semicolon = ps.1.1.1.1.1.1.1.1.1.0.1 })), ps.1.1.1.1.1.1.1.1.1.1)
make DeviceInside d stack v p ps = (roll-Module (Module-F.Device (record { device_word = p; module_word = ps.0.1; name = (id_at ps.1.0); bracket = (record { opening = ps.1.1.0.1; value = ps.1.1.1.0; closing = ps.1.1.1.1.0.1 }); semicolon = ps.1.1.1.1.1.0.1; lists = (record { define = ps.1.1.1.1.1.1.0; use_ = ps.1.1.1.1.1.1.1.0 }); block = (record { parts = ps.1.1.1.1.1.1.1.1.0; body = ps.1.1.1.1.1.1.1.1.1.0 }); end = ps.1.1.1.1.1.1.1.1.1.1.0.1; end_name = (id_at ps.1.1.1.1.1.1.1.1.1.1.1.0); end_semicolon = ps.1.1.1.1.1.1.1.1.1.1.1.1.0.1 })), ps.1.1.1.1.1.1.1.1.1.1.1.1.1)
make PlainWhole d stack v p ps = (tree.Plain (record { module_word = p; name = (id_at ps.0); semicolon = ps.1.0.1; block = roll-Plain (record { parts = ps.1.1.0; body = ps.1.1.1.0 }); end = ps.1.1.1.1.0.1; end_name = (id_at ps.1.1.1.1.1.0); dot = ps.1.1.1.1.1.1.0.1 }), ps.1.1.1.1.1.1.1)
make DeviceWhole d stack v p ps = (tree.Device (record { device_word = p; module_word = ps.0.1; name = (id_at ps.1.0); bracket = (record { opening = ps.1.1.0.1; value = ps.1.1.1.0; closing = ps.1.1.1.1.0.1 }); semicolon = ps.1.1.1.1.1.0.1; block = (record { parts = ps.1.1.1.1.1.1.0; body = ps.1.1.1.1.1.1.1.0 }); end = ps.1.1.1.1.1.1.1.1.0.1; end_name = (id_at ps.1.1.1.1.1.1.1.1.1.0); dot = ps.1.1.1.1.1.1.1.1.1.1.0.1 }), ps.1.1.1.1.1.1.1.1.1.1.1)
