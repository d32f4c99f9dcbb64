-- What a rule makes writes the rule's first token and then its parts.
use Rattle.std.specs.Prelude.{◌≡◌, ℕ, suc, List, ◌∷◌, Option, ◌⊎◌, refl}
use Rattle.std.proofs.Common.{◌∙◌, inl, inr}
use Rattle.mc_tree.specs.declared.place.Place.{Place}
use Rattle.mc_tree.specs.declared.token.Kind.TheVariants.{Name}
use Rattle.mc_tree.specs.declared.token.Reserved.TheVariants.{BeginWord, EndWord}
use Rattle.mc_tree.specs.declared.token.Symbol.TheVariants.{RightBracket, Semicolon, Colon, Becomes}
use Rattle.mc_tree.specs.declared.expression.Relation.TheVariants as relation
use Rattle.mc_tree.specs.declared.expression.Sign.TheVariants as sign
use Rattle.mc_tree.specs.declared.expression.Adding.TheVariants as adding
use Rattle.mc_tree.specs.declared.expression.Multiplying.TheVariants as multiplying
use Rattle.mc_tree.specs.declared.expression.Selector.{Selector}
use Rattle.mc_tree.specs.declared.expression.Args.{Args}
use Rattle.mc_tree.specs.declared.tree.Id.{Id}
use Rattle.mc_tree.specs.declared.expression.Factor.TheViews.{roll-Designator}
use Rattle.mc_tree.specs.Leaves.{Leaf, begin, mark}
use Rattle.mc_tree.specs.Expressions.{factor, expr}
use Rattle.mc_tree.specs.Statements.{statement}
use Rattle.mc_tree.specs.Classes.{ReservedClass, NameClass, SymbolClass, Data, kind_of}
use Rattle.mc_tree.specs.Grammar.{Phrase, ExprPhrase, ExprTailPhrase, SimplePhrase, SimpleTailPhrase, TermPhrase, TermTailPhrase, FactorPhrase, BitsTailPhrase, ElementPhrase, ElementTailPhrase, CommaElementsPhrase, CommaExprsPhrase, StatementPhrase, StatementsPhrase, ArmPhrase, TypePhrase, RangePhrase, IdsPhrase, FieldsPhrase, DeclPhrase, ConstPhrase, ConstsPhrase, TypeDeclPhrase, TypeDeclsPhrase, VarIdPhrase, VarPhrase, CommaVarIdsPhrase, VarsPhrase, DeclsPhrase, ProcedurePhrase, ProcessPhrase, DriverPhrase, SectionPhrase, PlainPartsPhrase, FacePartsPhrase, DevicePartsPhrase, ModulePhrase, Rule, ExprBy, Compare, Signed, SimpleBy, Add, TermBy, Multiply, NumberFactor, CharacterFactor, TextFactor, NameFactor, GroupFactor, NotFactor, BitsFactor, NoBits, BitsBy, ElementBy, LastElement, MoreElements, MoreExprs, CallFactor, FieldFactor, IndexFactor, FieldSelector, IndexSelector, NameStatement, IfStatement, WhileStatement, RepeatStatement, LoopStatement, CaseStatement, MoreStatements, CallStatement, AssignStatement, FieldStatement, IndexStatement, AssignTo, FieldTo, IndexTo, MoreElsifs, ElseBody, MoreExits, DoBody, ArmBy, MoreArms, NamedType, ValuesType, ArrayType, RecordType, RangeBy, MoreRanges, FirstId, MoreIds, FieldsBy, NextFields, ConstDecl, TypesDecl, VarDecl, OneConst, ConstsBy, OneType, TypeDeclsBy, OneVarId, AddressBracket, VarBy, MoreVarIds, VarsBy, DeclsBy, OneProcedure, OneProcess, OneDriver, SomeParams, SomeAnswer, ConstSection, VarSection, SectionBy, MoreSections, PlainDecl, PlainProcedure, PlainProcess, PlainInner, FaceDecl, FaceProcedure, DeviceDecl, DeviceProcedure, DeviceDriver, SomeBegun, SomeDefines, SomeUses, PlainInside, InterfaceInside, DeviceInside, PlainWhole, DeviceWhole, first, Take, Sub, Stack, parts, depth_of_first}
use Rattle.mc_tree.specs.ExpressionLaws.{expr-is, compared-is, simple-is, added_term-is, term-is, multiplied_factor-is, number-is, character-is, text-is, designated-is, called-is, group-is, not-is, bits-is, designator-is, field-is, index-is, args-is, elements-is, element-is}
use Rattle.mc_tree.specs.StatementLaws.{assignment-is, call-is, if_statement-is, while_statement-is, repeat_statement-is, loop_statement-is, case_statement-is, body-is, if_-is, elsif-is, while_-is, repeat_-is, loop_-is, exit-is, case_-is, arm-is}
use Rattle.mc_tree.specs.TypeLaws.{named_type-is, values-is, array-is, record-is, fields-is}
use Rattle.mc_tree.specs.ModuleLaws.{plain_module_-is, interface_module-is, device_module-is, plain_module-is, declared-is, procedure-is, process-is, inner_module-is, plain-is}
use Rattle.mc_tree.specs.Phrases.{Assigned, Of, factor_tail, statement_tail, writes, Trees, all, factor_of, statement_of, make, grow_expr_by, grow_simple_by, grow_term_by, grow_bits_by, grow_element_by, grow_arm_by, grow_range_by, grow_fields_by, grow_consts_by, grow_type_decls_by, grow_var_by, grow_vars_by, grow_decls_by, grow_section_by, grow_plain_decl, grow_plain_procedure, grow_plain_process, grow_plain_inner, grow_face_decl, grow_face_procedure, grow_device_decl, grow_device_procedure, grow_device_driver}

pub factor_of-is : (id : Id) (tail : Args ⊎ List Selector) (d : ℕ) (rest : List Leaf)
    → factor (factor_of id tail) d rest ≡ begin (suc d) (Name id.text) id.place (factor_tail tail (suc d) rest)
factor_of-is id (inl x) d rest = called-is id x d rest
factor_of-is id (inr xs) d rest = designated-is (roll-Designator (record { name = id; selectors = xs })) d rest ∙ designator-is id xs d rest

pub statement_of-is : (id : Id) (tail : Option Args ⊎ Assigned) (d : ℕ) (rest : List Leaf)
    → statement (statement_of id tail) d rest ≡ begin (suc d) (Name id.text) id.place (statement_tail tail (suc d) rest)
statement_of-is id (inl x) d rest = call-is id x d rest
statement_of-is id (inr a) d rest =
    assignment-is (roll-Designator (record { name = id; selectors = a.selectors })) a.becomes a.value d rest ∙
    designator-is id a.selectors d (mark Becomes a.becomes (expr a.value (suc d) rest))

grown_expr_by : (d : ℕ) (stack : Stack) (q : Of SimplePhrase × Trees (Sub d ExprTailPhrase ∷ stack))
    → writes ExprPhrase (grow_expr_by d stack q).0 d (all stack (grow_expr_by d stack q).1) ≡ writes SimplePhrase q.0 d (all (Sub d ExprTailPhrase ∷ stack) q.1)
grown_expr_by d stack q = simp (expr-is)

grown_simple_by : (d : ℕ) (stack : Stack) (q : Of TermPhrase × Trees (Sub d SimpleTailPhrase ∷ stack))
    → writes SimplePhrase (grow_simple_by d stack q).0 d (all stack (grow_simple_by d stack q).1) ≡ writes TermPhrase q.0 d (all (Sub d SimpleTailPhrase ∷ stack) q.1)
grown_simple_by d stack q = simp (simple-is)

grown_term_by : (d : ℕ) (stack : Stack) (q : Of FactorPhrase × Trees (Sub d TermTailPhrase ∷ stack))
    → writes TermPhrase (grow_term_by d stack q).0 d (all stack (grow_term_by d stack q).1) ≡ writes FactorPhrase q.0 d (all (Sub d TermTailPhrase ∷ stack) q.1)
grown_term_by d stack q = simp (term-is)

grown_bits_by : (d : ℕ) (stack : Stack) (q : Of ElementPhrase × Trees (Sub d CommaElementsPhrase ∷ Take (SymbolClass RightBracket) ∷ stack))
    → writes BitsTailPhrase (grow_bits_by d stack q).0 d (all stack (grow_bits_by d stack q).1) ≡ writes ElementPhrase q.0 d (all (Sub d CommaElementsPhrase ∷ Take (SymbolClass RightBracket) ∷ stack) q.1)
grown_bits_by d stack q = simp (elements-is)

grown_element_by : (d : ℕ) (stack : Stack) (q : Of ExprPhrase × Trees (Sub d ElementTailPhrase ∷ stack))
    → writes ElementPhrase (grow_element_by d stack q).0 d (all stack (grow_element_by d stack q).1) ≡ writes ExprPhrase q.0 d (all (Sub d ElementTailPhrase ∷ stack) q.1)
grown_element_by d stack q = simp (element-is)

grown_arm_by : (d : ℕ) (stack : Stack) (q : Of ExprPhrase × Trees (Sub d CommaExprsPhrase ∷ Take (SymbolClass Colon) ∷ Take (ReservedClass BeginWord) ∷ Sub d StatementPhrase ∷ Sub d StatementsPhrase ∷ Take (ReservedClass EndWord) ∷ stack))
    → writes ArmPhrase (grow_arm_by d stack q).0 d (all stack (grow_arm_by d stack q).1) ≡ writes ExprPhrase q.0 d (all (Sub d CommaExprsPhrase ∷ Take (SymbolClass Colon) ∷ Take (ReservedClass BeginWord) ∷ Sub d StatementPhrase ∷ Sub d StatementsPhrase ∷ Take (ReservedClass EndWord) ∷ stack) q.1)
grown_arm_by d stack q = simp (arm-is, body-is)

grown_range_by : (d : ℕ) (stack : Stack) (q : Of ExprPhrase × Trees (Take (SymbolClass Colon) ∷ Sub d ExprPhrase ∷ stack))
    → writes RangePhrase (grow_range_by d stack q).0 d (all stack (grow_range_by d stack q).1) ≡ writes ExprPhrase q.0 d (all (Take (SymbolClass Colon) ∷ Sub d ExprPhrase ∷ stack) q.1)
grown_range_by d stack q = refl

grown_fields_by : (d : ℕ) (stack : Stack) (q : Of IdsPhrase × Trees (Take (SymbolClass Colon) ∷ Sub d TypePhrase ∷ stack))
    → writes FieldsPhrase (grow_fields_by d stack q).0 d (all stack (grow_fields_by d stack q).1) ≡ writes IdsPhrase q.0 d (all (Take (SymbolClass Colon) ∷ Sub d TypePhrase ∷ stack) q.1)
grown_fields_by d stack q = simp (fields-is)

grown_consts_by : (d : ℕ) (stack : Stack) (q : Of ConstPhrase × Trees (Sub d ConstsPhrase ∷ stack))
    → writes ConstsPhrase (grow_consts_by d stack q).0 d (all stack (grow_consts_by d stack q).1) ≡ writes ConstPhrase q.0 d (all (Sub d ConstsPhrase ∷ stack) q.1)
grown_consts_by d stack q = refl

grown_type_decls_by : (d : ℕ) (stack : Stack) (q : Of TypeDeclPhrase × Trees (Sub d TypeDeclsPhrase ∷ stack))
    → writes TypeDeclsPhrase (grow_type_decls_by d stack q).0 d (all stack (grow_type_decls_by d stack q).1) ≡ writes TypeDeclPhrase q.0 d (all (Sub d TypeDeclsPhrase ∷ stack) q.1)
grown_type_decls_by d stack q = refl

grown_var_by : (d : ℕ) (stack : Stack) (q : Of VarIdPhrase × Trees (Sub d CommaVarIdsPhrase ∷ Take (SymbolClass Colon) ∷ Sub d TypePhrase ∷ Take (SymbolClass Semicolon) ∷ stack))
    → writes VarPhrase (grow_var_by d stack q).0 d (all stack (grow_var_by d stack q).1) ≡ writes VarIdPhrase q.0 d (all (Sub d CommaVarIdsPhrase ∷ Take (SymbolClass Colon) ∷ Sub d TypePhrase ∷ Take (SymbolClass Semicolon) ∷ stack) q.1)
grown_var_by d stack q = refl

grown_vars_by : (d : ℕ) (stack : Stack) (q : Of VarPhrase × Trees (Sub d VarsPhrase ∷ stack))
    → writes VarsPhrase (grow_vars_by d stack q).0 d (all stack (grow_vars_by d stack q).1) ≡ writes VarPhrase q.0 d (all (Sub d VarsPhrase ∷ stack) q.1)
grown_vars_by d stack q = refl

grown_decls_by : (d : ℕ) (stack : Stack) (q : Of DeclPhrase × Trees (Sub d DeclsPhrase ∷ stack))
    → writes DeclsPhrase (grow_decls_by d stack q).0 d (all stack (grow_decls_by d stack q).1) ≡ writes DeclPhrase q.0 d (all (Sub d DeclsPhrase ∷ stack) q.1)
grown_decls_by d stack q = refl

grown_section_by : (d : ℕ) (stack : Stack) (q : Of IdsPhrase × Trees (Take (SymbolClass Colon) ∷ Take NameClass ∷ stack))
    → writes SectionPhrase (grow_section_by d stack q).0 d (all stack (grow_section_by d stack q).1) ≡ writes IdsPhrase q.0 d (all (Take (SymbolClass Colon) ∷ Take NameClass ∷ stack) q.1)
grown_section_by d stack q = refl

grown_plain_decl : (d : ℕ) (stack : Stack) (q : Of DeclPhrase × Trees (Sub d PlainPartsPhrase ∷ stack))
    → writes PlainPartsPhrase (grow_plain_decl d stack q).0 d (all stack (grow_plain_decl d stack q).1) ≡ writes DeclPhrase q.0 d (all (Sub d PlainPartsPhrase ∷ stack) q.1)
grown_plain_decl d stack q = simp (declared-is)

grown_plain_procedure : (d : ℕ) (stack : Stack) (q : Of ProcedurePhrase × Trees (Sub d PlainPartsPhrase ∷ stack))
    → writes PlainPartsPhrase (grow_plain_procedure d stack q).0 d (all stack (grow_plain_procedure d stack q).1) ≡ writes ProcedurePhrase q.0 d (all (Sub d PlainPartsPhrase ∷ stack) q.1)
grown_plain_procedure d stack q = simp (procedure-is)

grown_plain_process : (d : ℕ) (stack : Stack) (q : Of ProcessPhrase × Trees (Sub d PlainPartsPhrase ∷ stack))
    → writes PlainPartsPhrase (grow_plain_process d stack q).0 d (all stack (grow_plain_process d stack q).1) ≡ writes ProcessPhrase q.0 d (all (Sub d PlainPartsPhrase ∷ stack) q.1)
grown_plain_process d stack q = simp (process-is)

grown_plain_inner : (d : ℕ) (stack : Stack) (q : Of ModulePhrase × Trees (Sub d PlainPartsPhrase ∷ stack))
    → writes PlainPartsPhrase (grow_plain_inner d stack q).0 d (all stack (grow_plain_inner d stack q).1) ≡ writes ModulePhrase q.0 d (all (Sub d PlainPartsPhrase ∷ stack) q.1)
grown_plain_inner d stack q = simp (inner_module-is)

grown_face_decl : (d : ℕ) (stack : Stack) (q : Of DeclPhrase × Trees (Sub d FacePartsPhrase ∷ stack))
    → writes FacePartsPhrase (grow_face_decl d stack q).0 d (all stack (grow_face_decl d stack q).1) ≡ writes DeclPhrase q.0 d (all (Sub d FacePartsPhrase ∷ stack) q.1)
grown_face_decl d stack q = refl

grown_face_procedure : (d : ℕ) (stack : Stack) (q : Of ProcedurePhrase × Trees (Sub d FacePartsPhrase ∷ stack))
    → writes FacePartsPhrase (grow_face_procedure d stack q).0 d (all stack (grow_face_procedure d stack q).1) ≡ writes ProcedurePhrase q.0 d (all (Sub d FacePartsPhrase ∷ stack) q.1)
grown_face_procedure d stack q = refl

grown_device_decl : (d : ℕ) (stack : Stack) (q : Of DeclPhrase × Trees (Sub d DevicePartsPhrase ∷ stack))
    → writes DevicePartsPhrase (grow_device_decl d stack q).0 d (all stack (grow_device_decl d stack q).1) ≡ writes DeclPhrase q.0 d (all (Sub d DevicePartsPhrase ∷ stack) q.1)
grown_device_decl d stack q = refl

grown_device_procedure : (d : ℕ) (stack : Stack) (q : Of ProcedurePhrase × Trees (Sub d DevicePartsPhrase ∷ stack))
    → writes DevicePartsPhrase (grow_device_procedure d stack q).0 d (all stack (grow_device_procedure d stack q).1) ≡ writes ProcedurePhrase q.0 d (all (Sub d DevicePartsPhrase ∷ stack) q.1)
grown_device_procedure d stack q = refl

grown_device_driver : (d : ℕ) (stack : Stack) (q : Of DriverPhrase × Trees (Sub d DevicePartsPhrase ∷ stack))
    → writes DevicePartsPhrase (grow_device_driver d stack q).0 d (all stack (grow_device_driver d stack q).1) ≡ writes DriverPhrase q.0 d (all (Sub d DevicePartsPhrase ∷ stack) q.1)
grown_device_driver d stack q = refl

pub written-make : {phrase : Phrase} (r : Rule phrase) (d : ℕ) (stack : Stack) (v : Data (first r)) (p : Place) (ps : Trees (parts r d stack))
    → writes phrase (make r d stack v p ps).0 d (all stack (make r d stack v p ps).1) ≡ begin (depth_of_first r d) (kind_of (first r) v) p (all (parts r d stack) ps)
written-make (ExprBy r) d stack v p ps = grown_expr_by d stack (make r d (Sub d ExprTailPhrase ∷ stack) v p ps) ∙ written-make r d (Sub d ExprTailPhrase ∷ stack) v p ps
written-make (Compare relation.Equal) d stack v p ps = simp (compared-is)
written-make (Compare relation.Unequal) d stack v p ps = simp (compared-is)
written-make (Compare relation.Less) d stack v p ps = simp (compared-is)
written-make (Compare relation.LessEqual) d stack v p ps = simp (compared-is)
written-make (Compare relation.Greater) d stack v p ps = simp (compared-is)
written-make (Compare relation.GreaterEqual) d stack v p ps = simp (compared-is)
written-make (Signed sign.Plus) d stack v p ps = simp (simple-is)
written-make (Signed sign.Minus) d stack v p ps = simp (simple-is)
written-make (SimpleBy r) d stack v p ps = grown_simple_by d stack (make r d (Sub d SimpleTailPhrase ∷ stack) v p ps) ∙ written-make r d (Sub d SimpleTailPhrase ∷ stack) v p ps
written-make (Add adding.Plus) d stack v p ps = simp (added_term-is)
written-make (Add adding.Minus) d stack v p ps = simp (added_term-is)
written-make (Add adding.Or) d stack v p ps = simp (added_term-is)
written-make (Add adding.Xor) d stack v p ps = simp (added_term-is)
written-make (TermBy r) d stack v p ps = grown_term_by d stack (make r d (Sub d TermTailPhrase ∷ stack) v p ps) ∙ written-make r d (Sub d TermTailPhrase ∷ stack) v p ps
written-make (Multiply multiplying.Times) d stack v p ps = simp (multiplied_factor-is)
written-make (Multiply multiplying.Div) d stack v p ps = simp (multiplied_factor-is)
written-make (Multiply multiplying.Mod) d stack v p ps = simp (multiplied_factor-is)
written-make (Multiply multiplying.And) d stack v p ps = simp (multiplied_factor-is)
written-make NumberFactor d stack v p ps = simp (number-is)
written-make CharacterFactor d stack v p ps = simp (character-is)
written-make TextFactor d stack v p ps = simp (text-is)
written-make NameFactor d stack v p ps = simp (factor_of-is)
written-make GroupFactor d stack v p ps = simp (group-is)
written-make NotFactor d stack v p ps = simp (not-is)
written-make BitsFactor d stack v p ps = simp (bits-is)
written-make NoBits d stack v p ps = refl
written-make (BitsBy r) d stack v p ps = grown_bits_by d stack (make r d (Sub d CommaElementsPhrase ∷ Take (SymbolClass RightBracket) ∷ stack) v p ps) ∙ written-make r d (Sub d CommaElementsPhrase ∷ Take (SymbolClass RightBracket) ∷ stack) v p ps
written-make (ElementBy r) d stack v p ps = grown_element_by d stack (make r d (Sub d ElementTailPhrase ∷ stack) v p ps) ∙ written-make r d (Sub d ElementTailPhrase ∷ stack) v p ps
written-make LastElement d stack v p ps = refl
written-make MoreElements d stack v p ps = refl
written-make MoreExprs d stack v p ps = refl
written-make CallFactor d stack v p ps = simp (args-is)
written-make FieldFactor d stack v p ps = simp (field-is)
written-make IndexFactor d stack v p ps = simp (index-is)
written-make FieldSelector d stack v p ps = simp (field-is)
written-make IndexSelector d stack v p ps = simp (index-is)
written-make NameStatement d stack v p ps = simp (statement_of-is)
written-make IfStatement d stack v p ps = simp (if_statement-is, if_-is, body-is)
written-make WhileStatement d stack v p ps = simp (while_statement-is, while_-is, body-is)
written-make RepeatStatement d stack v p ps = simp (repeat_statement-is, repeat_-is, body-is)
written-make LoopStatement d stack v p ps = simp (loop_statement-is, loop_-is, body-is)
written-make CaseStatement d stack v p ps = simp (case_statement-is, case_-is)
written-make MoreStatements d stack v p ps = refl
written-make CallStatement d stack v p ps = simp (args-is)
written-make AssignStatement d stack v p ps = refl
written-make FieldStatement d stack v p ps = simp (field-is)
written-make IndexStatement d stack v p ps = simp (index-is)
written-make AssignTo d stack v p ps = refl
written-make FieldTo d stack v p ps = simp (field-is)
written-make IndexTo d stack v p ps = simp (index-is)
written-make MoreElsifs d stack v p ps = simp (elsif-is, body-is)
written-make ElseBody d stack v p ps = simp (body-is)
written-make MoreExits d stack v p ps = simp (exit-is, body-is)
written-make DoBody d stack v p ps = simp (body-is)
written-make (ArmBy r) d stack v p ps = grown_arm_by d stack (make r d (Sub d CommaExprsPhrase ∷ Take (SymbolClass Colon) ∷ Take (ReservedClass BeginWord) ∷ Sub d StatementPhrase ∷ Sub d StatementsPhrase ∷ Take (ReservedClass EndWord) ∷ stack) v p ps) ∙ written-make r d (Sub d CommaExprsPhrase ∷ Take (SymbolClass Colon) ∷ Take (ReservedClass BeginWord) ∷ Sub d StatementPhrase ∷ Sub d StatementsPhrase ∷ Take (ReservedClass EndWord) ∷ stack) v p ps
written-make MoreArms d stack v p ps = refl
written-make NamedType d stack v p ps = simp (named_type-is)
written-make ValuesType d stack v p ps = simp (values-is)
written-make ArrayType d stack v p ps = simp (array-is)
written-make RecordType d stack v p ps = simp (record-is)
written-make (RangeBy r) d stack v p ps = grown_range_by d stack (make r d (Take (SymbolClass Colon) ∷ Sub d ExprPhrase ∷ stack) v p ps) ∙ written-make r d (Take (SymbolClass Colon) ∷ Sub d ExprPhrase ∷ stack) v p ps
written-make MoreRanges d stack v p ps = refl
written-make FirstId d stack v p ps = refl
written-make MoreIds d stack v p ps = refl
written-make (FieldsBy r) d stack v p ps = grown_fields_by d stack (make r d (Take (SymbolClass Colon) ∷ Sub d TypePhrase ∷ stack) v p ps) ∙ written-make r d (Take (SymbolClass Colon) ∷ Sub d TypePhrase ∷ stack) v p ps
written-make NextFields d stack v p ps = refl
written-make ConstDecl d stack v p ps = refl
written-make TypesDecl d stack v p ps = refl
written-make VarDecl d stack v p ps = refl
written-make OneConst d stack v p ps = refl
written-make (ConstsBy r) d stack v p ps = grown_consts_by d stack (make r d (Sub d ConstsPhrase ∷ stack) v p ps) ∙ written-make r d (Sub d ConstsPhrase ∷ stack) v p ps
written-make OneType d stack v p ps = refl
written-make (TypeDeclsBy r) d stack v p ps = grown_type_decls_by d stack (make r d (Sub d TypeDeclsPhrase ∷ stack) v p ps) ∙ written-make r d (Sub d TypeDeclsPhrase ∷ stack) v p ps
written-make OneVarId d stack v p ps = refl
written-make AddressBracket d stack v p ps = refl
written-make (VarBy r) d stack v p ps = grown_var_by d stack (make r d (Sub d CommaVarIdsPhrase ∷ Take (SymbolClass Colon) ∷ Sub d TypePhrase ∷ Take (SymbolClass Semicolon) ∷ stack) v p ps) ∙ written-make r d (Sub d CommaVarIdsPhrase ∷ Take (SymbolClass Colon) ∷ Sub d TypePhrase ∷ Take (SymbolClass Semicolon) ∷ stack) v p ps
written-make MoreVarIds d stack v p ps = refl
written-make (VarsBy r) d stack v p ps = grown_vars_by d stack (make r d (Sub d VarsPhrase ∷ stack) v p ps) ∙ written-make r d (Sub d VarsPhrase ∷ stack) v p ps
written-make (DeclsBy r) d stack v p ps = grown_decls_by d stack (make r d (Sub d DeclsPhrase ∷ stack) v p ps) ∙ written-make r d (Sub d DeclsPhrase ∷ stack) v p ps
written-make OneProcedure d stack v p ps = simp (body-is)
written-make OneProcess d stack v p ps = simp (body-is)
written-make OneDriver d stack v p ps = simp (body-is)
written-make SomeParams d stack v p ps = refl
written-make SomeAnswer d stack v p ps = refl
written-make ConstSection d stack v p ps = refl
written-make VarSection d stack v p ps = refl
written-make (SectionBy r) d stack v p ps = grown_section_by d stack (make r d (Take (SymbolClass Colon) ∷ Take NameClass ∷ stack) v p ps) ∙ written-make r d (Take (SymbolClass Colon) ∷ Take NameClass ∷ stack) v p ps
written-make MoreSections d stack v p ps = refl
written-make (PlainDecl r) d stack v p ps = grown_plain_decl d stack (make r d (Sub d PlainPartsPhrase ∷ stack) v p ps) ∙ written-make r d (Sub d PlainPartsPhrase ∷ stack) v p ps
written-make (PlainProcedure r) d stack v p ps = grown_plain_procedure d stack (make r d (Sub d PlainPartsPhrase ∷ stack) v p ps) ∙ written-make r d (Sub d PlainPartsPhrase ∷ stack) v p ps
written-make (PlainProcess r) d stack v p ps = grown_plain_process d stack (make r d (Sub d PlainPartsPhrase ∷ stack) v p ps) ∙ written-make r d (Sub d PlainPartsPhrase ∷ stack) v p ps
written-make (PlainInner r) d stack v p ps = grown_plain_inner d stack (make r d (Sub d PlainPartsPhrase ∷ stack) v p ps) ∙ written-make r d (Sub d PlainPartsPhrase ∷ stack) v p ps
written-make (FaceDecl r) d stack v p ps = grown_face_decl d stack (make r d (Sub d FacePartsPhrase ∷ stack) v p ps) ∙ written-make r d (Sub d FacePartsPhrase ∷ stack) v p ps
written-make (FaceProcedure r) d stack v p ps = grown_face_procedure d stack (make r d (Sub d FacePartsPhrase ∷ stack) v p ps) ∙ written-make r d (Sub d FacePartsPhrase ∷ stack) v p ps
written-make (DeviceDecl r) d stack v p ps = grown_device_decl d stack (make r d (Sub d DevicePartsPhrase ∷ stack) v p ps) ∙ written-make r d (Sub d DevicePartsPhrase ∷ stack) v p ps
written-make (DeviceProcedure r) d stack v p ps = grown_device_procedure d stack (make r d (Sub d DevicePartsPhrase ∷ stack) v p ps) ∙ written-make r d (Sub d DevicePartsPhrase ∷ stack) v p ps
written-make (DeviceDriver r) d stack v p ps = grown_device_driver d stack (make r d (Sub d DevicePartsPhrase ∷ stack) v p ps) ∙ written-make r d (Sub d DevicePartsPhrase ∷ stack) v p ps
written-make SomeBegun d stack v p ps = simp (body-is)
written-make SomeDefines d stack v p ps = refl
written-make SomeUses d stack v p ps = refl
written-make PlainInside d stack v p ps = simp (plain_module_-is, plain_module-is, plain-is)
written-make InterfaceInside d stack v p ps = simp (interface_module-is)
written-make DeviceInside d stack v p ps = simp (device_module-is)
written-make PlainWhole d stack v p ps = simp (plain-is)
written-make DeviceWhole d stack v p ps = refl
