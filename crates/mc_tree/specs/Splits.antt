-- Every tree of a phrase is made by one of its rules, or writes nothing.
use Rattle.std.specs.Prelude.{◌≡◌, ℕ, List, [], ◌∷◌, Option, Some, None, ◌⊎◌, true, refl}
use Rattle.std.proofs.Common.{ap, ◌∙◌, inl, inr, subst}
use Rattle.mc_tree.specs.declared.place.Place.{Place}
use Rattle.mc_tree.specs.declared.token.Reserved.TheVariants.{BeginWord, EndWord}
use Rattle.mc_tree.specs.declared.token.Symbol.TheVariants.{RightBracket, Semicolon, Colon}
use Rattle.mc_tree.specs.declared.expression.Adding.{Adding}
use Rattle.mc_tree.specs.declared.expression.Multiplying.{Multiplying}
use Rattle.mc_tree.specs.declared.tree.Mode.{Mode}
use Rattle.mc_tree.specs.declared.expression.Sign.{Sign}
use Rattle.mc_tree.specs.declared.expression.Adding.TheVariants as adding
use Rattle.mc_tree.specs.declared.expression.Multiplying.TheVariants as multiplying
use Rattle.mc_tree.specs.declared.expression.Factor.{Factor}
use Rattle.mc_tree.specs.declared.expression.Selector.{Selector}
use Rattle.mc_tree.specs.declared.expression.AddedTerm.{AddedTerm}
use Rattle.mc_tree.specs.declared.expression.Args.{Args}
use Rattle.mc_tree.specs.declared.expression.Compared.{Compared}
use Rattle.mc_tree.specs.declared.expression.Designator.{Designator}
use Rattle.mc_tree.specs.declared.expression.Element.{Element}
use Rattle.mc_tree.specs.declared.expression.Elements.{Elements}
use Rattle.mc_tree.specs.declared.expression.Expr.{Expr}
use Rattle.mc_tree.specs.declared.expression.MultipliedFactor.{MultipliedFactor}
use Rattle.mc_tree.specs.declared.expression.Simple.{Simple}
use Rattle.mc_tree.specs.declared.expression.Term.{Term}
use Rattle.mc_tree.specs.declared.statement.Statement.{Statement}
use Rattle.mc_tree.specs.declared.statement.Arm.{Arm}
use Rattle.mc_tree.specs.declared.statement.Body.{Body}
use Rattle.mc_tree.specs.declared.statement.Case.{Case}
use Rattle.mc_tree.specs.declared.statement.Elsif.{Elsif}
use Rattle.mc_tree.specs.declared.statement.Exit.{Exit}
use Rattle.mc_tree.specs.declared.statement.If.{If}
use Rattle.mc_tree.specs.declared.statement.Loop.{Loop}
use Rattle.mc_tree.specs.declared.statement.Repeat.{Repeat}
use Rattle.mc_tree.specs.declared.statement.While.{While}
use Rattle.mc_tree.specs.declared.tree.TypeTree.{TypeTree}
use Rattle.mc_tree.specs.declared.tree.Fields.{Fields}
use Rattle.mc_tree.specs.declared.tree.Range.{Range}
use Rattle.mc_tree.specs.declared.tree.Ids.{Ids}
use Rattle.mc_tree.specs.declared.tree.Const.{Const}
use Rattle.mc_tree.specs.declared.tree.TypeDecl.{TypeDecl}
use Rattle.mc_tree.specs.declared.tree.Var.{Var}
use Rattle.mc_tree.specs.declared.tree.VarId.{VarId}
use Rattle.mc_tree.specs.declared.tree.Decl.{Decl}
use Rattle.mc_tree.specs.declared.tree.Procedure.{Procedure}
use Rattle.mc_tree.specs.declared.tree.Process.{Process}
use Rattle.mc_tree.specs.declared.tree.Driver.{Driver}
use Rattle.mc_tree.specs.declared.tree.Section.{Section}
use Rattle.mc_tree.specs.declared.tree.Module.{Module}
use Rattle.mc_tree.specs.declared.tree.PlainPart.{PlainPart}
use Rattle.mc_tree.specs.declared.tree.Plain.{Plain}
use Rattle.mc_tree.specs.declared.tree.PlainModule.{PlainModule}
use Rattle.mc_tree.specs.declared.tree.FacePart.{FacePart}
use Rattle.mc_tree.specs.declared.tree.DevicePart.{DevicePart}
use Rattle.mc_tree.specs.declared.tree.Tree.{Tree}
use Rattle.mc_tree.specs.declared.tree.Id.{Id}
use Rattle.mc_tree.specs.declared.tree.Decl.TheVariants as decl
use Rattle.mc_tree.specs.declared.tree.Mode.TheVariants as mode
use Rattle.mc_tree.specs.declared.tree.FacePart.TheVariants as face_part
use Rattle.mc_tree.specs.declared.tree.DevicePart.TheVariants as device_part
use Rattle.mc_tree.specs.declared.tree.Tree.TheVariants as tree
use Rattle.mc_tree.specs.declared.expression.Factor.TheOpen.{Factor-F, Selector-F}
use Rattle.mc_tree.specs.declared.statement.Statement.TheOpen.{Statement-F}
use Rattle.mc_tree.specs.declared.tree.TypeTree.TheOpen.{TypeTree-F}
use Rattle.mc_tree.specs.declared.tree.Module.TheOpen.{Module-F, PlainPart-F}
use Rattle.mc_tree.specs.declared.expression.Factor.TheViews.{roll-Factor, out-Factor, roll-out-Factor, roll-Selector, out-Selector, roll-out-Selector, roll-AddedTerm, out-AddedTerm, roll-out-AddedTerm, out-Args, roll-out-Args, out-Compared, roll-out-Compared, out-Designator, roll-out-Designator, out-Element, roll-out-Element, out-Elements, roll-out-Elements, out-Expr, roll-out-Expr, roll-MultipliedFactor, out-MultipliedFactor, roll-out-MultipliedFactor, roll-Simple, out-Simple, roll-out-Simple, out-Term, roll-out-Term}
use Rattle.mc_tree.specs.declared.statement.Statement.TheViews.{roll-Statement, out-Statement, roll-out-Statement, roll-Arm, out-Arm, roll-out-Arm, out-Body, roll-out-Body, out-Case, roll-out-Case, roll-Elsif, out-Elsif, roll-out-Elsif, roll-Exit, out-Exit, roll-out-Exit, roll-If, out-If, roll-out-If, roll-Loop, out-Loop, roll-out-Loop, roll-Repeat, out-Repeat, roll-out-Repeat, roll-While, out-While, roll-out-While}
use Rattle.mc_tree.specs.declared.tree.TypeTree.TheViews.{roll-TypeTree, out-TypeTree, roll-out-TypeTree, out-Fields, roll-out-Fields}
use Rattle.mc_tree.specs.declared.tree.Module.TheViews.{roll-Module, out-Module, roll-out-Module, roll-PlainPart, out-PlainPart, roll-out-PlainPart, out-Plain, roll-out-Plain, roll-PlainModule, out-PlainModule, roll-out-PlainModule}
use Rattle.mc_tree.specs.Leaves.{Leaf}
use Rattle.mc_tree.specs.Classes.{ReservedClass, NameClass, SymbolClass, Data}
use Rattle.mc_tree.specs.Grammar.{Phrase, ExprPhrase, ExprTailPhrase, SimplePhrase, SimpleTailPhrase, TermPhrase, TermTailPhrase, FactorPhrase, BitsTailPhrase, ElementPhrase, ElementTailPhrase, CommaElementsPhrase, CommaExprsPhrase, FactorTailPhrase, SelectorsPhrase, StatementPhrase, StatementsPhrase, StatementTailPhrase, AssigningPhrase, ElsifsPhrase, ElsePhrase, ExitsPhrase, LastBodyPhrase, ArmPhrase, ArmsPhrase, TypePhrase, RangePhrase, CommaRangesPhrase, IdsPhrase, CommaIdsPhrase, FieldsPhrase, MoreFieldsPhrase, DeclPhrase, ConstPhrase, ConstsPhrase, TypeDeclPhrase, TypeDeclsPhrase, VarIdPhrase, AddressPhrase, VarPhrase, CommaVarIdsPhrase, VarsPhrase, DeclsPhrase, ProcedurePhrase, ProcessPhrase, DriverPhrase, ParamsPhrase, AnswerPhrase, SectionPhrase, SectionsPhrase, PlainPartsPhrase, FacePartsPhrase, DevicePartsPhrase, BegunPhrase, DefinesPhrase, UsesPhrase, ModulePhrase, ProgramPhrase, Rule, ExprBy, Compare, Signed, SimpleBy, Add, TermBy, Multiply, NumberFactor, CharacterFactor, TextFactor, NameFactor, GroupFactor, NotFactor, BitsFactor, NoBits, BitsBy, ElementBy, LastElement, MoreElements, MoreExprs, CallFactor, FieldFactor, IndexFactor, FieldSelector, IndexSelector, NameStatement, IfStatement, WhileStatement, RepeatStatement, LoopStatement, CaseStatement, MoreStatements, CallStatement, AssignStatement, FieldStatement, IndexStatement, AssignTo, FieldTo, IndexTo, MoreElsifs, ElseBody, MoreExits, DoBody, ArmBy, MoreArms, NamedType, ValuesType, ArrayType, RecordType, RangeBy, MoreRanges, FirstId, MoreIds, FieldsBy, NextFields, ConstDecl, TypesDecl, VarDecl, OneConst, ConstsBy, OneType, TypeDeclsBy, OneVarId, AddressBracket, VarBy, MoreVarIds, VarsBy, DeclsBy, OneProcedure, OneProcess, OneDriver, SomeParams, SomeAnswer, ConstSection, VarSection, SectionBy, MoreSections, PlainDecl, PlainProcedure, PlainProcess, PlainInner, FaceDecl, FaceProcedure, DeviceDecl, DeviceProcedure, DeviceDriver, SomeBegun, SomeDefines, SomeUses, PlainInside, InterfaceInside, DeviceInside, PlainWhole, DeviceWhole, first, Slot, Take, Sub, Stack, parts, depth_of_first, may_be_empty}
use Rattle.mc_tree.specs.StatementLaws.{empty-is}
use Rattle.mc_tree.specs.Phrases.{Of, writes, Trees, make, grow_expr_by, grow_simple_by, grow_term_by, grow_bits_by, grow_element_by, grow_arm_by, grow_range_by, grow_fields_by, grow_consts_by, grow_type_decls_by, grow_var_by, grow_vars_by, grow_decls_by, grow_section_by, grow_plain_decl, grow_plain_procedure, grow_plain_process, grow_plain_inner, grow_face_decl, grow_face_procedure, grow_device_decl, grow_device_procedure, grow_device_driver}

-- a tree, with the trees behind it, that a rule makes
pub record Made (phrase : Phrase) (d : ℕ) (stack : Stack) (ts : Of phrase × Trees stack) : Type 0 where
  pub rule : Rule phrase
  pub value : Data (first rule)
  pub place : Place
  pub parts : Trees (Rattle.mc_tree.specs.Grammar.parts rule d stack)
  pub is : make rule d stack value place parts ≡ ts

-- the tree of a phrase without tokens
abbrev pub empty : (phrase : Phrase) → Option (Of phrase)
empty ExprTailPhrase = Some None
empty SimpleTailPhrase = Some []
empty TermTailPhrase = Some []
empty ElementTailPhrase = Some None
empty CommaElementsPhrase = Some []
empty CommaExprsPhrase = Some []
empty FactorTailPhrase = Some (inr [])
empty SelectorsPhrase = Some []
empty StatementPhrase = Some (roll-Statement Statement-F.Empty)
empty StatementsPhrase = Some []
empty StatementTailPhrase = Some (inl None)
empty ElsifsPhrase = Some []
empty ElsePhrase = Some None
empty ExitsPhrase = Some []
empty LastBodyPhrase = Some None
empty ArmsPhrase = Some []
empty CommaRangesPhrase = Some []
empty CommaIdsPhrase = Some []
empty MoreFieldsPhrase = Some []
empty ConstsPhrase = Some []
empty TypeDeclsPhrase = Some []
empty AddressPhrase = Some None
empty CommaVarIdsPhrase = Some []
empty VarsPhrase = Some []
empty DeclsPhrase = Some []
empty ParamsPhrase = Some None
empty AnswerPhrase = Some None
empty SectionsPhrase = Some []
empty PlainPartsPhrase = Some []
empty FacePartsPhrase = Some []
empty DevicePartsPhrase = Some []
empty BegunPhrase = Some None
empty DefinesPhrase = Some None
empty UsesPhrase = Some None
empty _ = None

pub record IsEmpty (phrase : Phrase) (x : Of phrase) : Type 0 where
  pub may : may_be_empty phrase ≡ true
  pub is : empty phrase ≡ Some x
  pub nothing : (d : ℕ) (rest : List Leaf) → writes phrase x d rest ≡ rest

abbrev pub Split : (phrase : Phrase) (d : ℕ) (stack : Stack) → Of phrase → Trees stack → Type 0
Split phrase d stack x ks = Made phrase d stack (x, ks) ⊎ IsEmpty phrase x

made_factor_layer : (d : ℕ) (stack : Stack) (y : Factor-F Factor Selector AddedTerm Args Compared Designator Element Elements Expr MultipliedFactor Simple Term) (ks : Trees stack) → Made FactorPhrase d stack (roll-Factor y, ks)
made_factor_layer d stack (Factor-F.Number value place) ks = record { rule = NumberFactor; value = value; place = place; parts = ks; is = refl }
made_factor_layer d stack (Factor-F.Character value place) ks = record { rule = CharacterFactor; value = value; place = place; parts = ks; is = refl }
made_factor_layer d stack (Factor-F.Text text place) ks = record { rule = TextFactor; value = text; place = place; parts = ks; is = refl }
made_factor_layer d stack (Factor-F.Designator x) ks = record { rule = NameFactor; value = (out-Designator x).name.text; place = (out-Designator x).name.place; parts = (inr (out-Designator x).selectors, ks); is = ap (λ (z : Designator). (roll-Factor (Factor-F.Designator z), ks)) (roll-out-Designator x) }
made_factor_layer d stack (Factor-F.Call id x) ks = record { rule = NameFactor; value = id.text; place = id.place; parts = (inl x, ks); is = refl }
made_factor_layer d stack (Factor-F.Group opening inner closing) ks = record { rule = GroupFactor; value = tt; place = opening; parts = (inner, ((tt, closing), ks)); is = refl }
made_factor_layer d stack (Factor-F.Not place inner) ks = record { rule = NotFactor; value = tt; place = place; parts = (inner, ks); is = refl }
made_factor_layer d stack (Factor-F.Bits opening inside closing) ks = record { rule = BitsFactor; value = tt; place = opening; parts = ((inside, closing), ks); is = refl }

made_factor : (d : ℕ) (stack : Stack) (x : Factor) (ks : Trees stack) → Made FactorPhrase d stack (x, ks)
made_factor d stack x ks = subst (λ (z : Factor). Made FactorPhrase d stack (z, ks)) (roll-out-Factor x) (made_factor_layer d stack (out-Factor x) ks)

made_term : (d : ℕ) (stack : Stack) (x : Term) (ks : Trees stack) → Made TermPhrase d stack (x, ks)
made_term d stack x ks = let m = made_factor d (Sub d TermTailPhrase ∷ stack) (out-Term x).first ((out-Term x).more, ks) in record { rule = TermBy m.rule; value = m.value; place = m.place; parts = m.parts; is = ap (grow_term_by d stack) m.is ∙ ap (λ (z : Term). (z, ks)) (roll-out-Term x) }

made_simple_parts : (d : ℕ) (stack : Stack) (sign_ : Option (Sign × Place)) (t : Term) (more : List AddedTerm) (ks : Trees stack) → Made SimplePhrase d stack (roll-Simple (record { sign = sign_; first = t; more = more }), ks)
made_simple_parts d stack None t more ks = let m = made_term d (Sub d SimpleTailPhrase ∷ stack) t (more, ks) in record { rule = SimpleBy m.rule; value = m.value; place = m.place; parts = m.parts; is = ap (grow_simple_by d stack) m.is }
made_simple_parts d stack (Some s) t more ks = record { rule = Signed s.0; value = tt; place = s.1; parts = (t, (more, ks)); is = refl }

made_simple : (d : ℕ) (stack : Stack) (x : Simple) (ks : Trees stack) → Made SimplePhrase d stack (x, ks)
made_simple d stack x ks = subst (λ (z : Simple). Made SimplePhrase d stack (z, ks)) (roll-out-Simple x) (made_simple_parts d stack (out-Simple x).sign (out-Simple x).first (out-Simple x).more ks)

made_expr : (d : ℕ) (stack : Stack) (x : Expr) (ks : Trees stack) → Made ExprPhrase d stack (x, ks)
made_expr d stack x ks = let m = made_simple d (Sub d ExprTailPhrase ∷ stack) (out-Expr x).left ((out-Expr x).compared, ks) in record { rule = ExprBy m.rule; value = m.value; place = m.place; parts = m.parts; is = ap (grow_expr_by d stack) m.is ∙ ap (λ (z : Expr). (z, ks)) (roll-out-Expr x) }

made_compared : (d : ℕ) (stack : Stack) (x : Compared) (ks : Trees stack) → Made ExprTailPhrase d stack (Some x, ks)
made_compared d stack x ks = record { rule = Compare (out-Compared x).relation; value = tt; place = (out-Compared x).place; parts = ((out-Compared x).right, ks); is = ap (λ (z : Compared). (Some z, ks)) (roll-out-Compared x) }

made_added_term_parts : (d : ℕ) (stack : Stack) (op : Adding) (place : Place) (t : Term) (more : List AddedTerm) (ks : Trees stack) → Made SimpleTailPhrase d stack (roll-AddedTerm (record { operator = op; place = place; term = t }) ∷ more, ks)
made_added_term_parts d stack adding.Plus place t more ks = record { rule = Add adding.Plus; value = tt; place = place; parts = (t, (more, ks)); is = refl }
made_added_term_parts d stack adding.Minus place t more ks = record { rule = Add adding.Minus; value = tt; place = place; parts = (t, (more, ks)); is = refl }
made_added_term_parts d stack adding.Or place t more ks = record { rule = Add adding.Or; value = tt; place = place; parts = (t, (more, ks)); is = refl }
made_added_term_parts d stack adding.Xor place t more ks = record { rule = Add adding.Xor; value = tt; place = place; parts = (t, (more, ks)); is = refl }

made_added_term : (d : ℕ) (stack : Stack) (x : AddedTerm) (more : List AddedTerm) (ks : Trees stack) → Made SimpleTailPhrase d stack (x ∷ more, ks)
made_added_term d stack x more ks = subst (λ (z : AddedTerm). Made SimpleTailPhrase d stack (z ∷ more, ks)) (roll-out-AddedTerm x) (made_added_term_parts d stack (out-AddedTerm x).operator (out-AddedTerm x).place (out-AddedTerm x).term more ks)

made_multiplied_factor_parts : (d : ℕ) (stack : Stack) (op : Multiplying) (place : Place) (t : Factor) (more : List MultipliedFactor) (ks : Trees stack) → Made TermTailPhrase d stack (roll-MultipliedFactor (record { operator = op; place = place; factor = t }) ∷ more, ks)
made_multiplied_factor_parts d stack multiplying.Times place t more ks = record { rule = Multiply multiplying.Times; value = tt; place = place; parts = (t, (more, ks)); is = refl }
made_multiplied_factor_parts d stack multiplying.Div place t more ks = record { rule = Multiply multiplying.Div; value = tt; place = place; parts = (t, (more, ks)); is = refl }
made_multiplied_factor_parts d stack multiplying.Mod place t more ks = record { rule = Multiply multiplying.Mod; value = tt; place = place; parts = (t, (more, ks)); is = refl }
made_multiplied_factor_parts d stack multiplying.And place t more ks = record { rule = Multiply multiplying.And; value = tt; place = place; parts = (t, (more, ks)); is = refl }

made_multiplied_factor : (d : ℕ) (stack : Stack) (x : MultipliedFactor) (more : List MultipliedFactor) (ks : Trees stack) → Made TermTailPhrase d stack (x ∷ more, ks)
made_multiplied_factor d stack x more ks = subst (λ (z : MultipliedFactor). Made TermTailPhrase d stack (z ∷ more, ks)) (roll-out-MultipliedFactor x) (made_multiplied_factor_parts d stack (out-MultipliedFactor x).operator (out-MultipliedFactor x).place (out-MultipliedFactor x).factor more ks)

made_element : (d : ℕ) (stack : Stack) (x : Element) (ks : Trees stack) → Made ElementPhrase d stack (x, ks)
made_element d stack x ks = let m = made_expr d (Sub d ElementTailPhrase ∷ stack) (out-Element x).first ((out-Element x).last, ks) in record { rule = ElementBy m.rule; value = m.value; place = m.place; parts = m.parts; is = ap (grow_element_by d stack) m.is ∙ ap (λ (z : Element). (z, ks)) (roll-out-Element x) }

made_bits : (d : ℕ) (stack : Stack) (x : Option Elements) (closing : Place) (ks : Trees stack) → Made BitsTailPhrase d stack ((x, closing), ks)
made_bits d stack None closing ks = record { rule = NoBits; value = tt; place = closing; parts = ks; is = refl }
made_bits d stack (Some x) closing ks = let m = made_element d (Sub d CommaElementsPhrase ∷ Take (SymbolClass RightBracket) ∷ stack) (out-Elements x).first ((out-Elements x).more, ((tt, closing), ks)) in record { rule = BitsBy m.rule; value = m.value; place = m.place; parts = m.parts; is = ap (grow_bits_by d stack) m.is ∙ ap (λ (z : Elements). ((Some z, closing), ks)) (roll-out-Elements x) }

made_selectors_layer : (d : ℕ) (stack : Stack) (y : Selector-F Factor Selector AddedTerm Args Compared Designator Element Elements Expr MultipliedFactor Simple Term) (more : List Selector) (ks : Trees stack) → Made SelectorsPhrase d stack (roll-Selector y ∷ more, ks)
made_selectors_layer d stack (Selector-F.Field dot id) more ks = record { rule = FieldSelector; value = tt; place = dot; parts = ((id.text, id.place), (more, ks)); is = refl }
made_selectors_layer d stack (Selector-F.Index opening x xs closing) more ks = record { rule = IndexSelector; value = tt; place = opening; parts = (x, (xs, ((tt, closing), (more, ks)))); is = refl }

made_selectors : (d : ℕ) (stack : Stack) (s : Selector) (more : List Selector) (ks : Trees stack) → Made SelectorsPhrase d stack (s ∷ more, ks)
made_selectors d stack s more ks = subst (λ (z : Selector). Made SelectorsPhrase d stack (z ∷ more, ks)) (roll-out-Selector s) (made_selectors_layer d stack (out-Selector s) more ks)

made_factor_selectors_layer : (d : ℕ) (stack : Stack) (y : Selector-F Factor Selector AddedTerm Args Compared Designator Element Elements Expr MultipliedFactor Simple Term) (more : List Selector) (ks : Trees stack) → Made FactorTailPhrase d stack (inr (roll-Selector y ∷ more), ks)
made_factor_selectors_layer d stack (Selector-F.Field dot id) more ks = record { rule = FieldFactor; value = tt; place = dot; parts = ((id.text, id.place), (more, ks)); is = refl }
made_factor_selectors_layer d stack (Selector-F.Index opening x xs closing) more ks = record { rule = IndexFactor; value = tt; place = opening; parts = (x, (xs, ((tt, closing), (more, ks)))); is = refl }

made_factor_selectors : (d : ℕ) (stack : Stack) (s : Selector) (more : List Selector) (ks : Trees stack) → Made FactorTailPhrase d stack (inr (s ∷ more), ks)
made_factor_selectors d stack s more ks = subst (λ (z : Selector). Made FactorTailPhrase d stack (inr (z ∷ more), ks)) (roll-out-Selector s) (made_factor_selectors_layer d stack (out-Selector s) more ks)

made_assigned_selectors_layer : (d : ℕ) (stack : Stack) (y : Selector-F Factor Selector AddedTerm Args Compared Designator Element Elements Expr MultipliedFactor Simple Term) (more : List Selector) (becomes : Place) (value : Expr) (ks : Trees stack) → Made AssigningPhrase d stack (record { selectors = roll-Selector y ∷ more; becomes = becomes; value = value }, ks)
made_assigned_selectors_layer d stack (Selector-F.Field dot id) more becomes value ks = record { rule = FieldTo; value = tt; place = dot; parts = ((id.text, id.place), ((record { selectors = more; becomes = becomes; value = value }), ks)); is = refl }
made_assigned_selectors_layer d stack (Selector-F.Index opening x xs closing) more becomes value ks = record { rule = IndexTo; value = tt; place = opening; parts = (x, (xs, ((tt, closing), ((record { selectors = more; becomes = becomes; value = value }), ks)))); is = refl }

made_assigned_selectors : (d : ℕ) (stack : Stack) (s : Selector) (more : List Selector) (becomes : Place) (value : Expr) (ks : Trees stack) → Made AssigningPhrase d stack (record { selectors = s ∷ more; becomes = becomes; value = value }, ks)
made_assigned_selectors d stack s more becomes value ks = subst (λ (z : Selector). Made AssigningPhrase d stack (record { selectors = z ∷ more; becomes = becomes; value = value }, ks)) (roll-out-Selector s) (made_assigned_selectors_layer d stack (out-Selector s) more becomes value ks)

made_statement_selectors_layer : (d : ℕ) (stack : Stack) (y : Selector-F Factor Selector AddedTerm Args Compared Designator Element Elements Expr MultipliedFactor Simple Term) (more : List Selector) (becomes : Place) (value : Expr) (ks : Trees stack) → Made StatementTailPhrase d stack (inr (record { selectors = roll-Selector y ∷ more; becomes = becomes; value = value }), ks)
made_statement_selectors_layer d stack (Selector-F.Field dot id) more becomes value ks = record { rule = FieldStatement; value = tt; place = dot; parts = ((id.text, id.place), ((record { selectors = more; becomes = becomes; value = value }), ks)); is = refl }
made_statement_selectors_layer d stack (Selector-F.Index opening x xs closing) more becomes value ks = record { rule = IndexStatement; value = tt; place = opening; parts = (x, (xs, ((tt, closing), ((record { selectors = more; becomes = becomes; value = value }), ks)))); is = refl }

made_statement_selectors : (d : ℕ) (stack : Stack) (s : Selector) (more : List Selector) (becomes : Place) (value : Expr) (ks : Trees stack) → Made StatementTailPhrase d stack (inr (record { selectors = s ∷ more; becomes = becomes; value = value }), ks)
made_statement_selectors d stack s more becomes value ks = subst (λ (z : Selector). Made StatementTailPhrase d stack (inr (record { selectors = z ∷ more; becomes = becomes; value = value }), ks)) (roll-out-Selector s) (made_statement_selectors_layer d stack (out-Selector s) more becomes value ks)

made_call : (d : ℕ) (stack : Stack) (x : Args) (ks : Trees stack) → Made FactorTailPhrase d stack (inl x, ks)
made_call d stack x ks = record { rule = CallFactor; value = tt; place = (out-Args x).opening; parts = ((out-Args x).first, ((out-Args x).more, ((tt, (out-Args x).closing), ks))); is = ap (λ (z : Args). (inl z, ks)) (roll-out-Args x) }

made_statement_call : (d : ℕ) (stack : Stack) (x : Args) (ks : Trees stack) → Made StatementTailPhrase d stack (inl (Some x), ks)
made_statement_call d stack x ks = record { rule = CallStatement; value = tt; place = (out-Args x).opening; parts = ((out-Args x).first, ((out-Args x).more, ((tt, (out-Args x).closing), ks))); is = ap (λ (z : Args). (inl (Some z), ks)) (roll-out-Args x) }

made_assigned_parts : (d : ℕ) (stack : Stack) (xs : List Selector) (becomes : Place) (value : Expr) (ks : Trees stack) → Made AssigningPhrase d stack (record { selectors = xs; becomes = becomes; value = value }, ks)
made_assigned_parts d stack [] becomes value ks = record { rule = AssignTo; value = tt; place = becomes; parts = (value, ks); is = refl }
made_assigned_parts d stack (s ∷ more) becomes value ks = made_assigned_selectors d stack s more becomes value ks

made_assigned_statement : (d : ℕ) (stack : Stack) (xs : List Selector) (becomes : Place) (value : Expr) (ks : Trees stack) → Made StatementTailPhrase d stack (inr (record { selectors = xs; becomes = becomes; value = value }), ks)
made_assigned_statement d stack [] becomes value ks = record { rule = AssignStatement; value = tt; place = becomes; parts = (value, ks); is = refl }
made_assigned_statement d stack (s ∷ more) becomes value ks = made_statement_selectors d stack s more becomes value ks

split_statement_layer : (d : ℕ) (stack : Stack) (y : Statement-F Statement Arm Body Case Elsif Exit If Loop Repeat While) (ks : Trees stack) → Split StatementPhrase d stack (roll-Statement y) ks
split_statement_layer d stack Statement-F.Empty ks = inr (record { may = refl; is = refl; nothing = empty-is })
split_statement_layer d stack (Statement-F.Assignment x becomes value) ks = inl (record { rule = NameStatement; value = (out-Designator x).name.text; place = (out-Designator x).name.place; parts = (inr (record { selectors = (out-Designator x).selectors; becomes = becomes; value = value }), ks); is = ap (λ (z : Designator). (roll-Statement (Statement-F.Assignment z becomes value), ks)) (roll-out-Designator x) })
split_statement_layer d stack (Statement-F.Call id x) ks = inl (record { rule = NameStatement; value = id.text; place = id.place; parts = (inl x, ks); is = refl })
split_statement_layer d stack (Statement-F.If s) ks = inl (record { rule = IfStatement; value = tt; place = (out-If s).word; parts = ((out-If s).condition, ((tt, (out-If s).then), ((out-Body ((out-If s).body)).first, ((out-Body ((out-If s).body)).more, ((out-If s).elsifs, ((out-If s).otherwise, ((tt, (out-If s).end), ks))))))); is = ap (λ (z : Body). ((roll-Statement (Statement-F.If (roll-If (record { word = (out-If s).word; condition = ((out-If s).condition); then = ((out-If s).then); body = z; elsifs = ((out-If s).elsifs); otherwise = ((out-If s).otherwise); end = ((out-If s).end) })))), ks)) (roll-out-Body ((out-If s).body)) ∙ ap (λ (z : If). (roll-Statement (Statement-F.If z), ks)) (roll-out-If s) })
split_statement_layer d stack (Statement-F.While s) ks = inl (record { rule = WhileStatement; value = tt; place = (out-While s).word; parts = ((out-While s).condition, ((tt, (out-While s).do_), ((out-Body ((out-While s).body)).first, ((out-Body ((out-While s).body)).more, ((tt, (out-While s).end), ks))))); is = ap (λ (z : Body). ((roll-Statement (Statement-F.While (roll-While (record { word = (out-While s).word; condition = ((out-While s).condition); do_ = ((out-While s).do_); body = z; end = ((out-While s).end) })))), ks)) (roll-out-Body ((out-While s).body)) ∙ ap (λ (z : While). (roll-Statement (Statement-F.While z), ks)) (roll-out-While s) })
split_statement_layer d stack (Statement-F.Repeat s) ks = inl (record { rule = RepeatStatement; value = tt; place = (out-Repeat s).word; parts = ((out-Body ((out-Repeat s).body)).first, ((out-Body ((out-Repeat s).body)).more, ((tt, (out-Repeat s).until), ((out-Repeat s).condition, ks)))); is = ap (λ (z : Body). ((roll-Statement (Statement-F.Repeat (roll-Repeat (record { word = (out-Repeat s).word; body = z; until = ((out-Repeat s).until); condition = ((out-Repeat s).condition) })))), ks)) (roll-out-Body ((out-Repeat s).body)) ∙ ap (λ (z : Repeat). (roll-Statement (Statement-F.Repeat z), ks)) (roll-out-Repeat s) })
split_statement_layer d stack (Statement-F.Loop s) ks = inl (record { rule = LoopStatement; value = tt; place = (out-Loop s).word; parts = ((out-Body ((out-Loop s).body)).first, ((out-Body ((out-Loop s).body)).more, ((out-Loop s).exits, ((tt, (out-Loop s).end), ks)))); is = ap (λ (z : Body). ((roll-Statement (Statement-F.Loop (roll-Loop (record { word = (out-Loop s).word; body = z; exits = ((out-Loop s).exits); end = ((out-Loop s).end) })))), ks)) (roll-out-Body ((out-Loop s).body)) ∙ ap (λ (z : Loop). (roll-Statement (Statement-F.Loop z), ks)) (roll-out-Loop s) })
split_statement_layer d stack (Statement-F.Case s) ks = inl (record { rule = CaseStatement; value = tt; place = (out-Case s).word; parts = ((out-Case s).choice, ((tt, (out-Case s).of), ((out-Case s).first, ((out-Case s).more, ((tt, (out-Case s).end), ks))))); is = ap (λ (z : Case). (roll-Statement (Statement-F.Case z), ks)) (roll-out-Case s) })

made_elsif : (d : ℕ) (stack : Stack) (s : Elsif) (more : List Elsif) (ks : Trees stack) → Made ElsifsPhrase d stack (s ∷ more, ks)
made_elsif d stack s more ks = record { rule = MoreElsifs; value = tt; place = (out-Elsif s).word; parts = ((out-Elsif s).condition, ((tt, (out-Elsif s).then), ((out-Body ((out-Elsif s).body)).first, ((out-Body ((out-Elsif s).body)).more, (more, ks))))); is = ap (λ (z : Body). (roll-Elsif (record { word = (out-Elsif s).word; condition = ((out-Elsif s).condition); then = ((out-Elsif s).then); body = z }) ∷ more, ks)) (roll-out-Body ((out-Elsif s).body)) ∙ ap (λ (z : Elsif). (z ∷ more, ks)) (roll-out-Elsif s) }

made_exit : (d : ℕ) (stack : Stack) (s : Exit) (more : List Exit) (ks : Trees stack) → Made ExitsPhrase d stack (s ∷ more, ks)
made_exit d stack s more ks = record { rule = MoreExits; value = tt; place = (out-Exit s).when; parts = ((out-Exit s).condition, ((out-Exit s).last, ((tt, (out-Exit s).exit), ((out-Body ((out-Exit s).body)).first, ((out-Body ((out-Exit s).body)).more, (more, ks)))))); is = ap (λ (z : Body). (roll-Exit (record { when = (out-Exit s).when; condition = ((out-Exit s).condition); last = ((out-Exit s).last); exit = ((out-Exit s).exit); body = z }) ∷ more, ks)) (roll-out-Body ((out-Exit s).body)) ∙ ap (λ (z : Exit). (z ∷ more, ks)) (roll-out-Exit s) }

made_arm : (d : ℕ) (stack : Stack) (x : Arm) (ks : Trees stack) → Made ArmPhrase d stack (x, ks)
made_arm d stack x ks = let m = made_expr d (Sub d CommaExprsPhrase ∷ Take (SymbolClass Colon) ∷ Take (ReservedClass BeginWord) ∷ Sub d StatementPhrase ∷ Sub d StatementsPhrase ∷ Take (ReservedClass EndWord) ∷ stack) (out-Arm x).first ((out-Arm x).more, ((tt, (out-Arm x).colon), ((tt, (out-Arm x).begin), ((out-Body (out-Arm x).body).first, ((out-Body (out-Arm x).body).more, ((tt, (out-Arm x).end), ks)))))) in record { rule = ArmBy m.rule; value = m.value; place = m.place; parts = m.parts; is = ap (grow_arm_by d stack) m.is ∙ ap (λ (z : Body). (roll-Arm (record { first = (out-Arm x).first; more = (out-Arm x).more; colon = (out-Arm x).colon; begin = (out-Arm x).begin; body = z; end = (out-Arm x).end }), ks)) (roll-out-Body (out-Arm x).body) ∙ ap (λ (z : Arm). (z, ks)) (roll-out-Arm x) }

made_type_layer : (d : ℕ) (stack : Stack) (y : TypeTree-F TypeTree Fields) (ks : Trees stack) → Made TypePhrase d stack (roll-TypeTree y, ks)
made_type_layer d stack (TypeTree-F.Name id) ks = record { rule = NamedType; value = id.text; place = id.place; parts = ks; is = refl }
made_type_layer d stack (TypeTree-F.Values opening values closing) ks = record { rule = ValuesType; value = tt; place = opening; parts = (values, ((tt, closing), ks)); is = refl }
made_type_layer d stack (TypeTree-F.Array place x more of element_) ks = record { rule = ArrayType; value = tt; place = place; parts = (x, (more, ((tt, of), (element_, ks)))); is = refl }
made_type_layer d stack (TypeTree-F.Record place x more end) ks = record { rule = RecordType; value = tt; place = place; parts = (x, (more, ((tt, end), ks))); is = refl }

made_type : (d : ℕ) (stack : Stack) (x : TypeTree) (ks : Trees stack) → Made TypePhrase d stack (x, ks)
made_type d stack x ks = subst (λ (z : TypeTree). Made TypePhrase d stack (z, ks)) (roll-out-TypeTree x) (made_type_layer d stack (out-TypeTree x) ks)

made_range : (d : ℕ) (stack : Stack) (x : Range) (ks : Trees stack) → Made RangePhrase d stack (x, ks)
made_range d stack x ks = let m = made_expr d (Take (SymbolClass Colon) ∷ Sub d ExprPhrase ∷ stack) x.low ((tt, x.colon), (x.high, ks)) in record { rule = RangeBy m.rule; value = m.value; place = m.place; parts = m.parts; is = ap (grow_range_by d stack) m.is }

made_ids : (d : ℕ) (stack : Stack) (x : Ids) (ks : Trees stack) → Made IdsPhrase d stack (x, ks)
made_ids d stack x ks = record { rule = FirstId; value = x.first.text; place = x.first.place; parts = (x.more, ks); is = refl }

made_fields : (d : ℕ) (stack : Stack) (x : Fields) (ks : Trees stack) → Made FieldsPhrase d stack (x, ks)
made_fields d stack x ks = let m = made_ids d (Take (SymbolClass Colon) ∷ Sub d TypePhrase ∷ stack) (out-Fields x).names ((tt, (out-Fields x).colon), ((out-Fields x).of, ks)) in record { rule = FieldsBy m.rule; value = m.value; place = m.place; parts = m.parts; is = ap (grow_fields_by d stack) m.is ∙ ap (λ (z : Fields). (z, ks)) (roll-out-Fields x) }

made_const : (d : ℕ) (stack : Stack) (x : Const) (ks : Trees stack) → Made ConstPhrase d stack (x, ks)
made_const d stack x ks = record { rule = OneConst; value = x.name.text; place = x.name.place; parts = ((tt, x.equal), (x.value, ((tt, x.semicolon), ks))); is = refl }

made_type_decl : (d : ℕ) (stack : Stack) (x : TypeDecl) (ks : Trees stack) → Made TypeDeclPhrase d stack (x, ks)
made_type_decl d stack x ks = record { rule = OneType; value = x.name.text; place = x.name.place; parts = ((tt, x.equal), (x.meaning, ((tt, x.semicolon), ks))); is = refl }

made_var_id : (d : ℕ) (stack : Stack) (x : VarId) (ks : Trees stack) → Made VarIdPhrase d stack (x, ks)
made_var_id d stack x ks = record { rule = OneVarId; value = x.name.text; place = x.name.place; parts = (x.address, ks); is = refl }

made_var : (d : ℕ) (stack : Stack) (x : Var) (ks : Trees stack) → Made VarPhrase d stack (x, ks)
made_var d stack x ks = let m = made_var_id d (Sub d CommaVarIdsPhrase ∷ Take (SymbolClass Colon) ∷ Sub d TypePhrase ∷ Take (SymbolClass Semicolon) ∷ stack) x.first (x.more, ((tt, x.colon), (x.of, ((tt, x.semicolon), ks)))) in record { rule = VarBy m.rule; value = m.value; place = m.place; parts = m.parts; is = ap (grow_var_by d stack) m.is }

made_decl : (d : ℕ) (stack : Stack) (x : Decl) (ks : Trees stack) → Made DeclPhrase d stack (x, ks)
made_decl d stack (decl.Const place x more) ks = record { rule = ConstDecl; value = tt; place = place; parts = (x, (more, ks)); is = refl }
made_decl d stack (decl.Type place x more) ks = record { rule = TypesDecl; value = tt; place = place; parts = (x, (more, ks)); is = refl }
made_decl d stack (decl.Var place x more) ks = record { rule = VarDecl; value = tt; place = place; parts = (x, (more, ks)); is = refl }

made_procedure : (d : ℕ) (stack : Stack) (x : Procedure) (ks : Trees stack) → Made ProcedurePhrase d stack (x, ks)
made_procedure d stack x ks = record { rule = OneProcedure; value = tt; place = x.procedure; parts = ((x.name.text, x.name.place), (x.params, (x.answer, ((tt, x.semicolon), (x.local.declarations, ((tt, x.local.begin), ((out-Body x.local.body).first, ((out-Body x.local.body).more, ((tt, x.end), ((x.end_name.text, x.end_name.place), ((tt, x.end_semicolon), ks))))))))))); is = ap (λ (z : Body). ((record { procedure = x.procedure; name = x.name; params = x.params; answer = x.answer; semicolon = x.semicolon; local = (record { declarations = x.local.declarations; begin = x.local.begin; body = z }); end = x.end; end_name = x.end_name; end_semicolon = x.end_semicolon }), ks)) (roll-out-Body x.local.body) }

made_process : (d : ℕ) (stack : Stack) (x : Process) (ks : Trees stack) → Made ProcessPhrase d stack (x, ks)
made_process d stack x ks = record { rule = OneProcess; value = tt; place = x.process; parts = ((x.name.text, x.name.place), (x.params, ((tt, x.semicolon), (x.local.declarations, ((tt, x.local.begin), ((out-Body x.local.body).first, ((out-Body x.local.body).more, ((tt, x.end), ((x.end_name.text, x.end_name.place), ((tt, x.end_semicolon), ks)))))))))); is = ap (λ (z : Body). ((record { process = x.process; name = x.name; params = x.params; semicolon = x.semicolon; local = (record { declarations = x.local.declarations; begin = x.local.begin; body = z }); end = x.end; end_name = x.end_name; end_semicolon = x.end_semicolon }), ks)) (roll-out-Body x.local.body) }

made_driver : (d : ℕ) (stack : Stack) (x : Driver) (ks : Trees stack) → Made DriverPhrase d stack (x, ks)
made_driver d stack x ks = record { rule = OneDriver; value = tt; place = x.process; parts = ((x.name.text, x.name.place), ((tt, x.bracket.opening), (x.bracket.value, ((tt, x.bracket.closing), ((tt, x.semicolon), (x.local.declarations, ((tt, x.local.begin), ((out-Body x.local.body).first, ((out-Body x.local.body).more, ((tt, x.end), ((x.end_name.text, x.end_name.place), ((tt, x.end_semicolon), ks)))))))))))); is = ap (λ (z : Body). ((record { process = x.process; name = x.name; bracket = (record { opening = x.bracket.opening; value = x.bracket.value; closing = x.bracket.closing }); semicolon = x.semicolon; local = (record { declarations = x.local.declarations; begin = x.local.begin; body = z }); end = x.end; end_name = x.end_name; end_semicolon = x.end_semicolon }), ks)) (roll-out-Body x.local.body) }

made_section_parts : (d : ℕ) (stack : Stack) (m : Option Mode) (names : Ids) (colon : Place) (of : Id) (ks : Trees stack) → Made SectionPhrase d stack (record { mode = m; names = names; colon = colon; of = of }, ks)
made_section_parts d stack None names colon of ks = let m = made_ids d (Take (SymbolClass Colon) ∷ Take NameClass ∷ stack) names ((tt, colon), ((of.text, of.place), ks)) in record { rule = SectionBy m.rule; value = m.value; place = m.place; parts = m.parts; is = ap (grow_section_by d stack) m.is }
made_section_parts d stack (Some (mode.Const place)) names colon of ks = record { rule = ConstSection; value = tt; place = place; parts = (names, ((tt, colon), ((of.text, of.place), ks))); is = refl }
made_section_parts d stack (Some (mode.Var place)) names colon of ks = record { rule = VarSection; value = tt; place = place; parts = (names, ((tt, colon), ((of.text, of.place), ks))); is = refl }

made_section : (d : ℕ) (stack : Stack) (x : Section) (ks : Trees stack) → Made SectionPhrase d stack (x, ks)
made_section d stack x ks = made_section_parts d stack x.mode x.names x.colon x.of ks

made_module_layer : (d : ℕ) (stack : Stack) (y : Module-F Module PlainPart Plain PlainModule) (ks : Trees stack) → Made ModulePhrase d stack (roll-Module y, ks)
made_module_layer d stack (Module-F.Plain m) ks = record { rule = PlainInside; value = tt; place = (out-PlainModule m).module_word; parts = ((((out-PlainModule m).name).text, ((out-PlainModule m).name).place), ((tt, (out-PlainModule m).semicolon), ((out-PlainModule m).lists.define, ((out-PlainModule m).lists.use_, ((out-Plain (out-PlainModule m).block).parts, ((out-Plain (out-PlainModule m).block).body, ((tt, (out-PlainModule m).end), ((((out-PlainModule m).end_name).text, ((out-PlainModule m).end_name).place), ((tt, (out-PlainModule m).end_semicolon), ks))))))))); is = ap (λ (z : Plain). (roll-Module (Module-F.Plain (roll-PlainModule (record { module_word = (out-PlainModule m).module_word; name = (out-PlainModule m).name; semicolon = (out-PlainModule m).semicolon; lists = (record { define = (out-PlainModule m).lists.define; use_ = (out-PlainModule m).lists.use_ }); block = z; end = (out-PlainModule m).end; end_name = (out-PlainModule m).end_name; end_semicolon = (out-PlainModule m).end_semicolon }))), ks)) (roll-out-Plain (out-PlainModule m).block) ∙ ap (λ (z : PlainModule). (roll-Module (Module-F.Plain z), ks)) (roll-out-PlainModule m) }
made_module_layer d stack (Module-F.Interface m) ks = record { rule = InterfaceInside; value = tt; place = m.interface_word; parts = ((tt, m.module_word), ((m.name.text, m.name.place), ((tt, m.semicolon), (m.lists.define, (m.lists.use_, (m.block.parts, (m.block.body, ((tt, m.end), ((m.end_name.text, m.end_name.place), ((tt, m.end_semicolon), ks)))))))))); is = refl }
made_module_layer d stack (Module-F.Device m) ks = record { rule = DeviceInside; value = tt; place = m.device_word; parts = ((tt, m.module_word), ((m.name.text, m.name.place), ((tt, m.bracket.opening), (m.bracket.value, ((tt, m.bracket.closing), ((tt, m.semicolon), (m.lists.define, (m.lists.use_, (m.block.parts, (m.block.body, ((tt, m.end), ((m.end_name.text, m.end_name.place), ((tt, m.end_semicolon), ks))))))))))))); is = refl }

made_module : (d : ℕ) (stack : Stack) (x : Module) (ks : Trees stack) → Made ModulePhrase d stack (x, ks)
made_module d stack x ks = subst (λ (z : Module). Made ModulePhrase d stack (z, ks)) (roll-out-Module x) (made_module_layer d stack (out-Module x) ks)

made_plain_part_layer : (d : ℕ) (stack : Stack) (y : PlainPart-F Module PlainPart Plain PlainModule) (more : List PlainPart) (ks : Trees stack) → Made PlainPartsPhrase d stack (roll-PlainPart y ∷ more, ks)
made_plain_part_layer d stack (PlainPart-F.Decl x) more ks = let m = made_decl d (Sub d PlainPartsPhrase ∷ stack) x (more, ks) in record { rule = PlainDecl m.rule; value = m.value; place = m.place; parts = m.parts; is = ap (grow_plain_decl d stack) m.is }
made_plain_part_layer d stack (PlainPart-F.Procedure x) more ks = let m = made_procedure d (Sub d PlainPartsPhrase ∷ stack) x (more, ks) in record { rule = PlainProcedure m.rule; value = m.value; place = m.place; parts = m.parts; is = ap (grow_plain_procedure d stack) m.is }
made_plain_part_layer d stack (PlainPart-F.Process x) more ks = let m = made_process d (Sub d PlainPartsPhrase ∷ stack) x (more, ks) in record { rule = PlainProcess m.rule; value = m.value; place = m.place; parts = m.parts; is = ap (grow_plain_process d stack) m.is }
made_plain_part_layer d stack (PlainPart-F.Module x) more ks = let m = made_module d (Sub d PlainPartsPhrase ∷ stack) x (more, ks) in record { rule = PlainInner m.rule; value = m.value; place = m.place; parts = m.parts; is = ap (grow_plain_inner d stack) m.is }

made_plain_part : (d : ℕ) (stack : Stack) (x : PlainPart) (more : List PlainPart) (ks : Trees stack) → Made PlainPartsPhrase d stack (x ∷ more, ks)
made_plain_part d stack x more ks = subst (λ (z : PlainPart). Made PlainPartsPhrase d stack (z ∷ more, ks)) (roll-out-PlainPart x) (made_plain_part_layer d stack (out-PlainPart x) more ks)

made_face_part : (d : ℕ) (stack : Stack) (x : FacePart) (more : List FacePart) (ks : Trees stack) → Made FacePartsPhrase d stack (x ∷ more, ks)
made_face_part d stack (face_part.Decl x) more ks = let m = made_decl d (Sub d FacePartsPhrase ∷ stack) x (more, ks) in record { rule = FaceDecl m.rule; value = m.value; place = m.place; parts = m.parts; is = ap (grow_face_decl d stack) m.is }
made_face_part d stack (face_part.Procedure x) more ks = let m = made_procedure d (Sub d FacePartsPhrase ∷ stack) x (more, ks) in record { rule = FaceProcedure m.rule; value = m.value; place = m.place; parts = m.parts; is = ap (grow_face_procedure d stack) m.is }

made_device_part : (d : ℕ) (stack : Stack) (x : DevicePart) (more : List DevicePart) (ks : Trees stack) → Made DevicePartsPhrase d stack (x ∷ more, ks)
made_device_part d stack (device_part.Decl x) more ks = let m = made_decl d (Sub d DevicePartsPhrase ∷ stack) x (more, ks) in record { rule = DeviceDecl m.rule; value = m.value; place = m.place; parts = m.parts; is = ap (grow_device_decl d stack) m.is }
made_device_part d stack (device_part.Procedure x) more ks = let m = made_procedure d (Sub d DevicePartsPhrase ∷ stack) x (more, ks) in record { rule = DeviceProcedure m.rule; value = m.value; place = m.place; parts = m.parts; is = ap (grow_device_procedure d stack) m.is }
made_device_part d stack (device_part.Driver x) more ks = let m = made_driver d (Sub d DevicePartsPhrase ∷ stack) x (more, ks) in record { rule = DeviceDriver m.rule; value = m.value; place = m.place; parts = m.parts; is = ap (grow_device_driver d stack) m.is }

made_program : (d : ℕ) (stack : Stack) (x : Tree) (ks : Trees stack) → Made ProgramPhrase d stack (x, ks)
made_program d stack (tree.Plain m) ks = record { rule = PlainWhole; value = tt; place = m.module_word; parts = ((m.name.text, m.name.place), ((tt, m.semicolon), ((out-Plain m.block).parts, ((out-Plain m.block).body, ((tt, m.end), ((m.end_name.text, m.end_name.place), ((tt, m.dot), ks))))))); is = ap (λ (z : Plain). (tree.Plain (record { module_word = m.module_word; name = m.name; semicolon = m.semicolon; block = z; end = m.end; end_name = m.end_name; dot = m.dot }), ks)) (roll-out-Plain m.block) }
made_program d stack (tree.Device m) ks = record { rule = DeviceWhole; value = tt; place = m.device_word; parts = ((tt, m.module_word), ((m.name.text, m.name.place), ((tt, m.bracket.opening), (m.bracket.value, ((tt, m.bracket.closing), ((tt, m.semicolon), (m.block.parts, (m.block.body, ((tt, m.end), ((m.end_name.text, m.end_name.place), ((tt, m.dot), ks))))))))))); is = refl }

pub split : (phrase : Phrase) (d : ℕ) (stack : Stack) (x : Of phrase) (ks : Trees stack) → Split phrase d stack x ks
split ExprPhrase d stack x ks = inl (made_expr d stack x ks)
split ExprTailPhrase d stack None ks = inr (record { may = refl; is = refl; nothing = λ d rest. refl })
split ExprTailPhrase d stack (Some x) ks = inl (made_compared d stack x ks)
split SimplePhrase d stack x ks = inl (made_simple d stack x ks)
split SimpleTailPhrase d stack [] ks = inr (record { may = refl; is = refl; nothing = λ d rest. refl })
split SimpleTailPhrase d stack (x ∷ xs) ks = inl (made_added_term d stack x xs ks)
split TermPhrase d stack x ks = inl (made_term d stack x ks)
split TermTailPhrase d stack [] ks = inr (record { may = refl; is = refl; nothing = λ d rest. refl })
split TermTailPhrase d stack (x ∷ xs) ks = inl (made_multiplied_factor d stack x xs ks)
split FactorPhrase d stack x ks = inl (made_factor d stack x ks)
split BitsTailPhrase d stack x ks = inl (made_bits d stack x.0 x.1 ks)
split ElementPhrase d stack x ks = inl (made_element d stack x ks)
split ElementTailPhrase d stack None ks = inr (record { may = refl; is = refl; nothing = λ d rest. refl })
split ElementTailPhrase d stack (Some x) ks = inl (record { rule = LastElement; value = tt; place = x.mark; parts = (x.item, ks); is = refl })
split CommaElementsPhrase d stack [] ks = inr (record { may = refl; is = refl; nothing = λ d rest. refl })
split CommaElementsPhrase d stack (x ∷ xs) ks = inl (record { rule = MoreElements; value = tt; place = x.mark; parts = (x.item, (xs, ks)); is = refl })
split CommaExprsPhrase d stack [] ks = inr (record { may = refl; is = refl; nothing = λ d rest. refl })
split CommaExprsPhrase d stack (x ∷ xs) ks = inl (record { rule = MoreExprs; value = tt; place = x.mark; parts = (x.item, (xs, ks)); is = refl })
split FactorTailPhrase d stack (inl x) ks = inl (made_call d stack x ks)
split FactorTailPhrase d stack (inr []) ks = inr (record { may = refl; is = refl; nothing = λ d rest. refl })
split FactorTailPhrase d stack (inr (x ∷ xs)) ks = inl (made_factor_selectors d stack x xs ks)
split SelectorsPhrase d stack [] ks = inr (record { may = refl; is = refl; nothing = λ d rest. refl })
split SelectorsPhrase d stack (x ∷ xs) ks = inl (made_selectors d stack x xs ks)
split StatementPhrase d stack x ks = subst (λ (z : Statement). Split StatementPhrase d stack z ks) (roll-out-Statement x) (split_statement_layer d stack (out-Statement x) ks)
split StatementsPhrase d stack [] ks = inr (record { may = refl; is = refl; nothing = λ d rest. refl })
split StatementsPhrase d stack (x ∷ xs) ks = inl (record { rule = MoreStatements; value = tt; place = x.mark; parts = (x.item, (xs, ks)); is = refl })
split StatementTailPhrase d stack (inl None) ks = inr (record { may = refl; is = refl; nothing = λ d rest. refl })
split StatementTailPhrase d stack (inl (Some x)) ks = inl (made_statement_call d stack x ks)
split StatementTailPhrase d stack (inr x) ks = inl (made_assigned_statement d stack x.selectors x.becomes x.value ks)
split AssigningPhrase d stack x ks = inl (made_assigned_parts d stack x.selectors x.becomes x.value ks)
split ElsifsPhrase d stack [] ks = inr (record { may = refl; is = refl; nothing = λ d rest. refl })
split ElsifsPhrase d stack (x ∷ xs) ks = inl (made_elsif d stack x xs ks)
split ElsePhrase d stack None ks = inr (record { may = refl; is = refl; nothing = λ d rest. refl })
split ElsePhrase d stack (Some x) ks = inl (record { rule = ElseBody; value = tt; place = x.mark; parts = ((out-Body x.item).first, ((out-Body x.item).more, ks)); is = ap (λ (z : Body). (Some (record { mark = x.mark; item = z }), ks)) (roll-out-Body x.item) })
split ExitsPhrase d stack [] ks = inr (record { may = refl; is = refl; nothing = λ d rest. refl })
split ExitsPhrase d stack (x ∷ xs) ks = inl (made_exit d stack x xs ks)
split LastBodyPhrase d stack None ks = inr (record { may = refl; is = refl; nothing = λ d rest. refl })
split LastBodyPhrase d stack (Some x) ks = inl (record { rule = DoBody; value = tt; place = x.mark; parts = ((out-Body x.item).first, ((out-Body x.item).more, ks)); is = ap (λ (z : Body). (Some (record { mark = x.mark; item = z }), ks)) (roll-out-Body x.item) })
split ArmPhrase d stack x ks = inl (made_arm d stack x ks)
split ArmsPhrase d stack [] ks = inr (record { may = refl; is = refl; nothing = λ d rest. refl })
split ArmsPhrase d stack (x ∷ xs) ks = inl (record { rule = MoreArms; value = tt; place = x.mark; parts = (x.item, (xs, ks)); is = refl })
split TypePhrase d stack x ks = inl (made_type d stack x ks)
split RangePhrase d stack x ks = inl (made_range d stack x ks)
split CommaRangesPhrase d stack [] ks = inr (record { may = refl; is = refl; nothing = λ d rest. refl })
split CommaRangesPhrase d stack (x ∷ xs) ks = inl (record { rule = MoreRanges; value = tt; place = x.mark; parts = (x.item, (xs, ks)); is = refl })
split IdsPhrase d stack x ks = inl (made_ids d stack x ks)
split CommaIdsPhrase d stack [] ks = inr (record { may = refl; is = refl; nothing = λ d rest. refl })
split CommaIdsPhrase d stack (x ∷ xs) ks = inl (record { rule = MoreIds; value = tt; place = x.mark; parts = ((x.item.text, x.item.place), (xs, ks)); is = refl })
split FieldsPhrase d stack x ks = inl (made_fields d stack x ks)
split MoreFieldsPhrase d stack [] ks = inr (record { may = refl; is = refl; nothing = λ d rest. refl })
split MoreFieldsPhrase d stack (x ∷ xs) ks = inl (record { rule = NextFields; value = tt; place = x.mark; parts = (x.item, (xs, ks)); is = refl })
split DeclPhrase d stack x ks = inl (made_decl d stack x ks)
split ConstPhrase d stack x ks = inl (made_const d stack x ks)
split ConstsPhrase d stack [] ks = inr (record { may = refl; is = refl; nothing = λ d rest. refl })
split ConstsPhrase d stack (x ∷ xs) ks = inl (let m = made_const d (Sub d ConstsPhrase ∷ stack) x (xs, ks) in record { rule = ConstsBy m.rule; value = m.value; place = m.place; parts = m.parts; is = ap (grow_consts_by d stack) m.is })
split TypeDeclPhrase d stack x ks = inl (made_type_decl d stack x ks)
split TypeDeclsPhrase d stack [] ks = inr (record { may = refl; is = refl; nothing = λ d rest. refl })
split TypeDeclsPhrase d stack (x ∷ xs) ks = inl (let m = made_type_decl d (Sub d TypeDeclsPhrase ∷ stack) x (xs, ks) in record { rule = TypeDeclsBy m.rule; value = m.value; place = m.place; parts = m.parts; is = ap (grow_type_decls_by d stack) m.is })
split VarIdPhrase d stack x ks = inl (made_var_id d stack x ks)
split AddressPhrase d stack None ks = inr (record { may = refl; is = refl; nothing = λ d rest. refl })
split AddressPhrase d stack (Some x) ks = inl (record { rule = AddressBracket; value = tt; place = x.opening; parts = (x.value, ((tt, x.closing), ks)); is = refl })
split VarPhrase d stack x ks = inl (made_var d stack x ks)
split CommaVarIdsPhrase d stack [] ks = inr (record { may = refl; is = refl; nothing = λ d rest. refl })
split CommaVarIdsPhrase d stack (x ∷ xs) ks = inl (record { rule = MoreVarIds; value = tt; place = x.mark; parts = (x.item, (xs, ks)); is = refl })
split VarsPhrase d stack [] ks = inr (record { may = refl; is = refl; nothing = λ d rest. refl })
split VarsPhrase d stack (x ∷ xs) ks = inl (let m = made_var d (Sub d VarsPhrase ∷ stack) x (xs, ks) in record { rule = VarsBy m.rule; value = m.value; place = m.place; parts = m.parts; is = ap (grow_vars_by d stack) m.is })
split DeclsPhrase d stack [] ks = inr (record { may = refl; is = refl; nothing = λ d rest. refl })
split DeclsPhrase d stack (x ∷ xs) ks = inl (let m = made_decl d (Sub d DeclsPhrase ∷ stack) x (xs, ks) in record { rule = DeclsBy m.rule; value = m.value; place = m.place; parts = m.parts; is = ap (grow_decls_by d stack) m.is })
split ProcedurePhrase d stack x ks = inl (made_procedure d stack x ks)
split ProcessPhrase d stack x ks = inl (made_process d stack x ks)
split DriverPhrase d stack x ks = inl (made_driver d stack x ks)
split ParamsPhrase d stack None ks = inr (record { may = refl; is = refl; nothing = λ d rest. refl })
split ParamsPhrase d stack (Some x) ks = inl (record { rule = SomeParams; value = tt; place = x.opening; parts = (x.first, (x.more, ((tt, x.closing), ks))); is = refl })
split AnswerPhrase d stack None ks = inr (record { may = refl; is = refl; nothing = λ d rest. refl })
split AnswerPhrase d stack (Some x) ks = inl (record { rule = SomeAnswer; value = tt; place = x.mark; parts = ((x.item.text, x.item.place), ks); is = refl })
split SectionPhrase d stack x ks = inl (made_section d stack x ks)
split SectionsPhrase d stack [] ks = inr (record { may = refl; is = refl; nothing = λ d rest. refl })
split SectionsPhrase d stack (x ∷ xs) ks = inl (record { rule = MoreSections; value = tt; place = x.mark; parts = (x.item, (xs, ks)); is = refl })
split PlainPartsPhrase d stack [] ks = inr (record { may = refl; is = refl; nothing = λ d rest. refl })
split PlainPartsPhrase d stack (x ∷ xs) ks = inl (made_plain_part d stack x xs ks)
split FacePartsPhrase d stack [] ks = inr (record { may = refl; is = refl; nothing = λ d rest. refl })
split FacePartsPhrase d stack (x ∷ xs) ks = inl (made_face_part d stack x xs ks)
split DevicePartsPhrase d stack [] ks = inr (record { may = refl; is = refl; nothing = λ d rest. refl })
split DevicePartsPhrase d stack (x ∷ xs) ks = inl (made_device_part d stack x xs ks)
split BegunPhrase d stack None ks = inr (record { may = refl; is = refl; nothing = λ d rest. refl })
split BegunPhrase d stack (Some x) ks = inl (record { rule = SomeBegun; value = tt; place = x.begin; parts = ((out-Body x.body).first, ((out-Body x.body).more, ks)); is = ap (λ (z : Body). (Some (record { begin = x.begin; body = z }), ks)) (roll-out-Body x.body) })
split DefinesPhrase d stack None ks = inr (record { may = refl; is = refl; nothing = λ d rest. refl })
split DefinesPhrase d stack (Some x) ks = inl (record { rule = SomeDefines; value = tt; place = x.word; parts = (x.names, ((tt, x.semicolon), ks)); is = refl })
split UsesPhrase d stack None ks = inr (record { may = refl; is = refl; nothing = λ d rest. refl })
split UsesPhrase d stack (Some x) ks = inl (record { rule = SomeUses; value = tt; place = x.word; parts = (x.names, ((tt, x.semicolon), ks)); is = refl })
split ModulePhrase d stack x ks = inl (made_module d stack x ks)
split ProgramPhrase d stack x ks = inl (made_program d stack x ks)
