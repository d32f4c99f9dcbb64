-- Phrases that begin as phrases of another name do, and tokens with which phrases do not go on.
use Rattle.std.specs.Prelude.{◌≡◌, ◌≢◌, ℕ, nat_lt, List, [], ◌∷◌, Option, Some, None, ◌⊎◌, refl}
use Rattle.std.proofs.Common.{ap, ◌∙◌, sym, inl, inr, arith}
use Rattle.mc_tree.specs.declared.place.Place.{Place}
use Rattle.mc_tree.specs.declared.token.Token.{Token}
use Rattle.mc_tree.specs.declared.token.Reserved.TheVariants.{ArrayWord, BeginWord, CaseWord, ConstWord, DeviceWord, EndWord, IfWord, InterfaceWord, LoopWord, ModuleWord, NotWord, ProcedureWord, ProcessWord, RecordWord, RepeatWord, TypeWord, VarWord, WhileWord}
use Rattle.mc_tree.specs.declared.token.Symbol.TheVariants.{Becomes, Colon, Dot, LeftBracket, LeftParen, Minus, Plus, RightBracket, Semicolon}
use Rattle.mc_tree.specs.Classes.{Class, ReservedClass, NameClass, NumberClass, CharacterClass, TextClass, SymbolClass, class_of, Data}
use Rattle.mc_tree.specs.Grammar.{ArmPhrase, AssigningPhrase, BitsTailPhrase, CommaElementsPhrase, CommaExprsPhrase, CommaVarIdsPhrase, ConstPhrase, ConstsPhrase, DeclPhrase, DeclsPhrase, DevicePartsPhrase, DriverPhrase, ElementPhrase, ElementTailPhrase, ExprPhrase, ExprTailPhrase, FacePartsPhrase, FactorPhrase, FactorTailPhrase, FieldsPhrase, IdsPhrase, ModulePhrase, PlainPartsPhrase, ProcedurePhrase, ProcessPhrase, ProgramPhrase, RangePhrase, SectionPhrase, SelectorsPhrase, SimplePhrase, SimpleTailPhrase, StatementPhrase, StatementTailPhrase, StatementsPhrase, TermPhrase, TermTailPhrase, TypeDeclPhrase, TypeDeclsPhrase, TypePhrase, VarIdPhrase, VarPhrase, VarsPhrase, Rule, ArmBy, AssignStatement, AssignTo, BitsBy, ConstDecl, ConstsBy, DeclsBy, DeviceDecl, DeviceDriver, DeviceInside, DeviceProcedure, ElementBy, ExprBy, FaceDecl, FaceProcedure, FieldFactor, FieldSelector, FieldStatement, FieldTo, FieldsBy, IndexFactor, IndexSelector, IndexStatement, IndexTo, InterfaceInside, OneConst, OneDriver, OneProcedure, OneProcess, OneType, OneVarId, PlainDecl, PlainInner, PlainInside, PlainProcedure, PlainProcess, RangeBy, SectionBy, SimpleBy, TermBy, TypeDeclsBy, TypesDecl, VarBy, VarDecl, VarsBy, first, Take, Sub, Stack, parts, depth_of_first}
use Rattle.mc_tree.specs.NextRules.{next, next-first, lifted}
use Rattle.mc_tree.specs.Phrases.{Trees, make, grow_arm_by, grow_bits_by, grow_consts_by, grow_decls_by, grow_device_decl, grow_device_driver, grow_device_procedure, grow_element_by, grow_expr_by, grow_face_decl, grow_face_procedure, grow_fields_by, grow_plain_decl, grow_plain_inner, grow_plain_procedure, grow_plain_process, grow_range_by, grow_section_by, grow_simple_by, grow_term_by, grow_type_decls_by, grow_var_by, grow_vars_by}
use Rattle.mc_parse.specs.Decode.{data_as, fed_rule, fed_by, feed, mapped, decided, decode}
use Rattle.mc_parse.specs.Heads.{HasFirst, HasOther}
use Rattle.mc_parse.specs.Reads.{reading}
use Rattle.mc_parse.specs.Steps.{mapped-mapped, past, by_depth, GoesNotOn, skips, refused, no_memory, made_of, rule_first, by_rule, first_or_other}
use Rattle.mc_parse.specs.TokenLaws.{missed}

-- a declaration, or a module, begins here
abbrev pub BeginsDeclaration : List Token → Type 0
BeginsDeclaration ts = HasFirst (ReservedClass ConstWord) ts ⊎ (HasFirst (ReservedClass TypeWord) ts ⊎ HasFirst (ReservedClass VarWord) ts)

abbrev pub BeginsModule : List Token → Type 0
BeginsModule ts = HasFirst (ReservedClass ModuleWord) ts ⊎ (HasFirst (ReservedClass InterfaceWord) ts ⊎ HasFirst (ReservedClass DeviceWord) ts)

pub expr_as_simple : (end : Place) (d : ℕ) (stack : Stack) (ts : List Token) → reading end ts (Sub d ExprPhrase ∷ stack) ≡ mapped (grow_expr_by d stack) (reading end ts (Sub d SimplePhrase ∷ Sub d ExprTailPhrase ∷ stack))
unfolding reading
expr_as_simple end d stack [] = refl
expr_as_simple end d stack (t ∷ ts) = by_next (next SimplePhrase (class_of t.kind))
  where
    by_data : (r : Rule SimplePhrase) (v : Option (Data (first r))) → decided t (Sub d ExprPhrase ∷ stack) (fed_rule (ExprBy r) d stack t.place v) (λ (left : Stack). decode end ts left) ≡ mapped (grow_expr_by d stack) (decided t (Sub d SimplePhrase ∷ Sub d ExprTailPhrase ∷ stack) (fed_rule r d (Sub d ExprTailPhrase ∷ stack) t.place v) (λ (left : Stack). decode end ts left))
    by_data r None = refl
    by_data r (Some v) = by_depth t.place (nat_lt 64 (depth_of_first r d)) (grow_expr_by d stack) (make r d (Sub d ExprTailPhrase ∷ stack) v t.place) (decode end ts (parts r d (Sub d ExprTailPhrase ∷ stack)))

    by_next : (o : Option (Rule SimplePhrase)) → decided t (Sub d ExprPhrase ∷ stack) (fed_by ExprPhrase d stack t (lifted ExprBy o) (feed t stack)) (λ (left : Stack). decode end ts left) ≡ mapped (grow_expr_by d stack) (decided t (Sub d SimplePhrase ∷ Sub d ExprTailPhrase ∷ stack) (fed_by SimplePhrase d (Sub d ExprTailPhrase ∷ stack) t o (feed t (Sub d ExprTailPhrase ∷ stack))) (λ (left : Stack). decode end ts left))
    by_next None = refl
    by_next (Some r) = by_data r (data_as (first r) t.kind)

simple_next : (c : Class) → c ≢ (SymbolClass Plus) → c ≢ (SymbolClass Minus) → next SimplePhrase c ≡ lifted SimpleBy (next TermPhrase c)
simple_next (SymbolClass Plus) h0 h1 = absurd (h0 refl)
simple_next (SymbolClass Minus) h0 h1 = absurd (h1 refl)
simple_next (ReservedClass NotWord) h0 h1 = refl
simple_next (SymbolClass LeftParen) h0 h1 = refl
simple_next c h0 h1 = refl

pub simple_as_term : (end : Place) (d : ℕ) (stack : Stack) (ts : List Token) → HasOther (SymbolClass Plus) ts → HasOther (SymbolClass Minus) ts → reading end ts (Sub d SimplePhrase ∷ stack) ≡ mapped (grow_simple_by d stack) (reading end ts (Sub d TermPhrase ∷ Sub d SimpleTailPhrase ∷ stack))
unfolding reading
simple_as_term end d stack [] h0 h1 = refl
simple_as_term end d stack (t ∷ ts) h0 h1 = ap (λ (o : Option (Rule SimplePhrase)). decided t (Sub d SimplePhrase ∷ stack) (fed_by SimplePhrase d stack t o (feed t stack)) (λ (left : Stack). decode end ts left)) (simple_next (class_of t.kind) h0 h1) ∙ by_next (next TermPhrase (class_of t.kind))
  where
    by_data : (r : Rule TermPhrase) (v : Option (Data (first r))) → decided t (Sub d SimplePhrase ∷ stack) (fed_rule (SimpleBy r) d stack t.place v) (λ (left : Stack). decode end ts left) ≡ mapped (grow_simple_by d stack) (decided t (Sub d TermPhrase ∷ Sub d SimpleTailPhrase ∷ stack) (fed_rule r d (Sub d SimpleTailPhrase ∷ stack) t.place v) (λ (left : Stack). decode end ts left))
    by_data r None = refl
    by_data r (Some v) = by_depth t.place (nat_lt 64 (depth_of_first r d)) (grow_simple_by d stack) (make r d (Sub d SimpleTailPhrase ∷ stack) v t.place) (decode end ts (parts r d (Sub d SimpleTailPhrase ∷ stack)))

    by_next : (o : Option (Rule TermPhrase)) → decided t (Sub d SimplePhrase ∷ stack) (fed_by SimplePhrase d stack t (lifted SimpleBy o) (feed t stack)) (λ (left : Stack). decode end ts left) ≡ mapped (grow_simple_by d stack) (decided t (Sub d TermPhrase ∷ Sub d SimpleTailPhrase ∷ stack) (fed_by TermPhrase d (Sub d SimpleTailPhrase ∷ stack) t o (feed t (Sub d SimpleTailPhrase ∷ stack))) (λ (left : Stack). decode end ts left))
    by_next None = refl
    by_next (Some r) = by_data r (data_as (first r) t.kind)

pub term_as_factor : (end : Place) (d : ℕ) (stack : Stack) (ts : List Token) → reading end ts (Sub d TermPhrase ∷ stack) ≡ mapped (grow_term_by d stack) (reading end ts (Sub d FactorPhrase ∷ Sub d TermTailPhrase ∷ stack))
unfolding reading
term_as_factor end d stack [] = refl
term_as_factor end d stack (t ∷ ts) = by_next (next FactorPhrase (class_of t.kind))
  where
    by_data : (r : Rule FactorPhrase) (v : Option (Data (first r))) → decided t (Sub d TermPhrase ∷ stack) (fed_rule (TermBy r) d stack t.place v) (λ (left : Stack). decode end ts left) ≡ mapped (grow_term_by d stack) (decided t (Sub d FactorPhrase ∷ Sub d TermTailPhrase ∷ stack) (fed_rule r d (Sub d TermTailPhrase ∷ stack) t.place v) (λ (left : Stack). decode end ts left))
    by_data r None = refl
    by_data r (Some v) = by_depth t.place (nat_lt 64 (depth_of_first r d)) (grow_term_by d stack) (make r d (Sub d TermTailPhrase ∷ stack) v t.place) (decode end ts (parts r d (Sub d TermTailPhrase ∷ stack)))

    by_next : (o : Option (Rule FactorPhrase)) → decided t (Sub d TermPhrase ∷ stack) (fed_by TermPhrase d stack t (lifted TermBy o) (feed t stack)) (λ (left : Stack). decode end ts left) ≡ mapped (grow_term_by d stack) (decided t (Sub d FactorPhrase ∷ Sub d TermTailPhrase ∷ stack) (fed_by FactorPhrase d (Sub d TermTailPhrase ∷ stack) t o (feed t (Sub d TermTailPhrase ∷ stack))) (λ (left : Stack). decode end ts left))
    by_next None = refl
    by_next (Some r) = by_data r (data_as (first r) t.kind)

bits_tail_next : (c : Class) → c ≢ (SymbolClass RightBracket) → next BitsTailPhrase c ≡ lifted BitsBy (next ElementPhrase c)
bits_tail_next (SymbolClass RightBracket) h0 = absurd (h0 refl)
bits_tail_next (ReservedClass NotWord) h0 = refl
bits_tail_next (SymbolClass LeftParen) h0 = refl
bits_tail_next c h0 = refl

pub bits_as_element : (end : Place) (d : ℕ) (stack : Stack) (ts : List Token) → HasOther (SymbolClass RightBracket) ts → reading end ts (Sub d BitsTailPhrase ∷ stack) ≡ mapped (grow_bits_by d stack) (reading end ts (Sub d ElementPhrase ∷ Sub d CommaElementsPhrase ∷ Take (SymbolClass RightBracket) ∷ stack))
unfolding reading
bits_as_element end d stack [] h0 = refl
bits_as_element end d stack (t ∷ ts) h0 = ap (λ (o : Option (Rule BitsTailPhrase)). decided t (Sub d BitsTailPhrase ∷ stack) (fed_by BitsTailPhrase d stack t o (feed t stack)) (λ (left : Stack). decode end ts left)) (bits_tail_next (class_of t.kind) h0) ∙ by_next (next ElementPhrase (class_of t.kind))
  where
    by_data : (r : Rule ElementPhrase) (v : Option (Data (first r))) → decided t (Sub d BitsTailPhrase ∷ stack) (fed_rule (BitsBy r) d stack t.place v) (λ (left : Stack). decode end ts left) ≡ mapped (grow_bits_by d stack) (decided t (Sub d ElementPhrase ∷ Sub d CommaElementsPhrase ∷ Take (SymbolClass RightBracket) ∷ stack) (fed_rule r d (Sub d CommaElementsPhrase ∷ Take (SymbolClass RightBracket) ∷ stack) t.place v) (λ (left : Stack). decode end ts left))
    by_data r None = refl
    by_data r (Some v) = by_depth t.place (nat_lt 64 (depth_of_first r d)) (grow_bits_by d stack) (make r d (Sub d CommaElementsPhrase ∷ Take (SymbolClass RightBracket) ∷ stack) v t.place) (decode end ts (parts r d (Sub d CommaElementsPhrase ∷ Take (SymbolClass RightBracket) ∷ stack)))

    by_next : (o : Option (Rule ElementPhrase)) → decided t (Sub d BitsTailPhrase ∷ stack) (fed_by BitsTailPhrase d stack t (lifted BitsBy o) (feed t stack)) (λ (left : Stack). decode end ts left) ≡ mapped (grow_bits_by d stack) (decided t (Sub d ElementPhrase ∷ Sub d CommaElementsPhrase ∷ Take (SymbolClass RightBracket) ∷ stack) (fed_by ElementPhrase d (Sub d CommaElementsPhrase ∷ Take (SymbolClass RightBracket) ∷ stack) t o (feed t (Sub d CommaElementsPhrase ∷ Take (SymbolClass RightBracket) ∷ stack))) (λ (left : Stack). decode end ts left))
    by_next None = refl
    by_next (Some r) = by_data r (data_as (first r) t.kind)

pub element_as_expr : (end : Place) (d : ℕ) (stack : Stack) (ts : List Token) → reading end ts (Sub d ElementPhrase ∷ stack) ≡ mapped (grow_element_by d stack) (reading end ts (Sub d ExprPhrase ∷ Sub d ElementTailPhrase ∷ stack))
unfolding reading
element_as_expr end d stack [] = refl
element_as_expr end d stack (t ∷ ts) = by_next (next ExprPhrase (class_of t.kind))
  where
    by_data : (r : Rule ExprPhrase) (v : Option (Data (first r))) → decided t (Sub d ElementPhrase ∷ stack) (fed_rule (ElementBy r) d stack t.place v) (λ (left : Stack). decode end ts left) ≡ mapped (grow_element_by d stack) (decided t (Sub d ExprPhrase ∷ Sub d ElementTailPhrase ∷ stack) (fed_rule r d (Sub d ElementTailPhrase ∷ stack) t.place v) (λ (left : Stack). decode end ts left))
    by_data r None = refl
    by_data r (Some v) = by_depth t.place (nat_lt 64 (depth_of_first r d)) (grow_element_by d stack) (make r d (Sub d ElementTailPhrase ∷ stack) v t.place) (decode end ts (parts r d (Sub d ElementTailPhrase ∷ stack)))

    by_next : (o : Option (Rule ExprPhrase)) → decided t (Sub d ElementPhrase ∷ stack) (fed_by ElementPhrase d stack t (lifted ElementBy o) (feed t stack)) (λ (left : Stack). decode end ts left) ≡ mapped (grow_element_by d stack) (decided t (Sub d ExprPhrase ∷ Sub d ElementTailPhrase ∷ stack) (fed_by ExprPhrase d (Sub d ElementTailPhrase ∷ stack) t o (feed t (Sub d ElementTailPhrase ∷ stack))) (λ (left : Stack). decode end ts left))
    by_next None = refl
    by_next (Some r) = by_data r (data_as (first r) t.kind)

pub arm_as_expr : (end : Place) (d : ℕ) (stack : Stack) (ts : List Token) → reading end ts (Sub d ArmPhrase ∷ stack) ≡ mapped (grow_arm_by d stack) (reading end ts (Sub d ExprPhrase ∷ Sub d CommaExprsPhrase ∷ Take (SymbolClass Colon) ∷ Take (ReservedClass BeginWord) ∷ Sub d StatementPhrase ∷ Sub d StatementsPhrase ∷ Take (ReservedClass EndWord) ∷ stack))
unfolding reading
arm_as_expr end d stack [] = refl
arm_as_expr end d stack (t ∷ ts) = by_next (next ExprPhrase (class_of t.kind))
  where
    by_data : (r : Rule ExprPhrase) (v : Option (Data (first r))) → decided t (Sub d ArmPhrase ∷ stack) (fed_rule (ArmBy r) d stack t.place v) (λ (left : Stack). decode end ts left) ≡ mapped (grow_arm_by d stack) (decided t (Sub d ExprPhrase ∷ Sub d CommaExprsPhrase ∷ Take (SymbolClass Colon) ∷ Take (ReservedClass BeginWord) ∷ Sub d StatementPhrase ∷ Sub d StatementsPhrase ∷ Take (ReservedClass EndWord) ∷ stack) (fed_rule r d (Sub d CommaExprsPhrase ∷ Take (SymbolClass Colon) ∷ Take (ReservedClass BeginWord) ∷ Sub d StatementPhrase ∷ Sub d StatementsPhrase ∷ Take (ReservedClass EndWord) ∷ stack) t.place v) (λ (left : Stack). decode end ts left))
    by_data r None = refl
    by_data r (Some v) = by_depth t.place (nat_lt 64 (depth_of_first r d)) (grow_arm_by d stack) (make r d (Sub d CommaExprsPhrase ∷ Take (SymbolClass Colon) ∷ Take (ReservedClass BeginWord) ∷ Sub d StatementPhrase ∷ Sub d StatementsPhrase ∷ Take (ReservedClass EndWord) ∷ stack) v t.place) (decode end ts (parts r d (Sub d CommaExprsPhrase ∷ Take (SymbolClass Colon) ∷ Take (ReservedClass BeginWord) ∷ Sub d StatementPhrase ∷ Sub d StatementsPhrase ∷ Take (ReservedClass EndWord) ∷ stack)))

    by_next : (o : Option (Rule ExprPhrase)) → decided t (Sub d ArmPhrase ∷ stack) (fed_by ArmPhrase d stack t (lifted ArmBy o) (feed t stack)) (λ (left : Stack). decode end ts left) ≡ mapped (grow_arm_by d stack) (decided t (Sub d ExprPhrase ∷ Sub d CommaExprsPhrase ∷ Take (SymbolClass Colon) ∷ Take (ReservedClass BeginWord) ∷ Sub d StatementPhrase ∷ Sub d StatementsPhrase ∷ Take (ReservedClass EndWord) ∷ stack) (fed_by ExprPhrase d (Sub d CommaExprsPhrase ∷ Take (SymbolClass Colon) ∷ Take (ReservedClass BeginWord) ∷ Sub d StatementPhrase ∷ Sub d StatementsPhrase ∷ Take (ReservedClass EndWord) ∷ stack) t o (feed t (Sub d CommaExprsPhrase ∷ Take (SymbolClass Colon) ∷ Take (ReservedClass BeginWord) ∷ Sub d StatementPhrase ∷ Sub d StatementsPhrase ∷ Take (ReservedClass EndWord) ∷ stack))) (λ (left : Stack). decode end ts left))
    by_next None = refl
    by_next (Some r) = by_data r (data_as (first r) t.kind)

pub range_as_expr : (end : Place) (d : ℕ) (stack : Stack) (ts : List Token) → reading end ts (Sub d RangePhrase ∷ stack) ≡ mapped (grow_range_by d stack) (reading end ts (Sub d ExprPhrase ∷ Take (SymbolClass Colon) ∷ Sub d ExprPhrase ∷ stack))
unfolding reading
range_as_expr end d stack [] = refl
range_as_expr end d stack (t ∷ ts) = by_next (next ExprPhrase (class_of t.kind))
  where
    by_data : (r : Rule ExprPhrase) (v : Option (Data (first r))) → decided t (Sub d RangePhrase ∷ stack) (fed_rule (RangeBy r) d stack t.place v) (λ (left : Stack). decode end ts left) ≡ mapped (grow_range_by d stack) (decided t (Sub d ExprPhrase ∷ Take (SymbolClass Colon) ∷ Sub d ExprPhrase ∷ stack) (fed_rule r d (Take (SymbolClass Colon) ∷ Sub d ExprPhrase ∷ stack) t.place v) (λ (left : Stack). decode end ts left))
    by_data r None = refl
    by_data r (Some v) = by_depth t.place (nat_lt 64 (depth_of_first r d)) (grow_range_by d stack) (make r d (Take (SymbolClass Colon) ∷ Sub d ExprPhrase ∷ stack) v t.place) (decode end ts (parts r d (Take (SymbolClass Colon) ∷ Sub d ExprPhrase ∷ stack)))

    by_next : (o : Option (Rule ExprPhrase)) → decided t (Sub d RangePhrase ∷ stack) (fed_by RangePhrase d stack t (lifted RangeBy o) (feed t stack)) (λ (left : Stack). decode end ts left) ≡ mapped (grow_range_by d stack) (decided t (Sub d ExprPhrase ∷ Take (SymbolClass Colon) ∷ Sub d ExprPhrase ∷ stack) (fed_by ExprPhrase d (Take (SymbolClass Colon) ∷ Sub d ExprPhrase ∷ stack) t o (feed t (Take (SymbolClass Colon) ∷ Sub d ExprPhrase ∷ stack))) (λ (left : Stack). decode end ts left))
    by_next None = refl
    by_next (Some r) = by_data r (data_as (first r) t.kind)

pub fields_as_ids : (end : Place) (d : ℕ) (stack : Stack) (ts : List Token) → reading end ts (Sub d FieldsPhrase ∷ stack) ≡ mapped (grow_fields_by d stack) (reading end ts (Sub d IdsPhrase ∷ Take (SymbolClass Colon) ∷ Sub d TypePhrase ∷ stack))
unfolding reading
fields_as_ids end d stack [] = refl
fields_as_ids end d stack (t ∷ ts) = by_next (next IdsPhrase (class_of t.kind))
  where
    by_data : (r : Rule IdsPhrase) (v : Option (Data (first r))) → decided t (Sub d FieldsPhrase ∷ stack) (fed_rule (FieldsBy r) d stack t.place v) (λ (left : Stack). decode end ts left) ≡ mapped (grow_fields_by d stack) (decided t (Sub d IdsPhrase ∷ Take (SymbolClass Colon) ∷ Sub d TypePhrase ∷ stack) (fed_rule r d (Take (SymbolClass Colon) ∷ Sub d TypePhrase ∷ stack) t.place v) (λ (left : Stack). decode end ts left))
    by_data r None = refl
    by_data r (Some v) = by_depth t.place (nat_lt 64 (depth_of_first r d)) (grow_fields_by d stack) (make r d (Take (SymbolClass Colon) ∷ Sub d TypePhrase ∷ stack) v t.place) (decode end ts (parts r d (Take (SymbolClass Colon) ∷ Sub d TypePhrase ∷ stack)))

    by_next : (o : Option (Rule IdsPhrase)) → decided t (Sub d FieldsPhrase ∷ stack) (fed_by FieldsPhrase d stack t (lifted FieldsBy o) (feed t stack)) (λ (left : Stack). decode end ts left) ≡ mapped (grow_fields_by d stack) (decided t (Sub d IdsPhrase ∷ Take (SymbolClass Colon) ∷ Sub d TypePhrase ∷ stack) (fed_by IdsPhrase d (Take (SymbolClass Colon) ∷ Sub d TypePhrase ∷ stack) t o (feed t (Take (SymbolClass Colon) ∷ Sub d TypePhrase ∷ stack))) (λ (left : Stack). decode end ts left))
    by_next None = refl
    by_next (Some r) = by_data r (data_as (first r) t.kind)

pub var_as_var_id : (end : Place) (d : ℕ) (stack : Stack) (ts : List Token) → reading end ts (Sub d VarPhrase ∷ stack) ≡ mapped (grow_var_by d stack) (reading end ts (Sub d VarIdPhrase ∷ Sub d CommaVarIdsPhrase ∷ Take (SymbolClass Colon) ∷ Sub d TypePhrase ∷ Take (SymbolClass Semicolon) ∷ stack))
unfolding reading
var_as_var_id end d stack [] = refl
var_as_var_id end d stack (t ∷ ts) = by_next (next VarIdPhrase (class_of t.kind))
  where
    by_data : (r : Rule VarIdPhrase) (v : Option (Data (first r))) → decided t (Sub d VarPhrase ∷ stack) (fed_rule (VarBy r) d stack t.place v) (λ (left : Stack). decode end ts left) ≡ mapped (grow_var_by d stack) (decided t (Sub d VarIdPhrase ∷ Sub d CommaVarIdsPhrase ∷ Take (SymbolClass Colon) ∷ Sub d TypePhrase ∷ Take (SymbolClass Semicolon) ∷ stack) (fed_rule r d (Sub d CommaVarIdsPhrase ∷ Take (SymbolClass Colon) ∷ Sub d TypePhrase ∷ Take (SymbolClass Semicolon) ∷ stack) t.place v) (λ (left : Stack). decode end ts left))
    by_data r None = refl
    by_data r (Some v) = by_depth t.place (nat_lt 64 (depth_of_first r d)) (grow_var_by d stack) (make r d (Sub d CommaVarIdsPhrase ∷ Take (SymbolClass Colon) ∷ Sub d TypePhrase ∷ Take (SymbolClass Semicolon) ∷ stack) v t.place) (decode end ts (parts r d (Sub d CommaVarIdsPhrase ∷ Take (SymbolClass Colon) ∷ Sub d TypePhrase ∷ Take (SymbolClass Semicolon) ∷ stack)))

    by_next : (o : Option (Rule VarIdPhrase)) → decided t (Sub d VarPhrase ∷ stack) (fed_by VarPhrase d stack t (lifted VarBy o) (feed t stack)) (λ (left : Stack). decode end ts left) ≡ mapped (grow_var_by d stack) (decided t (Sub d VarIdPhrase ∷ Sub d CommaVarIdsPhrase ∷ Take (SymbolClass Colon) ∷ Sub d TypePhrase ∷ Take (SymbolClass Semicolon) ∷ stack) (fed_by VarIdPhrase d (Sub d CommaVarIdsPhrase ∷ Take (SymbolClass Colon) ∷ Sub d TypePhrase ∷ Take (SymbolClass Semicolon) ∷ stack) t o (feed t (Sub d CommaVarIdsPhrase ∷ Take (SymbolClass Colon) ∷ Sub d TypePhrase ∷ Take (SymbolClass Semicolon) ∷ stack))) (λ (left : Stack). decode end ts left))
    by_next None = refl
    by_next (Some r) = by_data r (data_as (first r) t.kind)

section_next : (c : Class) → c ≢ (ReservedClass ConstWord) → c ≢ (ReservedClass VarWord) → next SectionPhrase c ≡ lifted SectionBy (next IdsPhrase c)
section_next (ReservedClass ConstWord) h0 h1 = absurd (h0 refl)
section_next (ReservedClass VarWord) h0 h1 = absurd (h1 refl)
section_next (ReservedClass NotWord) h0 h1 = refl
section_next (SymbolClass LeftParen) h0 h1 = refl
section_next c h0 h1 = refl

pub section_as_ids : (end : Place) (d : ℕ) (stack : Stack) (ts : List Token) → HasOther (ReservedClass ConstWord) ts → HasOther (ReservedClass VarWord) ts → reading end ts (Sub d SectionPhrase ∷ stack) ≡ mapped (grow_section_by d stack) (reading end ts (Sub d IdsPhrase ∷ Take (SymbolClass Colon) ∷ Take NameClass ∷ stack))
unfolding reading
section_as_ids end d stack [] h0 h1 = refl
section_as_ids end d stack (t ∷ ts) h0 h1 = ap (λ (o : Option (Rule SectionPhrase)). decided t (Sub d SectionPhrase ∷ stack) (fed_by SectionPhrase d stack t o (feed t stack)) (λ (left : Stack). decode end ts left)) (section_next (class_of t.kind) h0 h1) ∙ by_next (next IdsPhrase (class_of t.kind))
  where
    by_data : (r : Rule IdsPhrase) (v : Option (Data (first r))) → decided t (Sub d SectionPhrase ∷ stack) (fed_rule (SectionBy r) d stack t.place v) (λ (left : Stack). decode end ts left) ≡ mapped (grow_section_by d stack) (decided t (Sub d IdsPhrase ∷ Take (SymbolClass Colon) ∷ Take NameClass ∷ stack) (fed_rule r d (Take (SymbolClass Colon) ∷ Take NameClass ∷ stack) t.place v) (λ (left : Stack). decode end ts left))
    by_data r None = refl
    by_data r (Some v) = by_depth t.place (nat_lt 64 (depth_of_first r d)) (grow_section_by d stack) (make r d (Take (SymbolClass Colon) ∷ Take NameClass ∷ stack) v t.place) (decode end ts (parts r d (Take (SymbolClass Colon) ∷ Take NameClass ∷ stack)))

    by_next : (o : Option (Rule IdsPhrase)) → decided t (Sub d SectionPhrase ∷ stack) (fed_by SectionPhrase d stack t (lifted SectionBy o) (feed t stack)) (λ (left : Stack). decode end ts left) ≡ mapped (grow_section_by d stack) (decided t (Sub d IdsPhrase ∷ Take (SymbolClass Colon) ∷ Take NameClass ∷ stack) (fed_by IdsPhrase d (Take (SymbolClass Colon) ∷ Take NameClass ∷ stack) t o (feed t (Take (SymbolClass Colon) ∷ Take NameClass ∷ stack))) (λ (left : Stack). decode end ts left))
    by_next None = refl
    by_next (Some r) = by_data r (data_as (first r) t.kind)

selectors_none : (c : Class) → c ≢ (SymbolClass Dot) → c ≢ (SymbolClass LeftBracket) → next SelectorsPhrase c ≡ None
selectors_none (SymbolClass Dot) h0 h1 = absurd (h0 refl)
selectors_none (SymbolClass LeftBracket) h0 h1 = absurd (h1 refl)
selectors_none c h0 h1 = refl

pub no_selectors : (ts : List Token) → HasOther (SymbolClass Dot) ts → HasOther (SymbolClass LeftBracket) ts → GoesNotOn SelectorsPhrase ts
no_selectors [] h0 h1 = tt
no_selectors (t ∷ ts) h0 h1 = selectors_none (class_of t.kind) h0 h1

factor_tail_none : (c : Class) → c ≢ (SymbolClass LeftParen) → c ≢ (SymbolClass Dot) → c ≢ (SymbolClass LeftBracket) → next FactorTailPhrase c ≡ None
factor_tail_none (SymbolClass LeftParen) h0 h1 h2 = absurd (h0 refl)
factor_tail_none (SymbolClass Dot) h0 h1 h2 = absurd (h1 refl)
factor_tail_none (SymbolClass LeftBracket) h0 h1 h2 = absurd (h2 refl)
factor_tail_none c h0 h1 h2 = refl

pub no_factor_tail : (ts : List Token) → HasOther (SymbolClass LeftParen) ts → HasOther (SymbolClass Dot) ts → HasOther (SymbolClass LeftBracket) ts → GoesNotOn FactorTailPhrase ts
no_factor_tail [] h0 h1 h2 = tt
no_factor_tail (t ∷ ts) h0 h1 h2 = factor_tail_none (class_of t.kind) h0 h1 h2

assigning_none : (c : Class) → c ≢ (SymbolClass Becomes) → c ≢ (SymbolClass Dot) → c ≢ (SymbolClass LeftBracket) → next AssigningPhrase c ≡ None
assigning_none (SymbolClass Becomes) h0 h1 h2 = absurd (h0 refl)
assigning_none (SymbolClass Dot) h0 h1 h2 = absurd (h1 refl)
assigning_none (SymbolClass LeftBracket) h0 h1 h2 = absurd (h2 refl)
assigning_none c h0 h1 h2 = refl

pub no_assigning : (ts : List Token) → HasOther (SymbolClass Becomes) ts → HasOther (SymbolClass Dot) ts → HasOther (SymbolClass LeftBracket) ts → GoesNotOn AssigningPhrase ts
no_assigning [] h0 h1 h2 = tt
no_assigning (t ∷ ts) h0 h1 h2 = assigning_none (class_of t.kind) h0 h1 h2

statement_tail_none : (c : Class) → c ≢ (SymbolClass LeftParen) → c ≢ (SymbolClass Becomes) → c ≢ (SymbolClass Dot) → c ≢ (SymbolClass LeftBracket) → next StatementTailPhrase c ≡ None
statement_tail_none (SymbolClass LeftParen) h0 h1 h2 h3 = absurd (h0 refl)
statement_tail_none (SymbolClass Becomes) h0 h1 h2 h3 = absurd (h1 refl)
statement_tail_none (SymbolClass Dot) h0 h1 h2 h3 = absurd (h2 refl)
statement_tail_none (SymbolClass LeftBracket) h0 h1 h2 h3 = absurd (h3 refl)
statement_tail_none c h0 h1 h2 h3 = refl

pub no_statement_tail : (ts : List Token) → HasOther (SymbolClass LeftParen) ts → HasOther (SymbolClass Becomes) ts → HasOther (SymbolClass Dot) ts → HasOther (SymbolClass LeftBracket) ts → GoesNotOn StatementTailPhrase ts
no_statement_tail [] h0 h1 h2 h3 = tt
no_statement_tail (t ∷ ts) h0 h1 h2 h3 = statement_tail_none (class_of t.kind) h0 h1 h2 h3

decls_none : (c : Class) → c ≢ (ReservedClass ConstWord) → c ≢ (ReservedClass TypeWord) → c ≢ (ReservedClass VarWord) → next DeclsPhrase c ≡ None
decls_none (ReservedClass ConstWord) h0 h1 h2 = absurd (h0 refl)
decls_none (ReservedClass TypeWord) h0 h1 h2 = absurd (h1 refl)
decls_none (ReservedClass VarWord) h0 h1 h2 = absurd (h2 refl)
decls_none c h0 h1 h2 = refl

pub no_decls : (ts : List Token) → HasOther (ReservedClass ConstWord) ts → HasOther (ReservedClass TypeWord) ts → HasOther (ReservedClass VarWord) ts → GoesNotOn DeclsPhrase ts
no_decls [] h0 h1 h2 = tt
no_decls (t ∷ ts) h0 h1 h2 = decls_none (class_of t.kind) h0 h1 h2

decl_none : (c : Class) → c ≢ (ReservedClass ConstWord) → c ≢ (ReservedClass TypeWord) → c ≢ (ReservedClass VarWord) → next DeclPhrase c ≡ None
decl_none (ReservedClass ConstWord) h0 h1 h2 = absurd (h0 refl)
decl_none (ReservedClass TypeWord) h0 h1 h2 = absurd (h1 refl)
decl_none (ReservedClass VarWord) h0 h1 h2 = absurd (h2 refl)
decl_none c h0 h1 h2 = refl

pub no_decl : (ts : List Token) → HasOther (ReservedClass ConstWord) ts → HasOther (ReservedClass TypeWord) ts → HasOther (ReservedClass VarWord) ts → GoesNotOn DeclPhrase ts
no_decl [] h0 h1 h2 = tt
no_decl (t ∷ ts) h0 h1 h2 = decl_none (class_of t.kind) h0 h1 h2

plain_parts_none : (c : Class) → c ≢ (ReservedClass ConstWord) → c ≢ (ReservedClass TypeWord) → c ≢ (ReservedClass VarWord) → c ≢ (ReservedClass ProcedureWord) → c ≢ (ReservedClass ProcessWord) → c ≢ (ReservedClass ModuleWord) → c ≢ (ReservedClass InterfaceWord) → c ≢ (ReservedClass DeviceWord) → next PlainPartsPhrase c ≡ None
plain_parts_none (ReservedClass ConstWord) h0 h1 h2 h3 h4 h5 h6 h7 = absurd (h0 refl)
plain_parts_none (ReservedClass TypeWord) h0 h1 h2 h3 h4 h5 h6 h7 = absurd (h1 refl)
plain_parts_none (ReservedClass VarWord) h0 h1 h2 h3 h4 h5 h6 h7 = absurd (h2 refl)
plain_parts_none (ReservedClass ProcedureWord) h0 h1 h2 h3 h4 h5 h6 h7 = absurd (h3 refl)
plain_parts_none (ReservedClass ProcessWord) h0 h1 h2 h3 h4 h5 h6 h7 = absurd (h4 refl)
plain_parts_none (ReservedClass ModuleWord) h0 h1 h2 h3 h4 h5 h6 h7 = absurd (h5 refl)
plain_parts_none (ReservedClass InterfaceWord) h0 h1 h2 h3 h4 h5 h6 h7 = absurd (h6 refl)
plain_parts_none (ReservedClass DeviceWord) h0 h1 h2 h3 h4 h5 h6 h7 = absurd (h7 refl)
plain_parts_none c h0 h1 h2 h3 h4 h5 h6 h7 = refl

pub no_plain_parts : (ts : List Token) → HasOther (ReservedClass ConstWord) ts → HasOther (ReservedClass TypeWord) ts → HasOther (ReservedClass VarWord) ts → HasOther (ReservedClass ProcedureWord) ts → HasOther (ReservedClass ProcessWord) ts → HasOther (ReservedClass ModuleWord) ts → HasOther (ReservedClass InterfaceWord) ts → HasOther (ReservedClass DeviceWord) ts → GoesNotOn PlainPartsPhrase ts
no_plain_parts [] h0 h1 h2 h3 h4 h5 h6 h7 = tt
no_plain_parts (t ∷ ts) h0 h1 h2 h3 h4 h5 h6 h7 = plain_parts_none (class_of t.kind) h0 h1 h2 h3 h4 h5 h6 h7

face_parts_none : (c : Class) → c ≢ (ReservedClass ConstWord) → c ≢ (ReservedClass TypeWord) → c ≢ (ReservedClass VarWord) → c ≢ (ReservedClass ProcedureWord) → next FacePartsPhrase c ≡ None
face_parts_none (ReservedClass ConstWord) h0 h1 h2 h3 = absurd (h0 refl)
face_parts_none (ReservedClass TypeWord) h0 h1 h2 h3 = absurd (h1 refl)
face_parts_none (ReservedClass VarWord) h0 h1 h2 h3 = absurd (h2 refl)
face_parts_none (ReservedClass ProcedureWord) h0 h1 h2 h3 = absurd (h3 refl)
face_parts_none c h0 h1 h2 h3 = refl

pub no_face_parts : (ts : List Token) → HasOther (ReservedClass ConstWord) ts → HasOther (ReservedClass TypeWord) ts → HasOther (ReservedClass VarWord) ts → HasOther (ReservedClass ProcedureWord) ts → GoesNotOn FacePartsPhrase ts
no_face_parts [] h0 h1 h2 h3 = tt
no_face_parts (t ∷ ts) h0 h1 h2 h3 = face_parts_none (class_of t.kind) h0 h1 h2 h3

device_parts_none : (c : Class) → c ≢ (ReservedClass ConstWord) → c ≢ (ReservedClass TypeWord) → c ≢ (ReservedClass VarWord) → c ≢ (ReservedClass ProcedureWord) → c ≢ (ReservedClass ProcessWord) → next DevicePartsPhrase c ≡ None
device_parts_none (ReservedClass ConstWord) h0 h1 h2 h3 h4 = absurd (h0 refl)
device_parts_none (ReservedClass TypeWord) h0 h1 h2 h3 h4 = absurd (h1 refl)
device_parts_none (ReservedClass VarWord) h0 h1 h2 h3 h4 = absurd (h2 refl)
device_parts_none (ReservedClass ProcedureWord) h0 h1 h2 h3 h4 = absurd (h3 refl)
device_parts_none (ReservedClass ProcessWord) h0 h1 h2 h3 h4 = absurd (h4 refl)
device_parts_none c h0 h1 h2 h3 h4 = refl

pub no_device_parts : (ts : List Token) → HasOther (ReservedClass ConstWord) ts → HasOther (ReservedClass TypeWord) ts → HasOther (ReservedClass VarWord) ts → HasOther (ReservedClass ProcedureWord) ts → HasOther (ReservedClass ProcessWord) ts → GoesNotOn DevicePartsPhrase ts
no_device_parts [] h0 h1 h2 h3 h4 = tt
no_device_parts (t ∷ ts) h0 h1 h2 h3 h4 = device_parts_none (class_of t.kind) h0 h1 h2 h3 h4

statement_none : (c : Class) → c ≢ NameClass → c ≢ (ReservedClass IfWord) → c ≢ (ReservedClass WhileWord) → c ≢ (ReservedClass RepeatWord) → c ≢ (ReservedClass LoopWord) → c ≢ (ReservedClass CaseWord) → next StatementPhrase c ≡ None
statement_none NameClass h0 h1 h2 h3 h4 h5 = absurd (h0 refl)
statement_none (ReservedClass IfWord) h0 h1 h2 h3 h4 h5 = absurd (h1 refl)
statement_none (ReservedClass WhileWord) h0 h1 h2 h3 h4 h5 = absurd (h2 refl)
statement_none (ReservedClass RepeatWord) h0 h1 h2 h3 h4 h5 = absurd (h3 refl)
statement_none (ReservedClass LoopWord) h0 h1 h2 h3 h4 h5 = absurd (h4 refl)
statement_none (ReservedClass CaseWord) h0 h1 h2 h3 h4 h5 = absurd (h5 refl)
statement_none c h0 h1 h2 h3 h4 h5 = refl

pub no_statement : (ts : List Token) → HasOther NameClass ts → HasOther (ReservedClass IfWord) ts → HasOther (ReservedClass WhileWord) ts → HasOther (ReservedClass RepeatWord) ts → HasOther (ReservedClass LoopWord) ts → HasOther (ReservedClass CaseWord) ts → GoesNotOn StatementPhrase ts
no_statement [] h0 h1 h2 h3 h4 h5 = tt
no_statement (t ∷ ts) h0 h1 h2 h3 h4 h5 = statement_none (class_of t.kind) h0 h1 h2 h3 h4 h5

type_none : (c : Class) → c ≢ NameClass → c ≢ (SymbolClass LeftParen) → c ≢ (ReservedClass ArrayWord) → c ≢ (ReservedClass RecordWord) → next TypePhrase c ≡ None
type_none NameClass h0 h1 h2 h3 = absurd (h0 refl)
type_none (SymbolClass LeftParen) h0 h1 h2 h3 = absurd (h1 refl)
type_none (ReservedClass ArrayWord) h0 h1 h2 h3 = absurd (h2 refl)
type_none (ReservedClass RecordWord) h0 h1 h2 h3 = absurd (h3 refl)
type_none c h0 h1 h2 h3 = refl

pub no_type : (ts : List Token) → HasOther NameClass ts → HasOther (SymbolClass LeftParen) ts → HasOther (ReservedClass ArrayWord) ts → HasOther (ReservedClass RecordWord) ts → GoesNotOn TypePhrase ts
no_type [] h0 h1 h2 h3 = tt
no_type (t ∷ ts) h0 h1 h2 h3 = type_none (class_of t.kind) h0 h1 h2 h3

factor_none : (c : Class) → c ≢ NumberClass → c ≢ CharacterClass → c ≢ TextClass → c ≢ NameClass → c ≢ (SymbolClass LeftParen) → c ≢ (ReservedClass NotWord) → c ≢ (SymbolClass LeftBracket) → next FactorPhrase c ≡ None
factor_none NumberClass h0 h1 h2 h3 h4 h5 h6 = absurd (h0 refl)
factor_none CharacterClass h0 h1 h2 h3 h4 h5 h6 = absurd (h1 refl)
factor_none TextClass h0 h1 h2 h3 h4 h5 h6 = absurd (h2 refl)
factor_none NameClass h0 h1 h2 h3 h4 h5 h6 = absurd (h3 refl)
factor_none (SymbolClass LeftParen) h0 h1 h2 h3 h4 h5 h6 = absurd (h4 refl)
factor_none (ReservedClass NotWord) h0 h1 h2 h3 h4 h5 h6 = absurd (h5 refl)
factor_none (SymbolClass LeftBracket) h0 h1 h2 h3 h4 h5 h6 = absurd (h6 refl)
factor_none c h0 h1 h2 h3 h4 h5 h6 = refl

pub no_factor : (ts : List Token) → HasOther NumberClass ts → HasOther CharacterClass ts → HasOther TextClass ts → HasOther NameClass ts → HasOther (SymbolClass LeftParen) ts → HasOther (ReservedClass NotWord) ts → HasOther (SymbolClass LeftBracket) ts → GoesNotOn FactorPhrase ts
no_factor [] h0 h1 h2 h3 h4 h5 h6 = tt
no_factor (t ∷ ts) h0 h1 h2 h3 h4 h5 h6 = factor_none (class_of t.kind) h0 h1 h2 h3 h4 h5 h6

module_none : (c : Class) → c ≢ (ReservedClass ModuleWord) → c ≢ (ReservedClass InterfaceWord) → c ≢ (ReservedClass DeviceWord) → next ModulePhrase c ≡ None
module_none (ReservedClass ModuleWord) h0 h1 h2 = absurd (h0 refl)
module_none (ReservedClass InterfaceWord) h0 h1 h2 = absurd (h1 refl)
module_none (ReservedClass DeviceWord) h0 h1 h2 = absurd (h2 refl)
module_none c h0 h1 h2 = refl

pub no_module : (ts : List Token) → HasOther (ReservedClass ModuleWord) ts → HasOther (ReservedClass InterfaceWord) ts → HasOther (ReservedClass DeviceWord) ts → GoesNotOn ModulePhrase ts
no_module [] h0 h1 h2 = tt
no_module (t ∷ ts) h0 h1 h2 = module_none (class_of t.kind) h0 h1 h2

program_none : (c : Class) → c ≢ (ReservedClass ModuleWord) → c ≢ (ReservedClass DeviceWord) → next ProgramPhrase c ≡ None
program_none (ReservedClass ModuleWord) h0 h1 = absurd (h0 refl)
program_none (ReservedClass DeviceWord) h0 h1 = absurd (h1 refl)
program_none c h0 h1 = refl

pub no_program : (ts : List Token) → HasOther (ReservedClass ModuleWord) ts → HasOther (ReservedClass DeviceWord) ts → GoesNotOn ProgramPhrase ts
no_program [] h0 h1 = tt
no_program (t ∷ ts) h0 h1 = program_none (class_of t.kind) h0 h1

pub consts_as_const : (end : Place) (d : ℕ) (stack : Stack) (ts : List Token) → HasFirst NameClass ts → reading end ts (Sub d ConstsPhrase ∷ stack) ≡ mapped (grow_consts_by d stack) (reading end ts (Sub d ConstPhrase ∷ Sub d ConstsPhrase ∷ stack))
consts_as_const end d stack ts h = rule_first end (ConstsBy OneConst) d stack ts h (omega arith) ∙ sym (by_rule end OneConst d (Sub d ConstsPhrase ∷ stack) ts (grow_consts_by d stack) h (omega arith))

pub type_decls_as_type_decl : (end : Place) (d : ℕ) (stack : Stack) (ts : List Token) → HasFirst NameClass ts → reading end ts (Sub d TypeDeclsPhrase ∷ stack) ≡ mapped (grow_type_decls_by d stack) (reading end ts (Sub d TypeDeclPhrase ∷ Sub d TypeDeclsPhrase ∷ stack))
type_decls_as_type_decl end d stack ts h = rule_first end (TypeDeclsBy OneType) d stack ts h (omega arith) ∙ sym (by_rule end OneType d (Sub d TypeDeclsPhrase ∷ stack) ts (grow_type_decls_by d stack) h (omega arith))

pub vars_as_var : (end : Place) (d : ℕ) (stack : Stack) (ts : List Token) → HasFirst NameClass ts → reading end ts (Sub d VarsPhrase ∷ stack) ≡ mapped (grow_vars_by d stack) (reading end ts (Sub d VarPhrase ∷ Sub d VarsPhrase ∷ stack))
vars_as_var end d stack ts h = rule_first end (VarsBy (VarBy OneVarId)) d stack ts h (omega arith) ∙ sym (by_rule end (VarBy OneVarId) d (Sub d VarsPhrase ∷ stack) ts (grow_vars_by d stack) h (omega arith))

decls_as_decl_const_decl : (end : Place) (d : ℕ) (stack : Stack) (ts : List Token) → HasFirst (ReservedClass ConstWord) ts → reading end ts (Sub d DeclsPhrase ∷ stack) ≡ mapped (grow_decls_by d stack) (reading end ts (Sub d DeclPhrase ∷ Sub d DeclsPhrase ∷ stack))
decls_as_decl_const_decl end d stack ts h = rule_first end (DeclsBy ConstDecl) d stack ts h (omega arith) ∙ sym (by_rule end ConstDecl d (Sub d DeclsPhrase ∷ stack) ts (grow_decls_by d stack) h (omega arith))

decls_as_decl_types_decl : (end : Place) (d : ℕ) (stack : Stack) (ts : List Token) → HasFirst (ReservedClass TypeWord) ts → reading end ts (Sub d DeclsPhrase ∷ stack) ≡ mapped (grow_decls_by d stack) (reading end ts (Sub d DeclPhrase ∷ Sub d DeclsPhrase ∷ stack))
decls_as_decl_types_decl end d stack ts h = rule_first end (DeclsBy TypesDecl) d stack ts h (omega arith) ∙ sym (by_rule end TypesDecl d (Sub d DeclsPhrase ∷ stack) ts (grow_decls_by d stack) h (omega arith))

decls_as_decl_var_decl : (end : Place) (d : ℕ) (stack : Stack) (ts : List Token) → HasFirst (ReservedClass VarWord) ts → reading end ts (Sub d DeclsPhrase ∷ stack) ≡ mapped (grow_decls_by d stack) (reading end ts (Sub d DeclPhrase ∷ Sub d DeclsPhrase ∷ stack))
decls_as_decl_var_decl end d stack ts h = rule_first end (DeclsBy VarDecl) d stack ts h (omega arith) ∙ sym (by_rule end VarDecl d (Sub d DeclsPhrase ∷ stack) ts (grow_decls_by d stack) h (omega arith))

pub decls_as_decl : (end : Place) (d : ℕ) (stack : Stack) (ts : List Token) → BeginsDeclaration ts → reading end ts (Sub d DeclsPhrase ∷ stack) ≡ mapped (grow_decls_by d stack) (reading end ts (Sub d DeclPhrase ∷ Sub d DeclsPhrase ∷ stack))
decls_as_decl end d stack ts (inl h) = decls_as_decl_const_decl end d stack ts h
decls_as_decl end d stack ts (inr (inl h)) = decls_as_decl_types_decl end d stack ts h
decls_as_decl end d stack ts (inr (inr h)) = decls_as_decl_var_decl end d stack ts h

plain_as_decl_const_decl : (end : Place) (d : ℕ) (stack : Stack) (ts : List Token) → HasFirst (ReservedClass ConstWord) ts → reading end ts (Sub d PlainPartsPhrase ∷ stack) ≡ mapped (grow_plain_decl d stack) (reading end ts (Sub d DeclPhrase ∷ Sub d PlainPartsPhrase ∷ stack))
plain_as_decl_const_decl end d stack ts h = rule_first end (PlainDecl ConstDecl) d stack ts h (omega arith) ∙ sym (by_rule end ConstDecl d (Sub d PlainPartsPhrase ∷ stack) ts (grow_plain_decl d stack) h (omega arith))

plain_as_decl_types_decl : (end : Place) (d : ℕ) (stack : Stack) (ts : List Token) → HasFirst (ReservedClass TypeWord) ts → reading end ts (Sub d PlainPartsPhrase ∷ stack) ≡ mapped (grow_plain_decl d stack) (reading end ts (Sub d DeclPhrase ∷ Sub d PlainPartsPhrase ∷ stack))
plain_as_decl_types_decl end d stack ts h = rule_first end (PlainDecl TypesDecl) d stack ts h (omega arith) ∙ sym (by_rule end TypesDecl d (Sub d PlainPartsPhrase ∷ stack) ts (grow_plain_decl d stack) h (omega arith))

plain_as_decl_var_decl : (end : Place) (d : ℕ) (stack : Stack) (ts : List Token) → HasFirst (ReservedClass VarWord) ts → reading end ts (Sub d PlainPartsPhrase ∷ stack) ≡ mapped (grow_plain_decl d stack) (reading end ts (Sub d DeclPhrase ∷ Sub d PlainPartsPhrase ∷ stack))
plain_as_decl_var_decl end d stack ts h = rule_first end (PlainDecl VarDecl) d stack ts h (omega arith) ∙ sym (by_rule end VarDecl d (Sub d PlainPartsPhrase ∷ stack) ts (grow_plain_decl d stack) h (omega arith))

pub plain_as_decl : (end : Place) (d : ℕ) (stack : Stack) (ts : List Token) → BeginsDeclaration ts → reading end ts (Sub d PlainPartsPhrase ∷ stack) ≡ mapped (grow_plain_decl d stack) (reading end ts (Sub d DeclPhrase ∷ Sub d PlainPartsPhrase ∷ stack))
plain_as_decl end d stack ts (inl h) = plain_as_decl_const_decl end d stack ts h
plain_as_decl end d stack ts (inr (inl h)) = plain_as_decl_types_decl end d stack ts h
plain_as_decl end d stack ts (inr (inr h)) = plain_as_decl_var_decl end d stack ts h

pub plain_as_procedure : (end : Place) (d : ℕ) (stack : Stack) (ts : List Token) → HasFirst (ReservedClass ProcedureWord) ts → reading end ts (Sub d PlainPartsPhrase ∷ stack) ≡ mapped (grow_plain_procedure d stack) (reading end ts (Sub d ProcedurePhrase ∷ Sub d PlainPartsPhrase ∷ stack))
plain_as_procedure end d stack ts h = rule_first end (PlainProcedure OneProcedure) d stack ts h (omega arith) ∙ sym (by_rule end OneProcedure d (Sub d PlainPartsPhrase ∷ stack) ts (grow_plain_procedure d stack) h (omega arith))

pub plain_as_process : (end : Place) (d : ℕ) (stack : Stack) (ts : List Token) → HasFirst (ReservedClass ProcessWord) ts → reading end ts (Sub d PlainPartsPhrase ∷ stack) ≡ mapped (grow_plain_process d stack) (reading end ts (Sub d ProcessPhrase ∷ Sub d PlainPartsPhrase ∷ stack))
plain_as_process end d stack ts h = rule_first end (PlainProcess OneProcess) d stack ts h (omega arith) ∙ sym (by_rule end OneProcess d (Sub d PlainPartsPhrase ∷ stack) ts (grow_plain_process d stack) h (omega arith))

plain_as_module_plain_inside : (end : Place) (d : ℕ) (stack : Stack) (ts : List Token) → HasFirst (ReservedClass ModuleWord) ts → reading end ts (Sub d PlainPartsPhrase ∷ stack) ≡ mapped (grow_plain_inner d stack) (reading end ts (Sub d ModulePhrase ∷ Sub d PlainPartsPhrase ∷ stack))
unfolding reading
plain_as_module_plain_inside end d stack [] h = absurd h
plain_as_module_plain_inside end d stack (t ∷ ts) h = ap (λ (o : Option (Rule PlainPartsPhrase)). decided t (Sub d PlainPartsPhrase ∷ stack) (fed_by PlainPartsPhrase d (stack) t o (feed t (stack))) (λ (left : Stack). decode end ts left)) (ap (next PlainPartsPhrase) h ∙ next-first (PlainInner PlainInside)) ∙ by_data (data_as (first PlainInside) t.kind) ∙ sym (ap (mapped (grow_plain_inner d stack)) (ap (λ (o : Option (Rule ModulePhrase)). decided t (Sub d ModulePhrase ∷ Sub d PlainPartsPhrase ∷ stack) (fed_by ModulePhrase d (Sub d PlainPartsPhrase ∷ stack) t o (feed t (Sub d PlainPartsPhrase ∷ stack))) (λ (left : Stack). decode end ts left)) (ap (next ModulePhrase) h ∙ next-first PlainInside)))
  where
    by_data : (v : Option (Data (first PlainInside))) → decided t (Sub d PlainPartsPhrase ∷ stack) (fed_rule (PlainInner PlainInside) d stack t.place v) (λ (left : Stack). decode end ts left) ≡ mapped (grow_plain_inner d stack) (decided t (Sub d ModulePhrase ∷ Sub d PlainPartsPhrase ∷ stack) (fed_rule PlainInside d (Sub d PlainPartsPhrase ∷ stack) t.place v) (λ (left : Stack). decode end ts left))
    by_data None = refl
    by_data (Some v) = by_depth t.place (nat_lt 64 (depth_of_first PlainInside d)) (grow_plain_inner d stack) (make PlainInside d (Sub d PlainPartsPhrase ∷ stack) v t.place) (decode end ts (parts PlainInside d (Sub d PlainPartsPhrase ∷ stack)))

plain_as_module_interface_inside : (end : Place) (d : ℕ) (stack : Stack) (ts : List Token) → HasFirst (ReservedClass InterfaceWord) ts → reading end ts (Sub d PlainPartsPhrase ∷ stack) ≡ mapped (grow_plain_inner d stack) (reading end ts (Sub d ModulePhrase ∷ Sub d PlainPartsPhrase ∷ stack))
unfolding reading
plain_as_module_interface_inside end d stack [] h = absurd h
plain_as_module_interface_inside end d stack (t ∷ ts) h = ap (λ (o : Option (Rule PlainPartsPhrase)). decided t (Sub d PlainPartsPhrase ∷ stack) (fed_by PlainPartsPhrase d (stack) t o (feed t (stack))) (λ (left : Stack). decode end ts left)) (ap (next PlainPartsPhrase) h ∙ next-first (PlainInner InterfaceInside)) ∙ by_data (data_as (first InterfaceInside) t.kind) ∙ sym (ap (mapped (grow_plain_inner d stack)) (ap (λ (o : Option (Rule ModulePhrase)). decided t (Sub d ModulePhrase ∷ Sub d PlainPartsPhrase ∷ stack) (fed_by ModulePhrase d (Sub d PlainPartsPhrase ∷ stack) t o (feed t (Sub d PlainPartsPhrase ∷ stack))) (λ (left : Stack). decode end ts left)) (ap (next ModulePhrase) h ∙ next-first InterfaceInside)))
  where
    by_data : (v : Option (Data (first InterfaceInside))) → decided t (Sub d PlainPartsPhrase ∷ stack) (fed_rule (PlainInner InterfaceInside) d stack t.place v) (λ (left : Stack). decode end ts left) ≡ mapped (grow_plain_inner d stack) (decided t (Sub d ModulePhrase ∷ Sub d PlainPartsPhrase ∷ stack) (fed_rule InterfaceInside d (Sub d PlainPartsPhrase ∷ stack) t.place v) (λ (left : Stack). decode end ts left))
    by_data None = refl
    by_data (Some v) = by_depth t.place (nat_lt 64 (depth_of_first InterfaceInside d)) (grow_plain_inner d stack) (make InterfaceInside d (Sub d PlainPartsPhrase ∷ stack) v t.place) (decode end ts (parts InterfaceInside d (Sub d PlainPartsPhrase ∷ stack)))

plain_as_module_device_inside : (end : Place) (d : ℕ) (stack : Stack) (ts : List Token) → HasFirst (ReservedClass DeviceWord) ts → reading end ts (Sub d PlainPartsPhrase ∷ stack) ≡ mapped (grow_plain_inner d stack) (reading end ts (Sub d ModulePhrase ∷ Sub d PlainPartsPhrase ∷ stack))
unfolding reading
plain_as_module_device_inside end d stack [] h = absurd h
plain_as_module_device_inside end d stack (t ∷ ts) h = ap (λ (o : Option (Rule PlainPartsPhrase)). decided t (Sub d PlainPartsPhrase ∷ stack) (fed_by PlainPartsPhrase d (stack) t o (feed t (stack))) (λ (left : Stack). decode end ts left)) (ap (next PlainPartsPhrase) h ∙ next-first (PlainInner DeviceInside)) ∙ by_data (data_as (first DeviceInside) t.kind) ∙ sym (ap (mapped (grow_plain_inner d stack)) (ap (λ (o : Option (Rule ModulePhrase)). decided t (Sub d ModulePhrase ∷ Sub d PlainPartsPhrase ∷ stack) (fed_by ModulePhrase d (Sub d PlainPartsPhrase ∷ stack) t o (feed t (Sub d PlainPartsPhrase ∷ stack))) (λ (left : Stack). decode end ts left)) (ap (next ModulePhrase) h ∙ next-first DeviceInside)))
  where
    by_data : (v : Option (Data (first DeviceInside))) → decided t (Sub d PlainPartsPhrase ∷ stack) (fed_rule (PlainInner DeviceInside) d stack t.place v) (λ (left : Stack). decode end ts left) ≡ mapped (grow_plain_inner d stack) (decided t (Sub d ModulePhrase ∷ Sub d PlainPartsPhrase ∷ stack) (fed_rule DeviceInside d (Sub d PlainPartsPhrase ∷ stack) t.place v) (λ (left : Stack). decode end ts left))
    by_data None = refl
    by_data (Some v) = by_depth t.place (nat_lt 64 (depth_of_first DeviceInside d)) (grow_plain_inner d stack) (make DeviceInside d (Sub d PlainPartsPhrase ∷ stack) v t.place) (decode end ts (parts DeviceInside d (Sub d PlainPartsPhrase ∷ stack)))

pub plain_as_module : (end : Place) (d : ℕ) (stack : Stack) (ts : List Token) → BeginsModule ts → reading end ts (Sub d PlainPartsPhrase ∷ stack) ≡ mapped (grow_plain_inner d stack) (reading end ts (Sub d ModulePhrase ∷ Sub d PlainPartsPhrase ∷ stack))
plain_as_module end d stack ts (inl h) = plain_as_module_plain_inside end d stack ts h
plain_as_module end d stack ts (inr (inl h)) = plain_as_module_interface_inside end d stack ts h
plain_as_module end d stack ts (inr (inr h)) = plain_as_module_device_inside end d stack ts h

face_as_decl_const_decl : (end : Place) (d : ℕ) (stack : Stack) (ts : List Token) → HasFirst (ReservedClass ConstWord) ts → reading end ts (Sub d FacePartsPhrase ∷ stack) ≡ mapped (grow_face_decl d stack) (reading end ts (Sub d DeclPhrase ∷ Sub d FacePartsPhrase ∷ stack))
face_as_decl_const_decl end d stack ts h = rule_first end (FaceDecl ConstDecl) d stack ts h (omega arith) ∙ sym (by_rule end ConstDecl d (Sub d FacePartsPhrase ∷ stack) ts (grow_face_decl d stack) h (omega arith))

face_as_decl_types_decl : (end : Place) (d : ℕ) (stack : Stack) (ts : List Token) → HasFirst (ReservedClass TypeWord) ts → reading end ts (Sub d FacePartsPhrase ∷ stack) ≡ mapped (grow_face_decl d stack) (reading end ts (Sub d DeclPhrase ∷ Sub d FacePartsPhrase ∷ stack))
face_as_decl_types_decl end d stack ts h = rule_first end (FaceDecl TypesDecl) d stack ts h (omega arith) ∙ sym (by_rule end TypesDecl d (Sub d FacePartsPhrase ∷ stack) ts (grow_face_decl d stack) h (omega arith))

face_as_decl_var_decl : (end : Place) (d : ℕ) (stack : Stack) (ts : List Token) → HasFirst (ReservedClass VarWord) ts → reading end ts (Sub d FacePartsPhrase ∷ stack) ≡ mapped (grow_face_decl d stack) (reading end ts (Sub d DeclPhrase ∷ Sub d FacePartsPhrase ∷ stack))
face_as_decl_var_decl end d stack ts h = rule_first end (FaceDecl VarDecl) d stack ts h (omega arith) ∙ sym (by_rule end VarDecl d (Sub d FacePartsPhrase ∷ stack) ts (grow_face_decl d stack) h (omega arith))

pub face_as_decl : (end : Place) (d : ℕ) (stack : Stack) (ts : List Token) → BeginsDeclaration ts → reading end ts (Sub d FacePartsPhrase ∷ stack) ≡ mapped (grow_face_decl d stack) (reading end ts (Sub d DeclPhrase ∷ Sub d FacePartsPhrase ∷ stack))
face_as_decl end d stack ts (inl h) = face_as_decl_const_decl end d stack ts h
face_as_decl end d stack ts (inr (inl h)) = face_as_decl_types_decl end d stack ts h
face_as_decl end d stack ts (inr (inr h)) = face_as_decl_var_decl end d stack ts h

pub face_as_procedure : (end : Place) (d : ℕ) (stack : Stack) (ts : List Token) → HasFirst (ReservedClass ProcedureWord) ts → reading end ts (Sub d FacePartsPhrase ∷ stack) ≡ mapped (grow_face_procedure d stack) (reading end ts (Sub d ProcedurePhrase ∷ Sub d FacePartsPhrase ∷ stack))
face_as_procedure end d stack ts h = rule_first end (FaceProcedure OneProcedure) d stack ts h (omega arith) ∙ sym (by_rule end OneProcedure d (Sub d FacePartsPhrase ∷ stack) ts (grow_face_procedure d stack) h (omega arith))

device_as_decl_const_decl : (end : Place) (d : ℕ) (stack : Stack) (ts : List Token) → HasFirst (ReservedClass ConstWord) ts → reading end ts (Sub d DevicePartsPhrase ∷ stack) ≡ mapped (grow_device_decl d stack) (reading end ts (Sub d DeclPhrase ∷ Sub d DevicePartsPhrase ∷ stack))
device_as_decl_const_decl end d stack ts h = rule_first end (DeviceDecl ConstDecl) d stack ts h (omega arith) ∙ sym (by_rule end ConstDecl d (Sub d DevicePartsPhrase ∷ stack) ts (grow_device_decl d stack) h (omega arith))

device_as_decl_types_decl : (end : Place) (d : ℕ) (stack : Stack) (ts : List Token) → HasFirst (ReservedClass TypeWord) ts → reading end ts (Sub d DevicePartsPhrase ∷ stack) ≡ mapped (grow_device_decl d stack) (reading end ts (Sub d DeclPhrase ∷ Sub d DevicePartsPhrase ∷ stack))
device_as_decl_types_decl end d stack ts h = rule_first end (DeviceDecl TypesDecl) d stack ts h (omega arith) ∙ sym (by_rule end TypesDecl d (Sub d DevicePartsPhrase ∷ stack) ts (grow_device_decl d stack) h (omega arith))

device_as_decl_var_decl : (end : Place) (d : ℕ) (stack : Stack) (ts : List Token) → HasFirst (ReservedClass VarWord) ts → reading end ts (Sub d DevicePartsPhrase ∷ stack) ≡ mapped (grow_device_decl d stack) (reading end ts (Sub d DeclPhrase ∷ Sub d DevicePartsPhrase ∷ stack))
device_as_decl_var_decl end d stack ts h = rule_first end (DeviceDecl VarDecl) d stack ts h (omega arith) ∙ sym (by_rule end VarDecl d (Sub d DevicePartsPhrase ∷ stack) ts (grow_device_decl d stack) h (omega arith))

pub device_as_decl : (end : Place) (d : ℕ) (stack : Stack) (ts : List Token) → BeginsDeclaration ts → reading end ts (Sub d DevicePartsPhrase ∷ stack) ≡ mapped (grow_device_decl d stack) (reading end ts (Sub d DeclPhrase ∷ Sub d DevicePartsPhrase ∷ stack))
device_as_decl end d stack ts (inl h) = device_as_decl_const_decl end d stack ts h
device_as_decl end d stack ts (inr (inl h)) = device_as_decl_types_decl end d stack ts h
device_as_decl end d stack ts (inr (inr h)) = device_as_decl_var_decl end d stack ts h

pub device_as_procedure : (end : Place) (d : ℕ) (stack : Stack) (ts : List Token) → HasFirst (ReservedClass ProcedureWord) ts → reading end ts (Sub d DevicePartsPhrase ∷ stack) ≡ mapped (grow_device_procedure d stack) (reading end ts (Sub d ProcedurePhrase ∷ Sub d DevicePartsPhrase ∷ stack))
device_as_procedure end d stack ts h = rule_first end (DeviceProcedure OneProcedure) d stack ts h (omega arith) ∙ sym (by_rule end OneProcedure d (Sub d DevicePartsPhrase ∷ stack) ts (grow_device_procedure d stack) h (omega arith))

pub device_as_driver : (end : Place) (d : ℕ) (stack : Stack) (ts : List Token) → HasFirst (ReservedClass ProcessWord) ts → reading end ts (Sub d DevicePartsPhrase ∷ stack) ≡ mapped (grow_device_driver d stack) (reading end ts (Sub d DriverPhrase ∷ Sub d DevicePartsPhrase ∷ stack))
device_as_driver end d stack ts h = rule_first end (DeviceDriver OneDriver) d stack ts h (omega arith) ∙ sym (by_rule end OneDriver d (Sub d DevicePartsPhrase ∷ stack) ts (grow_device_driver d stack) h (omega arith))

pub consts_then : {C : Type 0} (end : Place) (d : ℕ) (stack : Stack) (ts : List Token) → HasFirst NameClass ts → (k : Trees (Sub d ConstsPhrase ∷ stack) → C) → mapped k (reading end ts (Sub d ConstsPhrase ∷ stack)) ≡ mapped (λ (q : Trees (Sub d ConstPhrase ∷ Sub d ConstsPhrase ∷ stack)). k (grow_consts_by d stack q)) (reading end ts (Sub d ConstPhrase ∷ Sub d ConstsPhrase ∷ stack))
consts_then end d stack ts h k = ap (mapped k) (consts_as_const end d stack ts h) ∙ mapped-mapped k (grow_consts_by d stack) (reading end ts (Sub d ConstPhrase ∷ Sub d ConstsPhrase ∷ stack))

pub type_decls_then : {C : Type 0} (end : Place) (d : ℕ) (stack : Stack) (ts : List Token) → HasFirst NameClass ts → (k : Trees (Sub d TypeDeclsPhrase ∷ stack) → C) → mapped k (reading end ts (Sub d TypeDeclsPhrase ∷ stack)) ≡ mapped (λ (q : Trees (Sub d TypeDeclPhrase ∷ Sub d TypeDeclsPhrase ∷ stack)). k (grow_type_decls_by d stack q)) (reading end ts (Sub d TypeDeclPhrase ∷ Sub d TypeDeclsPhrase ∷ stack))
type_decls_then end d stack ts h k = ap (mapped k) (type_decls_as_type_decl end d stack ts h) ∙ mapped-mapped k (grow_type_decls_by d stack) (reading end ts (Sub d TypeDeclPhrase ∷ Sub d TypeDeclsPhrase ∷ stack))

pub vars_then : {C : Type 0} (end : Place) (d : ℕ) (stack : Stack) (ts : List Token) → HasFirst NameClass ts → (k : Trees (Sub d VarsPhrase ∷ stack) → C) → mapped k (reading end ts (Sub d VarsPhrase ∷ stack)) ≡ mapped (λ (q : Trees (Sub d VarPhrase ∷ Sub d VarsPhrase ∷ stack)). k (grow_vars_by d stack q)) (reading end ts (Sub d VarPhrase ∷ Sub d VarsPhrase ∷ stack))
vars_then end d stack ts h k = ap (mapped k) (vars_as_var end d stack ts h) ∙ mapped-mapped k (grow_vars_by d stack) (reading end ts (Sub d VarPhrase ∷ Sub d VarsPhrase ∷ stack))

pub decls_then : {C : Type 0} (end : Place) (d : ℕ) (stack : Stack) (ts : List Token) → BeginsDeclaration ts → (k : Trees (Sub d DeclsPhrase ∷ stack) → C) → mapped k (reading end ts (Sub d DeclsPhrase ∷ stack)) ≡ mapped (λ (q : Trees (Sub d DeclPhrase ∷ Sub d DeclsPhrase ∷ stack)). k (grow_decls_by d stack q)) (reading end ts (Sub d DeclPhrase ∷ Sub d DeclsPhrase ∷ stack))
decls_then end d stack ts h k = ap (mapped k) (decls_as_decl end d stack ts h) ∙ mapped-mapped k (grow_decls_by d stack) (reading end ts (Sub d DeclPhrase ∷ Sub d DeclsPhrase ∷ stack))

-- what stands behind the name of a factor, where it is no call
pub factor_tail_as_selectors : (end : Place) (d : ℕ) (stack : Stack) (ts : List Token) → HasOther (SymbolClass LeftParen) ts → reading end ts (Sub d FactorTailPhrase ∷ stack) ≡ mapped (λ (q : Trees (Sub d SelectorsPhrase ∷ stack)). (inr q.0, q.1)) (reading end ts (Sub d SelectorsPhrase ∷ stack))
factor_tail_as_selectors end d stack ts h = at (first_or_other (SymbolClass Dot) ts) (first_or_other (SymbolClass LeftBracket) ts)
  where
    at : HasFirst (SymbolClass Dot) ts ⊎ HasOther (SymbolClass Dot) ts → HasFirst (SymbolClass LeftBracket) ts ⊎ HasOther (SymbolClass LeftBracket) ts → reading end ts (Sub d FactorTailPhrase ∷ stack) ≡ mapped (λ (q : Trees (Sub d SelectorsPhrase ∷ stack)). (inr q.0, q.1)) (reading end ts (Sub d SelectorsPhrase ∷ stack))
    at (inl f) o = rule_first end FieldFactor d stack ts f (omega arith) ∙ sym (by_rule end FieldSelector d stack ts (λ (q : Trees (Sub d SelectorsPhrase ∷ stack)). (inr q.0, q.1)) f (omega arith))
    at (inr n) (inl f) = rule_first end IndexFactor d stack ts f (omega arith) ∙ sym (by_rule end IndexSelector d stack ts (λ (q : Trees (Sub d SelectorsPhrase ∷ stack)). (inr q.0, q.1)) f (omega arith))
    at (inr n) (inr m) = (skips end FactorTailPhrase (inr []) d ts (no_factor_tail ts h n m) refl).reads stack ∙ sym (past (skips end SelectorsPhrase [] d ts (no_selectors ts n m) refl) stack (λ (q : Trees (Sub d SelectorsPhrase ∷ stack)). (inr q.0, q.1)))

-- what stands behind the name of a statement that assigns
abbrev pub BeginsAssigning : List Token → Type 0
BeginsAssigning ts = HasFirst (SymbolClass Becomes) ts ⊎ (HasFirst (SymbolClass Dot) ts ⊎ HasFirst (SymbolClass LeftBracket) ts)

pub statement_tail_as_assigning : (end : Place) (d : ℕ) (stack : Stack) (ts : List Token) → BeginsAssigning ts → reading end ts (Sub d StatementTailPhrase ∷ stack) ≡ mapped (λ (q : Trees (Sub d AssigningPhrase ∷ stack)). (inr q.0, q.1)) (reading end ts (Sub d AssigningPhrase ∷ stack))
statement_tail_as_assigning end d stack ts (inl h) = rule_first end AssignStatement d stack ts h (omega arith) ∙ sym (by_rule end AssignTo d stack ts (λ (q : Trees (Sub d AssigningPhrase ∷ stack)). (inr q.0, q.1)) h (omega arith))
statement_tail_as_assigning end d stack ts (inr (inl h)) = rule_first end FieldStatement d stack ts h (omega arith) ∙ sym (by_rule end FieldTo d stack ts (λ (q : Trees (Sub d AssigningPhrase ∷ stack)). (inr q.0, q.1)) h (omega arith))
statement_tail_as_assigning end d stack ts (inr (inr h)) = rule_first end IndexStatement d stack ts h (omega arith) ∙ sym (by_rule end IndexTo d stack ts (λ (q : Trees (Sub d AssigningPhrase ∷ stack)). (inr q.0, q.1)) h (omega arith))

-- the same in the midst of reading
pub factor_tail_then : {C : Type 0} (end : Place) (d : ℕ) (stack : Stack) (ts : List Token) → HasOther (SymbolClass LeftParen) ts → (k : Trees (Sub d FactorTailPhrase ∷ stack) → C) → mapped k (reading end ts (Sub d FactorTailPhrase ∷ stack)) ≡ mapped (λ (q : Trees (Sub d SelectorsPhrase ∷ stack)). k (inr q.0, q.1)) (reading end ts (Sub d SelectorsPhrase ∷ stack))
factor_tail_then end d stack ts h k = ap (mapped k) (factor_tail_as_selectors end d stack ts h) ∙ mapped-mapped k (λ (q : Trees (Sub d SelectorsPhrase ∷ stack)). (inr q.0, q.1)) (reading end ts (Sub d SelectorsPhrase ∷ stack))

pub statement_tail_then : {C : Type 0} (end : Place) (d : ℕ) (stack : Stack) (ts : List Token) → BeginsAssigning ts → (k : Trees (Sub d StatementTailPhrase ∷ stack) → C) → mapped k (reading end ts (Sub d StatementTailPhrase ∷ stack)) ≡ mapped (λ (q : Trees (Sub d AssigningPhrase ∷ stack)). k (inr q.0, q.1)) (reading end ts (Sub d AssigningPhrase ∷ stack))
statement_tail_then end d stack ts h k = ap (mapped k) (statement_tail_as_assigning end d stack ts h) ∙ mapped-mapped k (λ (q : Trees (Sub d AssigningPhrase ∷ stack)). (inr q.0, q.1)) (reading end ts (Sub d AssigningPhrase ∷ stack))

-- behind all selectors, `:=` and an expression
pub assigning_then : {C : Type 0} (end : Place) (d : ℕ) (stack : Stack) (ts : List Token) → HasOther (SymbolClass Dot) ts → HasOther (SymbolClass LeftBracket) ts → (k : Trees (Sub d AssigningPhrase ∷ stack) → C)
    → mapped k (reading end ts (Sub d AssigningPhrase ∷ stack)) ≡ mapped (λ (q : Trees (Take (SymbolClass Becomes) ∷ Sub d ExprPhrase ∷ stack)). k (made_of AssignTo d stack q)) (reading end ts (Take (SymbolClass Becomes) ∷ Sub d ExprPhrase ∷ stack))
assigning_then {C} end d stack ts h g k = at (first_or_other (SymbolClass Becomes) ts)
  where
    at : HasFirst (SymbolClass Becomes) ts ⊎ HasOther (SymbolClass Becomes) ts
        → mapped k (reading end ts (Sub d AssigningPhrase ∷ stack)) ≡ mapped (λ (q : Trees (Take (SymbolClass Becomes) ∷ Sub d ExprPhrase ∷ stack)). k (made_of AssignTo d stack q)) (reading end ts (Take (SymbolClass Becomes) ∷ Sub d ExprPhrase ∷ stack))
    at (inl f) = by_rule end AssignTo d stack ts k f (omega arith)
    at (inr n) =
        ap (mapped k) ((refused end AssigningPhrase d ts (no_assigning ts n h g) refl).refuses no_memory stack)
        ∙ sym (ap (mapped (λ (q : Trees (Take (SymbolClass Becomes) ∷ Sub d ExprPhrase ∷ stack)). k (made_of AssignTo d stack q))) ((missed end (SymbolClass Becomes) ts n).refuses no_memory (Sub d ExprPhrase ∷ stack)))
