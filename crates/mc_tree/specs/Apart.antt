-- In the factored grammar the next token decides: what may stand behind a phrase that can end begins with no token that the
-- phrase could still take up.
use Rattle.std.specs.Prelude.{◌≡◌, ℕ, suc, Bool, true, false, not, ◌&&◌, ◌||◌, List, [], ◌∷◌, ◌++◌, is_some, refl}
use Rattle.std.proofs.Common.{ap, ◌∙◌, sym, subst}
use Rattle.std.proofs.lemmas.Bool.{false≢true}
use Rattle.mc_tree.specs.declared.token.Reserved.TheVariants.{BeginWord, DoWord, EndWord, ExitWord, ModuleWord, OfWord, ThenWord, UntilWord}
use Rattle.mc_tree.specs.declared.token.Symbol.TheVariants.{Equal, RightParen, LeftBracket, RightBracket, Semicolon, Colon, Dot}
use Rattle.mc_tree.specs.declared.expression.Relation.TheVariants as relation
use Rattle.mc_tree.specs.declared.expression.Adding.TheVariants as adding
use Rattle.mc_tree.specs.declared.expression.Multiplying.TheVariants as multiplying
use Rattle.mc_tree.specs.Classes.{Class, ReservedClass, NameClass, SymbolClass, same, same-eq}
use Rattle.mc_tree.specs.Grammar.{Phrase, ExprPhrase, ExprTailPhrase, SimplePhrase, SimpleTailPhrase, TermPhrase, TermTailPhrase, FactorPhrase, BitsTailPhrase, ElementPhrase, ElementTailPhrase, CommaElementsPhrase, CommaExprsPhrase, FactorTailPhrase, SelectorsPhrase, StatementPhrase, StatementsPhrase, StatementTailPhrase, AssigningPhrase, ElsifsPhrase, ElsePhrase, ExitsPhrase, LastBodyPhrase, ArmPhrase, ArmsPhrase, TypePhrase, RangePhrase, CommaRangesPhrase, IdsPhrase, CommaIdsPhrase, FieldsPhrase, MoreFieldsPhrase, DeclPhrase, ConstPhrase, ConstsPhrase, TypeDeclPhrase, TypeDeclsPhrase, VarIdPhrase, AddressPhrase, VarPhrase, CommaVarIdsPhrase, VarsPhrase, DeclsPhrase, ProcedurePhrase, ProcessPhrase, DriverPhrase, ParamsPhrase, AnswerPhrase, SectionPhrase, SectionsPhrase, PlainPartsPhrase, FacePartsPhrase, DevicePartsPhrase, BegunPhrase, DefinesPhrase, UsesPhrase, ModulePhrase, ProgramPhrase, Rule, ExprBy, Compare, Signed, SimpleBy, Add, TermBy, Multiply, NumberFactor, CharacterFactor, TextFactor, NameFactor, GroupFactor, NotFactor, BitsFactor, NoBits, BitsBy, ElementBy, LastElement, MoreElements, MoreExprs, CallFactor, FieldFactor, IndexFactor, FieldSelector, IndexSelector, NameStatement, IfStatement, WhileStatement, RepeatStatement, LoopStatement, CaseStatement, MoreStatements, CallStatement, AssignStatement, FieldStatement, IndexStatement, AssignTo, FieldTo, IndexTo, MoreElsifs, ElseBody, MoreExits, DoBody, ArmBy, MoreArms, NamedType, ValuesType, ArrayType, RecordType, RangeBy, MoreRanges, FirstId, MoreIds, FieldsBy, NextFields, ConstDecl, TypesDecl, VarDecl, OneConst, ConstsBy, OneType, TypeDeclsBy, OneVarId, AddressBracket, VarBy, MoreVarIds, VarsBy, DeclsBy, OneProcedure, OneProcess, OneDriver, SomeParams, SomeAnswer, ConstSection, VarSection, SectionBy, MoreSections, PlainDecl, PlainProcedure, PlainProcess, PlainInner, FaceDecl, FaceProcedure, DeviceDecl, DeviceProcedure, DeviceDriver, SomeBegun, SomeDefines, SomeUses, PlainInside, InterfaceInside, DeviceInside, PlainWhole, DeviceWhole, first, Take, Sub, Stack, parts, may_be_empty}
use Rattle.mc_tree.specs.NextRules.{next, continuing}

-- a token of this class may come first
abbrev pub starts : Stack → Class → Bool
starts [] class = false
starts (Take c ∷ stack) class = same c class
starts (Sub d phrase ∷ stack) class = is_some (next phrase class) || (may_be_empty phrase && starts stack class)

abbrev pub all_empty : Stack → Bool
all_empty [] = true
all_empty (Take c ∷ stack) = false
all_empty (Sub d phrase ∷ stack) = may_be_empty phrase && all_empty stack

-- none of these classes may come first
abbrev pub Misses : Stack → List Class → Type 0
Misses stack [] = Unit {0}
Misses stack (c ∷ cs) = (starts stack c ≡ false) × Misses stack cs

-- Behind each phrase stands nothing that the phrase could take up.
abbrev pub Apart : Stack → Type 0
Apart [] = Unit {0}
Apart (Take c ∷ stack) = Apart stack
Apart (Sub d phrase ∷ stack) = Misses stack (continuing phrase) × Apart stack

abbrev pub has : Class → List Class → Bool
has c [] = false
has c (x ∷ xs) = same x c || has c xs

-- each of the classes does not come first in these slots, and is also in the other list if the slots may be empty
abbrev pub parted : Stack → List Class → List Class → Bool
parted slots others [] = true
parted slots others (c ∷ cs) = not (starts slots c) && (not (all_empty slots) || has c others) && parted slots others cs

-- slots that may stand for a phrase: each is parted from what stands behind it
abbrev pub fits : Stack → List Class → Bool
fits [] others = true
fits (Take c ∷ slots) others = fits slots others
fits (Sub d phrase ∷ slots) others = parted slots others (continuing phrase) && fits slots others

pub and_left : (a b : Bool) → a && b ≡ true → a ≡ true
and_left true b h = refl
and_left false b h = h

pub and_right : (a b : Bool) → a && b ≡ true → b ≡ true
and_right true b h = h
and_right false b h = absurd (false≢true h)

not_false : (a : Bool) → not a ≡ true → a ≡ false
not_false true h = sym h
not_false false h = refl

or_second : (a b : Bool) → a ≡ false → a || b ≡ true → b ≡ true
or_second true b e h = absurd (false≢true (sym e))
or_second false b e h = h

pub misses-has : (stack : Stack) (cs : List Class) (c : Class) → Misses stack cs → has c cs ≡ true → starts stack c ≡ false
misses-has stack [] c m h = absurd (false≢true h)
misses-has stack (x ∷ xs) c m h = at (same x c) refl (λ e. misses-has stack xs c m.1 (or_second (same x c) (has c xs) e h))
  where
    at : (b : Bool) → same x c ≡ b → (same x c ≡ false → starts stack c ≡ false) → starts stack c ≡ false
    at true e later = subst (λ (z : Class). starts stack z ≡ false) (same-eq x c e) m.0
    at false e later = later e

-- what may come first in slots and a stack behind them
starts-append : (slots stack : Stack) (c : Class) → starts slots c ≡ false → (all_empty slots ≡ true → starts stack c ≡ false) → starts (slots ++ stack) c ≡ false
starts-append [] stack c e h = h refl
starts-append (Take x ∷ slots) stack c e h = e
starts-append (Sub d phrase ∷ slots) stack c e h = at (is_some (next phrase c)) (may_be_empty phrase) refl refl e h (starts-append slots stack c)
  where
    at : (a b : Bool) → is_some (next phrase c) ≡ a → may_be_empty phrase ≡ b → a || (b && starts slots c) ≡ false → (b && all_empty slots ≡ true → starts stack c ≡ false)
        → (starts slots c ≡ false → (all_empty slots ≡ true → starts stack c ≡ false) → starts (slots ++ stack) c ≡ false) → is_some (next phrase c) || (may_be_empty phrase && starts (slots ++ stack) c) ≡ false
    at true b ea eb e h later = absurd (false≢true (sym e))
    at false true ea eb e h later = ap (λ (z : Bool). z || (may_be_empty phrase && starts (slots ++ stack) c)) ea ∙ ap (λ (z : Bool). z && starts (slots ++ stack) c) eb ∙ later e h
    at false false ea eb e h later = ap (λ (z : Bool). z || (may_be_empty phrase && starts (slots ++ stack) c)) ea ∙ ap (λ (z : Bool). z && starts (slots ++ stack) c) eb

parted-misses : (slots stack : Stack) (others cs : List Class) → parted slots others cs ≡ true → Misses stack others → Misses (slots ++ stack) cs
parted-misses slots stack others [] h m = tt
parted-misses slots stack others (c ∷ cs) h m =
    let front = and_left (not (starts slots c) && (not (all_empty slots) || has c others)) (parted slots others cs) h in (
      starts-append slots stack c (not_false (starts slots c) (and_left (not (starts slots c)) (not (all_empty slots) || has c others) front))
          (λ e. misses-has stack others c m (either (all_empty slots) (has c others) e (and_right (not (starts slots c)) (not (all_empty slots) || has c others) front))),
      parted-misses slots stack others cs (and_right (not (starts slots c) && (not (all_empty slots) || has c others)) (parted slots others cs) h) m,
    )
  where
    either : (a b : Bool) → a ≡ true → not a || b ≡ true → b ≡ true
    either true b e h = h
    either false b e h = absurd (false≢true e)

fits-apart : (slots stack : Stack) (others : List Class) → fits slots others ≡ true → Misses stack others → Apart stack → Apart (slots ++ stack)
fits-apart [] stack others h m a = a
fits-apart (Take c ∷ slots) stack others h m a = fits-apart slots stack others h m a
fits-apart (Sub d phrase ∷ slots) stack others h m a = (
  parted-misses slots stack others (continuing phrase) (and_left (parted slots others (continuing phrase)) (fits slots others) h) m,
  fits-apart slots stack others (and_right (parted slots others (continuing phrase)) (fits slots others) h) m a,
)

-- a rule keeps what is to be read apart
pub Apart-parts : {phrase : Phrase} (r : Rule phrase) (d : ℕ) (stack : Stack) → Apart (Sub d phrase ∷ stack) → Apart (parts r d stack)
Apart-parts (ExprBy r) d stack a = Apart-parts r d (Sub d ExprTailPhrase ∷ stack) (fits-apart (Sub d SimplePhrase ∷ Sub d ExprTailPhrase ∷ []) stack (continuing ExprPhrase) refl a.0 a.1)
Apart-parts (Compare op) d stack a = fits-apart (Sub d SimplePhrase ∷ []) stack (continuing ExprTailPhrase) refl a.0 a.1
Apart-parts (Signed op) d stack a = fits-apart (Sub d TermPhrase ∷ Sub d SimpleTailPhrase ∷ []) stack (continuing SimplePhrase) refl a.0 a.1
Apart-parts (SimpleBy r) d stack a = Apart-parts r d (Sub d SimpleTailPhrase ∷ stack) (fits-apart (Sub d TermPhrase ∷ Sub d SimpleTailPhrase ∷ []) stack (continuing SimplePhrase) refl a.0 a.1)
Apart-parts (Add op) d stack a = fits-apart (Sub d TermPhrase ∷ Sub d SimpleTailPhrase ∷ []) stack (continuing SimpleTailPhrase) refl a.0 a.1
Apart-parts (TermBy r) d stack a = Apart-parts r d (Sub d TermTailPhrase ∷ stack) (fits-apart (Sub d FactorPhrase ∷ Sub d TermTailPhrase ∷ []) stack (continuing TermPhrase) refl a.0 a.1)
Apart-parts (Multiply op) d stack a = fits-apart (Sub d FactorPhrase ∷ Sub d TermTailPhrase ∷ []) stack (continuing TermTailPhrase) refl a.0 a.1
Apart-parts NumberFactor d stack a = a.1
Apart-parts CharacterFactor d stack a = a.1
Apart-parts TextFactor d stack a = a.1
Apart-parts NameFactor d stack a = fits-apart (Sub (suc d) FactorTailPhrase ∷ []) stack (continuing FactorPhrase) refl a.0 a.1
Apart-parts GroupFactor d stack a = fits-apart (Sub (suc d) ExprPhrase ∷ Take (SymbolClass RightParen) ∷ []) stack (continuing FactorPhrase) refl a.0 a.1
Apart-parts NotFactor d stack a = fits-apart (Sub (suc d) FactorPhrase ∷ []) stack (continuing FactorPhrase) refl a.0 a.1
Apart-parts BitsFactor d stack a = fits-apart (Sub (suc d) BitsTailPhrase ∷ []) stack (continuing FactorPhrase) refl a.0 a.1
Apart-parts NoBits d stack a = a.1
Apart-parts (BitsBy r) d stack a = Apart-parts r d (Sub d CommaElementsPhrase ∷ Take (SymbolClass RightBracket) ∷ stack) (fits-apart (Sub d ElementPhrase ∷ Sub d CommaElementsPhrase ∷ Take (SymbolClass RightBracket) ∷ []) stack (continuing BitsTailPhrase) refl a.0 a.1)
Apart-parts (ElementBy r) d stack a = Apart-parts r d (Sub d ElementTailPhrase ∷ stack) (fits-apart (Sub d ExprPhrase ∷ Sub d ElementTailPhrase ∷ []) stack (continuing ElementPhrase) refl a.0 a.1)
Apart-parts LastElement d stack a = fits-apart (Sub d ExprPhrase ∷ []) stack (continuing ElementTailPhrase) refl a.0 a.1
Apart-parts MoreElements d stack a = fits-apart (Sub d ElementPhrase ∷ Sub d CommaElementsPhrase ∷ []) stack (continuing CommaElementsPhrase) refl a.0 a.1
Apart-parts MoreExprs d stack a = fits-apart (Sub d ExprPhrase ∷ Sub d CommaExprsPhrase ∷ []) stack (continuing CommaExprsPhrase) refl a.0 a.1
Apart-parts CallFactor d stack a = fits-apart (Sub d ExprPhrase ∷ Sub d CommaExprsPhrase ∷ Take (SymbolClass RightParen) ∷ []) stack (continuing FactorTailPhrase) refl a.0 a.1
Apart-parts FieldFactor d stack a = fits-apart (Take NameClass ∷ Sub d SelectorsPhrase ∷ []) stack (continuing FactorTailPhrase) refl a.0 a.1
Apart-parts IndexFactor d stack a = fits-apart (Sub d ExprPhrase ∷ Sub d CommaExprsPhrase ∷ Take (SymbolClass RightBracket) ∷ Sub d SelectorsPhrase ∷ []) stack (continuing FactorTailPhrase) refl a.0 a.1
Apart-parts FieldSelector d stack a = fits-apart (Take NameClass ∷ Sub d SelectorsPhrase ∷ []) stack (continuing SelectorsPhrase) refl a.0 a.1
Apart-parts IndexSelector d stack a = fits-apart (Sub d ExprPhrase ∷ Sub d CommaExprsPhrase ∷ Take (SymbolClass RightBracket) ∷ Sub d SelectorsPhrase ∷ []) stack (continuing SelectorsPhrase) refl a.0 a.1
Apart-parts NameStatement d stack a = fits-apart (Sub (suc d) StatementTailPhrase ∷ []) stack (continuing StatementPhrase) refl a.0 a.1
Apart-parts IfStatement d stack a = fits-apart (Sub (suc d) ExprPhrase ∷ Take (ReservedClass ThenWord) ∷ Sub (suc d) StatementPhrase ∷ Sub (suc d) StatementsPhrase ∷ Sub (suc d) ElsifsPhrase ∷ Sub (suc d) ElsePhrase ∷ Take (ReservedClass EndWord) ∷ []) stack (continuing StatementPhrase) refl a.0 a.1
Apart-parts WhileStatement d stack a = fits-apart (Sub (suc d) ExprPhrase ∷ Take (ReservedClass DoWord) ∷ Sub (suc d) StatementPhrase ∷ Sub (suc d) StatementsPhrase ∷ Take (ReservedClass EndWord) ∷ []) stack (continuing StatementPhrase) refl a.0 a.1
Apart-parts RepeatStatement d stack a = fits-apart (Sub (suc d) StatementPhrase ∷ Sub (suc d) StatementsPhrase ∷ Take (ReservedClass UntilWord) ∷ Sub (suc d) ExprPhrase ∷ []) stack (continuing StatementPhrase) refl a.0 a.1
Apart-parts LoopStatement d stack a = fits-apart (Sub (suc d) StatementPhrase ∷ Sub (suc d) StatementsPhrase ∷ Sub (suc d) ExitsPhrase ∷ Take (ReservedClass EndWord) ∷ []) stack (continuing StatementPhrase) refl a.0 a.1
Apart-parts CaseStatement d stack a = fits-apart (Sub (suc d) ExprPhrase ∷ Take (ReservedClass OfWord) ∷ Sub (suc d) ArmPhrase ∷ Sub (suc d) ArmsPhrase ∷ Take (ReservedClass EndWord) ∷ []) stack (continuing StatementPhrase) refl a.0 a.1
Apart-parts MoreStatements d stack a = fits-apart (Sub d StatementPhrase ∷ Sub d StatementsPhrase ∷ []) stack (continuing StatementsPhrase) refl a.0 a.1
Apart-parts CallStatement d stack a = fits-apart (Sub d ExprPhrase ∷ Sub d CommaExprsPhrase ∷ Take (SymbolClass RightParen) ∷ []) stack (continuing StatementTailPhrase) refl a.0 a.1
Apart-parts AssignStatement d stack a = fits-apart (Sub d ExprPhrase ∷ []) stack (continuing StatementTailPhrase) refl a.0 a.1
Apart-parts FieldStatement d stack a = fits-apart (Take NameClass ∷ Sub d AssigningPhrase ∷ []) stack (continuing StatementTailPhrase) refl a.0 a.1
Apart-parts IndexStatement d stack a = fits-apart (Sub d ExprPhrase ∷ Sub d CommaExprsPhrase ∷ Take (SymbolClass RightBracket) ∷ Sub d AssigningPhrase ∷ []) stack (continuing StatementTailPhrase) refl a.0 a.1
Apart-parts AssignTo d stack a = fits-apart (Sub d ExprPhrase ∷ []) stack (continuing AssigningPhrase) refl a.0 a.1
Apart-parts FieldTo d stack a = fits-apart (Take NameClass ∷ Sub d AssigningPhrase ∷ []) stack (continuing AssigningPhrase) refl a.0 a.1
Apart-parts IndexTo d stack a = fits-apart (Sub d ExprPhrase ∷ Sub d CommaExprsPhrase ∷ Take (SymbolClass RightBracket) ∷ Sub d AssigningPhrase ∷ []) stack (continuing AssigningPhrase) refl a.0 a.1
Apart-parts MoreElsifs d stack a = fits-apart (Sub d ExprPhrase ∷ Take (ReservedClass ThenWord) ∷ Sub d StatementPhrase ∷ Sub d StatementsPhrase ∷ Sub d ElsifsPhrase ∷ []) stack (continuing ElsifsPhrase) refl a.0 a.1
Apart-parts ElseBody d stack a = fits-apart (Sub d StatementPhrase ∷ Sub d StatementsPhrase ∷ []) stack (continuing ElsePhrase) refl a.0 a.1
Apart-parts MoreExits d stack a = fits-apart (Sub d ExprPhrase ∷ Sub d LastBodyPhrase ∷ Take (ReservedClass ExitWord) ∷ Sub d StatementPhrase ∷ Sub d StatementsPhrase ∷ Sub d ExitsPhrase ∷ []) stack (continuing ExitsPhrase) refl a.0 a.1
Apart-parts DoBody d stack a = fits-apart (Sub d StatementPhrase ∷ Sub d StatementsPhrase ∷ []) stack (continuing LastBodyPhrase) refl a.0 a.1
Apart-parts (ArmBy r) d stack a = Apart-parts r d (Sub d CommaExprsPhrase ∷ Take (SymbolClass Colon) ∷ Take (ReservedClass BeginWord) ∷ Sub d StatementPhrase ∷ Sub d StatementsPhrase ∷ Take (ReservedClass EndWord) ∷ stack) (fits-apart (Sub d ExprPhrase ∷ Sub d CommaExprsPhrase ∷ Take (SymbolClass Colon) ∷ Take (ReservedClass BeginWord) ∷ Sub d StatementPhrase ∷ Sub d StatementsPhrase ∷ Take (ReservedClass EndWord) ∷ []) stack (continuing ArmPhrase) refl a.0 a.1)
Apart-parts MoreArms d stack a = fits-apart (Sub d ArmPhrase ∷ Sub d ArmsPhrase ∷ []) stack (continuing ArmsPhrase) refl a.0 a.1
Apart-parts NamedType d stack a = a.1
Apart-parts ValuesType d stack a = fits-apart (Sub (suc d) IdsPhrase ∷ Take (SymbolClass RightParen) ∷ []) stack (continuing TypePhrase) refl a.0 a.1
Apart-parts ArrayType d stack a = fits-apart (Sub (suc d) RangePhrase ∷ Sub (suc d) CommaRangesPhrase ∷ Take (ReservedClass OfWord) ∷ Sub (suc d) TypePhrase ∷ []) stack (continuing TypePhrase) refl a.0 a.1
Apart-parts RecordType d stack a = fits-apart (Sub (suc d) FieldsPhrase ∷ Sub (suc d) MoreFieldsPhrase ∷ Take (ReservedClass EndWord) ∷ []) stack (continuing TypePhrase) refl a.0 a.1
Apart-parts (RangeBy r) d stack a = Apart-parts r d (Take (SymbolClass Colon) ∷ Sub d ExprPhrase ∷ stack) (fits-apart (Sub d ExprPhrase ∷ Take (SymbolClass Colon) ∷ Sub d ExprPhrase ∷ []) stack (continuing RangePhrase) refl a.0 a.1)
Apart-parts MoreRanges d stack a = fits-apart (Sub d RangePhrase ∷ Sub d CommaRangesPhrase ∷ []) stack (continuing CommaRangesPhrase) refl a.0 a.1
Apart-parts FirstId d stack a = fits-apart (Sub d CommaIdsPhrase ∷ []) stack (continuing IdsPhrase) refl a.0 a.1
Apart-parts MoreIds d stack a = fits-apart (Take NameClass ∷ Sub d CommaIdsPhrase ∷ []) stack (continuing CommaIdsPhrase) refl a.0 a.1
Apart-parts (FieldsBy r) d stack a = Apart-parts r d (Take (SymbolClass Colon) ∷ Sub d TypePhrase ∷ stack) (fits-apart (Sub d IdsPhrase ∷ Take (SymbolClass Colon) ∷ Sub d TypePhrase ∷ []) stack (continuing FieldsPhrase) refl a.0 a.1)
Apart-parts NextFields d stack a = fits-apart (Sub d FieldsPhrase ∷ Sub d MoreFieldsPhrase ∷ []) stack (continuing MoreFieldsPhrase) refl a.0 a.1
Apart-parts ConstDecl d stack a = fits-apart (Sub d ConstPhrase ∷ Sub d ConstsPhrase ∷ []) stack (continuing DeclPhrase) refl a.0 a.1
Apart-parts TypesDecl d stack a = fits-apart (Sub d TypeDeclPhrase ∷ Sub d TypeDeclsPhrase ∷ []) stack (continuing DeclPhrase) refl a.0 a.1
Apart-parts VarDecl d stack a = fits-apart (Sub d VarPhrase ∷ Sub d VarsPhrase ∷ []) stack (continuing DeclPhrase) refl a.0 a.1
Apart-parts OneConst d stack a = fits-apart (Take (SymbolClass Equal) ∷ Sub d ExprPhrase ∷ Take (SymbolClass Semicolon) ∷ []) stack (continuing ConstPhrase) refl a.0 a.1
Apart-parts (ConstsBy r) d stack a = Apart-parts r d (Sub d ConstsPhrase ∷ stack) (fits-apart (Sub d ConstPhrase ∷ Sub d ConstsPhrase ∷ []) stack (continuing ConstsPhrase) refl a.0 a.1)
Apart-parts OneType d stack a = fits-apart (Take (SymbolClass Equal) ∷ Sub d TypePhrase ∷ Take (SymbolClass Semicolon) ∷ []) stack (continuing TypeDeclPhrase) refl a.0 a.1
Apart-parts (TypeDeclsBy r) d stack a = Apart-parts r d (Sub d TypeDeclsPhrase ∷ stack) (fits-apart (Sub d TypeDeclPhrase ∷ Sub d TypeDeclsPhrase ∷ []) stack (continuing TypeDeclsPhrase) refl a.0 a.1)
Apart-parts OneVarId d stack a = fits-apart (Sub d AddressPhrase ∷ []) stack (continuing VarIdPhrase) refl a.0 a.1
Apart-parts AddressBracket d stack a = fits-apart (Sub d ExprPhrase ∷ Take (SymbolClass RightBracket) ∷ []) stack (continuing AddressPhrase) refl a.0 a.1
Apart-parts (VarBy r) d stack a = Apart-parts r d (Sub d CommaVarIdsPhrase ∷ Take (SymbolClass Colon) ∷ Sub d TypePhrase ∷ Take (SymbolClass Semicolon) ∷ stack) (fits-apart (Sub d VarIdPhrase ∷ Sub d CommaVarIdsPhrase ∷ Take (SymbolClass Colon) ∷ Sub d TypePhrase ∷ Take (SymbolClass Semicolon) ∷ []) stack (continuing VarPhrase) refl a.0 a.1)
Apart-parts MoreVarIds d stack a = fits-apart (Sub d VarIdPhrase ∷ Sub d CommaVarIdsPhrase ∷ []) stack (continuing CommaVarIdsPhrase) refl a.0 a.1
Apart-parts (VarsBy r) d stack a = Apart-parts r d (Sub d VarsPhrase ∷ stack) (fits-apart (Sub d VarPhrase ∷ Sub d VarsPhrase ∷ []) stack (continuing VarsPhrase) refl a.0 a.1)
Apart-parts (DeclsBy r) d stack a = Apart-parts r d (Sub d DeclsPhrase ∷ stack) (fits-apart (Sub d DeclPhrase ∷ Sub d DeclsPhrase ∷ []) stack (continuing DeclsPhrase) refl a.0 a.1)
Apart-parts OneProcedure d stack a = fits-apart (Take NameClass ∷ Sub d ParamsPhrase ∷ Sub d AnswerPhrase ∷ Take (SymbolClass Semicolon) ∷ Sub d DeclsPhrase ∷ Take (ReservedClass BeginWord) ∷ Sub d StatementPhrase ∷ Sub d StatementsPhrase ∷ Take (ReservedClass EndWord) ∷ Take NameClass ∷ Take (SymbolClass Semicolon) ∷ []) stack (continuing ProcedurePhrase) refl a.0 a.1
Apart-parts OneProcess d stack a = fits-apart (Take NameClass ∷ Sub d ParamsPhrase ∷ Take (SymbolClass Semicolon) ∷ Sub d DeclsPhrase ∷ Take (ReservedClass BeginWord) ∷ Sub d StatementPhrase ∷ Sub d StatementsPhrase ∷ Take (ReservedClass EndWord) ∷ Take NameClass ∷ Take (SymbolClass Semicolon) ∷ []) stack (continuing ProcessPhrase) refl a.0 a.1
Apart-parts OneDriver d stack a = fits-apart (Take NameClass ∷ Take (SymbolClass LeftBracket) ∷ Sub d ExprPhrase ∷ Take (SymbolClass RightBracket) ∷ Take (SymbolClass Semicolon) ∷ Sub d DeclsPhrase ∷ Take (ReservedClass BeginWord) ∷ Sub d StatementPhrase ∷ Sub d StatementsPhrase ∷ Take (ReservedClass EndWord) ∷ Take NameClass ∷ Take (SymbolClass Semicolon) ∷ []) stack (continuing DriverPhrase) refl a.0 a.1
Apart-parts SomeParams d stack a = fits-apart (Sub d SectionPhrase ∷ Sub d SectionsPhrase ∷ Take (SymbolClass RightParen) ∷ []) stack (continuing ParamsPhrase) refl a.0 a.1
Apart-parts SomeAnswer d stack a = fits-apart (Take NameClass ∷ []) stack (continuing AnswerPhrase) refl a.0 a.1
Apart-parts ConstSection d stack a = fits-apart (Sub d IdsPhrase ∷ Take (SymbolClass Colon) ∷ Take NameClass ∷ []) stack (continuing SectionPhrase) refl a.0 a.1
Apart-parts VarSection d stack a = fits-apart (Sub d IdsPhrase ∷ Take (SymbolClass Colon) ∷ Take NameClass ∷ []) stack (continuing SectionPhrase) refl a.0 a.1
Apart-parts (SectionBy r) d stack a = Apart-parts r d (Take (SymbolClass Colon) ∷ Take NameClass ∷ stack) (fits-apart (Sub d IdsPhrase ∷ Take (SymbolClass Colon) ∷ Take NameClass ∷ []) stack (continuing SectionPhrase) refl a.0 a.1)
Apart-parts MoreSections d stack a = fits-apart (Sub d SectionPhrase ∷ Sub d SectionsPhrase ∷ []) stack (continuing SectionsPhrase) refl a.0 a.1
Apart-parts (PlainDecl r) d stack a = Apart-parts r d (Sub d PlainPartsPhrase ∷ stack) (fits-apart (Sub d DeclPhrase ∷ Sub d PlainPartsPhrase ∷ []) stack (continuing PlainPartsPhrase) refl a.0 a.1)
Apart-parts (PlainProcedure r) d stack a = Apart-parts r d (Sub d PlainPartsPhrase ∷ stack) (fits-apart (Sub d ProcedurePhrase ∷ Sub d PlainPartsPhrase ∷ []) stack (continuing PlainPartsPhrase) refl a.0 a.1)
Apart-parts (PlainProcess r) d stack a = Apart-parts r d (Sub d PlainPartsPhrase ∷ stack) (fits-apart (Sub d ProcessPhrase ∷ Sub d PlainPartsPhrase ∷ []) stack (continuing PlainPartsPhrase) refl a.0 a.1)
Apart-parts (PlainInner r) d stack a = Apart-parts r d (Sub d PlainPartsPhrase ∷ stack) (fits-apart (Sub d ModulePhrase ∷ Sub d PlainPartsPhrase ∷ []) stack (continuing PlainPartsPhrase) refl a.0 a.1)
Apart-parts (FaceDecl r) d stack a = Apart-parts r d (Sub d FacePartsPhrase ∷ stack) (fits-apart (Sub d DeclPhrase ∷ Sub d FacePartsPhrase ∷ []) stack (continuing FacePartsPhrase) refl a.0 a.1)
Apart-parts (FaceProcedure r) d stack a = Apart-parts r d (Sub d FacePartsPhrase ∷ stack) (fits-apart (Sub d ProcedurePhrase ∷ Sub d FacePartsPhrase ∷ []) stack (continuing FacePartsPhrase) refl a.0 a.1)
Apart-parts (DeviceDecl r) d stack a = Apart-parts r d (Sub d DevicePartsPhrase ∷ stack) (fits-apart (Sub d DeclPhrase ∷ Sub d DevicePartsPhrase ∷ []) stack (continuing DevicePartsPhrase) refl a.0 a.1)
Apart-parts (DeviceProcedure r) d stack a = Apart-parts r d (Sub d DevicePartsPhrase ∷ stack) (fits-apart (Sub d ProcedurePhrase ∷ Sub d DevicePartsPhrase ∷ []) stack (continuing DevicePartsPhrase) refl a.0 a.1)
Apart-parts (DeviceDriver r) d stack a = Apart-parts r d (Sub d DevicePartsPhrase ∷ stack) (fits-apart (Sub d DriverPhrase ∷ Sub d DevicePartsPhrase ∷ []) stack (continuing DevicePartsPhrase) refl a.0 a.1)
Apart-parts SomeBegun d stack a = fits-apart (Sub d StatementPhrase ∷ Sub d StatementsPhrase ∷ []) stack (continuing BegunPhrase) refl a.0 a.1
Apart-parts SomeDefines d stack a = fits-apart (Sub d IdsPhrase ∷ Take (SymbolClass Semicolon) ∷ []) stack (continuing DefinesPhrase) refl a.0 a.1
Apart-parts SomeUses d stack a = fits-apart (Sub d IdsPhrase ∷ Take (SymbolClass Semicolon) ∷ []) stack (continuing UsesPhrase) refl a.0 a.1
Apart-parts PlainInside d stack a = fits-apart (Take NameClass ∷ Take (SymbolClass Semicolon) ∷ Sub (suc d) DefinesPhrase ∷ Sub (suc d) UsesPhrase ∷ Sub (suc d) PlainPartsPhrase ∷ Sub (suc d) BegunPhrase ∷ Take (ReservedClass EndWord) ∷ Take NameClass ∷ Take (SymbolClass Semicolon) ∷ []) stack (continuing ModulePhrase) refl a.0 a.1
Apart-parts InterfaceInside d stack a = fits-apart (Take (ReservedClass ModuleWord) ∷ Take NameClass ∷ Take (SymbolClass Semicolon) ∷ Sub (suc d) DefinesPhrase ∷ Sub (suc d) UsesPhrase ∷ Sub (suc d) FacePartsPhrase ∷ Sub (suc d) BegunPhrase ∷ Take (ReservedClass EndWord) ∷ Take NameClass ∷ Take (SymbolClass Semicolon) ∷ []) stack (continuing ModulePhrase) refl a.0 a.1
Apart-parts DeviceInside d stack a = fits-apart (Take (ReservedClass ModuleWord) ∷ Take NameClass ∷ Take (SymbolClass LeftBracket) ∷ Sub (suc d) ExprPhrase ∷ Take (SymbolClass RightBracket) ∷ Take (SymbolClass Semicolon) ∷ Sub (suc d) DefinesPhrase ∷ Sub (suc d) UsesPhrase ∷ Sub (suc d) DevicePartsPhrase ∷ Sub (suc d) BegunPhrase ∷ Take (ReservedClass EndWord) ∷ Take NameClass ∷ Take (SymbolClass Semicolon) ∷ []) stack (continuing ModulePhrase) refl a.0 a.1
Apart-parts PlainWhole d stack a = fits-apart (Take NameClass ∷ Take (SymbolClass Semicolon) ∷ Sub d PlainPartsPhrase ∷ Sub d BegunPhrase ∷ Take (ReservedClass EndWord) ∷ Take NameClass ∷ Take (SymbolClass Dot) ∷ []) stack (continuing ProgramPhrase) refl a.0 a.1
Apart-parts DeviceWhole d stack a = fits-apart (Take (ReservedClass ModuleWord) ∷ Take NameClass ∷ Take (SymbolClass LeftBracket) ∷ Sub d ExprPhrase ∷ Take (SymbolClass RightBracket) ∷ Take (SymbolClass Semicolon) ∷ Sub d DevicePartsPhrase ∷ Sub d BegunPhrase ∷ Take (ReservedClass EndWord) ∷ Take NameClass ∷ Take (SymbolClass Dot) ∷ []) stack (continuing ProgramPhrase) refl a.0 a.1

-- a phrase that may be empty can take up what its rules begin with
pub continuing-first : {phrase : Phrase} (r : Rule phrase) → may_be_empty phrase ≡ true → has (first r) (continuing phrase) ≡ true
continuing-first (ExprBy r) h = absurd (false≢true h)
continuing-first (Compare relation.Equal) h = refl
continuing-first (Compare relation.Unequal) h = refl
continuing-first (Compare relation.Less) h = refl
continuing-first (Compare relation.LessEqual) h = refl
continuing-first (Compare relation.Greater) h = refl
continuing-first (Compare relation.GreaterEqual) h = refl
continuing-first (Signed op) h = absurd (false≢true h)
continuing-first (SimpleBy r) h = absurd (false≢true h)
continuing-first (Add adding.Plus) h = refl
continuing-first (Add adding.Minus) h = refl
continuing-first (Add adding.Or) h = refl
continuing-first (Add adding.Xor) h = refl
continuing-first (TermBy r) h = absurd (false≢true h)
continuing-first (Multiply multiplying.Times) h = refl
continuing-first (Multiply multiplying.Div) h = refl
continuing-first (Multiply multiplying.Mod) h = refl
continuing-first (Multiply multiplying.And) h = refl
continuing-first NumberFactor h = absurd (false≢true h)
continuing-first CharacterFactor h = absurd (false≢true h)
continuing-first TextFactor h = absurd (false≢true h)
continuing-first NameFactor h = absurd (false≢true h)
continuing-first GroupFactor h = absurd (false≢true h)
continuing-first NotFactor h = absurd (false≢true h)
continuing-first BitsFactor h = absurd (false≢true h)
continuing-first NoBits h = absurd (false≢true h)
continuing-first (BitsBy r) h = absurd (false≢true h)
continuing-first (ElementBy r) h = absurd (false≢true h)
continuing-first LastElement h = refl
continuing-first MoreElements h = refl
continuing-first MoreExprs h = refl
continuing-first CallFactor h = refl
continuing-first FieldFactor h = refl
continuing-first IndexFactor h = refl
continuing-first FieldSelector h = refl
continuing-first IndexSelector h = refl
continuing-first NameStatement h = refl
continuing-first IfStatement h = refl
continuing-first WhileStatement h = refl
continuing-first RepeatStatement h = refl
continuing-first LoopStatement h = refl
continuing-first CaseStatement h = refl
continuing-first MoreStatements h = refl
continuing-first CallStatement h = refl
continuing-first AssignStatement h = refl
continuing-first FieldStatement h = refl
continuing-first IndexStatement h = refl
continuing-first AssignTo h = absurd (false≢true h)
continuing-first FieldTo h = absurd (false≢true h)
continuing-first IndexTo h = absurd (false≢true h)
continuing-first MoreElsifs h = refl
continuing-first ElseBody h = refl
continuing-first MoreExits h = refl
continuing-first DoBody h = refl
continuing-first (ArmBy r) h = absurd (false≢true h)
continuing-first MoreArms h = refl
continuing-first NamedType h = absurd (false≢true h)
continuing-first ValuesType h = absurd (false≢true h)
continuing-first ArrayType h = absurd (false≢true h)
continuing-first RecordType h = absurd (false≢true h)
continuing-first (RangeBy r) h = absurd (false≢true h)
continuing-first MoreRanges h = refl
continuing-first FirstId h = absurd (false≢true h)
continuing-first MoreIds h = refl
continuing-first (FieldsBy r) h = absurd (false≢true h)
continuing-first NextFields h = refl
continuing-first ConstDecl h = absurd (false≢true h)
continuing-first TypesDecl h = absurd (false≢true h)
continuing-first VarDecl h = absurd (false≢true h)
continuing-first OneConst h = absurd (false≢true h)
continuing-first (ConstsBy OneConst) h = refl
continuing-first OneType h = absurd (false≢true h)
continuing-first (TypeDeclsBy OneType) h = refl
continuing-first OneVarId h = absurd (false≢true h)
continuing-first AddressBracket h = refl
continuing-first (VarBy r) h = absurd (false≢true h)
continuing-first MoreVarIds h = refl
continuing-first (VarsBy (VarBy OneVarId)) h = refl
continuing-first (DeclsBy ConstDecl) h = refl
continuing-first (DeclsBy TypesDecl) h = refl
continuing-first (DeclsBy VarDecl) h = refl
continuing-first OneProcedure h = absurd (false≢true h)
continuing-first OneProcess h = absurd (false≢true h)
continuing-first OneDriver h = absurd (false≢true h)
continuing-first SomeParams h = refl
continuing-first SomeAnswer h = refl
continuing-first ConstSection h = absurd (false≢true h)
continuing-first VarSection h = absurd (false≢true h)
continuing-first (SectionBy r) h = absurd (false≢true h)
continuing-first MoreSections h = refl
continuing-first (PlainDecl ConstDecl) h = refl
continuing-first (PlainDecl TypesDecl) h = refl
continuing-first (PlainDecl VarDecl) h = refl
continuing-first (PlainProcedure OneProcedure) h = refl
continuing-first (PlainProcess OneProcess) h = refl
continuing-first (PlainInner PlainInside) h = refl
continuing-first (PlainInner InterfaceInside) h = refl
continuing-first (PlainInner DeviceInside) h = refl
continuing-first (FaceDecl ConstDecl) h = refl
continuing-first (FaceDecl TypesDecl) h = refl
continuing-first (FaceDecl VarDecl) h = refl
continuing-first (FaceProcedure OneProcedure) h = refl
continuing-first (DeviceDecl ConstDecl) h = refl
continuing-first (DeviceDecl TypesDecl) h = refl
continuing-first (DeviceDecl VarDecl) h = refl
continuing-first (DeviceProcedure OneProcedure) h = refl
continuing-first (DeviceDriver OneDriver) h = refl
continuing-first SomeBegun h = refl
continuing-first SomeDefines h = refl
continuing-first SomeUses h = refl
continuing-first PlainInside h = absurd (false≢true h)
continuing-first InterfaceInside h = absurd (false≢true h)
continuing-first DeviceInside h = absurd (false≢true h)
continuing-first PlainWhole h = absurd (false≢true h)
continuing-first DeviceWhole h = absurd (false≢true h)
