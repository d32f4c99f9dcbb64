-- What is decoded is what the tokens are, and what is written is decoded.
use Rattle.std.specs.Prelude.{◌≡◌, ◌≤◌, ◌<◌, ℕ, Bool, true, false, nat_lt, if◌then◌else◌, List, [], ◌∷◌, Option, Some, None, is_some, refl}
use Rattle.std.proofs.Common.{ap, ◌∙◌, sym, subst, arith}
use Rattle.std.proofs.lemmas.Bool.{false≢true}
use Rattle.std.proofs.lemmas.Bool.Decides.{nat_tests}
use Rattle.std.proofs.Math.Dec.{T}
use Rattle.mc_tree.specs.declared.token.Token.{Token}
use Rattle.mc_tree.specs.declared.token.Kind.{Kind}
use Rattle.mc_tree.specs.declared.token.Reserved.{Reserved}
use Rattle.mc_tree.specs.declared.token.Symbol.{Symbol}
use Rattle.mc_tree.specs.declared.token.Kind.TheVariants.{Reserved as ReservedKind, Name, Number, Char, Text, Symbol as SymbolKind}
use Rattle.mc_tree.specs.Leaves.{Leaf, begin}
use Rattle.mc_tree.specs.StatementLaws.{empty-is}
use Rattle.mc_tree.specs.Classes.{Class, ReservedClass, NameClass, NumberClass, CharacterClass, TextClass, SymbolClass, class_of, Data, kind_of, same, same-eq, same-refl}
use Rattle.mc_tree.specs.Grammar.{Phrase, ExprPhrase, ExprTailPhrase, SimplePhrase, SimpleTailPhrase, TermPhrase, TermTailPhrase, FactorPhrase, BitsTailPhrase, ElementPhrase, ElementTailPhrase, CommaElementsPhrase, CommaExprsPhrase, FactorTailPhrase, SelectorsPhrase, StatementPhrase, StatementsPhrase, StatementTailPhrase, AssigningPhrase, ElsifsPhrase, ElsePhrase, ExitsPhrase, LastBodyPhrase, ArmPhrase, ArmsPhrase, TypePhrase, RangePhrase, CommaRangesPhrase, IdsPhrase, CommaIdsPhrase, FieldsPhrase, MoreFieldsPhrase, DeclPhrase, ConstPhrase, ConstsPhrase, TypeDeclPhrase, TypeDeclsPhrase, VarIdPhrase, AddressPhrase, VarPhrase, CommaVarIdsPhrase, VarsPhrase, DeclsPhrase, ProcedurePhrase, ProcessPhrase, DriverPhrase, ParamsPhrase, AnswerPhrase, SectionPhrase, SectionsPhrase, PlainPartsPhrase, FacePartsPhrase, DevicePartsPhrase, BegunPhrase, DefinesPhrase, UsesPhrase, ModulePhrase, ProgramPhrase, Rule, first, Take, Sub, Stack, parts, depth_of_first}
use Rattle.mc_tree.specs.NextRules.{next}
use Rattle.mc_tree.specs.Phrases.{Of, writes, Trees, all}
use Rattle.mc_tree.specs.PhraseLaws.{written-make}
use Rattle.mc_tree.specs.Splits.{empty}
use Rattle.mc_parse.specs.Decode.{data_as, Fed, fed_token, fed_rule, fed_behind, fed_by, feed, with_empty, nothing_left}

pub some_same : {A : Type 0} (x y : A) → Some x ≡ Some y → x ≡ y
some_same x y e = cc

pub none_some : {A P : Type 0} (x : A) → None ≡ Some x → P
none_some x e = absurd (false≢true (ap is_some e))

-- an empty phrase writes nothing
pub empty-writes : (phrase : Phrase) (x : Of phrase) → empty phrase ≡ Some x → (d : ℕ) (rest : List Leaf) → writes phrase x d rest ≡ rest
empty-writes ExprPhrase x e d rest = absurd (false≢true (ap is_some e))
empty-writes ExprTailPhrase x e d rest = ap (λ (z : Of ExprTailPhrase). writes ExprTailPhrase z d rest) (sym (some_same _ x e))
empty-writes SimplePhrase x e d rest = absurd (false≢true (ap is_some e))
empty-writes SimpleTailPhrase x e d rest = ap (λ (z : Of SimpleTailPhrase). writes SimpleTailPhrase z d rest) (sym (some_same _ x e))
empty-writes TermPhrase x e d rest = absurd (false≢true (ap is_some e))
empty-writes TermTailPhrase x e d rest = ap (λ (z : Of TermTailPhrase). writes TermTailPhrase z d rest) (sym (some_same _ x e))
empty-writes FactorPhrase x e d rest = absurd (false≢true (ap is_some e))
empty-writes BitsTailPhrase x e d rest = absurd (false≢true (ap is_some e))
empty-writes ElementPhrase x e d rest = absurd (false≢true (ap is_some e))
empty-writes ElementTailPhrase x e d rest = ap (λ (z : Of ElementTailPhrase). writes ElementTailPhrase z d rest) (sym (some_same _ x e))
empty-writes CommaElementsPhrase x e d rest = ap (λ (z : Of CommaElementsPhrase). writes CommaElementsPhrase z d rest) (sym (some_same _ x e))
empty-writes CommaExprsPhrase x e d rest = ap (λ (z : Of CommaExprsPhrase). writes CommaExprsPhrase z d rest) (sym (some_same _ x e))
empty-writes FactorTailPhrase x e d rest = ap (λ (z : Of FactorTailPhrase). writes FactorTailPhrase z d rest) (sym (some_same _ x e))
empty-writes SelectorsPhrase x e d rest = ap (λ (z : Of SelectorsPhrase). writes SelectorsPhrase z d rest) (sym (some_same _ x e))
empty-writes StatementPhrase x e d rest = ap (λ (z : Of StatementPhrase). writes StatementPhrase z d rest) (sym (some_same _ x e)) ∙ empty-is d rest
empty-writes StatementsPhrase x e d rest = ap (λ (z : Of StatementsPhrase). writes StatementsPhrase z d rest) (sym (some_same _ x e))
empty-writes StatementTailPhrase x e d rest = ap (λ (z : Of StatementTailPhrase). writes StatementTailPhrase z d rest) (sym (some_same _ x e))
empty-writes AssigningPhrase x e d rest = absurd (false≢true (ap is_some e))
empty-writes ElsifsPhrase x e d rest = ap (λ (z : Of ElsifsPhrase). writes ElsifsPhrase z d rest) (sym (some_same _ x e))
empty-writes ElsePhrase x e d rest = ap (λ (z : Of ElsePhrase). writes ElsePhrase z d rest) (sym (some_same _ x e))
empty-writes ExitsPhrase x e d rest = ap (λ (z : Of ExitsPhrase). writes ExitsPhrase z d rest) (sym (some_same _ x e))
empty-writes LastBodyPhrase x e d rest = ap (λ (z : Of LastBodyPhrase). writes LastBodyPhrase z d rest) (sym (some_same _ x e))
empty-writes ArmPhrase x e d rest = absurd (false≢true (ap is_some e))
empty-writes ArmsPhrase x e d rest = ap (λ (z : Of ArmsPhrase). writes ArmsPhrase z d rest) (sym (some_same _ x e))
empty-writes TypePhrase x e d rest = absurd (false≢true (ap is_some e))
empty-writes RangePhrase x e d rest = absurd (false≢true (ap is_some e))
empty-writes CommaRangesPhrase x e d rest = ap (λ (z : Of CommaRangesPhrase). writes CommaRangesPhrase z d rest) (sym (some_same _ x e))
empty-writes IdsPhrase x e d rest = absurd (false≢true (ap is_some e))
empty-writes CommaIdsPhrase x e d rest = ap (λ (z : Of CommaIdsPhrase). writes CommaIdsPhrase z d rest) (sym (some_same _ x e))
empty-writes FieldsPhrase x e d rest = absurd (false≢true (ap is_some e))
empty-writes MoreFieldsPhrase x e d rest = ap (λ (z : Of MoreFieldsPhrase). writes MoreFieldsPhrase z d rest) (sym (some_same _ x e))
empty-writes DeclPhrase x e d rest = absurd (false≢true (ap is_some e))
empty-writes ConstPhrase x e d rest = absurd (false≢true (ap is_some e))
empty-writes ConstsPhrase x e d rest = ap (λ (z : Of ConstsPhrase). writes ConstsPhrase z d rest) (sym (some_same _ x e))
empty-writes TypeDeclPhrase x e d rest = absurd (false≢true (ap is_some e))
empty-writes TypeDeclsPhrase x e d rest = ap (λ (z : Of TypeDeclsPhrase). writes TypeDeclsPhrase z d rest) (sym (some_same _ x e))
empty-writes VarIdPhrase x e d rest = absurd (false≢true (ap is_some e))
empty-writes AddressPhrase x e d rest = ap (λ (z : Of AddressPhrase). writes AddressPhrase z d rest) (sym (some_same _ x e))
empty-writes VarPhrase x e d rest = absurd (false≢true (ap is_some e))
empty-writes CommaVarIdsPhrase x e d rest = ap (λ (z : Of CommaVarIdsPhrase). writes CommaVarIdsPhrase z d rest) (sym (some_same _ x e))
empty-writes VarsPhrase x e d rest = ap (λ (z : Of VarsPhrase). writes VarsPhrase z d rest) (sym (some_same _ x e))
empty-writes DeclsPhrase x e d rest = ap (λ (z : Of DeclsPhrase). writes DeclsPhrase z d rest) (sym (some_same _ x e))
empty-writes ProcedurePhrase x e d rest = absurd (false≢true (ap is_some e))
empty-writes ProcessPhrase x e d rest = absurd (false≢true (ap is_some e))
empty-writes DriverPhrase x e d rest = absurd (false≢true (ap is_some e))
empty-writes ParamsPhrase x e d rest = ap (λ (z : Of ParamsPhrase). writes ParamsPhrase z d rest) (sym (some_same _ x e))
empty-writes AnswerPhrase x e d rest = ap (λ (z : Of AnswerPhrase). writes AnswerPhrase z d rest) (sym (some_same _ x e))
empty-writes SectionPhrase x e d rest = absurd (false≢true (ap is_some e))
empty-writes SectionsPhrase x e d rest = ap (λ (z : Of SectionsPhrase). writes SectionsPhrase z d rest) (sym (some_same _ x e))
empty-writes PlainPartsPhrase x e d rest = ap (λ (z : Of PlainPartsPhrase). writes PlainPartsPhrase z d rest) (sym (some_same _ x e))
empty-writes FacePartsPhrase x e d rest = ap (λ (z : Of FacePartsPhrase). writes FacePartsPhrase z d rest) (sym (some_same _ x e))
empty-writes DevicePartsPhrase x e d rest = ap (λ (z : Of DevicePartsPhrase). writes DevicePartsPhrase z d rest) (sym (some_same _ x e))
empty-writes BegunPhrase x e d rest = ap (λ (z : Of BegunPhrase). writes BegunPhrase z d rest) (sym (some_same _ x e))
empty-writes DefinesPhrase x e d rest = ap (λ (z : Of DefinesPhrase). writes DefinesPhrase z d rest) (sym (some_same _ x e))
empty-writes UsesPhrase x e d rest = ap (λ (z : Of UsesPhrase). writes UsesPhrase z d rest) (sym (some_same _ x e))
empty-writes ModulePhrase x e d rest = absurd (false≢true (ap is_some e))
empty-writes ProgramPhrase x e d rest = absurd (false≢true (ap is_some e))

is_true : (b : Bool) → b ≡ true → T b
is_true b h = subst T (sym h) tt

pub past : (n : ℕ) → nat_lt 64 n ≡ true → 64 < n
past n h = grind (arith, nat_tests)

pub not_past : (n : ℕ) → nat_lt 64 n ≡ false → n ≤ 64
not_past n h = grind (arith, nat_tests)

pub within : (n : ℕ) → n ≤ 64 → nat_lt 64 n ≡ false
within n h = grind (arith, nat_tests)

reserved_kind : (kind : Kind) (reserved : Reserved) → ReservedClass reserved ≡ class_of kind → ReservedKind reserved ≡ kind
reserved_kind (ReservedKind r) reserved e = cc
reserved_kind (Name text) reserved e = cc
reserved_kind (Number value) reserved e = cc
reserved_kind (Char value) reserved e = cc
reserved_kind (Text text) reserved e = cc
reserved_kind (SymbolKind s) reserved e = cc

symbol_kind : (kind : Kind) (symbol : Symbol) → SymbolClass symbol ≡ class_of kind → SymbolKind symbol ≡ kind
symbol_kind (ReservedKind r) symbol e = cc
symbol_kind (Name text) symbol e = cc
symbol_kind (Number value) symbol e = cc
symbol_kind (Char value) symbol e = cc
symbol_kind (Text text) symbol e = cc
symbol_kind (SymbolKind s) symbol e = cc

abbrev unit_if : Bool → Option (Unit {0})
unit_if b = if b then Some tt else None

by_test : (b : Bool) (v : Unit {0}) → unit_if b ≡ Some v → b ≡ true
by_test true v e = refl
by_test false v e = none_some v e

-- what a token has besides its class is of the token
pub kind_of-data_as : (class : Class) (kind : Kind) (v : Data class) → data_as class kind ≡ Some v → kind_of class v ≡ kind
kind_of-data_as (ReservedClass reserved) kind v e = reserved_kind kind reserved (same-eq (ReservedClass reserved) (class_of kind) (by_test (same (ReservedClass reserved) (class_of kind)) v e))
kind_of-data_as NameClass (Name text) v e = ap Name (sym (some_same text v e))
kind_of-data_as NameClass _ v e = none_some v e
kind_of-data_as NumberClass (Number value) v e = ap Number (sym (some_same value v e))
kind_of-data_as NumberClass _ v e = none_some v e
kind_of-data_as CharacterClass (Char value) v e = ap Char (sym (some_same value v e))
kind_of-data_as CharacterClass _ v e = none_some v e
kind_of-data_as TextClass (Text text) v e = ap Text (sym (some_same text v e))
kind_of-data_as TextClass _ v e = none_some v e
kind_of-data_as (SymbolClass symbol) kind v e = symbol_kind kind symbol (same-eq (SymbolClass symbol) (class_of kind) (by_test (same (SymbolClass symbol) (class_of kind)) v e))

pub data_as-kind_of : (class : Class) (v : Data class) → data_as class (kind_of class v) ≡ Some v
data_as-kind_of (ReservedClass reserved) v = ap unit_if (same-refl (ReservedClass reserved))
data_as-kind_of NameClass v = refl
data_as-kind_of NumberClass v = refl
data_as-kind_of CharacterClass v = refl
data_as-kind_of TextClass v = refl
data_as-kind_of (SymbolClass symbol) v = ap unit_if (same-refl (SymbolClass symbol))

-- A token that is fed is the first that the trees write, and begins a node of that depth.
abbrev Writes_first : Token → (stack : Stack) → Fed stack → Type 0
Writes_first t stack f = (ks : Trees f.left) → all stack (f.back ks) ≡ begin f.depth t.kind t.place (all f.left ks)

fed_token-writes : (t : Token) (class : Class) (stack : Stack) (f : Fed (Take class ∷ stack)) (o : Option (Data class)) → data_as class t.kind ≡ o
    → fed_token class stack t.place o ≡ Some f → Writes_first t (Take class ∷ stack) f
fed_token-writes t class stack f None e h = none_some f h
fed_token-writes t class stack f (Some v) e h =
    subst (Writes_first t (Take class ∷ stack)) (some_same _ f h) (λ (ks : Trees stack). ap (λ (k : Kind). begin 0 k t.place (all stack ks)) (kind_of-data_as class t.kind v e))

fed_rule-writes : (t : Token) (phrase : Phrase) (r : Rule phrase) (d : ℕ) (stack : Stack) (f : Fed (Sub d phrase ∷ stack)) (o : Option (Data (first r))) → data_as (first r) t.kind ≡ o
    → fed_rule r d stack t.place o ≡ Some f → Writes_first t (Sub d phrase ∷ stack) f
fed_rule-writes t phrase r d stack f None e h = none_some f h
fed_rule-writes t phrase r d stack f (Some v) e h =
    subst (Writes_first t (Sub d phrase ∷ stack)) (some_same _ f h)
    (λ (ks : Trees (parts r d stack)). written-make r d stack v t.place ks ∙ ap (λ (k : Kind). begin (depth_of_first r d) k t.place (all (parts r d stack) ks)) (kind_of-data_as (first r) t.kind v e))

fed_behind-writes : (t : Token) (phrase : Phrase) (d : ℕ) (stack : Stack) (f : Fed (Sub d phrase ∷ stack)) (o : Option (Of phrase)) (g : Option (Fed stack)) → empty phrase ≡ o
    → ((h : Fed stack) → g ≡ Some h → Writes_first t stack h) → fed_behind d phrase stack o g ≡ Some f → Writes_first t (Sub d phrase ∷ stack) f
fed_behind-writes t phrase d stack f None g e later h = none_some f h
fed_behind-writes t phrase d stack f (Some x) None e later h = none_some f h
fed_behind-writes t phrase d stack f (Some x) (Some g) e later h =
    subst (Writes_first t (Sub d phrase ∷ stack)) (some_same _ f h) (λ (ks : Trees g.left). empty-writes phrase x e d (all stack (g.back ks)) ∙ later g refl ks)

fed_by-writes : (t : Token) (phrase : Phrase) (d : ℕ) (stack : Stack) (f : Fed (Sub d phrase ∷ stack)) (o : Option (Rule phrase))
    → ((h : Fed stack) → feed t stack ≡ Some h → Writes_first t stack h) → fed_by phrase d stack t o (feed t stack) ≡ Some f → Writes_first t (Sub d phrase ∷ stack) f
fed_by-writes t phrase d stack f (Some r) later h = fed_rule-writes t phrase r d stack f (data_as (first r) t.kind) refl h
fed_by-writes t phrase d stack f None later h = fed_behind-writes t phrase d stack f (empty phrase) (feed t stack) refl later h

pub feed-writes : (t : Token) (stack : Stack) (f : Fed stack) → feed t stack ≡ Some f → (ks : Trees f.left) → all stack (f.back ks) ≡ begin f.depth t.kind t.place (all f.left ks)
feed-writes t [] f h = none_some f h
feed-writes t (Take class ∷ stack) f h = fed_token-writes t class stack f (data_as class t.kind) refl h
feed-writes t (Sub d phrase ∷ stack) f h = fed_by-writes t phrase d stack f (next phrase (class_of t.kind)) (feed-writes t stack) h

-- what may be left writes nothing
with_empty-writes : (d : ℕ) (phrase : Phrase) (stack : Stack) (ts : Trees (Sub d phrase ∷ stack)) (o : Option (Of phrase)) (k : Option (Trees stack)) → empty phrase ≡ o
    → ((ks : Trees stack) → k ≡ Some ks → all stack ks ≡ []) → with_empty d phrase stack o k ≡ Some ts → all (Sub d phrase ∷ stack) ts ≡ []
with_empty-writes d phrase stack ts None k e later h = none_some ts h
with_empty-writes d phrase stack ts (Some x) None e later h = none_some ts h
with_empty-writes d phrase stack ts (Some x) (Some ks) e later h =
    ap (λ (z : Trees (Sub d phrase ∷ stack)). all (Sub d phrase ∷ stack) z) (sym (some_same _ ts h)) ∙ empty-writes phrase x e d (all stack ks) ∙ later ks refl

pub nothing_left-writes : (stack : Stack) (ks : Trees stack) → nothing_left stack ≡ Some ks → all stack ks ≡ []
nothing_left-writes [] ks h = refl
nothing_left-writes (Take class ∷ stack) ks h = none_some ks h
nothing_left-writes (Sub d phrase ∷ stack) ks h = with_empty-writes d phrase stack ks (empty phrase) (nothing_left stack) refl (nothing_left-writes stack) h
