-- What readers say that read several parts of a rule at once, as a bracket, a body or a block.
use Rattle.std.specs.Prelude.{ℕ, List, ◌∷◌, ◌++◌}
use Rattle.mc_tree.specs.declared.place.Place.{Place}
use Rattle.mc_tree.specs.declared.token.Token.{Token}
use Rattle.mc_tree.specs.declared.token.Reserved.TheVariants.{BeginWord}
use Rattle.mc_tree.specs.declared.token.Symbol.TheVariants.{LeftParen, RightParen, LeftBracket, RightBracket, Dot}
use Rattle.mc_tree.specs.declared.expression.Selector.{Selector}
use Rattle.mc_tree.specs.declared.expression.Args.{Args}
use Rattle.mc_tree.specs.declared.statement.Body.{Body}
use Rattle.mc_tree.specs.declared.tree.Bracket.{Bracket}
use Rattle.mc_tree.specs.declared.tree.Local.{Local}
use Rattle.mc_tree.specs.declared.tree.Lists.{Lists}
use Rattle.mc_tree.specs.declared.tree.Plain.{Plain}
use Rattle.mc_tree.specs.declared.tree.Face.{Face}
use Rattle.mc_tree.specs.declared.tree.Device.{Device}
use Rattle.mc_tree.specs.declared.expression.Factor.TheViews.{out-Args}
use Rattle.mc_tree.specs.declared.statement.Statement.TheViews.{out-Body}
use Rattle.mc_tree.specs.declared.tree.Module.TheViews.{out-Plain}
use Rattle.mc_tree.specs.Classes.{ReservedClass, SymbolClass}
use Rattle.mc_tree.specs.Grammar.{ExprPhrase, CommaExprsPhrase, SelectorsPhrase, StatementPhrase, StatementsPhrase, AssigningPhrase, DeclsPhrase, PlainPartsPhrase, FacePartsPhrase, DevicePartsPhrase, BegunPhrase, DefinesPhrase, UsesPhrase, Take, Sub, Stack}
use Rattle.mc_tree.specs.Phrases.{Assigned, Trees}
use Rattle.mc_parse.specs.Heads.{HasOther}
use Rattle.mc_parse.specs.Reads.{IsReadAs, IsReadUpTo}

-- `( Expr { , Expr } )`
abbrev pub args_ahead : ℕ → Stack → Stack
args_ahead d stack = Take (SymbolClass LeftParen) ∷ Sub d ExprPhrase ∷ Sub d CommaExprsPhrase ∷ Take (SymbolClass RightParen) ∷ stack

abbrev pub IsArgsRead : Place → ℕ → List Token → Args → List Token → Type 0
IsArgsRead end d tokens a others =
    IsReadAs end (args_ahead d) tokens (λ (stack : Stack) (ks : Trees stack). ((tt, (out-Args a).opening), ((out-Args a).first, ((out-Args a).more, ((tt, (out-Args a).closing), ks))))) others

-- `Statement { ; Statement }`
abbrev pub body_ahead : ℕ → Stack → Stack
body_ahead d stack = Sub d StatementPhrase ∷ Sub d StatementsPhrase ∷ stack

abbrev pub IsBodyRead : Place → ℕ → List Token → Body → List Token → Type 0
IsBodyRead end d tokens b others = IsReadAs end (body_ahead d) tokens (λ (stack : Stack) (ks : Trees stack). ((out-Body b).first, ((out-Body b).more, ks))) others

-- `[ Expr ]`
abbrev pub bracket_ahead : ℕ → Stack → Stack
bracket_ahead d stack = Take (SymbolClass LeftBracket) ∷ Sub d ExprPhrase ∷ Take (SymbolClass RightBracket) ∷ stack

abbrev pub IsBracketRead : Place → ℕ → List Token → Bracket → List Token → Type 0
IsBracketRead end d tokens b others = IsReadAs end (bracket_ahead d) tokens (λ (stack : Stack) (ks : Trees stack). ((tt, b.opening), (b.value, ((tt, b.closing), ks)))) others

-- `{ Decl } begin Body`
abbrev pub local_ahead : ℕ → Stack → Stack
local_ahead d stack = Sub d DeclsPhrase ∷ Take (ReservedClass BeginWord) ∷ Sub d StatementPhrase ∷ Sub d StatementsPhrase ∷ stack

abbrev pub IsLocalRead : Place → ℕ → List Token → Local → List Token → Type 0
IsLocalRead end d tokens l others =
    IsReadAs end (local_ahead d) tokens (λ (stack : Stack) (ks : Trees stack). (l.declarations, ((tt, l.begin), ((out-Body l.body).first, ((out-Body l.body).more, ks))))) others

-- `[ define Ids ; ] [ use Ids ; ]`
abbrev pub lists_ahead : ℕ → Stack → Stack
lists_ahead d stack = Sub d DefinesPhrase ∷ Sub d UsesPhrase ∷ stack

abbrev pub IsListsRead : Place → ℕ → List Token → Lists → List Token → Type 0
IsListsRead end d tokens l others = IsReadAs end (lists_ahead d) tokens (λ (stack : Stack) (ks : Trees stack). (l.define, (l.use_, ks))) others

-- the parts of a block, and its body
abbrev pub plain_ahead : ℕ → Stack → Stack
plain_ahead d stack = Sub d PlainPartsPhrase ∷ Sub d BegunPhrase ∷ stack

abbrev pub IsPlainRead : Place → ℕ → List Token → Plain → List Token → Type 0
IsPlainRead end d tokens b others = IsReadAs end (plain_ahead d) tokens (λ (stack : Stack) (ks : Trees stack). ((out-Plain b).parts, ((out-Plain b).body, ks))) others

abbrev pub face_ahead : ℕ → Stack → Stack
face_ahead d stack = Sub d FacePartsPhrase ∷ Sub d BegunPhrase ∷ stack

abbrev pub IsFaceRead : Place → ℕ → List Token → Face → List Token → Type 0
IsFaceRead end d tokens b others = IsReadAs end (face_ahead d) tokens (λ (stack : Stack) (ks : Trees stack). (b.parts, (b.body, ks))) others

abbrev pub device_ahead : ℕ → Stack → Stack
device_ahead d stack = Sub d DevicePartsPhrase ∷ Sub d BegunPhrase ∷ stack

abbrev pub IsDeviceRead : Place → ℕ → List Token → Device → List Token → Type 0
IsDeviceRead end d tokens b others = IsReadAs end (device_ahead d) tokens (λ (stack : Stack) (ks : Trees stack). (b.parts, (b.body, ks))) others

-- these selectors, and then the rest of an assignment
abbrev pub target_of : List Selector → Assigned → Assigned
target_of selectors a = record { selectors = selectors ++ a.selectors; becomes = a.becomes; value = a.value }

-- One selector was read, also where the rest of an assignment follows.
pub record IsSelectorRead (end : Place) (d : ℕ) (tokens : List Token) (s : Selector) (others : List Token) : Type 0 where
  pub selects : IsReadUpTo end d SelectorsPhrase tokens (λ (more : List Selector). s ∷ more) others
  pub assigns : IsReadUpTo end d AssigningPhrase tokens (λ (a : Assigned). record { selectors = s ∷ a.selectors; becomes = a.becomes; value = a.value }) others

-- All selectors in front of `:=` were read.
pub record IsTargetRead (end : Place) (d : ℕ) (tokens : List Token) (selectors : List Selector) (others : List Token) : Type 0 where
  pub assigns : IsReadUpTo end d AssigningPhrase tokens (target_of selectors) others
  pub no_dot : HasOther (SymbolClass Dot) others
  pub no_index : HasOther (SymbolClass LeftBracket) others
