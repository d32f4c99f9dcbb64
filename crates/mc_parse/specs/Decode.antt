-- Tokens read by the factored grammar: what is still to be read is a stack, and each token goes on with its top.
use Rattle.std.specs.Prelude.{ℕ, nat_lt, if◌then◌else◌, List, [], ◌∷◌, Option, Some, None, Result, Ok, Err}
use Rattle.mc_tree.specs.declared.place.Place.{Place}
use Rattle.mc_tree.specs.declared.token.Token.{Token}
use Rattle.mc_tree.specs.declared.token.Kind.{Kind}
use Rattle.mc_tree.specs.declared.token.Kind.TheVariants.{Name, Number, Char, Text}
use Rattle.mc_tree.specs.Classes.{Class, ReservedClass, NameClass, NumberClass, CharacterClass, TextClass, SymbolClass, class_of, Data, same}
use Rattle.mc_tree.specs.Grammar.{Phrase, Rule, first, Take, Sub, Stack, parts, depth_of_first}
use Rattle.mc_tree.specs.NextRules.{next}
use Rattle.mc_tree.specs.Phrases.{Of, Trees, make}
use Rattle.mc_tree.specs.Splits.{empty}
use Rattle.mc_parse.specs.declared.fault.ParseFault.{ParseFault}
use Rattle.mc_parse.specs.declared.fault.ParseFault.TheVariants.{Unexpected, TooDeep}

-- what a token has besides its class, where it is of this class
abbrev pub data_as : (class : Class) → Kind → Option (Data class)
data_as (ReservedClass reserved) kind = if same (ReservedClass reserved) (class_of kind) then Some tt else None
data_as NameClass (Name text) = Some text
data_as NameClass _ = None
data_as NumberClass (Number value) = Some value
data_as NumberClass _ = None
data_as CharacterClass (Char value) = Some value
data_as CharacterClass _ = None
data_as TextClass (Text text) = Some text
data_as TextClass _ = None
data_as (SymbolClass symbol) kind = if same (SymbolClass symbol) (class_of kind) then Some tt else None

-- What is to be read behind a token, the depth of the node that it begins, and what that makes of the trees to come.
pub record Fed (stack : Stack) : Type 0 where
  pub left : Stack
  pub depth : ℕ
  pub back : Trees left → Trees stack

abbrev pub fed_token : (class : Class) (stack : Stack) → Place → Option (Data class) → Option (Fed (Take class ∷ stack))
fed_token class stack place (Some v) = Some (record { left = stack; depth = 0; back = λ ks. ((v, place), ks) })
fed_token class stack place None = None

abbrev pub fed_rule : {phrase : Phrase} (r : Rule phrase) (d : ℕ) (stack : Stack) → Place → Option (Data (first r)) → Option (Fed (Sub d phrase ∷ stack))
fed_rule r d stack place (Some v) = Some (record { left = parts r d stack; depth = depth_of_first r d; back = make r d stack v place })
fed_rule r d stack place None = None

-- a phrase without tokens, and a token fed to what stands behind it
abbrev pub fed_behind : (d : ℕ) (phrase : Phrase) (stack : Stack) → Option (Of phrase) → Option (Fed stack) → Option (Fed (Sub d phrase ∷ stack))
fed_behind d phrase stack (Some x) (Some f) = Some (record { left = f.left; depth = f.depth; back = λ ks. (x, f.back ks) })
fed_behind d phrase stack (Some x) None = None
fed_behind d phrase stack None f = None

abbrev pub fed_by : (phrase : Phrase) (d : ℕ) (stack : Stack) → Token → Option (Rule phrase) → Option (Fed stack) → Option (Fed (Sub d phrase ∷ stack))
fed_by phrase d stack t (Some r) f = fed_rule r d stack t.place (data_as (first r) t.kind)
fed_by phrase d stack t None f = fed_behind d phrase stack (empty phrase) f

abbrev pub feed : Token → (stack : Stack) → Option (Fed stack)
feed t [] = None
feed t (Take class ∷ stack) = fed_token class stack t.place (data_as class t.kind)
feed t (Sub d phrase ∷ stack) = fed_by phrase d stack t (next phrase (class_of t.kind)) (feed t stack)

-- the trees of what is to be read, where all of it may be empty
abbrev pub with_empty : (d : ℕ) (phrase : Phrase) (stack : Stack) → Option (Of phrase) → Option (Trees stack) → Option (Trees (Sub d phrase ∷ stack))
with_empty d phrase stack (Some x) (Some ks) = Some (x, ks)
with_empty d phrase stack (Some x) None = None
with_empty d phrase stack None ks = None

abbrev pub nothing_left : (stack : Stack) → Option (Trees stack)
nothing_left [] = Some tt
nothing_left (Take class ∷ stack) = None
nothing_left (Sub d phrase ∷ stack) = with_empty d phrase stack (empty phrase) (nothing_left stack)

abbrev pub ended : (stack : Stack) → Place → Option (Trees stack) → Result (Trees stack) ParseFault
ended stack end (Some ks) = Ok ks
ended stack end None = Err (Unexpected end)

abbrev pub mapped : {A B : Type 0} → (A → B) → Result A ParseFault → Result B ParseFault
mapped f (Ok x) = Ok (f x)
mapped f (Err fault) = Err fault

abbrev pub decided : (t : Token) (stack : Stack) → Option (Fed stack) → ((left : Stack) → Result (Trees left) ParseFault) → Result (Trees stack) ParseFault
decided t stack None later = Err (Unexpected t.place)
decided t stack (Some f) later = if nat_lt 64 f.depth then Err (TooDeep t.place) else mapped f.back (later f.left)

-- The trees of the tokens by what is to be read, or the first fault. `end` is the place behind the last token.
abbrev pub decode : Place → List Token → (stack : Stack) → Result (Trees stack) ParseFault
decode end [] stack = ended stack end (nothing_left stack)
decode end (t ∷ ts) stack = decided t stack (feed t stack) (λ (left : Stack). decode end ts left)
