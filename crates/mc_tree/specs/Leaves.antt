-- A tree's tokens in their order, each with the depth of the node that it begins.
use Rattle.std.specs.Prelude.{ℕ, List, [], ◌∷◌, Option, Some, None}
use Rattle.mc_tree.specs.declared.place.Place.{Place}
use Rattle.mc_tree.specs.declared.token.Token.{Token}
use Rattle.mc_tree.specs.declared.token.Kind.{Kind}
use Rattle.mc_tree.specs.declared.token.Kind.TheVariants.{Reserved as ReservedKind, Name, Symbol as SymbolKind}
use Rattle.mc_tree.specs.declared.token.Reserved.{Reserved}
use Rattle.mc_tree.specs.declared.token.Symbol.{Symbol}
use Rattle.mc_tree.specs.declared.tree.Id.{Id}
use Rattle.mc_tree.specs.declared.tree.After.{After}

-- A token with the depth of the node that begins with it, or 0 where none does. The nodes that count are those of
-- Module, Type, Statement and Factor; a node's depth is how many of them stand around it, itself included.
pub record Leaf : Type 0 where
  pub token : Token
  pub depth : ℕ

-- How a part of a tree is written in front of a rest. The number is how many counting nodes stand around it.
abbrev pub Writes : Type 0
Writes = ℕ → List Leaf → List Leaf

-- a token that begins no node
abbrev pub put : Kind → Place → List Leaf → List Leaf
put kind place rest = record { token = record { kind = kind; place = place }; depth = 0 } ∷ rest

-- a token that begins a node of this depth
abbrev pub begin : ℕ → Kind → Place → List Leaf → List Leaf
begin depth kind place rest = record { token = record { kind = kind; place = place }; depth = depth } ∷ rest

abbrev pub word : Reserved → Place → List Leaf → List Leaf
word reserved = put (ReservedKind reserved)

abbrev pub mark : Symbol → Place → List Leaf → List Leaf
mark symbol = put (SymbolKind symbol)

abbrev pub name : Id → List Leaf → List Leaf
name id = put (Name id.text) id.place

-- one after the other
abbrev pub each : {A : Type 0} → (A → Writes) → List A → Writes
each f [] d rest = rest
each f (x ∷ xs) d rest = f x d (each f xs d rest)

-- nothing, or this
abbrev pub maybe : {A : Type 0} → (A → Writes) → Option A → Writes
maybe f None d rest = rest
maybe f (Some x) d rest = f x d rest

-- a symbol, and this behind it
abbrev pub after : {A : Type 0} → Symbol → (A → Writes) → After A → Writes
after symbol f a d rest = mark symbol a.mark (f a.item d rest)

-- a reserved word, and this behind it
abbrev pub after_word : {A : Type 0} → Reserved → (A → Writes) → After A → Writes
after_word reserved f a d rest = word reserved a.mark (f a.item d rest)

-- what a part already writes
abbrev pub itself : Writes → Writes
itself w = w
