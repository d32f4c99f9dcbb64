-- What names do in a text: where scopes open and close, what is declared, from where on it is known, what is used.
use Rattle.std.specs.Prelude.{List, [], ◌∷◌, Option, Some, None}
use Rattle.mc_tree.specs.declared.tree.After.{After}
use Rattle.mc_tree.specs.declared.tree.Id.{Id}
use Rattle.mc_tree.specs.declared.tree.Ids.{Ids}

pub data ScopeKind : Type 0 where
  -- a module
  Block : ScopeKind
  -- a procedure or a process
  Code : ScopeKind
  -- the fields of a record
  Record : ScopeKind

pub data Item : Type 0 where
  Opens : ScopeKind → Item
  -- the innermost scope closes
  Closes : Item
  -- a name is declared
  Declares : Id → Item
  -- a field of the record whose scope is the innermost
  Field : Id → Item
  -- from here on a declared name is known
  Knows : Id → Item
  -- a name of the use list of the module whose scope is the innermost
  Lists : Id → Item
  -- a name of the define list of the module whose scope is the innermost, at that module's end
  Defines : Id → Item
  Uses : Id → Item
  -- the name of a module, a procedure or a process, and the name behind its end
  Ends : Id → Id → Item

-- what a part of a tree does to names, in front of a rest
abbrev pub Notes : Type 0
Notes = List Item → List Item

-- one after the other
abbrev pub each : {A : Type 0} → (A → Notes) → List A → Notes
each f [] rest = rest
each f (x ∷ xs) rest = f x (each f xs rest)

-- nothing, or this
abbrev pub maybe : {A : Type 0} → (A → Notes) → Option A → Notes
maybe f None rest = rest
maybe f (Some x) rest = f x rest

-- what stands behind a mark
abbrev pub after : {A : Type 0} → (A → Notes) → After A → Notes
after f a rest = f a.item rest

-- what a part already does
abbrev pub itself : Notes → Notes
itself n = n

-- the same of each name
abbrev pub one : (Id → Item) → Id → Notes
one item id rest = item id ∷ rest

-- `id { "," id }`
abbrev pub ids : (Id → Item) → Ids → Notes
ids item i rest = one item i.first (each (after (one item)) i.more rest)
