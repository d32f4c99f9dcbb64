-- A tree as a list of pieces, each behind its parts: the declarations in the order of the text, and then the texts that
-- run. Types, constants and faults are said of pieces, by what a piece is and by its parts.
use Rattle.std.specs.Prelude.{ℕ, List, [], ◌∷◌, ◌++◌, length, Option, Some, None}
use Rattle.mc_tree.specs.declared.place.Place.{Place}
use Rattle.mc_tree.specs.declared.expression.Adding.{Adding}
use Rattle.mc_tree.specs.declared.expression.Multiplying.{Multiplying}
use Rattle.mc_tree.specs.declared.expression.Relation.{Relation}
use Rattle.mc_tree.specs.declared.expression.Sign.{Sign}
use Rattle.mc_tree.specs.declared.tree.After.{After}
use Rattle.mc_tree.specs.declared.tree.Id.{Id}
use Rattle.mc_tree.specs.declared.tree.Ids.{Ids}

pub data ModuleSort : Type 0 where
  PlainModule : ModuleSort
  InterfaceModule : ModuleSort
  DeviceModule : ModuleSort

-- how a parameter is passed
pub data Passing : Type 0 where
  -- it is read alone
  ByValue : Passing
  -- it stands for a variable
  ByName : Passing

pub data CodeSort : Type 0 where
  Procedure : CodeSort
  Process : CodeSort
  -- a device process
  Driver : CodeSort

-- what a piece is; its parts in their order behind it
pub data Construct : Type 0 where
  -- expressions
  Number : ℕ → Construct
  Character : ℕ → Construct
  Text : List ℕ → Construct
  -- a name at the front of a designator
  Name : Id → Construct
  -- a field of a designator
  Select : Id → Construct
  -- an element or a bit of a designator: the designator, the index
  Index : Construct
  -- a designator in the place of a factor
  Designated : Construct
  -- a call with arguments in the place of a factor: the arguments
  Calling : Id → Construct
  -- an expression between ( and )
  Group : Construct
  Negation : Construct
  -- a bits constant: its elements
  Bits : Construct
  -- one bit, or the first and the last of several
  Element : Construct
  Signed : Sign → Construct
  Sum : Adding → Construct
  Product : Multiplying → Construct
  Comparison : Relation → Construct
  -- statements: the designator, the value
  Assignment : Construct
  -- a call in the place of a statement: the arguments
  Statement : Id → Construct
  -- conditions, each with its body, and the body behind `else` where there is one
  If : Construct
  -- the condition, the body
  While : Construct
  -- the body, the condition
  Repeat : Construct
  -- the body, then each `when`
  Loop : Construct
  -- the condition, the body behind `do` where there is one, and the body behind `exit`
  When : Construct
  -- the choice, then each arm
  Case : Construct
  -- the labels, then the body
  Arm : Construct
  -- a label of an arm: the expression
  Label : Construct
  -- the statements, without those that are empty
  Body : Construct
  -- types
  TypeName : Id → Construct
  -- an enumeration of so many values
  Enumeration : ℕ → Construct
  -- a value of an enumeration: the enumeration
  EnumerationValue : Id → Construct
  -- the bounds
  Range : Construct
  -- the ranges, then the type of the elements
  Array : Construct
  -- the fields by groups
  Record : Construct
  -- fields of one type: that type
  FieldGroup : Ids → Construct
  -- declarations: the value
  Constant : Id → Construct
  -- the type
  TypeDeclaration : Id → Construct
  -- a variable: its type, and its address where it has one
  Variable : Id → Construct
  -- a parameter: its type
  Parameter : Passing → Id → Construct
  -- the type of a function's result: that type
  ResultType : Construct
  -- the heading of a procedure or a process, behind its parameters and its result: the vector of a driver
  Heading : CodeSort → Id → Construct
  -- the end of the declarations of a procedure or a process
  Ending : CodeSort → Id → Construct
  -- a module: its priority where it has one
  Module : ModuleSort → Id → Construct
  -- the text of a procedure, a process or a module that runs: its body
  Running : Construct

-- where a piece stands: in which module, and in which procedure or process, by the places of their names
pub record Around : Type 0 where
  pub module_at : Place
  pub code_at : Option Place

pub record Piece : Type 0 where
  -- its first token, where that belongs to none of its parts
  pub front : Option Place
  pub construct : Construct
  -- the numbers of its parts, which all stand before it
  pub parts : List ℕ
  pub around : Around

-- the pieces so far, and the parts so far of what is being put together
pub record Gathered : Type 0 where
  pub pieces : List Piece
  pub around : Around
  pub parts : List ℕ

-- what a part of a tree adds
abbrev pub Gather : Type 0
Gather = Gathered → Gathered

-- the parts so far become those of one piece, which stands in their place
abbrev pub closed : Option Place → Construct → Gather
closed front construct g = record {
  pieces = g.pieces ++ (record { front = front; construct = construct; parts = g.parts; around = g.around } ∷ []);
  around = g.around;
  parts = length g.pieces ∷ [];
}

-- the parts of an inner piece, behind those so far
abbrev pub within : Gather → Gather
within inner g =
    let i : Gathered = inner (record { pieces = g.pieces; around = g.around; parts = [] }) in
    record { pieces = i.pieces; around = i.around; parts = g.parts ++ i.parts }

-- what stands by itself, as a declaration, and is no part of what is being put together
abbrev pub apart : Gather → Gather
apart inner g =
    let i : Gathered = inner (record { pieces = g.pieces; around = g.around; parts = [] }) in
    record { pieces = i.pieces; around = i.around; parts = g.parts }

-- a piece of these parts
abbrev pub node : Option Place → Construct → Gather → Gather
node front construct inner g = within (λ (i : Gathered). closed front construct (inner i)) g

-- a piece without parts
abbrev pub leaf : Place → Construct → Gather
leaf place construct g = within (λ (i : Gathered). closed (Some place) construct i) g

abbrev pub nothing : Gather
nothing g = g

-- one after the other
abbrev pub each : {A : Type 0} → (A → Gather) → List A → Gather
each f [] g = g
each f (x ∷ xs) g = each f xs (f x g)

-- nothing, or this
abbrev pub maybe : {A : Type 0} → (A → Gather) → Option A → Gather
maybe f None g = g
maybe f (Some x) g = f x g

-- what stands behind a mark
abbrev pub after : {A : Type 0} → (A → Gather) → After A → Gather
after f a g = f a.item g

-- what a part already does
abbrev pub itself : Gather → Gather
itself n = n

-- a piece whose first parts are those so far, which stay for what comes behind it
abbrev pub beside : Place → Construct → Gather → Gather
beside place construct inner g = record {
  pieces = (closed (Some place) construct (inner g)).pieces;
  around = g.around;
  parts = g.parts;
}

-- the same of each name
abbrev pub named : (Id → Construct) → Id → Gather
named construct id g = beside id.place (construct id) nothing g

abbrev pub each_name : (Id → Construct) → Ids → Gather
each_name construct i g = each (after (named construct)) i.more (named construct i.first g)

-- in the block of a module, by the place of its name
abbrev pub in_module : Place → Gather → Gather
in_module place inner g =
    let i : Gathered = inner (record { pieces = g.pieces; around = record { module_at = place; code_at = None }; parts = g.parts }) in
    record { pieces = i.pieces; around = g.around; parts = i.parts }

-- in a procedure or a process, by the place of its name
abbrev pub in_code : Place → Gather → Gather
in_code place inner g =
    let i : Gathered = inner (record { pieces = g.pieces; around = record { module_at = g.around.module_at; code_at = Some place }; parts = g.parts }) in
    record { pieces = i.pieces; around = g.around; parts = i.parts }

-- nothing gathered, in this module
abbrev pub gathered_in : Place → Gathered
gathered_in place = record { pieces = []; around = record { module_at = place; code_at = None }; parts = [] }
