-- How calls are gathered: what is put behind a list, and what a node says of its own parts.
use Rattle.std.specs.Prelude.{◌≡◌, ◌↔◌, ◌++◌, ℕ, nat_lt, List, [], ◌∷◌, Option, Some, None, if◌then◌else◌, option_and_then, slice_get}
use Rattle.std.specs.List.{Contains}
use Rattle.mc_prog.specs.declared.program.Form.{Form}
use Rattle.mc_prog.specs.declared.program.Form.TheVariants as form
use Rattle.mc_prog.specs.declared.program.Node.{Node}
use Rattle.mc_rules.specs.declared.call.Called.{Called}
use Rattle.mc_rules.specs.Calls.{called_by, is_selection}

-- What has been put behind the list is all that is so, and nothing else.
pub record Adds {X : Type 0} (IsNew : X → Type 0) (before after : List X) : Type 0 where
  pub added : List X
  pub behind : after ≡ before ++ added
  pub are : (x : X) → Contains added x ↔ IsNew x

-- what the node of this number calls, where it is a name, with these arguments
abbrev pub called_at : List Node → ℕ → List ℕ → Option Called
called_at nodes name arguments = option_and_then (λ n. called_by n.form arguments) (slice_get nodes name)

abbrev pub parts_in : Option Node → List ℕ
parts_in None = []
parts_in (Some node) = node.parts

-- the numbers of a node's parts
abbrev pub parts_at : List Node → ℕ → List ℕ
parts_at nodes n = parts_in (slice_get nodes n)

-- the first of some numbers, if it is less than another
abbrev pub ahead : ℕ → List ℕ → Option ℕ
ahead n [] = None
ahead n (front ∷ others) = if nat_lt front n then Some front else None

abbrev pub front_by : ℕ → Node → Option ℕ
front_by n node = if is_selection node.form then ahead n node.parts else None

-- the node that another selects from
abbrev pub front_at : List Node → ℕ → Option ℕ
front_at nodes n = option_and_then (front_by n) (slice_get nodes n)

abbrev pub cell_of : Form → Option ℕ
cell_of (form.Cell k) = Some k
cell_of other = None

-- the variable of a module that a node names
abbrev pub cell_at : List Node → ℕ → Option ℕ
cell_at nodes n = option_and_then (λ node. cell_of node.form) (slice_get nodes n)
