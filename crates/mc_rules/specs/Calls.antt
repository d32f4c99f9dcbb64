-- The calls of a text that runs.
use Rattle.std.specs.Prelude.{◌≡◌, ◌<◌, ◌↔◌, ℕ, List, [], ◌∷◌, Option, Some, None, Bool, true, false, if◌then◌else◌, option_map, option_and_then, slice_get}
use Rattle.std.specs.List.{Contains}
use Rattle.mc_prog.specs.declared.program.Form.{Form}
use Rattle.mc_prog.specs.declared.program.Form.TheVariants as form
use Rattle.mc_prog.specs.declared.program.Node.{Node}
use Rattle.mc_prog.specs.declared.program.Standard.{Standard}
use Rattle.mc_prog.specs.declared.program.Standard.TheVariants as standard
use Rattle.mc_rules.specs.declared.call.Call.{Call}
use Rattle.mc_rules.specs.declared.call.Called.{Called}
use Rattle.mc_rules.specs.declared.call.Called.TheVariants as called

-- A node is a part of another, in front of which it stands.
pub record IsPartOf (nodes : List Node) (whole part : ℕ) : Type 0 where
  pub node : Node
  pub is : slice_get nodes whole ≡ Some node
  pub listed : Contains node.parts part
  pub ahead : part < whole

-- Parts lead from one node over these to another.
abbrev pub Leads : List Node → ℕ → List ℕ → ℕ → Type 0
Leads nodes from [] to = from ≡ to
Leads nodes from (next ∷ path) to = IsPartOf nodes from next × Leads nodes next path to

-- A node stands in the text whose body this is.
abbrev pub StandsIn : List Node → ℕ → ℕ → Type 0
StandsIn nodes body n = (path : List ℕ) × Leads nodes body path n

-- whether a node of this form calls what its first part names
abbrev pub is_call : Form → Bool
is_call form.CallStatement = true
is_call form.CallValue = true
is_call other = false

-- a wait on a signal, with a rank or without
abbrev pub waiting : List ℕ → Option Called
waiting [] = None
waiting (signal ∷ []) = Some (called.Wait signal false)
waiting (signal ∷ (rank ∷ others)) = Some (called.Wait signal true)

abbrev pub sending : List ℕ → Option Called
sending [] = None
sending (signal ∷ others) = Some (called.Send signal)

-- what a standard name calls with these arguments; the rules look at no other one
abbrev pub standard_call : Standard → List ℕ → Option Called
standard_call standard.Integer arguments = None
standard_call standard.Char arguments = None
standard_call standard.Bits arguments = None
standard_call standard.Wait arguments = waiting arguments
standard_call standard.Send arguments = sending arguments
standard_call standard.Awaited arguments = None
standard_call standard.Doio arguments = Some called.Doio

-- what a name of this form calls with these arguments
abbrev pub called_by : Form → List ℕ → Option Called
called_by (form.Procedure k) arguments = Some (called.Procedure k)
called_by (form.Process k) arguments = Some (called.Process k)
called_by (form.Standard s) arguments = standard_call s arguments
called_by other arguments = None

-- the call whose parts are a name and arguments
abbrev pub call_of : List Node → Node → List ℕ → Option Call
call_of nodes node [] = None
call_of nodes node (name ∷ arguments) =
    option_map (λ what. record { place = node.place; called = what }) (option_and_then (λ n. called_by n.form arguments) (slice_get nodes name))

-- the call that a node is
abbrev pub call_by : List Node → Node → Option Call
call_by nodes node = if is_call node.form then call_of nodes node node.parts else None

abbrev pub call_at : List Node → ℕ → Option Call
call_at nodes n = option_and_then (call_by nodes) (slice_get nodes n)

-- a call stands in the text whose body this is
pub record HasCall (nodes : List Node) (body : ℕ) (call : Call) : Type 0 where
  pub number : ℕ
  pub stands : StandsIn nodes body number
  pub is : call_at nodes number ≡ Some call

-- these are the calls of the text
abbrev pub AreCalls : List Node → ℕ → List Call → Type 0
AreCalls nodes body calls = (call : Call) → Contains calls call ↔ HasCall nodes body call

-- what selects from a designator
abbrev pub is_selection : Form → Bool
is_selection form.Select = true
is_selection form.Index = true
is_selection other = false

-- The node is the module's variable of this number, or what these nodes select from it, one from the other.
abbrev pub Selects : List Node → ℕ → List ℕ → ℕ → Type 0
Selects nodes n [] cell = (node : Node) × ((slice_get nodes n ≡ Some node) × (node.form ≡ form.Cell cell))
Selects nodes n (front ∷ path) cell =
    (node : Node) × (others : List ℕ) × ((slice_get nodes n ≡ Some node) × (is_selection node.form ≡ true) × (node.parts ≡ front ∷ others) × (front < n) × Selects nodes front path cell)

-- the variable that a designator is of
abbrev pub IsOfVariable : List Node → ℕ → ℕ → Type 0
IsOfVariable nodes n cell = (path : List ℕ) × Selects nodes n path cell
