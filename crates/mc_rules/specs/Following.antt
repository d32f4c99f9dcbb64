-- How device code is found: from the calls of device processes to those of the procedures that are called.
use Rattle.std.specs.Prelude.{◌≡◌, ℕ, List, Option, Some, None, IsSome, Bool, true, false, not, if◌then◌else◌, option_map, slice_get, slice_set}
use Rattle.std.specs.List.{Contains}
use Rattle.mc_tree.specs.declared.place.Place.{Place}
use Rattle.mc_prog.specs.declared.program.CodeInfo.{CodeInfo}
use Rattle.mc_prog.specs.declared.program.Node.{Node}
use Rattle.mc_prog.specs.declared.program.ProcessInfo.{ProcessInfo}
use Rattle.mc_rules.specs.declared.call.Call.{Call}
use Rattle.mc_rules.specs.declared.call.Called.{Called}
use Rattle.mc_rules.specs.declared.call.Called.TheVariants as called
use Rattle.mc_rules.specs.Calls.{HasCall}

-- a call in the text of one of these processes that is a device process
pub record IsDriverCall (nodes : List Node) (processes : List ProcessInfo) (call : Call) : Type 0 where
  pub process : ProcessInfo
  pub one : Contains processes process
  pub device : IsSome process.vector
  pub has : HasCall nodes process.code.body call

-- one of these calls, or a call in a procedure that such a call calls
pub data IsReached (nodes : List Node) (procedures : List CodeInfo) (first : List Call) : Call → Type 0 where
  at_once : (call : Call) → Contains first call → IsReached nodes procedures first call
  through : (place : Place) (number : ℕ) (code : CodeInfo) (call : Call)
      → IsReached nodes procedures first (record { place = place; called = called.Procedure number })
      → slice_get procedures number ≡ Some code → HasCall nodes code.body call
      → IsReached nodes procedures first call

-- Marks of procedures

abbrev pub unmarked_by : Option Bool → Bool
unmarked_by None = false
unmarked_by (Some marked) = not marked

-- whether a procedure is one of those that are marked later
abbrev pub is_unmarked : List Bool → ℕ → Bool
is_unmarked marks number = unmarked_by (slice_get marks number)

-- the marks with that of what is called
abbrev pub marked_by : List Bool → Called → List Bool
marked_by marks (called.Procedure number) = slice_set marks number true
marked_by marks other = marks

-- the body of a procedure
abbrev pub body_at : List CodeInfo → ℕ → Option ℕ
body_at procedures number = option_map (λ code. code.body) (slice_get procedures number)

-- the body of a procedure that is called and has no mark
abbrev pub entered : List CodeInfo → List Bool → Called → Option ℕ
entered procedures marks (called.Procedure number) = if is_unmarked marks number then body_at procedures number else None
entered procedures marks other = None

-- a call in the text with this body, where there is one
abbrev pub HasCallOf : List Node → Option ℕ → Call → Type 0
HasCallOf nodes None call = ⊥
HasCallOf nodes (Some body) call = HasCall nodes body call
