-- Device code: the texts of device processes and of all procedures that they call, directly or through others.
use Rattle.std.specs.Prelude.{◌≡◌, ℕ, List, [], ◌∷◌, Some}
use Rattle.std.specs.Prelude.{slice_get, IsSome}
use Rattle.std.specs.List.{Contains}
use Rattle.mc_tree.specs.declared.place.Place.{Place}
use Rattle.mc_prog.specs.declared.program.CodeInfo.{CodeInfo}
use Rattle.mc_prog.specs.declared.program.ProcessInfo.{ProcessInfo}
use Rattle.mc_prog.specs.Resolved.{Resolved}
use Rattle.mc_rules.specs.declared.call.Call.{Call}
use Rattle.mc_rules.specs.declared.call.Called.TheVariants as called
use Rattle.mc_rules.specs.Calls.{HasCall}

-- the text with this body calls a procedure
abbrev pub CallsProcedure : Resolved → ℕ → ℕ → Type 0
CallsProcedure p body k = (place : Place) × HasCall p.nodes body (record { place = place; called = called.Procedure k })

-- It calls these procedures, one through the other, and through them another.
abbrev pub CallsThrough : Resolved → ℕ → List ℕ → ℕ → Type 0
CallsThrough p body [] k = CallsProcedure p body k
CallsThrough p body (next ∷ path) k =
    CallsProcedure p body next × ((code : CodeInfo) × ((slice_get p.procedures next ≡ Some code) × CallsThrough p code.body path k))

-- the body of a device process
pub record IsDriverBody (p : Resolved) (body : ℕ) : Type 0 where
  pub process : ProcessInfo
  pub one : Contains p.processes process
  pub device : IsSome process.vector
  pub is : body ≡ process.code.body

-- a procedure that a device process calls, directly or through others
pub record IsDeviceProcedure (p : Resolved) (k : ℕ) : Type 0 where
  pub driver : ℕ
  pub drives : IsDriverBody p driver
  pub path : List ℕ
  pub calls : CallsThrough p driver path k

-- the body of a procedure that a device process calls so
pub record IsDeviceProcedureBody (p : Resolved) (body : ℕ) : Type 0 where
  pub number : ℕ
  pub reached : IsDeviceProcedure p number
  pub code : CodeInfo
  pub is : slice_get p.procedures number ≡ Some code
  pub body_is : body ≡ code.body

-- a body of device code
pub data IsDeviceBody (p : Resolved) (body : ℕ) : Type 0 where
  of_driver : IsDriverBody p body → IsDeviceBody p body
  of_procedure : IsDeviceProcedureBody p body → IsDeviceBody p body

-- a call in device code
pub record IsDeviceCall (p : Resolved) (call : Call) : Type 0 where
  pub body : ℕ
  pub device : IsDeviceBody p body
  pub has : HasCall p.nodes body call
