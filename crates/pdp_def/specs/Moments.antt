-- The machine, moment by moment.
use Rattle.std.specs.Prelude.{◌≡◌, ℕ, ◌+◌, ◌/◌, ◌%◌, nat_lt, Bool, true, false, List, [], ◌∷◌, ◌++◌, Option, Some, None}
use Rattle.tracking.specs.Runs.{after, IsRunOf}
use Rattle.pdp_dev.specs.declared.devices.Devices.{Devices}
use Rattle.pdp_dev.specs.declared.devices.Request.{Request}
use Rattle.pdp_dev.specs.declared.entry.Event.{Event}
use Rattle.pdp_dev.specs.declared.entry.Entry.{Entry}
use Rattle.pdp_dev.specs.declared.entry.Entry.TheVariants.{Event as EventEntry}
use Rattle.pdp_dev.specs.Devices.{happened, IsEvent, request_of}
use Rattle.pdp_def.specs.declared.outcome.Outcome.{Outcome}
use Rattle.pdp_def.specs.declared.outcome.Outcome.TheVariants.{Ran, Idle, Halt, BusFault, Reserved}
use Rattle.pdp_def.specs.State.{CoreState}
use Rattle.pdp_def.specs.Does.{After}
use Rattle.pdp_def.specs.Perform.{effect}
use Rattle.pdp_def.specs.Interrupt.{interrupted}

-- the machine without its clock: what it is, and what it has said and done so far
pub record MachineState : Type 0 where
  pub core : CoreState
  pub devices : Devices
  pub journal : List Entry
  pub instructions : ℕ
  -- the outcome that stopped it
  pub stop : Option Outcome

-- a device does something, the pending request is granted, or an instruction is executed
pub data Moment : Type 0 where
  Occurs : Event → Moment
  Grants : Moment
  Executes : Moment

-- how many instructions an outcome counts for
abbrev pub counted : Outcome → ℕ
counted Ran = 1
counted Idle = 1
counted Halt = 1
counted (BusFault a) = 0
counted (Reserved w) = 0

-- the outcomes after which nothing follows
abbrev pub stopped_by : Outcome → Option Outcome
stopped_by Ran = None
stopped_by Idle = None
stopped_by Halt = Some Halt
stopped_by (BusFault a) = Some (BusFault a)
stopped_by (Reserved w) = Some (Reserved w)

abbrev pub came_to : MachineState → ℕ → After Outcome → MachineState
came_to m n a =
    record { core = a.bus.core; devices = a.bus.devices; journal = a.bus.said; instructions = m.instructions + n; stop = stopped_by a.value }

abbrev pub granted_to : MachineState → Option Request → MachineState
granted_to m None = m
granted_to m (Some r) = came_to m 0 (interrupted m.core m.devices m.journal r.vector)

abbrev pub executed : MachineState → After Outcome → MachineState
executed m a = came_to m (counted a.value) a

-- the machine after a moment
abbrev pub happens : MachineState → Moment → MachineState
happens m (Occurs e) = record m { devices = happened m.devices e; journal = m.journal ++ EventEntry e ∷ [] }
happens m Grants = granted_to m (request_of m.devices)
happens m Executes = executed m (effect m.core m.devices m.journal)

-- a request is granted where its level is above a priority
abbrev pub is_above : ℕ → Option Request → Bool
is_above priority None = false
is_above priority (Some r) = nat_lt priority r.level

-- the priority in bits 7 to 5 of the status word
abbrev pub priority_of : ℕ → ℕ
priority_of ps = ps / 32 % 8

-- the moments that may come next: after a stop, none; an event brings a byte
abbrev pub IsPossible : MachineState → Moment → Type 0
IsPossible m (Occurs e) = (m.stop ≡ None) × IsEvent e
IsPossible m Grants = (m.stop ≡ None) × (is_above (priority_of m.core.ps) (request_of m.devices) ≡ true)
IsPossible m Executes =
    (m.stop ≡ None) × (is_above (priority_of m.core.ps) (request_of m.devices) ≡ false) × (m.core.waiting ≡ false)

abbrev pub after_all : MachineState → List Moment → MachineState
after_all m moments = after happens m moments

abbrev pub ArePossible : MachineState → List Moment → Type 0
ArePossible m moments = IsRunOf happens IsPossible m moments
