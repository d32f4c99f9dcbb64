-- Where a program's run stands: its variables, its processes and the devices.
use Rattle.std.specs.Prelude.{◌≡◌, ℕ, ◌+◌, Bool, true, false, List, [], ◌∷◌, ◌++◌, map, Option, Some, None, slice_get}
use Rattle.pdp_dev.specs.declared.devices.Devices.{Devices}
use Rattle.pdp_dev.specs.declared.entry.Entry.{Entry}
use Rattle.pdp_dev.specs.Devices.{opening_devices, request_of}
use Rattle.pdp_def.specs.Moments.{is_above}
use Rattle.mc_prog.specs.Program.{Designator, Expression, Statement, Program}

-- The store has names and no addresses: a word of a module's variable, or a word of what an activation of a process
-- has of its own. A name that is absent has the value 0.
pub data Name : Type 0 where
  Variable : ℕ → ℕ → Name
  Private : ℕ → ℕ → ℕ → Name

pub record Stored : Type 0 where
  pub name : Name
  pub word : ℕ

-- what can be written: a word of the store, or a device register
pub data Target : Type 0 where
  InStore : Name → Target
  InRegister : ℕ → Target

-- what an evaluation has found so far
pub data Finished : Type 0 where
  Value : ℕ → Finished
  Named : Target → Finished

-- what a process has still to do
pub data Item : Type 0 where
  CallsBody : ℕ → Item
  Runs : Statement → Item
  Names : Designator → Item
  Evaluates : Expression → Item
  Writes : Item
  Returns : Item
  Ends : Item

-- a call that has not returned: its module, which the main process's own text lacks, and the priority before it
pub record Activation : Type 0 where
  pub module_of : Option ℕ
  pub before : ℕ
  pub frame : ℕ

pub data Kind : Type 0 where
  Main : Kind
  Regular : Kind
  -- a device process, with its vector
  Driver : ℕ → Kind

pub data State : Type 0 where
  Acting : State
  Ready : State
  Delayed : State
  AtDoio : State
  Ended : State

pub record Process : Type 0 where
  -- the declared process that it runs, which the main process lacks
  pub declared_as : Option ℕ
  pub kind : Kind
  pub state : State
  pub priority : ℕ
  -- the last call first
  pub activations : List Activation
  -- what the current statement has found, the last first, and what is still to do
  pub finished : List Finished
  pub rest : List Item

-- how an acting device process came to act
pub data Mark : Type 0 where
  Woken : Mark
  Granted : Mark

pub record Nested : Type 0 where
  pub process : ℕ
  pub mark : Mark

pub record Waiter : Type 0 where
  pub signal : ℕ
  pub rank : ℕ
  pub process : ℕ

pub record Config : Type 0 where
  pub store : List Stored
  pub devices : Devices
  -- in the order of their start, the main process first
  pub processes : List Process
  -- the regular process that acts, if one does
  pub foot : Option ℕ
  -- the device processes that act above it, from the lowest up
  pub nest : List Nested
  -- in the order of their arrival
  pub waiters : List Waiter
  pub trap : Option ℕ
  pub journal : List Entry

-- the main process has to run the bodies of the modules, and then ends
abbrev pub main_process : Program → Process
main_process program =
    record {
      declared_as = None;
      kind = Main;
      state = Acting;
      priority = 0;
      activations = record { module_of = None; before = 0; frame = program.main_frame } ∷ [];
      finished = [];
      rest = map CallsBody program.main ++ Ends ∷ [];
    }

-- all variables are zero, the devices are as at opening, and the main process alone exists and acts at priority 0
abbrev pub opening_config : Program → Config
opening_config program =
    record {
      store = [];
      devices = opening_devices;
      processes = main_process program ∷ [];
      foot = Some 0;
      nest = [];
      waiters = [];
      trap = None;
      journal = [];
    }

-- the topmost process: the last of the nest, or the foot where the nest is empty
abbrev pub topmost_of : Option ℕ → List Nested → Option ℕ
topmost_of foot [] = foot
topmost_of foot (m ∷ members) = topmost_of (Some m.process) members

abbrev pub topmost : Config → Option ℕ
topmost c = topmost_of c.foot c.nest

abbrev pub priority_of_process : Option Process → ℕ
priority_of_process None = 0
priority_of_process (Some q) = q.priority

abbrev pub priority_at : Config → Option ℕ → ℕ
priority_at c None = 0
priority_at c (Some p) = priority_of_process (slice_get c.processes p)

-- the priority of the topmost process, or 0 where none acts
abbrev pub acting_priority : Config → ℕ
acting_priority c = priority_at c (topmost c)

-- a request stands that is above it
abbrev pub can_grant : Config → Bool
can_grant c = is_above (acting_priority c) (request_of c.devices)

abbrev pub is_live : State → ℕ
is_live Ended = 0
is_live Acting = 1
is_live Ready = 1
is_live Delayed = 1
is_live AtDoio = 1

-- how many processes have not ended
abbrev pub live : List Process → ℕ
live [] = 0
live (q ∷ processes) = is_live q.state + live processes

abbrev pub is_ready : State → Bool
is_ready Ready = true
is_ready Acting = false
is_ready Delayed = false
is_ready AtDoio = false
is_ready Ended = false

abbrev pub IsNoneReady : List Process → Type 0
IsNoneReady [] = Unit {0}
IsNoneReady (q ∷ processes) = (is_ready q.state ≡ false) × IsNoneReady processes
