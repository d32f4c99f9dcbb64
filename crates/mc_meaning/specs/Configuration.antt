-- Where a program's run stands: its variables, its processes and the devices.
use Rattle.std.specs.Prelude.{◌≡◌, ℕ, ◌+◌, ◌==◌, Bool, true, false, ◌&&◌, not, is_some, List, [], ◌∷◌, Option, Some, None, slice_get, if◌then◌else◌}
use Rattle.pdp_dev.specs.declared.devices.Devices.{Devices}
use Rattle.pdp_dev.specs.declared.entry.Entry.{Entry}
use Rattle.pdp_dev.specs.Devices.{opening_devices, request_of}
use Rattle.pdp_def.specs.Moments.{is_above}
use Rattle.mc_prog.specs.Resolved.{Resolved}
use Rattle.mc_meaning.specs.declared.config.Nested.{Nested}
use Rattle.mc_meaning.specs.declared.config.Waiter.{Waiter}
use Rattle.mc_meaning.specs.declared.process.Activation.{Activation}
use Rattle.mc_meaning.specs.declared.process.Item.{Item}
use Rattle.mc_meaning.specs.declared.process.Item.TheVariants.{Runs, Ends}
use Rattle.mc_meaning.specs.declared.process.ProcessKind.TheVariants.{Main}
use Rattle.mc_meaning.specs.declared.process.Running.TheVariants as running
use Rattle.mc_meaning.specs.declared.process.Standing.{Standing}
use Rattle.mc_meaning.specs.declared.process.State.{State}
use Rattle.mc_meaning.specs.declared.process.State.TheVariants.{Acting, Ready, Delayed, AtDoio, Ended}
use Rattle.mc_meaning.specs.declared.store.Found.{Found}
use Rattle.mc_meaning.specs.declared.store.Name.{Name}
use Rattle.mc_meaning.specs.declared.store.Name.TheVariants.{Variable, Private}

-- Words by their names; a word that was never written is 0.
abbrev pub Store : Type 0
Store = Name → ℕ

abbrev pub same_name : Name → Name → Bool
same_name (Variable c w) (Variable d v) = (c == d) && (w == v)
same_name (Private p a s w) (Private q b t v) = (p == q) && ((a == b) && ((s == t) && (w == v)))
same_name (Variable c w) (Private q b t v) = false
same_name (Private p a s w) (Variable d v) = false

-- the store in which a word has been written
abbrev pub stored : Store → Name → ℕ → Store
stored store name word other = if same_name name other then word else store other

-- the store in which these words have been written, one after the other
abbrev pub all_stored : Store → List (Name × ℕ) → Store
all_stored store [] = store
all_stored store (w ∷ words) = all_stored (stored store w.0 w.1) words

pub record ProcessState : Type 0 where
  -- the declared process that it runs, its kind, its state and its priority
  pub standing : Standing
  -- those that have not returned, the last one first; each is numbered by how many stand below it
  pub activations : List Activation
  -- what the last activation has found, the last first, and what it has still to do
  pub found : List Found
  pub rest : List Item

pub record Configuration : Type 0 where
  pub store : Store
  pub devices : Devices
  -- in the order of their start, the main process first
  pub processes : List ProcessState
  -- the regular process that acts, if one does
  pub foot : Option ℕ
  -- the device processes that act above it, from the lowest up
  pub nest : List Nested
  -- in the order of their arrival
  pub waiters : List Waiter
  pub trap : Option ℕ
  pub journal : List Entry

-- the main process's own text is of no module
abbrev pub main_activation : Resolved → Activation
main_activation p = record { running = running.Main; «module» = None; before = 0; frame = p.main.frame; references = []; found = []; rest = [] }

-- the main process has to run the bodies of the modules, and then ends
abbrev pub main_process : Resolved → ProcessState
main_process p = record {
  standing = record { declared = None; kind = Main; state = Acting; priority = 0 };
  activations = main_activation p ∷ [];
  found = [];
  rest = Runs p.main.body ∷ (Ends ∷ []);
}

-- all words are zero, the devices are as at opening, and the main process alone exists and acts at priority 0
abbrev pub opening : Resolved → Configuration
opening p = record {
  store = λ name. 0;
  devices = opening_devices;
  processes = main_process p ∷ [];
  foot = Some 0;
  nest = [];
  waiters = [];
  trap = None;
  journal = [];
}

-- the topmost process: the last of the nest, or the foot where the nest is empty
abbrev pub topmost_of : Option ℕ → List Nested → Option ℕ
topmost_of foot [] = foot
topmost_of foot (m ∷ members) = topmost_of (Some m.process) members

abbrev pub topmost : Configuration → Option ℕ
topmost c = topmost_of c.foot c.nest

abbrev pub priority_of : Option ProcessState → ℕ
priority_of None = 0
priority_of (Some q) = q.standing.priority

abbrev pub priority_at : Configuration → Option ℕ → ℕ
priority_at c None = 0
priority_at c (Some n) = priority_of (slice_get c.processes n)

-- the priority of the topmost process, or 0 where none acts
abbrev pub acting_priority : Configuration → ℕ
acting_priority c = priority_at c (topmost c)

-- no trap has happened, and a request stands that is above it
abbrev pub can_grant : Configuration → Bool
can_grant c = not (is_some c.trap) && is_above (acting_priority c) (request_of c.devices)

abbrev pub is_live : State → ℕ
is_live Ended = 0
is_live Acting = 1
is_live Ready = 1
is_live Delayed = 1
is_live AtDoio = 1

-- how many processes have not ended
abbrev pub live : List ProcessState → ℕ
live [] = 0
live (q ∷ processes) = is_live q.standing.state + live processes

abbrev pub is_ready : State → Bool
is_ready Ready = true
is_ready other = false

abbrev pub IsNoneReady : List ProcessState → Type 0
IsNoneReady [] = Unit {0}
IsNoneReady (q ∷ processes) = (is_ready q.standing.state ≡ false) × IsNoneReady processes
