-- The runs of a program: events, grants, evaluation steps and choices, each where it is possible.
use Rattle.std.specs.Prelude.{◌≡◌, ◌≢◌, ◌≤◌, ℕ, ◌+◌, ◌==◌, Bool, true, false, ◌&&◌, not, is_some, List, [], ◌∷◌, ◌++◌, IsSome, Option, Some, None, slice_get, if◌then◌else◌}
use Rattle.tracking.specs.Runs.{after, IsRunOf}
use Rattle.pdp_dev.specs.declared.devices.Request.{Request}
use Rattle.pdp_dev.specs.declared.entry.Event.{Event}
use Rattle.pdp_dev.specs.declared.entry.Entry.TheVariants.{Event as EventEntry, Grant as GrantEntry}
use Rattle.pdp_dev.specs.Devices.{happened, IsEvent, request_of, granted}
use Rattle.mc_prog.specs.Resolved.{Resolved}
use Rattle.mc_meaning.specs.declared.config.Mark.TheVariants.{Granted}
use Rattle.mc_meaning.specs.declared.config.Nested.{Nested}
use Rattle.mc_meaning.specs.declared.process.ProcessKind.{ProcessKind}
use Rattle.mc_meaning.specs.declared.process.ProcessKind.TheVariants.{Driver}
use Rattle.mc_meaning.specs.declared.process.State.{State}
use Rattle.mc_meaning.specs.declared.process.State.TheVariants.{Acting, AtDoio}
use Rattle.mc_meaning.specs.Configuration.{Configuration, ProcessState, can_grant, IsNoneReady, is_ready, live, opening, topmost}
use Rattle.mc_meaning.specs.Actions.{set_state}
use Rattle.mc_meaning.specs.Steps.{evaluated}

pub data Step : Type 0 where
  -- a device does something
  Occurs : Event → Step
  -- the pending request is granted
  Grants : Step
  -- the topmost process makes one evaluation step
  Evals : Step
  -- a ready process is chosen, where nothing acts
  Chooses : ℕ → Step

abbrev pub is_driver_of : ℕ → ProcessKind → Bool
is_driver_of vector (Driver v) = v == vector
is_driver_of vector other = false

abbrev pub is_at_doio : State → Bool
is_at_doio AtDoio = true
is_at_doio other = false

-- the number of the process that stands at its doio for a vector, counted from n
abbrev pub standing_at : ℕ → ℕ → List ProcessState → Option ℕ
standing_at vector n [] = None
standing_at vector n (q ∷ processes) =
    if is_at_doio q.standing.state && is_driver_of vector q.standing.kind then Some n else standing_at vector (n + 1) processes

-- the nest, with the process that joins it
abbrev pub nest_above : List Nested → Option ℕ → List Nested
nest_above nest None = nest
nest_above nest (Some p) = nest ++ (record { process = p; mark = Granted } ∷ [])

-- the process that stands at its doio for the vector joins the nest at the top; where none does, nothing else happens
abbrev pub joins : Configuration → Option ℕ → Configuration
joins c None = c
joins c (Some p) =
    set_state (record c { nest = nest_above c.nest (Some p) }) p Acting

abbrev pub granted_to : Configuration → Request → Configuration
granted_to c r =
    joins (record c { devices = granted c.devices r.vector; journal = c.journal ++ (GrantEntry r.vector ∷ []) }) (standing_at r.vector 0 c.processes)

abbrev pub grant : Configuration → Option Request → Configuration
grant c None = c
grant c (Some r) = granted_to c r

abbrev pub after_event : Configuration → Event → Configuration
after_event c e = record c { devices = happened c.devices e; journal = c.journal ++ (EventEntry e ∷ []) }

-- the chosen process is the foot
abbrev pub after_choice : Configuration → ℕ → Configuration
after_choice c p = set_state (record c { foot = Some p }) p Acting

-- the configuration after a step
abbrev pub steps : Resolved → Configuration → Step → Configuration
steps program c (Occurs e) = after_event c e
steps program c Grants = grant c (request_of c.devices)
steps program c Evals = evaluated program c
steps program c (Chooses p) = after_choice c p

abbrev pub is_ready_process : Option ProcessState → Bool
is_ready_process None = false
is_ready_process (Some q) = is_ready q.standing.state

abbrev pub CanChoose : Configuration → ℕ → Type 0
CanChoose c p =
    (c.trap ≡ None) × (can_grant c ≡ false) × (topmost c ≡ None) × (is_ready_process (slice_get c.processes p) ≡ true)

-- The steps that are possible: an event brings a byte; after a trap, events alone. An evaluation step changes the
-- configuration: one that finds nothing to do is none.
abbrev pub IsStep : Resolved → Configuration → Step → Type 0
IsStep program c (Occurs e) = IsEvent e
IsStep program c Grants = can_grant c ≡ true
IsStep program c Evals = (c.trap ≡ None) × (can_grant c ≡ false) × IsSome (topmost c) × (evaluated program c ≢ c)
IsStep program c (Chooses p) = CanChoose c p

abbrev pub config_after : Resolved → Configuration → List Step → Configuration
config_after program c run = after (steps program) c run

-- a run of the program, from its opening
abbrev pub IsRun : Resolved → List Step → Type 0
IsRun program run = IsRunOf (steps program) (IsStep program) (opening program) run

-- every step but an event earns instructions
abbrev pub earns : Step → ℕ
earns (Occurs e) = 0
earns Grants = 1
earns Evals = 1
earns (Chooses p) = 1

-- The ends of a run

pub record IsTrapped (n : ℕ) (c : Configuration) : Type 0 where
  pub trap : c.trap ≡ Some n
  pub least : 1 ≤ n
  pub most : n ≤ 7

-- nothing can go on but by an event
pub record IsQuiet (c : Configuration) : Type 0 where
  pub trap : c.trap ≡ None
  pub nothing_acts : topmost c ≡ None
  pub nothing_ready : IsNoneReady c.processes
  pub nothing_granted : can_grant c ≡ false

-- every process has ended
pub record IsEnded (c : Configuration) : Type 0 where
  pub quiet : IsQuiet c
  pub all : live c.processes ≡ 0

pub record IsStuck (c : Configuration) : Type 0 where
  pub quiet : IsQuiet c
  pub some : live c.processes ≢ 0

-- What a call answers that makes a step where it is possible: whether it was.
abbrev pub IsDone : (possible step same : Type 0) → Bool → Type 0
IsDone possible step same true = possible × step
IsDone possible step same false = (possible → ⊥) × same

-- whether the topmost process may make an evaluation step, where it finds something to do
abbrev pub may_evaluate : Configuration → Bool
may_evaluate c = not (is_some c.trap) && (not (can_grant c) && is_some (topmost c))
