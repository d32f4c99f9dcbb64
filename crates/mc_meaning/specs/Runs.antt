-- The runs of a program: events, grants, evaluation steps and choices, each where it is possible.
use Rattle.std.specs.Prelude.{◌≡◌, ◌≢◌, ◌≤◌, ℕ, ◌+◌, ◌==◌, Bool, true, false, ◌&&◌, List, [], ◌∷◌, ◌++◌, IsSome, Option, Some, None, slice_get, if◌then◌else◌}
use Rattle.tracking.specs.Runs.{after, IsRunOf}
use Rattle.pdp_dev.specs.declared.devices.Request.{Request}
use Rattle.pdp_dev.specs.declared.entry.Event.{Event}
use Rattle.pdp_dev.specs.declared.entry.Entry.TheVariants.{Event as EventEntry, Grant as GrantEntry}
use Rattle.pdp_dev.specs.Devices.{happened, IsEvent, request_of, granted}
use Rattle.mc_prog.specs.Program.{Program}
use Rattle.mc_meaning.specs.Config.{Kind, Main, Regular, Driver, State, Acting, Ready, Delayed, AtDoio, Ended, Process, Granted, Config, opening_config, topmost, can_grant, live, IsNoneReady}
use Rattle.mc_meaning.specs.Evaluation.{with_process, eval}

pub data Step : Type 0 where
  -- a device does something
  Occurs : Event → Step
  -- the pending request is granted
  Grants : Step
  -- the topmost process makes one evaluation step
  Evals : Step
  -- a ready process is chosen, where nothing acts
  Chooses : ℕ → Step

abbrev is_driver_of : ℕ → Kind → Bool
is_driver_of vector Main = false
is_driver_of vector Regular = false
is_driver_of vector (Driver v) = v == vector

abbrev is_at_doio : State → Bool
is_at_doio AtDoio = true
is_at_doio Acting = false
is_at_doio Ready = false
is_at_doio Delayed = false
is_at_doio Ended = false

-- the number of the process that stands at its doio for a vector, counted from n
abbrev standing_at : ℕ → ℕ → List Process → Option ℕ
standing_at vector n [] = None
standing_at vector n (q ∷ processes) =
    if is_at_doio q.state && is_driver_of vector q.kind then Some n else standing_at vector (n + 1) processes

abbrev act : Config → ℕ → Option Process → Config
act c p None = c
act c p (Some q) = with_process c p (record q { state = Acting })

-- the process that stands at its doio for the vector joins the nest at the top; where none does, nothing else happens
abbrev pub joins : Config → Option ℕ → Config
joins c None = c
joins c (Some p) =
    act (record c { nest = c.nest ++ record { process = p; mark = Granted } ∷ [] }) p (slice_get c.processes p)

abbrev pub grant : Config → Option Request → Config
grant c None = c
grant c (Some r) =
    joins (record c { devices = granted c.devices r.vector; journal = c.journal ++ GrantEntry r.vector ∷ [] }) (standing_at r.vector 0 c.processes)

-- the configuration after a step
abbrev pub steps : Program → Config → Step → Config
steps program c (Occurs e) = record c { devices = happened c.devices e; journal = c.journal ++ EventEntry e ∷ [] }
steps program c Grants = grant c (request_of c.devices)
steps program c Evals = eval program c
steps program c (Chooses p) = act (record c { foot = Some p }) p (slice_get c.processes p)

abbrev IsReadyProcess : Option Process → Type 0
IsReadyProcess None = ⊥
IsReadyProcess (Some q) = q.state ≡ Ready

-- The steps that are possible: an event brings a byte; after a trap, events alone. An evaluation step changes the
-- configuration: one that finds nothing to do is none.
abbrev pub IsStep : Program → Config → Step → Type 0
IsStep program c (Occurs e) = IsEvent e
IsStep program c Grants = (c.trap ≡ None) × (can_grant c ≡ true)
IsStep program c Evals = (c.trap ≡ None) × (can_grant c ≡ false) × IsSome (topmost c) × (eval program c ≢ c)
IsStep program c (Chooses p) =
    (c.trap ≡ None) × (can_grant c ≡ false) × (topmost c ≡ None) × IsReadyProcess (slice_get c.processes p)

abbrev pub config_after : Program → Config → List Step → Config
config_after program c run = after (steps program) c run

-- a run of the program, from its opening
abbrev pub IsRun : Program → List Step → Type 0
IsRun program run = IsRunOf (steps program) (IsStep program) (opening_config program) run

-- every step but an event earns instructions
abbrev pub earns : Step → ℕ
earns (Occurs e) = 0
earns Grants = 1
earns Evals = 1
earns (Chooses p) = 1

-- The ends of a run

pub record IsTrapped (n : ℕ) (c : Config) : Type 0 where
  pub trap : c.trap ≡ Some n
  pub least : 1 ≤ n
  pub most : n ≤ 7

-- nothing can go on but by an event
pub record IsQuiet (c : Config) : Type 0 where
  pub trap : c.trap ≡ None
  pub nothing_acts : topmost c ≡ None
  pub nothing_ready : IsNoneReady c.processes
  pub nothing_granted : can_grant c ≡ false

-- every process has ended
pub record IsEnded (c : Config) : Type 0 where
  pub quiet : IsQuiet c
  pub all : live c.processes ≡ 0

pub record IsStuck (c : Config) : Type 0 where
  pub quiet : IsQuiet c
  pub some : live c.processes ≢ 0
