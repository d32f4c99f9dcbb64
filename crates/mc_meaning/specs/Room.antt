-- Mutual exclusion in interface and device modules, what the steps of accepted programs keep besides, and the room that
-- processes need.
use Rattle.std.specs.Prelude.{◌≡◌, ◌≢◌, ◌<◌, ℕ, ◌+◌, ◌*◌, ◌⊎◌, List, [], ◌∷◌, Option, Some, None, false, slice_get, map, sum}
use Rattle.std.specs.List.{Contains}
use Rattle.mc_prog.specs.declared.program.CodeInfo.{CodeInfo}
use Rattle.mc_prog.specs.declared.program.Form.{Form}
use Rattle.mc_prog.specs.declared.program.Form.TheVariants as form
use Rattle.mc_prog.specs.declared.program.ModuleInfo.{ModuleInfo}
use Rattle.mc_prog.specs.declared.program.ModuleKind.TheVariants as kind
use Rattle.mc_prog.specs.declared.program.ProcessInfo.{ProcessInfo}
use Rattle.mc_prog.specs.Resolved.{Resolved}
use Rattle.mc_meaning.specs.declared.config.Mark.TheVariants.{Woken, Granted}
use Rattle.mc_meaning.specs.declared.config.Nested.{Nested}
use Rattle.mc_meaning.specs.declared.config.Waiter.{Waiter}
use Rattle.mc_meaning.specs.declared.process.Item.{Item}
use Rattle.mc_meaning.specs.declared.process.Item.TheVariants.{CallsBody, Calls, Starts}
use Rattle.mc_meaning.specs.declared.process.ProcessKind.{ProcessKind}
use Rattle.mc_meaning.specs.declared.process.ProcessKind.TheVariants.{Driver}
use Rattle.mc_meaning.specs.declared.process.State.{State}
use Rattle.mc_meaning.specs.declared.process.State.TheVariants.{Acting, Ready, Delayed, AtDoio, Ended}
use Rattle.mc_meaning.specs.Configuration.{Configuration, ProcessState, live, opening, priority_at, topmost}
use Rattle.mc_meaning.specs.Actions.{was_started}
use Rattle.mc_meaning.specs.Parts.{form_at, part_at}
use Rattle.mc_meaning.specs.ProgramRuns.{Step, IsRun, config_after}

-- Mutual exclusion

-- a module in which at most one process may be
abbrev pub IsExclusive : Option ModuleInfo → Type 0
IsExclusive None = ⊥
IsExclusive (Some m) = m.kind ≢ kind.Plain

-- the first member of the nest was woken, by the process that is the foot
abbrev pub IsWokenFirst : List Nested → Type 0
IsWokenFirst [] = ⊥
IsWokenFirst (m ∷ members) = m.mark ≡ Woken

abbrev pub IsRunning : ℕ → Option ProcessState → Type 0
IsRunning m None = ⊥
IsRunning m (Some q) = Contains (map (λ a. a.«module») q.activations) (Some m)

abbrev pub members_of : List Nested → List ℕ
members_of nest = map (λ n. n.process) nest

-- a process counts as inside a module where it has an activation of it: each member of the nest, and the foot unless
-- the first member of the nest was woken
pub data IsInside (c : Configuration) (m n : ℕ) : Type 0 where
  as_foot : c.foot ≡ Some n → (IsWokenFirst c.nest → ⊥) → IsRunning m (slice_get c.processes n) → IsInside c m n
  as_member : Contains (members_of c.nest) n → IsRunning m (slice_get c.processes n) → IsInside c m n

-- at most one process counts as inside each interface or device module
abbrev pub Exclusive : Resolved → Configuration → Type 0
Exclusive p c = (m n k : ℕ) → IsExclusive (slice_get p.modules m) → IsInside c m n → IsInside c m k → n ≡ k

-- The facts that steps of accepted programs keep beside it

abbrev pub waiting_of : List Waiter → List ℕ
waiting_of waiters = map (λ w. w.process) waiters

abbrev pub IsAtNone : Configuration → ℕ → Type 0
IsAtNone c n = (c.foot ≢ Some n) × (Contains (members_of c.nest) n → ⊥) × (Contains (waiting_of c.waiters) n → ⊥)

abbrev pub IsDriverKind : ProcessKind → Type 0
IsDriverKind (Driver vector) = Unit {0}
IsDriverKind other = ⊥

-- Each process is in one place, by its state: the foot or the nest, among the waiters, or in none of these.
abbrev pub IsPlaced : Configuration → ℕ → ProcessState → State → Type 0
IsPlaced c n q Acting =
    ((c.foot ≡ Some n) × (IsDriverKind q.standing.kind → ⊥) × (Contains (members_of c.nest) n → ⊥) × (Contains (waiting_of c.waiters) n → ⊥))
    ⊎ (Contains (members_of c.nest) n × IsDriverKind q.standing.kind × (c.foot ≢ Some n) × (Contains (waiting_of c.waiters) n → ⊥))
IsPlaced c n q Ready = IsAtNone c n × (IsDriverKind q.standing.kind → ⊥)
IsPlaced c n q Delayed = (c.foot ≢ Some n) × (Contains (members_of c.nest) n → ⊥) × Contains (waiting_of c.waiters) n
IsPlaced c n q AtDoio = IsAtNone c n × IsDriverKind q.standing.kind
IsPlaced c n q Ended = IsAtNone c n

-- a process is there that stands so
abbrev pub IsOneThat : (ProcessState → Type 0) → Option ProcessState → Type 0
IsOneThat stands None = ⊥
IsOneThat stands (Some q) = stands q

-- The numbers in the three places are those of processes: that of the foot acts and is no device process, those of the nest act
-- and are device processes, and those of waiters are delayed.
pub record AreProcesses (c : Configuration) : Type 0 where
  pub foot : (n : ℕ) → c.foot ≡ Some n → IsOneThat (λ q. (q.standing.state ≡ Acting) × (IsDriverKind q.standing.kind → ⊥)) (slice_get c.processes n)
  pub nest : (n : ℕ) → Contains (members_of c.nest) n → IsOneThat (λ q. (q.standing.state ≡ Acting) × IsDriverKind q.standing.kind) (slice_get c.processes n)
  pub waiters : (n : ℕ) → Contains (waiting_of c.waiters) n → IsOneThat (λ q. q.standing.state ≡ Delayed) (slice_get c.processes n)

-- none stands twice
abbrev pub AreDifferent : List ℕ → Type 0
AreDifferent [] = Unit {0}
AreDifferent (n ∷ numbers) = (Contains numbers n → ⊥) × AreDifferent numbers

-- members after the first are granted, and priorities strictly increase from the first one up
abbrev pub AreNested : Configuration → List Nested → Type 0
AreNested c [] = Unit {0}
AreNested c (m ∷ []) = Unit {0}
AreNested c (m ∷ (k ∷ members)) = (k.mark ≡ Granted) × (priority_at c (Some m.process) < priority_at c (Some k.process)) × AreNested c (k ∷ members)

-- where the first member was granted and there is a foot, its priority is greater than the foot's
abbrev pub IsAboveFoot : Configuration → Option ℕ → List Nested → Type 0
IsAboveFoot c None nest = Unit {0}
IsAboveFoot c (Some foot) [] = Unit {0}
IsAboveFoot c (Some foot) (m ∷ members) = m.mark ≡ Granted → priority_at c (Some foot) < priority_at c (Some m.process)

-- the device module that a process has an activation of
pub record HasDevice (p : Resolved) (q : ProcessState) (m : ModuleInfo) : Type 0 where
  pub number : ℕ
  pub runs : Contains (map (λ a. a.«module») q.activations) (Some number)
  pub is : slice_get p.modules number ≡ Some m
  pub device : m.kind ≡ kind.Device

-- a process with an activation of a device module has its priority, and every other has 0
pub record HasItsPriority (p : Resolved) (q : ProcessState) : Type 0 where
  pub inside : (m : ModuleInfo) → HasDevice p q m → q.standing.priority ≡ m.priority
  pub outside : ((m : ModuleInfo) → HasDevice p q m → ⊥) → q.standing.priority ≡ 0

pub record Keeps (p : Resolved) (c : Configuration) : Type 0 where
  pub exclusive : Exclusive p c
  pub placed : (n : ℕ) (q : ProcessState) → slice_get c.processes n ≡ Some q → IsPlaced c n q q.standing.state
  pub processes : AreProcesses c
  pub once : AreDifferent (members_of c.nest) × AreDifferent (waiting_of c.waiters)
  pub nested : AreNested c c.nest
  pub above : IsAboveFoot c c.foot c.nest
  pub priorities : (n : ℕ) (q : ProcessState) → slice_get c.processes n ≡ Some q → HasItsPriority p q

-- The law that every step of a run keeps these facts. It is for the programs that keep the rules of modules and devices, and is
-- stated here; that the opening has them is proved, and the rest is not.
abbrev pub KeepsAlways : Resolved → Type 0
KeepsAlways p = (run : List Step) → IsRun p run → Keeps p (config_after p (opening p) run)

-- The room of a workspace

abbrev pub frame_or : Option CodeInfo → ℕ
frame_or None = 0
frame_or (Some code) = code.frame

abbrev pub body_frame : Option ModuleInfo → ℕ
body_frame None = 0
body_frame (Some m) = m.body.frame

abbrev pub procedure_frame : Resolved → Form → ℕ
procedure_frame p (form.Procedure k) = frame_or (slice_get p.procedures k)
procedure_frame p other = 0

-- the frame of an activation that the process makes next
abbrev pub next_frame : Resolved → List Item → ℕ
next_frame p (CallsBody m ∷ rest) = body_frame (slice_get p.modules m)
next_frame p (Calls node ∷ rest) = procedure_frame p (form_at p (part_at p node 0))
next_frame p other = 0

abbrev pub frames_of : Resolved → Option ProcessState → ℕ
frames_of p None = 0
frames_of p (Some q) = sum (map (λ a. a.frame) q.activations) + next_frame p q.rest

abbrev pub top_frames : Resolved → Configuration → Option ℕ → ℕ
top_frames p c None = 0
top_frames p c (Some n) = frames_of p (slice_get c.processes n)

-- 40 and the frames of the topmost process's activations, with one that it makes next, are more than a workspace has
abbrev pub OverWorkspace : Resolved → ℕ → Configuration → Type 0
OverWorkspace p workspace c = workspace < 40 + top_frames p c (topmost c)

abbrev pub is_device_process : Option ProcessInfo → Type 0
is_device_process None = ⊥
is_device_process (Some info) = info.vector ≢ None

-- a start that does not trap: of a regular process, or of a device process that was not started before
abbrev pub IsStartOf : Resolved → Configuration → Form → Type 0
IsStartOf p c (form.Process k) = is_device_process (slice_get p.processes k) → was_started c.processes k ≡ false
IsStartOf p c other = ⊥

abbrev pub IsStart : Resolved → Configuration → List Item → Type 0
IsStart p c (Starts node ∷ rest) = IsStartOf p c (form_at p (part_at p node 0))
IsStart p c other = ⊥

abbrev pub StartsNextOf : Resolved → Configuration → Option ProcessState → Type 0
StartsNextOf p c None = ⊥
StartsNextOf p c (Some q) = IsStart p c q.rest

abbrev pub StartsNext : Resolved → Configuration → Option ℕ → Type 0
StartsNext p c None = ⊥
StartsNext p c (Some n) = StartsNextOf p c (slice_get c.processes n)

-- the topmost process's next step is a start for which there are too many processes, or too little memory
abbrev pub OverRoom : Resolved → ℕ → ℕ → Configuration → Type 0
OverRoom p workspace processes c =
    StartsNext p c (topmost c) × ((processes < live c.processes + 1) ⊎ (28672 < 4096 + p.size + (live c.processes + 1) * (workspace + 16)))
