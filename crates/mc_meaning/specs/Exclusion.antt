-- Mutual exclusion in interface and device modules, and the room that processes need.
use Rattle.std.specs.Prelude.{◌≡◌, ◌≢◌, ◌<◌, ℕ, ◌+◌, ◌*◌, ◌⊎◌, List, [], ◌∷◌, Contains, Option, Some, None, slice_get, map, sum}
use Rattle.mc_prog.specs.Program.{Plain, Module, Program}
use Rattle.mc_meaning.specs.Config.{Item, CallsBody, Runs, Names, Evaluates, Writes, Returns, Ends, Process, Nested, Woken, Config, topmost, live}

-- a module in which at most one process may be
abbrev pub IsExclusive : Option Module → Type 0
IsExclusive None = ⊥
IsExclusive (Some m) = m.kind ≢ Plain

-- the first member of the nest was woken, by the process that is the foot
abbrev pub IsWokenFirst : List Nested → Type 0
IsWokenFirst [] = ⊥
IsWokenFirst (m ∷ members) = m.mark ≡ Woken

abbrev pub IsRunning : ℕ → Option Process → Type 0
IsRunning m None = ⊥
IsRunning m (Some q) = Contains (map (λ a. a.module_of) q.activations) (Some m)

-- a process counts as inside a module where it has an activation of it: each member of the nest, and the foot unless
-- the first member of the nest was woken
pub data IsInside (c : Config) (m p : ℕ) : Type 0 where
  as_foot : c.foot ≡ Some p → (IsWokenFirst c.nest → ⊥) → IsRunning m (slice_get c.processes p) → IsInside c m p
  as_member : Contains (map (λ n. n.process) c.nest) p → IsRunning m (slice_get c.processes p) → IsInside c m p

-- at most one process counts as inside each interface or device module
abbrev pub Exclusive : Program → Config → Type 0
Exclusive program c =
    (m p q : ℕ) → IsExclusive (slice_get program.modules m) → IsInside c m p → IsInside c m q → p ≡ q

-- The room of a workspace

abbrev pub frame_of : Option Module → ℕ
frame_of None = 0
frame_of (Some m) = m.frame

-- the frame of a call that the process makes next
abbrev pub next_frame : Program → List Item → ℕ
next_frame program [] = 0
next_frame program (CallsBody m ∷ rest) = frame_of (slice_get program.modules m)
next_frame program (Runs s ∷ rest) = 0
next_frame program (Names d ∷ rest) = 0
next_frame program (Evaluates e ∷ rest) = 0
next_frame program (Writes ∷ rest) = 0
next_frame program (Returns ∷ rest) = 0
next_frame program (Ends ∷ rest) = 0

abbrev pub frames_of : Program → Option Process → ℕ
frames_of program None = 0
frames_of program (Some q) = sum (map (λ a. a.frame) q.activations) + next_frame program q.rest

abbrev pub top_frames : Program → Config → Option ℕ → ℕ
top_frames program c None = 0
top_frames program c (Some p) = frames_of program (slice_get c.processes p)

-- 40 and the frames of the topmost process's calls, with one that it makes next, are more than a workspace has
abbrev pub OverWorkspace : Program → ℕ → Config → Type 0
OverWorkspace program workspace c = workspace < 40 + top_frames program c (topmost c)

-- what the process does next is a start
abbrev pub IsStart : List Item → Type 0
IsStart [] = ⊥
IsStart (CallsBody m ∷ rest) = ⊥
IsStart (Runs s ∷ rest) = ⊥
IsStart (Names d ∷ rest) = ⊥
IsStart (Evaluates e ∷ rest) = ⊥
IsStart (Writes ∷ rest) = ⊥
IsStart (Returns ∷ rest) = ⊥
IsStart (Ends ∷ rest) = ⊥

abbrev pub starts_next : Option Process → Type 0
starts_next None = ⊥
starts_next (Some q) = IsStart q.rest

abbrev pub StartsNext : Config → Option ℕ → Type 0
StartsNext c None = ⊥
StartsNext c (Some p) = starts_next (slice_get c.processes p)

-- the topmost process's next step is a start for which there are too many processes, or too little memory
abbrev pub OverRoom : ℕ → ℕ → ℕ → Config → Type 0
OverRoom size workspace processes c =
    StartsNext c (topmost c) × ((processes < live c.processes + 1) ⊎ (28672 < 4096 + size + (live c.processes + 1) * (workspace + 16)))
