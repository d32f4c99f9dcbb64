-- What processes do to one another: starts, waits, sends, doio and ends.
use Rattle.std.specs.Prelude.{ℕ, ◌==◌, nat_lt, List, [], ◌∷◌, ◌++◌, length, filter, not, Option, Some, None, Bool, true, false, ◌||◌, ◌&&◌, is_some, slice_get, slice_set, drop, if◌then◌else◌}
use Rattle.mc_prog.specs.declared.program.ProcessInfo.{ProcessInfo}
use Rattle.mc_prog.specs.Resolved.{Resolved}
use Rattle.mc_meaning.specs.declared.config.Mark.TheVariants.{Woken}
use Rattle.mc_meaning.specs.declared.config.Nested.{Nested}
use Rattle.mc_meaning.specs.declared.config.Waiter.{Waiter}
use Rattle.mc_meaning.specs.declared.process.Item.{Item}
use Rattle.mc_meaning.specs.declared.process.Item.TheVariants.{Runs, Ends}
use Rattle.mc_meaning.specs.declared.process.ProcessKind.{ProcessKind}
use Rattle.mc_meaning.specs.declared.process.ProcessKind.TheVariants.{Main, Regular, Driver}
use Rattle.mc_meaning.specs.declared.process.Running.TheVariants as running
use Rattle.mc_meaning.specs.declared.process.State.{State}
use Rattle.mc_meaning.specs.declared.process.State.TheVariants.{Acting, Ready, Delayed, AtDoio, Ended}
use Rattle.mc_meaning.specs.declared.store.Found.{Found}
use Rattle.mc_meaning.specs.declared.store.Found.TheVariants as found
use Rattle.mc_meaning.specs.declared.store.Name.{Name}
use Rattle.mc_meaning.specs.declared.store.Target.TheVariants as target
use Rattle.mc_meaning.specs.Configuration.{Configuration, ProcessState, all_stored, same_name}
use Rattle.mc_meaning.specs.Calling.{arguments_of, first_words, local_clears, priority_in, with_process}

-- a step that traps sets the trap and changes nothing else
abbrev pub trapped : Configuration → ℕ → Configuration
trapped c n = record c { trap = Some n }

-- Starts

abbrev pub same_declared : Option ℕ → ℕ → Bool
same_declared None k = false
same_declared (Some d) k = d == k

-- whether the declared process was started before
abbrev pub was_started : List ProcessState → ℕ → Bool
was_started [] k = false
was_started (q ∷ processes) k = same_declared q.standing.declared k || was_started processes k

abbrev pub started_kind : Option ℕ → ProcessKind
started_kind None = Regular
started_kind (Some vector) = Driver vector

-- a regular process is ready, and a device process acts
abbrev pub started_state : Option ℕ → State
started_state None = Ready
started_state (Some vector) = Acting

-- the new process, of this number: its locals are set to zero one word after the other, then its text runs
abbrev pub new_process : Resolved → ℕ → ℕ → ProcessInfo → ProcessState
new_process p number k info = record {
  standing = record { declared = Some k; kind = started_kind info.vector; state = started_state info.vector; priority = priority_in (slice_get p.modules info.code.«module») 0 };
  activations = record { running = running.Process k; «module» = Some info.code.«module»; before = 0; frame = info.code.frame; references = []; found = []; rest = [] } ∷ [];
  found = [];
  rest = local_clears p number 0 0 info.code.slots ++ (Runs info.code.body ∷ (Ends ∷ []));
}

-- a device process joins the nest, above the one that starts it
abbrev pub nest_with : List Nested → ℕ → Option ℕ → List Nested
nest_with nest number None = nest
nest_with nest number (Some vector) = nest ++ (record { process = number; mark = Woken } ∷ [])

abbrev pub started : Resolved → Configuration → ℕ → ProcessState → ℕ → List Found → List Item → ProcessInfo → Configuration
started p c n q k arguments rest info =
    let number : ℕ = length c.processes in
    record c {
      store = all_stored c.store (first_words number 0 info.code.slots arguments);
      processes = slice_set c.processes n (record q { rest = rest }) ++ (new_process p number k info ∷ []);
      nest = nest_with c.nest number info.vector;
    }

-- A device process that was started before traps 7.
abbrev pub start : Resolved → Configuration → ℕ → ProcessState → ℕ → ℕ → List Item → Option ProcessInfo → Configuration
start p c n q k count rest None = c
start p c n q k count rest (Some info) =
    if is_some info.vector && was_started c.processes k then trapped c 7
    else started p c n (record q { found = drop count q.found }) k (arguments_of count q.found) rest info

-- Waiting

abbrev pub in_state : State → ProcessState → ProcessState
in_state s q = record q { standing = record q.standing { state = s } }

-- all but the last
abbrev pub lower_members : List Nested → List Nested
lower_members [] = []
lower_members (m ∷ []) = []
lower_members (m ∷ (k ∷ members)) = m ∷ lower_members (k ∷ members)

-- The topmost process leaves its place: the nest, or the foot where the nest is empty.
abbrev pub vacated_by : Configuration → List Nested → Configuration
vacated_by c [] = record c { foot = None }
vacated_by c (m ∷ members) = record c { nest = lower_members (m ∷ members) }

abbrev pub vacated : Configuration → Configuration
vacated c = vacated_by c c.nest

abbrev pub delayed : Configuration → ℕ → ProcessState → Name → ℕ → List Found → List Item → Configuration
delayed c n q signal rank found_ rest =
    vacated (record (with_process c n (record (in_state Delayed q) { found = found_; rest = rest })) { waiters = c.waiters ++ (record { signal = signal; rank = rank; process = n } ∷ []) })

-- A negative rank traps 5.
abbrev pub wait : Configuration → ℕ → ProcessState → Bool → List Item → List Found → Configuration
wait c n q true rest (found.Value rank ∷ (found.Named (target.Stored signal) ∷ found_)) = if nat_lt 32767 rank then trapped c 5 else delayed c n q signal rank found_ rest
wait c n q false rest (found.Named (target.Stored signal) ∷ found_) = delayed c n q signal 1 found_ rest
wait c n q ranked rest other = c

-- The chosen waiter

-- the least rank of the waiters of a signal
abbrev pub lesser : Option ℕ → ℕ → Option ℕ
lesser None rank = Some rank
lesser (Some other) rank = if nat_lt rank other then Some rank else Some other

abbrev pub least_rank : List Waiter → Name → Option ℕ
least_rank [] signal = None
least_rank (w ∷ waiters) signal = if same_name w.signal signal then lesser (least_rank waiters signal) w.rank else least_rank waiters signal

abbrev pub first_of_rank : List Waiter → Name → Option ℕ → Option Waiter
first_of_rank waiters signal None = None
first_of_rank [] signal (Some rank) = None
first_of_rank (w ∷ waiters) signal (Some rank) = if same_name w.signal signal then (if w.rank == rank then Some w else first_of_rank waiters signal (Some rank)) else first_of_rank waiters signal (Some rank)

-- among the waiters of a signal, the first in the order of arrival of those with the least rank
abbrev pub chosen : List Waiter → Name → Option Waiter
chosen waiters signal = first_of_rank waiters signal (least_rank waiters signal)

abbrev pub without_waiter : List Waiter → ℕ → List Waiter
without_waiter waiters n = filter (λ w. not (w.process == n)) waiters

-- Sending

abbrev pub put_state : Configuration → ℕ → State → Option ProcessState → Configuration
put_state c n s None = c
put_state c n s (Some q) = with_process c n (in_state s q)

-- the process n stands here now
abbrev pub set_state : Configuration → ℕ → State → Configuration
set_state c n s = put_state c n s (slice_get c.processes n)

abbrev pub is_driver : ProcessKind → Bool
is_driver Main = false
is_driver Regular = false
is_driver (Driver vector) = true

-- A regular process wakes a device process, which acts above it, or another regular process, which acts in its place. A
-- device process makes a regular one ready, and goes on.
abbrev pub wakes : Configuration → ℕ → ℕ → Bool → Bool → Configuration
wakes c n w false false = set_state (set_state (record c { foot = Some w }) w Acting) n Ready
wakes c n w false true = set_state (record c { nest = c.nest ++ (record { process = w; mark = Woken } ∷ []) }) w Acting
wakes c n w true false = set_state c w Ready
wakes c n w true true = c

abbrev pub kind_at : Option ProcessState → ProcessKind
kind_at None = Main
kind_at (Some q) = q.standing.kind

-- the process w waits no longer
abbrev pub released : Configuration → ℕ → Configuration
released c w = record c { waiters = without_waiter c.waiters w }

-- c is where the sender stood before the step, and d where it has gone on
abbrev pub send_to : Configuration → Configuration → ℕ → ProcessKind → Option Waiter → Configuration
send_to c d n kind None = d
send_to c d n kind (Some w) = wakes (released d w.process) n w.process (is_driver kind) (is_driver (kind_at (slice_get c.processes w.process)))

abbrev pub send : Configuration → ℕ → ProcessState → List Item → List Found → Configuration
send c n q rest (found.Named (target.Stored signal) ∷ found_) = send_to c (with_process c n (record q { found = found_; rest = rest })) n q.standing.kind (chosen c.waiters signal)
send c n q rest other = c

abbrev pub is_waited_for : List Waiter → Name → Bool
is_waited_for waiters signal = is_some (least_rank waiters signal)

-- Doio and ends

-- a device process stands at its doio, out of the nest
abbrev pub stand_at_doio : Configuration → ℕ → ProcessState → List Item → Configuration
stand_at_doio c n q rest = vacated (with_process c n (record (in_state AtDoio q) { rest = rest }))

-- An ended process keeps its last activation and its priority.
abbrev pub finish : Configuration → ℕ → ProcessState → List Item → Configuration
finish c n q rest = vacated (with_process c n (record (in_state Ended q) { rest = rest }))
