-- The image's machine, one moment at a time, beside the program's run.
use Rattle.std.proofs.Common.{◌≡◌, ℕ, zero, suc, ◌+◌, ◌*◌, ◌/◌, ◌%◌, ◌<◌, ◌≤◌, Bool, true, false, List, [], ◌∷◌, ◌++◌, length, Option, Some, None, Ok, refl, sym, ap, ◌∙◌, subst, arith, ◌⊎◌, inl, inr, get_or-set_same}
use Rattle.std.specs.Prelude.{slice_index, slice_set, slice_get, option_map, map}
use Rattle.std.proofs.lemmas.List.{length-set}
use Rattle.std.proofs.lemmas.Bool.{false≢true}
use Rattle.tracking.specs.Runs.{after, IsRunOf}
use Rattle.tracking.specs.Simulation.{total, Catches, Simulates}
use Rattle.mc_word.specs.declared.word.Codes.{Codes}
use Rattle.pdp_dev.specs.declared.devices.Devices.{Devices}
use Rattle.pdp_dev.specs.declared.register.Register.{Register}
use Rattle.pdp_dev.specs.declared.register.Register.TheVariants.{PrinterByte, PunchByte}
use Rattle.pdp_dev.specs.declared.entry.Event.{Event}
use Rattle.pdp_dev.specs.declared.entry.Port.{Port}
use Rattle.pdp_dev.specs.declared.entry.Port.TheVariants.{Printer, Punch}
use Rattle.pdp_dev.specs.declared.entry.Entry.{Entry}
use Rattle.pdp_dev.specs.Devices.{written, IsEvent, request_of, said_at}
use Rattle.pdp_def.specs.declared.outcome.Outcome.{Outcome}
use Rattle.pdp_def.specs.State.{CoreState}
use Rattle.pdp_def.specs.Does.{bus, After, entries, is_bad, put_word, write_word}
use Rattle.pdp_def.specs.Perform.{bit, with_codes, moved_codes, sets, attempt, or_nothing, effect}
use Rattle.pdp_def.specs.Laws.{HasAt, HasAt-set, core_of, move_law, wait_law}
use Rattle.pdp_def.specs.Moments.{MachineState, Occurs as OccursMoment, Grants as GrantsMoment, Executes, happens, executed, IsPossible, is_above, priority_of}
use Rattle.mc_prog.specs.Program.{CellInfo, Designator, Expression, Program, Statement}
use Rattle.mc_meaning.specs.Config.{Main, Acting, Ended, Finished, Item, CallsBody, Runs, Names, Evaluates, Writes, Returns, Ends, Activation, Process, Config}
use Rattle.mc_meaning.specs.Evaluation.{target_of, write_target}
use Rattle.mc_meaning.specs.Runs.{Step, Occurs, Evals, steps, IsStep, earns}
use Rattle.mc_straight.specs.declared.form.Put.{Put}
use Rattle.mc_straight.specs.Form.{Straight, address_of, cell_of, statement_of, program_of}
use Rattle.mc_compile.specs.Code.{end_code, leave_code, puts_code, code_of}
use Rattle.mc_compile.proofs.Quiet.{IsQuiet, quiet_none, quiet_event, quiet_printer, quiet_punch}

-- where the program stands between two instructions: before its body, inside it with these statements left, behind it,
-- or at its end
pub data Phase : Type 0 where
  Before : Phase
  Inside : List Put → Phase
  Behind : Phase
  Done : Phase

abbrev main_activation : Activation
main_activation = record { module_of = None; before = 0; frame = 22 }

abbrev body_activation : Activation
body_activation = record { module_of = Some 0; before = 0; frame = 28 }

abbrev pub process_at : Straight → Phase → Process
process_at form Before =
    record { declared_as = None; kind = Main; state = Acting; priority = 0; activations = main_activation ∷ []; finished = []; rest = CallsBody 0 ∷ Ends ∷ [] }
process_at form (Inside puts) =
    record { declared_as = None; kind = Main; state = Acting; priority = form.priority; activations = body_activation ∷ main_activation ∷ []; finished = []; rest = map Runs (map statement_of puts) ++ (Returns ∷ Ends ∷ []) }
process_at form Behind =
    record { declared_as = None; kind = Main; state = Acting; priority = 0; activations = main_activation ∷ []; finished = []; rest = Ends ∷ [] }
process_at form Done =
    record { declared_as = None; kind = Main; state = Ended; priority = 0; activations = main_activation ∷ []; finished = []; rest = [] }

abbrev pub foot_at : Phase → Option ℕ
foot_at Before = Some 0
foot_at (Inside puts) = Some 0
foot_at Behind = Some 0
foot_at Done = None

abbrev pub config_at : Straight → Phase → Devices → List Entry → Config
config_at form phase d journal =
    record { store = []; devices = d; processes = process_at form phase ∷ []; foot = foot_at phase; nest = []; waiters = []; trap = None; journal = journal }

abbrev pub code_at : Straight → Phase → List ℕ
code_at form Before = code_of form
code_at form (Inside puts) = puts_code puts ++ leave_code
code_at form Behind = end_code
code_at form Done = 1 ∷ []

abbrev pub level_at : Straight → Phase → ℕ
level_at form Before = 0
level_at form (Inside puts) = form.priority
level_at form Behind = 0
level_at form Done = 0

abbrev pub live_at : Phase → ℕ
live_at Before = 1
live_at (Inside puts) = 1
live_at Behind = 1
live_at Done = 0

-- the statements that are left name variables of the program
abbrev pub AreKnown : Straight → List Put → Type 0
AreKnown form [] = Unit {0}
AreKnown form (put ∷ puts) = (slice_get form.variables put.variable ≡ Some put.port) × AreKnown form puts

abbrev pub IsKnown : Straight → Phase → Type 0
IsKnown form Before = AreKnown form form.puts
IsKnown form (Inside puts) = AreKnown form puts
IsKnown form Behind = Unit {0}
IsKnown form Done = Unit {0}

-- the code of what is left to do stands at PC
pub record IsAt (form : Straight) (phase : Phase) (core : CoreState) : Type 0 where
  pub place : ℕ
  pub ps : ℕ
  pub memory : List ℕ
  pub core_is : core ≡ core_of 0 0 0 0 0 0 0 (2 * place) ps memory
  pub stands : HasAt memory place (code_at form phase)
  pub room : place + length (code_at form phase) ≤ 28672
  pub above : 20 < place
  pub level : priority_of ps ≡ level_at form phase
  pub words : length memory ≡ 28672
  pub count : slice_index memory 20 ≡ live_at phase

-- the machine waits, and the program has ended
pub record Waits (phase : Phase) (core : CoreState) : Type 0 where
  pub done : phase ≡ Done
  pub waiting : core.waiting ≡ true
  pub priority : priority_of core.ps ≡ 0
  pub count : slice_index core.memory 20 ≡ 0

pub record IsActing (form : Straight) (phase : Phase) (m : MachineState) (earned : ℕ) : Type 0 where
  pub at : IsAt form phase m.core
  pub runs : m.core.waiting ≡ false
  pub instructions : m.instructions ≤ earned

pub record IsWaiting (phase : Phase) (m : MachineState) (earned : ℕ) : Type 0 where
  pub waits : Waits phase m.core
  pub instructions : m.instructions ≤ earned + 1

pub record IsRelated (form : Straight) (m : MachineState) (c : Config) (earned : ℕ) : Type 0 where
  pub phase : Phase
  pub config : c ≡ config_at form phase m.devices m.journal
  pub known : IsKnown form phase
  pub quiet : IsQuiet m.devices
  pub goes : m.stop ≡ None
  pub stands : IsActing form phase m earned ⊎ IsWaiting phase m earned

-- the codes leave the priority
low_bits : (ps low : ℕ) → low < 16 → (ps / 16 * 16 + low) / 32 % 8 ≡ ps / 32 % 8
low_bits ps low h = omega arith

at_most : (b : Bool) (n : ℕ) → bit b n ≤ n
at_most true n = omega arith
at_most false n = omega arith

with_codes-level : (ps : ℕ) (k : Codes) → priority_of (with_codes ps k) ≡ priority_of ps
with_codes-level ps k =
    low_bits ps (bit k.n 8 + bit k.z 4 + bit k.v 2 + bit k.c 1) (omega (arith, at_most k.n 8, at_most k.z 4, at_most k.v 2, at_most k.c 1))

-- the machine after an instruction that ends well
effect_is : (c : CoreState) (d : Devices) (said : List Entry) (a : After Outcome) → attempt (bus c d said) ≡ Ok a → effect c d said ≡ a
unfolding effect
effect_is c d said a h = ap (or_nothing (bus c d said)) h

-- after so many words the core stands there
abbrev core_at : ℕ → ℕ → List ℕ → CoreState
core_at place ps memory = core_of 0 0 0 0 0 0 0 (2 * place) ps memory

abbrev came : MachineState → CoreState → Devices → List Entry → MachineState
came m core d journal = record { core = core; devices = d; journal = journal; instructions = m.instructions + 1; stop = None }

came_by : (m : MachineState) (place ps : ℕ) (memory : List ℕ) (a : After Outcome) → m.core ≡ core_at place ps memory → attempt (bus (core_at place ps memory) m.devices m.journal) ≡ Ok a → happens m Executes ≡ executed m a
came_by m place ps memory a e h =
    ap (executed m) (effect_is m.core m.devices m.journal a (ap (λ (c : CoreState). attempt (bus c m.devices m.journal)) e ∙ h))

-- MOV #w, @#177776: the status word
to_status : (m : MachineState) (n w ps : ℕ) (memory rest : List ℕ) → m.core ≡ core_at n ps memory → n + 3 ≤ 28672 → HasAt memory n (0o012737 ∷ w ∷ 0o177776 ∷ rest) → happens m Executes ≡ came m (core_at (n + 3) (w % 256) memory) m.devices m.journal
unfolding write_word is_bad put_word sets
to_status m n w ps memory rest e room has =
    came_by m n ps memory _ e (move_law n w 0o177776 0 0 0 0 0 0 0 ps memory m.devices m.journal rest room has)

-- MOV #0, @#50: the number of processes that have not ended
to_count : (m : MachineState) (n ps : ℕ) (memory rest : List ℕ) → m.core ≡ core_at n ps memory → n + 3 ≤ 28672 → HasAt memory n (0o012737 ∷ 0 ∷ 0o50 ∷ rest) → happens m Executes ≡ came m (core_at (n + 3) (with_codes ps (moved_codes 0 ps)) (slice_set memory 20 0)) m.devices m.journal
unfolding write_word is_bad put_word sets
to_count m n ps memory rest e room has =
    came_by m n ps memory _ e (move_law n 0 0o50 0 0 0 0 0 0 0 ps memory m.devices m.journal rest room has)

abbrev register_of : Port → Register
register_of Printer = PrinterByte
register_of Punch = PunchByte

-- MOV #w, @# the register of a port
to_port : (m : MachineState) (n w ps : ℕ) (port : Port) (memory rest : List ℕ) → m.core ≡ core_at n ps memory → n + 3 ≤ 28672 → HasAt memory n (0o012737 ∷ w ∷ address_of port ∷ rest) → happens m Executes ≡ came m (core_at (n + 3) (with_codes ps (moved_codes w ps)) memory) (written m.devices (register_of port) w) (m.journal ++ entries (said_at m.devices (register_of port) w))
unfolding write_word is_bad put_word sets
to_port m n w ps Printer memory rest e room has =
    came_by m n ps memory _ e (move_law n w 0o177566 0 0 0 0 0 0 0 ps memory m.devices m.journal rest room has)
to_port m n w ps Punch memory rest e room has =
    came_by m n ps memory _ e (move_law n w 0o177556 0 0 0 0 0 0 0 ps memory m.devices m.journal rest room has)

-- WAIT
to_wait : (m : MachineState) (n ps : ℕ) (memory rest : List ℕ) → m.core ≡ core_at n ps memory → n + 1 ≤ 28672 → HasAt memory n (1 ∷ rest) → happens m Executes ≡ came m (record (core_at (n + 1) ps memory) { waiting = true }) m.devices m.journal
to_wait m n ps memory rest e room has =
    came_by m n ps memory _ e (wait_law n 0 0 0 0 0 0 0 ps memory m.devices m.journal rest room has)

-- three words on
three_on : (memory : List ℕ) (at : ℕ) (words : List ℕ) → HasAt memory (at + 1 + 1 + 1) words → HasAt memory (at + 3) words
three_on memory at words has = let e : at + 1 + 1 + 1 ≡ at + 3 = omega arith in subst (λ (p : ℕ). HasAt memory p words) e has

quiet_port : (port : Port) (d : Devices) (b : ℕ) → IsQuiet d → IsQuiet (written d (register_of port) b)
quiet_port Printer d b q = quiet_printer d b q
quiet_port Punch d b q = quiet_punch d b q

-- The steps of the run

slice_get-map : {X Y : Type 0} (f : X → Y) (xs : List X) (i : ℕ) → slice_get (map f xs) i ≡ option_map f (slice_get xs i)
slice_get-map f [] i = refl
slice_get-map f (x ∷ xs) zero = refl
slice_get-map f (x ∷ xs) (suc i) = slice_get-map f xs i

-- a variable of a port names its register
writes_port : (v w : ℕ) (port : Port) (c : Config) → write_target (target_of v (Some (cell_of port))) w c ≡ record c { devices = written c.devices (register_of port) w; journal = c.journal ++ entries (said_at c.devices (register_of port) w) }
writes_port v w Printer c = refl
writes_port v w Punch c = refl

-- What shows that a step changes the configuration: of its first process the calls, what was found, and the first item.

abbrev calls_in : List Process → List Activation
calls_in [] = []
calls_in (q ∷ processes) = q.activations

abbrev calls_of : Config → List Activation
calls_of c = calls_in c.processes

abbrev found_in : List Process → List Finished
found_in [] = []
found_in (q ∷ processes) = q.finished

abbrev found_of : Config → List Finished
found_of c = found_in c.processes

abbrev first_item : List Item → Option Item
first_item [] = None
first_item (item ∷ rest) = Some item

abbrev first_in : List Process → Option Item
first_in [] = None
first_in (q ∷ processes) = first_item q.rest

abbrev first_of : Config → Option Item
first_of c = first_in c.processes

calls_differ : {a b c : Activation} → a ∷ b ∷ [] ≡ c ∷ [] → ⊥
calls_differ e = cc

none_found : {f : Finished} {found : List Finished} → [] ≡ f ∷ found → ⊥
none_found e = cc

runs_names : {d : Designator} {s : Statement} → Some (Names d) ≡ Some (Runs s) → ⊥
runs_names e = cc

names_evaluates : {x : Expression} {d : Designator} → Some (Evaluates x) ≡ Some (Names d) → ⊥
names_evaluates e = cc

evaluates_writes : {x : Expression} → Some Writes ≡ Some (Evaluates x) → ⊥
evaluates_writes e = cc

ends_returns : Some Ends ≡ Some Returns → ⊥
ends_returns e = cc

none_ends : None ≡ Some Ends → ⊥
none_ends e = cc

module _ (form : Straight) where
  abbrev program : Program
  program = program_of form

  free : (p : ℕ) (d : Devices) → IsQuiet d → is_above p (request_of d) ≡ false
  free p d q = ap (is_above p) (quiet_none d q)

  enters : (d : Devices) (j : List Entry) → IsQuiet d → IsRunOf (steps program) (IsStep program) (config_at form Before d j) (Evals ∷ []) × (after (steps program) (config_at form Before d j) (Evals ∷ []) ≡ config_at form (Inside form.puts) d j)
  enters d j q = (((refl, free 0 d q, refl, λ e. calls_differ (ap calls_of e)), tt), refl)

  puts_one : (put : Put) (puts : List Put) (d : Devices) (j : List Entry) → IsQuiet d → slice_get form.variables put.variable ≡ Some put.port → IsRunOf (steps program) (IsStep program) (config_at form (Inside (put ∷ puts)) d j) (Evals ∷ Evals ∷ Evals ∷ Evals ∷ []) × (after (steps program) (config_at form (Inside (put ∷ puts)) d j) (Evals ∷ Evals ∷ Evals ∷ Evals ∷ []) ≡ config_at form (Inside puts) (written d (register_of put.port) put.byte) (j ++ entries (said_at d (register_of put.port) put.byte)))
  puts_one put puts d j q known =
      let cell = slice_get-map cell_of form.variables put.variable ∙ ap (option_map cell_of) known in
      let before : Config = config_at form (Inside puts) d j in
      let written_is = ap (λ (o : Option CellInfo). write_target (target_of put.variable o) put.byte before) cell ∙ writes_port put.variable put.byte put.port before in
      let may = free form.priority d q in (
        (
          (refl, may, refl, λ e. runs_names (ap first_of e)),
          ((refl, may, refl, λ e. names_evaluates (ap first_of e)), ((refl, may, refl, λ e. evaluates_writes (ap first_of e)), ((refl, may, refl, λ e. none_found (sym (ap found_of written_is) ∙ ap found_of e)), tt))),
        ),
        written_is,
      )

  leaves : (d : Devices) (j : List Entry) → IsQuiet d → IsRunOf (steps program) (IsStep program) (config_at form (Inside []) d j) (Evals ∷ []) × (after (steps program) (config_at form (Inside []) d j) (Evals ∷ []) ≡ config_at form Behind d j)
  leaves d j q = (((refl, free form.priority d q, refl, λ e. ends_returns (ap first_of e)), tt), refl)

  ends : (d : Devices) (j : List Entry) → IsQuiet d → IsRunOf (steps program) (IsStep program) (config_at form Behind d j) (Evals ∷ []) × (after (steps program) (config_at form Behind d j) (Evals ∷ []) ≡ config_at form Done d j)
  ends d j q = (((refl, free 0 d q, refl, λ e. none_ends (ap first_of e)), tt), refl)

  -- One moment, whichever it is

  abbrev Caught : MachineState → Config → ℕ → Type 0
  Caught m c n = Catches happens IsPossible (steps program) (IsStep program) earns (IsRelated form) m c n

  -- an event: the devices change alike
  follows_event : (m : MachineState) (c : Config) (n : ℕ) (e : Event) → IsEvent e → IsRelated form m c n → Caught (happens m (OccursMoment e)) c n
  follows_event m c n e possible r =
      let m' : MachineState = happens m (OccursMoment e) in
      let same : steps program c (Occurs e) ≡ config_at form r.phase m'.devices m'.journal = ap (λ (c : Config). steps program c (Occurs e)) r.config in
      let e0 : n ≡ n + 0 = omega arith in (
        Occurs e ∷ [],
        (
          (possible, tt),
          subst (λ (k : ℕ). IsRelated form m' (steps program c (Occurs e)) k) e0 (record {
            phase = r.phase;
            config = same;
            known = r.known;
            quiet = quiet_event m.devices e r.quiet;
            goes = r.goes;
            stands = stays r.phase r.stands;
          }),
        ),
      )
    where
      stays : (phase : Phase) → IsActing form phase m n ⊎ IsWaiting phase m n → IsActing form phase (happens m (OccursMoment e)) n ⊎ IsWaiting phase (happens m (OccursMoment e)) n
      stays phase (inl a) = inl (record { at = a.at; runs = a.runs; instructions = a.instructions })
      stays phase (inr w) = inr (record { waits = w.waits; instructions = w.instructions })

  -- the state that an instruction of the code leads to
  acting : (phase : Phase) (m : MachineState) (d : Devices) (j : List Entry) (place ps : ℕ) (memory : List ℕ) (n k : ℕ) → IsKnown form phase → IsQuiet d → HasAt memory place (code_at form phase) → place + length (code_at form phase) ≤ 28672 → 20 < place → priority_of ps ≡ level_at form phase → length memory ≡ 28672 → slice_index memory 20 ≡ live_at phase → m.instructions ≤ n → 1 ≤ k → IsRelated form (came m (core_at place ps memory) d j) (config_at form phase d j) (n + k)
  acting phase m d j place ps memory n k known quiet stands room above level words count counted one =
      record {
        phase = phase;
        config = refl;
        known = known;
        quiet = quiet;
        goes = refl;
        stands = inl (record {
          at = record { place = place; ps = ps; memory = memory; core_is = refl; stands = stands; room = room; above = above; level = level; words = words; count = count };
          runs = refl;
          instructions = omega (arith, counted, one);
        });
      }

  -- some evaluation steps lead on to where the instruction led
  caught : (phase : Phase) (m : MachineState) (m' : MachineState) (more : List Step) (d d' : Devices) (j j' : List Entry) (n : ℕ) (next : Phase) → happens m Executes ≡ m' → IsRunOf (steps program) (IsStep program) (config_at form phase d j) more × (after (steps program) (config_at form phase d j) more ≡ config_at form next d' j') → IsRelated form m' (config_at form next d' j') (n + total earns more) → Caught (happens m Executes) (config_at form phase d j) n
  caught phase m m' more d d' j j' n next e run r =
      let r1 = subst (λ (c : Config). IsRelated form m' c (n + total earns more)) (sym run.1) r in
      (more, (run.0, subst (λ (x : MachineState). IsRelated form x (after (steps program) (config_at form phase d j) more) (n + total earns more)) (sym e) r1))

  executes_at : (phase : Phase) (m : MachineState) (n : ℕ) → IsKnown form phase → IsQuiet m.devices → IsActing form phase m n → (4 ≤ form.priority) × (form.priority ≤ 7) → Caught (happens m Executes) (config_at form phase m.devices m.journal) n
  executes_at Before m n known q a bounds =
      let at = a.at in
      let w : ℕ = form.priority * 32 in
      let e = to_status m at.place w at.ps at.memory (puts_code form.puts ++ leave_code) at.core_is (omega (arith, at.room)) at.stands in
      let level : priority_of (w % 256) ≡ form.priority = omega (arith, bounds.1) in
      caught Before m _ (Evals ∷ []) m.devices m.devices m.journal m.journal n (Inside form.puts) e (enters m.devices m.journal q)
      (acting (Inside form.puts) m m.devices m.journal (at.place + 3) (w % 256) at.memory n 1 known q (three_on at.memory at.place (puts_code form.puts ++ leave_code) at.stands.1.1.1) (omega (arith, at.room)) (omega (arith, at.above)) level at.words at.count a.instructions (omega arith))
  executes_at (Inside []) m n known q a bounds =
      let at = a.at in
      let e = to_status m at.place 0 at.ps at.memory end_code at.core_is (omega (arith, at.room)) at.stands in
      caught (Inside []) m _ (Evals ∷ []) m.devices m.devices m.journal m.journal n Behind e (leaves m.devices m.journal q)
      (acting Behind m m.devices m.journal (at.place + 3) 0 at.memory n 1 tt q (three_on at.memory at.place end_code at.stands.1.1.1) (omega (arith, at.room)) (omega (arith, at.above)) refl at.words at.count a.instructions (omega arith))
  executes_at (Inside (put ∷ puts)) m n known q a bounds =
      let at = a.at in
      let d' : Devices = written m.devices (register_of put.port) put.byte in
      let j' : List Entry = m.journal ++ entries (said_at m.devices (register_of put.port) put.byte) in
      let ps' : ℕ = with_codes at.ps (moved_codes put.byte at.ps) in
      let e = to_port m at.place put.byte at.ps put.port at.memory (puts_code puts ++ leave_code) at.core_is (omega (arith, at.room)) at.stands in
      caught (Inside (put ∷ puts)) m _ (Evals ∷ Evals ∷ Evals ∷ Evals ∷ []) m.devices d' m.journal j' n (Inside puts) e (puts_one put puts m.devices m.journal q known.0)
      (acting (Inside puts) m d' j' (at.place + 3) ps' at.memory n 4 known.1 (quiet_port put.port m.devices put.byte q) (three_on at.memory at.place (puts_code puts ++ leave_code) at.stands.1.1.1) (omega (arith, at.room)) (omega (arith, at.above)) (with_codes-level at.ps (moved_codes put.byte at.ps) ∙ at.level) at.words at.count a.instructions (omega arith))
  executes_at Behind m n known q a bounds =
      let at = a.at in
      let ps' : ℕ = with_codes at.ps (moved_codes 0 at.ps) in
      let memory' : List ℕ = slice_set at.memory 20 0 in
      let e = to_count m at.place at.ps at.memory (1 ∷ []) at.core_is (omega (arith, at.room)) at.stands in
      let stands : HasAt memory' (at.place + 3) (1 ∷ []) = HasAt-set at.memory (at.place + 3) 20 0 (1 ∷ []) (omega (arith, at.above)) (three_on at.memory at.place (1 ∷ []) at.stands.1.1.1) in
      caught Behind m _ (Evals ∷ []) m.devices m.devices m.journal m.journal n Done e (ends m.devices m.journal q)
      (acting Done m m.devices m.journal (at.place + 3) ps' memory' n 1 tt q stands (omega (arith, at.room)) (omega (arith, at.above)) (with_codes-level at.ps (moved_codes 0 at.ps) ∙ at.level) (length-set at.memory 20 0 ∙ at.words) (get_or-set_same at.memory 20 0 0 (omega (arith, at.words))) a.instructions (omega arith))
  executes_at Done m n known q a bounds =
      let at = a.at in
      let e = to_wait m at.place at.ps at.memory [] at.core_is (omega (arith, at.room)) at.stands in
      let m' : MachineState = came m (record (core_at (at.place + 1) at.ps at.memory) { waiting = true }) m.devices m.journal in
      caught Done m m' [] m.devices m.devices m.journal m.journal n Done e (tt, refl)
      (record {
        phase = Done;
        config = refl;
        known = tt;
        quiet = q;
        goes = refl;
        stands = inr (record { waits = record { done = refl; waiting = refl; priority = at.level; count = at.count }; instructions = omega (arith, a.instructions) });
      })

  -- every moment is followed
  pub follows : (4 ≤ form.priority) × (form.priority ≤ 7) → Simulates happens IsPossible (steps program) (IsStep program) earns (IsRelated form)
  follows bounds m c n (OccursMoment e) r h = follows_event m c n e h.1 r
  follows bounds m c n GrantsMoment r h = absurd (false≢true (sym (free (priority_of m.core.ps) m.devices r.quiet) ∙ h.1))
  follows bounds m c n Executes r h = subst (λ (c' : Config). Caught (happens m Executes) c' n) (sym r.config) (go r.phase r.known r.stands)
    where
      go : (phase : Phase) → IsKnown form phase → IsActing form phase m n ⊎ IsWaiting phase m n → Caught (happens m Executes) (config_at form phase m.devices m.journal) n
      go phase known (inl a) = executes_at phase m n known r.quiet a bounds
      go phase known (inr w) = absurd (false≢true (sym h.2 ∙ w.waits.waiting))
