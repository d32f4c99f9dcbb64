-- What calls, starts, waits, sends and ends make of a configuration, from the equations of their parts.
use Rattle.std.specs.Prelude.{◌≡◌, ◌≢◌, ◌<◌, ◌≤◌, ℕ, List, [], ◌∷◌, ◌++◌, Option, Some, None, Result, Ok, Err, OnErr, Bool, true, false, ◌&&◌, is_some, drop, length, refl, slice_get, if◌then◌else◌}
use Rattle.std.proofs.Common.{ap, ◌∙◌, sym}
use Rattle.std.proofs.lemmas.Bool.{le-ltb, lt-ltb}
use Rattle.pdp_dev.specs.declared.devices.Devices.{Devices}
use Rattle.pdp_dev.specs.declared.devices.Request.{Request}
use Rattle.pdp_dev.specs.declared.entry.Entry.{Entry}
use Rattle.pdp_dev.specs.declared.entry.Entry.TheVariants.{Grant as GrantEntry}
use Rattle.pdp_dev.specs.Devices.{granted}
use Rattle.mc_prog.specs.declared.program.CodeInfo.{CodeInfo}
use Rattle.mc_prog.specs.declared.program.ModuleInfo.{ModuleInfo}
use Rattle.mc_prog.specs.declared.program.ProcessInfo.{ProcessInfo}
use Rattle.mc_prog.specs.declared.program.Slot.{Slot}
use Rattle.mc_prog.specs.Resolved.{Resolved}
use Rattle.mc_meaning.specs.declared.config.Nested.{Nested}
use Rattle.mc_meaning.specs.declared.config.Waiter.{Waiter}
use Rattle.mc_meaning.specs.declared.process.Activation.{Activation}
use Rattle.mc_meaning.specs.declared.process.Item.{Item}
use Rattle.mc_meaning.specs.declared.process.Item.TheVariants.{Returns, Runs}
use Rattle.mc_meaning.specs.declared.process.Reference.{Reference}
use Rattle.mc_meaning.specs.declared.process.Running.TheVariants as running
use Rattle.mc_meaning.specs.declared.process.State.{State}
use Rattle.mc_meaning.specs.declared.process.State.TheVariants.{Acting, Delayed}
use Rattle.mc_meaning.specs.declared.store.Found.{Found}
use Rattle.mc_meaning.specs.declared.store.Found.TheVariants as found
use Rattle.mc_meaning.specs.declared.store.Name.{Name}
use Rattle.mc_meaning.specs.declared.store.Name.TheVariants.{Private}
use Rattle.mc_meaning.specs.declared.store.Target.TheVariants as target
use Rattle.mc_meaning.specs.Actions.{chosen, delayed, in_state, kind_at, is_driver, released, send, send_to, set_state, start, started, trapped, vacated, wait, wakes, was_started}
use Rattle.mc_meaning.specs.Calling.{arguments_of, called, called_items, enter_body, entered, first_words, leave, priority_in, priority_inside, references_for, returned, with_process}
use Rattle.mc_meaning.specs.Configuration.{Configuration, ProcessState, all_stored}
use Rattle.mc_meaning.specs.ProgramRuns.{granted_to, joins, nest_above, standing_at}
use Rattle.mc_meaning.specs.Steps.{goes_on, next, next_of}
use Rattle.mc_meaning.proofs.EvaluationLaws.{twice}

pub on-err : {A E : Type 0} (r : Result A E) (P : Type 0) → P → OnErr r P
on-err (Ok x) P h = tt
on-err (Err e) P h = h

-- Ends and waits

pub left-in : (c g new : Configuration) (n : ℕ) (s : State) (q r : ProcessState) (rest : List Item)
    → r ≡ in_state s q → g ≡ goes_on c n r r.found rest → new ≡ vacated g
    → new ≡ vacated (with_process c n (record (in_state s q) { rest = rest }))
left-in c g new n s q r rest state goes leaves =
    leaves ∙ ap (λ (d : Configuration). vacated d) (goes ∙ ap (λ (p : ProcessState). goes_on c n p p.found rest) state)

pub delayed-by : (c w g new : Configuration) (n : ℕ) (q r : ProcessState) (signal : Name) (rank : ℕ) (rest : List Item)
    → w ≡ record c { waiters = c.waiters ++ (record { signal = signal; rank = rank; process = n } ∷ []) }
    → r ≡ in_state Delayed q → g ≡ goes_on w n r r.found rest → new ≡ vacated g
    → new ≡ delayed c n q signal rank q.found rest
delayed-by c w g new n q r signal rank rest waits state goes leaves =
    leaves
    ∙ ap (λ (d : Configuration). vacated d) (goes ∙ ap (λ (d : Configuration). goes_on d n r r.found rest) waits ∙ ap (λ (p : ProcessState). goes_on (record c { waiters = c.waiters ++ (record { signal = signal; rank = rank; process = n } ∷ []) }) n p p.found rest) state)

pub waits-first : (c new : Configuration) (n : ℕ) (q r : ProcessState) (signal : Name) (rest : List Item)
    → q ≡ record r { found = found.Named (target.Stored signal) ∷ r.found } → new ≡ delayed c n r signal 1 r.found rest → new ≡ wait c n q false rest q.found
waits-first c new n q r signal rest pop step = step ∙ sym (ap (λ (s : ProcessState). wait c n s false rest s.found) pop)

abbrev by-rank : (c : Configuration) (n : ℕ) (r : ProcessState) (signal : Name) (rank : ℕ) (rest : List Item) (b : Bool) → Configuration
by-rank c n r signal rank rest b = if b then trapped c 5 else delayed c n r signal rank r.found rest

pub waits-ranked : (c new : Configuration) (n : ℕ) (q one two : ProcessState) (signal : Name) (rank : ℕ) (rest : List Item) → rank ≤ 32767
    → q ≡ record one { found = found.Value rank ∷ one.found } → one ≡ record two { found = found.Named (target.Stored signal) ∷ two.found }
    → new ≡ delayed c n two signal rank two.found rest → new ≡ wait c n q true rest q.found
waits-ranked c new n q one two signal rank rest small first second step =
    step ∙ sym (ap (by-rank c n two signal rank rest) (le-ltb 32767 rank small))
    ∙ sym (ap (λ (s : ProcessState). wait c n s true rest s.found) (twice q one two (found.Value rank) (found.Named (target.Stored signal)) first second))

pub waits-negative : (c new : Configuration) (n : ℕ) (q one two : ProcessState) (signal : Name) (rank : ℕ) (rest : List Item) → 32767 < rank
    → q ≡ record one { found = found.Value rank ∷ one.found } → one ≡ record two { found = found.Named (target.Stored signal) ∷ two.found }
    → new ≡ trapped c 5 → new ≡ wait c n q true rest q.found
waits-negative c new n q one two signal rank rest large first second step =
    step ∙ sym (ap (by-rank c n two signal rank rest) (lt-ltb 32767 rank large))
    ∙ sym (ap (λ (s : ProcessState). wait c n s true rest s.found) (twice q one two (found.Value rank) (found.Named (target.Stored signal)) first second))

-- Sends

pub sent-to : (c new : Configuration) (n : ℕ) (q r : ProcessState) (signal : Name) (waiters : List Waiter) (to : Option Waiter) (w : Waiter) (rest : List Item)
    → q ≡ record r { found = found.Named (target.Stored signal) ∷ r.found } → waiters ≡ c.waiters → to ≡ chosen waiters signal → to ≡ Some w
    → new ≡ wakes (released (goes_on c n r r.found rest) w.process) n w.process (is_driver r.standing.kind) (is_driver (kind_at (slice_get c.processes w.process)))
    → new ≡ send c n q rest q.found
sent-to c new n q r signal waiters to w rest pop are is some step =
    step ∙ sym (ap (λ (o : Option Waiter). send_to c (goes_on c n r r.found rest) n r.standing.kind o) (sym (is ∙ ap (λ (ws : List Waiter). chosen ws signal) are) ∙ some))
    ∙ sym (ap (λ (s : ProcessState). send c n s rest s.found) pop)

pub sent-to-none : (c new : Configuration) (n : ℕ) (q r : ProcessState) (signal : Name) (waiters : List Waiter) (to : Option Waiter) (rest : List Item)
    → q ≡ record r { found = found.Named (target.Stored signal) ∷ r.found } → waiters ≡ c.waiters → to ≡ chosen waiters signal → to ≡ None
    → new ≡ goes_on c n r r.found rest → new ≡ send c n q rest q.found
sent-to-none c new n q r signal waiters to rest pop are is none step =
    step ∙ sym (ap (λ (o : Option Waiter). send_to c (goes_on c n r r.found rest) n r.standing.kind o) (sym (is ∙ ap (λ (ws : List Waiter). chosen ws signal) are) ∙ none))
    ∙ sym (ap (λ (s : ProcessState). send c n s rest s.found) pop)

-- Calls

pub called-by : (p : Resolved) (c mid new : Configuration) (n k : ℕ) (q r : ProcessState) (code : CodeInfo) (arguments : List Found) (rest items : List Item) (references : List Reference) (before priority depth of_module in_module frame : ℕ) (slots : List Slot)
    → slots ≡ code.slots → of_module ≡ code.«module» → in_module ≡ of_module → frame ≡ code.frame → depth ≡ length q.activations → items ≡ called_items p n depth code arguments → references ≡ references_for 0 slots arguments
    → before ≡ q.standing.priority → priority ≡ priority_in (slice_get p.modules of_module) before → r ≡ entered q rest (running.Procedure k) in_module frame references priority
    → mid ≡ record c { store = all_stored c.store (first_words n depth slots arguments) } → new ≡ goes_on mid n r r.found items
    → new ≡ called p c n q k code arguments rest
called-by p c mid new n k q r code arguments rest items references before priority depth of_module in_module frame slots es eo ei ef ed has refers eb ep enters binds step =
    let er : references ≡ references_for 0 code.slots arguments = refers ∙ ap (λ (s : List Slot). references_for 0 s arguments) es in
    let pr : priority ≡ priority_in (slice_get p.modules code.«module») q.standing.priority = ep ∙ (λ i. priority_in (slice_get p.modules (eo i)) (eb i)) in
    let all : items ≡ called_items p n (length q.activations) code arguments = has ∙ ap (λ (m : ℕ). called_items p n m code arguments) ed in
    let inside : in_module ≡ code.«module» = ei ∙ eo in
    step ∙ ap (λ (m : Configuration). goes_on m n r r.found items) binds
    ∙ ap (λ (s : ProcessState). goes_on (record c { store = all_stored c.store (first_words n depth slots arguments) }) n s s.found items) enters
    ∙ (λ i. goes_on (record c { store = all_stored c.store (first_words n (ed i) (es i) arguments) }) n (entered q rest (running.Procedure k) (inside i) (ef i) (er i) (pr i)) [] (all i))

pub entered-body : (p : Resolved) (c new : Configuration) (n m : ℕ) (q r : ProcessState) (info : ModuleInfo) (rest items : List Item) (references : List Reference) (before priority : ℕ)
    → slice_get p.modules m ≡ Some info → references ≡ []
    → before ≡ q.standing.priority → priority ≡ priority_inside info.kind info.priority before → r ≡ entered q rest (running.Body m) m info.body.frame references priority
    → items ≡ Runs info.body.body ∷ (Returns None ∷ []) → new ≡ goes_on c n r r.found items → new ≡ enter_body p c n q m rest (slice_get p.modules m)
entered-body p c new n m q r info rest items references before priority is er eb ep enters has step =
    let pr : priority ≡ priority_inside info.kind info.priority q.standing.priority = ep ∙ ap (λ (b : ℕ). priority_inside info.kind info.priority b) eb in
    step ∙ ap (λ (s : ProcessState). goes_on c n s s.found items) enters
    ∙ (λ i. goes_on c n (entered q rest (running.Body m) m info.body.frame (er i) (pr i)) [] (has i))
    ∙ sym (ap (λ (o : Option ModuleInfo). enter_body p c n q m rest o) is)

pub returned-front : (q r : ProcessState) (a : Activation) (activations : List Activation) → q.activations ≡ a ∷ activations → r ≡ returned q (a ∷ activations) → r ≡ returned q q.activations
returned-front q r a activations front step = step ∙ sym (ap (returned q) front)

pub left-none : (c : Configuration) (n : ℕ) (q : ProcessState) (slot : Option ℕ) → q.activations ≡ [] → c ≡ leave c n q slot q.activations
left-none c n q slot none = sym (ap (λ (all : List Activation). leave c n q slot all) none)

pub left : (c new : Configuration) (n : ℕ) (q r : ProcessState) (slot : Option ℕ) (all : List Activation)
    → all ≢ [] → r ≡ returned q all → slot ≡ None → new ≡ with_process c n r → new ≡ leave c n q slot all
left c new n q r slot [] some back none step = absurd (some refl)
left c new n q r slot (a ∷ all) some back none step = step ∙ ap (with_process c n) back ∙ sym (ap (λ (s : Option ℕ). leave c n q s (a ∷ all)) none)

pub left-with : (c new : Configuration) (n : ℕ) (q r s : ProcessState) (slot : Option ℕ) (k w depth : ℕ) (all : List Activation)
    → all ≢ [] → r ≡ returned q all → slot ≡ Some k → depth ≡ length r.activations
    → w ≡ c.store (Private n depth k 0) → s ≡ record r { found = found.Value w ∷ r.found } → new ≡ with_process c n s
    → new ≡ leave c n q slot all
left-with c new n q r s slot k w depth [] more back some deep word puts step = absurd (more refl)
left-with c new n q r s slot k w depth (a ∷ all) more back some deep word puts step =
    let there : w ≡ c.store (Private n (length all) k 0) = word ∙ ap (λ (d : ℕ). c.store (Private n d k 0)) (deep ∙ ap (λ (t : ProcessState). length t.activations) back) in
    step ∙ ap (with_process c n) puts
    ∙ ap (λ (t : ProcessState). with_process c n (record t { found = found.Value w ∷ t.found })) back
    ∙ ap (λ (x : ℕ). with_process c n (record (returned q (a ∷ all)) { found = found.Value x ∷ a.found })) there
    ∙ sym (ap (λ (o : Option ℕ). leave c n q o (a ∷ all)) some)

-- Grants

pub granted-acting : (c new : Configuration) (r : Request) (p : ℕ) (n : Option ℕ) (nest : List Nested) (devices : Devices) (journal : List Entry)
    → n ≡ standing_at r.vector 0 c.processes → n ≡ Some p → nest ≡ nest_above c.nest n → devices ≡ granted c.devices r.vector → journal ≡ c.journal ++ (GrantEntry r.vector ∷ [])
    → new ≡ set_state (record c { devices = devices; nest = nest; journal = journal }) p Acting → new ≡ granted_to c r
granted-acting c new r p n nest devices journal stands some above ed ej step =
    let en : nest ≡ nest_above c.nest (Some p) = above ∙ ap (λ (m : Option ℕ). nest_above c.nest m) some in
    step ∙ (λ i. set_state (record c { devices = ed i; nest = en i; journal = ej i }) p Acting)
    ∙ ap (λ (m : Option ℕ). joins (record c { devices = granted c.devices r.vector; journal = c.journal ++ (GrantEntry r.vector ∷ []) }) m) (sym some ∙ stands)

-- Starts

abbrev by-start : Resolved → Configuration → ℕ → ProcessState → ℕ → ℕ → List Item → ProcessInfo → Bool → Configuration
by-start p c n q k count rest info twice_ = if twice_ then trapped c 7 else started p c n (record q { found = drop count q.found }) k (arguments_of count q.found) rest info

pub started-twice : (p : Resolved) (c new : Configuration) (n : ℕ) (q : ProcessState) (k count : ℕ) (rest : List Item) (info : ProcessInfo)
    → slice_get p.processes k ≡ Some info → true ≡ (is_some info.vector && was_started c.processes k) → new ≡ trapped c 7
    → new ≡ start p c n q k count rest (slice_get p.processes k)
started-twice p c new n q k count rest info is again step =
    step ∙ ap (by-start p c n q k count rest info) again ∙ sym (ap (λ (o : Option ProcessInfo). start p c n q k count rest o) is)

pub started-once : (p : Resolved) (c new : Configuration) (n : ℕ) (q r : ProcessState) (k count : ℕ) (rest : List Item) (info : ProcessInfo) (all arguments : List Found)
    → slice_get p.processes k ≡ Some info → false ≡ (is_some info.vector && was_started c.processes k)
    → arguments ≡ arguments_of count q.found → r ≡ record q { found = drop count q.found } → all ≡ arguments
    → new ≡ started p c n r k all rest info → new ≡ start p c n q k count rest (slice_get p.processes k)
started-once p c new n q r k count rest info all arguments is once ea er eall step =
    step ∙ ap (λ (s : ProcessState). started p c n s k all rest info) er
    ∙ ap (λ (f : List Found). started p c n (record q { found = drop count q.found }) k f rest info) (eall ∙ ea)
    ∙ ap (by-start p c n q k count rest info) once ∙ sym (ap (λ (o : Option ProcessInfo). start p c n q k count rest o) is)

-- Steps

pub stepped-next : (p : Resolved) (c new : Configuration) (n : ℕ) (q s : ProcessState) (item : Item) (all more : List Item)
    → slice_get c.processes n ≡ Some s → q ≡ s → all ≡ q.rest → all ≡ item ∷ more → new ≡ next p c n q (item ∷ more)
    → new ≡ next_of p c n (slice_get c.processes n)
stepped-next p c new n q s item all more is same copied front step =
    step ∙ ap (λ (items : List Item). next p c n q items) (sym front ∙ copied) ∙ ap (λ (r : ProcessState). next p c n r r.rest) same
    ∙ sym (ap (λ (o : Option ProcessState). next_of p c n o) is)

pub stepped-nothing : (p : Resolved) (c : Configuration) (n : ℕ) (q s : ProcessState) (all : List Item)
    → slice_get c.processes n ≡ Some s → q ≡ s → all ≡ q.rest → all ≡ [] → c ≡ next_of p c n (slice_get c.processes n)
stepped-nothing p c n q s all is same copied none =
    ap (λ (items : List Item). next p c n q items) (sym none ∙ copied) ∙ ap (λ (r : ProcessState). next p c n r r.rest) same
    ∙ sym (ap (λ (o : Option ProcessState). next_of p c n o) is)
