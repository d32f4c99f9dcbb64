-- What the rules forbid: one module, process, variable or call at a time, and two calls with one signal.
use Rattle.std.specs.Prelude.{ℕ, ◌==◌, nat_lt, nat_le, List, [], ◌∷◌, ◌++◌, Option, Some, None, option_map, slice_get, Bool, true, false, ◌&&◌, ◌||◌, not, if◌then◌else◌}
use Rattle.mc_tree.specs.declared.fault.Code.{Code}
use Rattle.mc_tree.specs.declared.fault.Code.TheVariants as code
use Rattle.mc_tree.specs.declared.fault.Fault.{Fault}
use Rattle.mc_tree.specs.declared.place.Place.{Place}
use Rattle.mc_prog.specs.declared.program.CellInfo.{CellInfo}
use Rattle.mc_prog.specs.declared.program.ModuleInfo.{ModuleInfo}
use Rattle.mc_prog.specs.declared.program.ModuleKind.{ModuleKind}
use Rattle.mc_prog.specs.declared.program.ModuleKind.TheVariants as kind
use Rattle.mc_prog.specs.declared.program.ProcessInfo.{ProcessInfo}
use Rattle.mc_prog.specs.declared.program.Slot.{Slot}
use Rattle.mc_prog.specs.Resolved.{Resolved}
use Rattle.mc_rules.specs.declared.call.Call.{Call}
use Rattle.mc_rules.specs.declared.call.Called.{Called}
use Rattle.mc_rules.specs.declared.call.Called.TheVariants as called
use Rattle.mc_rules.specs.declared.call.Signalling.{Signalling}
use Rattle.mc_rules.specs.declared.call.Way.{Way}
use Rattle.mc_rules.specs.declared.call.Way.TheVariants as way
use Rattle.mc_rules.specs.declared.call.Site.{Site}
use Rattle.mc_rules.specs.declared.call.SiteKind.{SiteKind}
use Rattle.mc_rules.specs.declared.call.SiteKind.TheVariants as site

abbrev pub fault : Code → Place → Option Fault
fault c place = Some (record { code = c; place = place })

-- a fault, where this is not so
abbrev pub unless : Bool → Code → Place → Option Fault
unless holds c place = if holds then None else fault c place

abbrev pub is_device : ModuleKind → Bool
is_device kind.Plain = false
is_device kind.Interface = false
is_device kind.Device = true

-- Modules and processes

-- The priority of a device module is 4 to 7.
abbrev pub priority_fault : ModuleInfo → Option Fault
priority_fault m = unless (not (is_device m.kind) || (nat_le 4 m.priority && nat_le m.priority 7)) code.M1 m.priority_at

-- the level of a vector, where a device has it
abbrev pub level_of : ℕ → Option ℕ
level_of vector =
    if (vector == 0o60) || ((vector == 0o64) || ((vector == 0o70) || (vector == 0o74))) then Some 4
    else (if vector == 0o100 then Some 6 else None)

-- the level of a device, and the priority of the module around
abbrev pub level_fault : Option ℕ → Option ℕ → Place → Option Fault
level_fault priority None place = fault code.M2 place
level_fault None (Some level) place = None
level_fault (Some priority) (Some level) place = unless (nat_le level priority) code.M4 place

abbrev pub vector_fault : Option ℕ → Option ℕ → Place → Option Fault
vector_fault priority None place = None
vector_fault priority (Some vector) place = level_fault priority (level_of vector) place

abbrev pub priority_of : List ModuleInfo → ℕ → Option ℕ
priority_of modules n = option_map (λ m. m.priority) (slice_get modules n)

-- The vector of a device process is that of a device, whose level is not greater than the priority of the module.
abbrev pub process_fault : List ModuleInfo → ProcessInfo → Option Fault
process_fault modules q = vector_fault (priority_of modules q.code.«module») q.vector q.vector_at

-- No vector stands twice: the later one is at fault.

abbrev pub has_vector : List ℕ → ℕ → Bool
has_vector [] vector = false
has_vector (v ∷ vectors) vector = (v == vector) || has_vector vectors vector

abbrev pub vectors_with : List ℕ → Option ℕ → List ℕ
vectors_with vectors None = vectors
vectors_with vectors (Some vector) = vectors ++ (vector ∷ [])

-- the vectors behind a process
abbrev pub vectors_behind : List ℕ → ProcessInfo → List ℕ
vectors_behind vectors q = vectors_with vectors q.vector

abbrev pub twice : List ℕ → Option ℕ → Place → Option Fault
twice vectors None place = None
twice vectors (Some vector) place = unless (not (has_vector vectors vector)) code.M3 place

abbrev pub twice_fault : List ℕ → ProcessInfo → Option Fault
twice_fault vectors q = twice vectors q.vector q.vector_at

-- Registers

abbrev pub is_register : ℕ → Bool
is_register a =
    (a == 0o177546) || ((a == 0o177550) || ((a == 0o177552) || ((a == 0o177554) || ((a == 0o177556)
    || ((a == 0o177560) || ((a == 0o177562) || ((a == 0o177564) || (a == 0o177566))))))))

-- a register is an integer, a character or bits, whose types have the numbers 0, 2 and 3
abbrev pub is_register_type : ℕ → Bool
is_register_type t = (t == 0) || ((t == 2) || (t == 3))

abbrev pub kind_is_device : Option ModuleInfo → Bool
kind_is_device None = false
kind_is_device (Some m) = is_device m.kind

-- whether the module of this number is a device module
abbrev pub is_device_module : List ModuleInfo → ℕ → Bool
is_device_module modules n = kind_is_device (slice_get modules n)

abbrev pub may_be_register : List ModuleInfo → CellInfo → ℕ → Bool
may_be_register modules c address = is_device_module modules c.«module» && (is_register address && is_register_type c.type_of)

abbrev pub address_fault : List ModuleInfo → CellInfo → Option ℕ → Option Fault
address_fault modules c None = None
address_fault modules c (Some address) = unless (may_be_register modules c address) code.M9 c.at

-- A register is a variable of a device module, at the address of one, of a type that one may have.
abbrev pub cell_fault : List ModuleInfo → CellInfo → Option Fault
cell_fault modules c = address_fault modules c c.register

abbrev pub local_fault : Option ℕ → Place → Option Fault
local_fault None place = None
local_fault (Some address) place = fault code.M9 place

-- No local variable is a register.
abbrev pub slot_fault : Slot → Option Fault
slot_fault s = local_fault s.register s.at

-- Calls

abbrev pub module_of_process : Option ProcessInfo → Option ℕ
module_of_process None = None
module_of_process (Some q) = Some q.code.«module»

-- the module of a called procedure or process
abbrev pub owner_of : Resolved → Called → Option ℕ
owner_of p (called.Procedure k) = option_map (λ c. c.«module») (slice_get p.procedures k)
owner_of p (called.Process k) = module_of_process (slice_get p.processes k)
owner_of p (called.Wait signal ranked) = None
owner_of p (called.Send signal) = None
owner_of p called.Doio = None

abbrev pub owner_fault : ℕ → Option ℕ → Place → Option Fault
owner_fault m None place = None
owner_fault m (Some owner) place = unless (owner == m) code.M5 place

-- Code of a device module calls and starts nothing that is declared outside it.
abbrev pub outside_fault : Resolved → Site → Call → Option Fault
outside_fault p s call = if is_device_module p.modules s.«module» then owner_fault s.«module» (owner_of p call.called) call.place else None

abbrev pub is_driver : SiteKind → Bool
is_driver site.Procedure = false
is_driver site.Process = false
is_driver site.Driver = true
is_driver site.Body = false

abbrev pub is_doio : Called → Bool
is_doio (called.Procedure k) = false
is_doio (called.Process k) = false
is_doio (called.Wait signal ranked) = false
is_doio (called.Send signal) = false
is_doio called.Doio = true

-- `doio` stands in the texts of device processes alone.
abbrev pub doio_fault : Site → Call → Option Fault
doio_fault s call = unless (not (is_doio call.called) || is_driver s.kind) code.M8 call.place

abbrev pub is_body : SiteKind → Bool
is_body site.Procedure = false
is_body site.Process = false
is_body site.Driver = false
is_body site.Body = true

-- a start of this process, which has a vector or none
abbrev pub driver_fault : Site → ProcessInfo → Option ℕ → Place → Option Fault
driver_fault s q None place = None
driver_fault s q (Some vector) place = unless (is_body s.kind && (s.«module» == q.code.«module»)) code.M10 place

abbrev pub started_fault : Site → Option ProcessInfo → Place → Option Fault
started_fault s None place = None
started_fault s (Some q) place = driver_fault s q q.vector place

abbrev pub called_fault : Resolved → Site → Called → Place → Option Fault
called_fault p s (called.Procedure k) place = None
called_fault p s (called.Process k) place = started_fault s (slice_get p.processes k) place
called_fault p s (called.Wait signal ranked) place = None
called_fault p s (called.Send signal) place = None
called_fault p s called.Doio place = None

-- A device process is started in the body of its module alone.
abbrev pub start_fault : Resolved → Site → Call → Option Fault
start_fault p s call = called_fault p s call.called call.place

-- Device code

abbrev pub has_rank : Called → Bool
has_rank (called.Procedure k) = false
has_rank (called.Process k) = false
has_rank (called.Wait signal ranked) = ranked
has_rank (called.Send signal) = false
has_rank called.Doio = false

-- A wait in device code has no rank.
abbrev pub rank_fault : Call → Option Fault
rank_fault call = unless (not (has_rank call.called)) code.M6 call.place

abbrev pub is_earlier : Place → Place → Bool
is_earlier p q = nat_lt p.line q.line || ((p.line == q.line) && nat_lt p.column q.column)

abbrev pub later : Place → Place → Place
later p q = if is_earlier p q then q else p

-- the node of the signal that a call waits on, or sends to
abbrev pub signal_of : Way → Called → Option ℕ
signal_of w (called.Procedure k) = None
signal_of w (called.Process k) = None
signal_of way.Wait (called.Wait signal ranked) = Some signal
signal_of way.Send (called.Wait signal ranked) = None
signal_of way.Wait (called.Send signal) = None
signal_of way.Send (called.Send signal) = Some signal
signal_of w called.Doio = None

-- A wait on a signal and a sending to it: the later one is at fault.
abbrev pub both_fault : Signalling → Signalling → Option Fault
both_fault wait send = if wait.variable == send.variable then fault code.M7 (later wait.place send.place) else None
