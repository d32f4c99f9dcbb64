-- The machine in time: one advance.
use Rattle.std.specs.Prelude.{◌≤◌, ℕ, ◌+◌, ◌*◌, ◌/◌, ◌%◌, ◌==◌, nat_le, nat_lt, min, Bool, false, not, ◌&&◌, ◌||◌, is_some, unwrap_or, List, [], ◌∷◌, ◌++◌, drop, Option, Some, None, if◌then◌else◌}
use Rattle.pdp_dev.specs.declared.devices.Devices.{Devices}
use Rattle.pdp_dev.specs.declared.devices.Request.{Request}
use Rattle.pdp_dev.specs.declared.entry.Event.{Event}
use Rattle.pdp_dev.specs.declared.entry.Event.TheVariants.{Key as KeyEvent, Printer, Punch, Reader, Clock}
use Rattle.pdp_dev.specs.declared.entry.Entry.{Entry}
use Rattle.pdp_dev.specs.declared.entry.Entry.TheVariants.{Event as EventEntry}
use Rattle.pdp_dev.specs.Devices.{happened, request_of}
use Rattle.pdp_def.specs.declared.outcome.Outcome.{Outcome}
use Rattle.pdp_def.specs.State.{CoreState}
use Rattle.pdp_def.specs.Does.{After}
use Rattle.pdp_def.specs.Perform.{effect}
use Rattle.pdp_def.specs.Interrupt.{interrupted}
use Rattle.pdp_def.specs.Moments.{counted, is_above, priority_of}
use Rattle.mc_script.specs.Script.{IsPeriod}
use Rattle.mc_script.specs.declared.script.Key.{Key}
use Rattle.pdp_machine.specs.declared.stop.Stop.{Stop}
use Rattle.pdp_machine.specs.declared.stop.Stop.TheVariants.{Silent, Limit}
use Rattle.pdp_machine.specs.Stops.{stop_of}

pub record Timed : Type 0 where
  pub core : CoreState
  pub devices : Devices
  pub time : ℕ
  pub instructions : ℕ
  -- when an operation that is under way is done
  pub printer_due : Option ℕ
  pub punch_due : Option ℕ
  pub reader_due : Option ℕ
  -- how long an operation takes
  pub printer_delay : ℕ
  pub punch_delay : ℕ
  pub reader_delay : ℕ
  -- the keys that are still to come, and what is left of the tape
  pub keys : List Key
  pub tape : List ℕ
  -- the clock's period, where there is a clock
  pub clock : Option ℕ
  pub limit : ℕ
  pub stop : Option Stop

-- the machine after an advance, or after a part of one, with the entries that it added
pub record Advanced : Type 0 where
  pub machine : Timed
  pub entries : List Entry

-- The events of this time

abbrev pub is_due : Option ℕ → ℕ → Bool
is_due None time = false
is_due (Some t) time = t == time

abbrev pub occurs : Event → Advanced → Advanced
occurs e a =
    record { machine = record a.machine { devices = happened a.machine.devices e }; entries = a.entries ++ EventEntry e ∷ [] }

-- the reader takes the next byte of the tape, or comes to its end
abbrev pub next_byte : List ℕ → Option ℕ
next_byte [] = None
next_byte (byte ∷ tape) = Some byte

abbrev pub takes_tape : Advanced → Advanced
takes_tape a =
    occurs (Reader (next_byte a.machine.tape)) (record a { machine = record a.machine { reader_due = None; tape = drop 1 a.machine.tape } })

unfoldable pub reader_comes : Advanced → Advanced
reader_comes a = if is_due a.machine.reader_due a.machine.time then takes_tape a else a

unfoldable pub punch_comes : Advanced → Advanced
punch_comes a =
    if is_due a.machine.punch_due a.machine.time then occurs Punch (record a { machine = record a.machine { punch_due = None } }) else a

-- the byte of the key that is struck at a time
abbrev pub key_at : ℕ → List Key → Option ℕ
key_at time [] = None
key_at time (key ∷ keys) = if key.at == time then Some key.byte else None

abbrev pub strikes_key : Advanced → Option ℕ → Advanced
strikes_key a None = a
strikes_key a (Some byte) =
    occurs (KeyEvent byte) (record a { machine = record a.machine { keys = drop 1 a.machine.keys } })

unfoldable pub key_comes : Advanced → Advanced
key_comes a = strikes_key a (key_at a.machine.time a.machine.keys)

unfoldable pub printer_comes : Advanced → Advanced
printer_comes a =
    if is_due a.machine.printer_due a.machine.time then occurs Printer (record a { machine = record a.machine { printer_due = None } }) else a

-- the clock ticks at each positive multiple of its period
abbrev pub is_tick : Option ℕ → ℕ → Bool
is_tick None time = false
is_tick (Some period) time = nat_lt 0 time && time % period == 0

unfoldable pub clock_comes : Advanced → Advanced
clock_comes a = if is_tick a.machine.clock a.machine.time then occurs Clock a else a

-- the events that are due happen in this order: reader, punch, key, printer, clock
abbrev pub with_events : Timed → Advanced
with_events m = clock_comes (printer_comes (key_comes (punch_comes (reader_comes (record { machine = m; entries = [] })))))

-- A grant or an instruction

-- an operation that begins at this time is due after the delay; one that is ended is due no more
abbrev pub due_after : Bool → Bool → Option ℕ → ℕ → Option ℕ
due_after was_busy busy due later = if busy then (if was_busy then due else Some later) else None

-- a moment has passed that found the devices so: time goes on by one unless it was a fault
abbrev pub settled : Devices → Outcome → ℕ → Timed → Timed
settled before outcome instructions m =
    record m {
      time = m.time + counted outcome;
      instructions = m.instructions + instructions;
      printer_due = due_after (not before.printer.flag) (not m.devices.printer.flag) m.printer_due (m.time + m.printer_delay);
      punch_due = due_after (not before.punch.flag) (not m.devices.punch.flag) m.punch_due (m.time + m.punch_delay);
      reader_due = due_after before.reader.busy m.devices.reader.busy m.reader_due (m.time + m.reader_delay);
      stop = stop_of outcome;
    }

abbrev pub goes_on : Timed → ℕ → After Outcome → Advanced
goes_on m instructions a =
    record {
      machine = settled m.devices a.value instructions (record m { core = a.bus.core; devices = a.bus.devices });
      entries = a.bus.said;
    }

unfoldable pub grants : Timed → List Entry → ℕ → Advanced
grants m said vector = goes_on m 0 (interrupted m.core m.devices said vector)

abbrev pub executed : Timed → After Outcome → Advanced
executed m a = goes_on m (counted a.value) a

unfoldable pub executes : Timed → List Entry → Advanced
executes m said = executed m (effect m.core m.devices said)

-- Nothing to run

abbrev pub earlier : Option ℕ → Option ℕ → Option ℕ
earlier None b = b
earlier (Some x) None = Some x
earlier (Some x) (Some y) = Some (min x y)

abbrev pub next_key : List Key → Option ℕ
next_key [] = None
next_key (key ∷ keys) = Some key.at

-- the first tick after this time
abbrev pub next_tick : Option ℕ → ℕ → Option ℕ
next_tick None time = None
next_tick (Some period) time = Some ((time / period + 1) * period)

-- an event is to come where an operation is under way, a key is left, or a clock is set and enabled
abbrev pub is_to_come : Timed → Bool
is_to_come m =
    is_some m.printer_due || (is_some m.punch_due || (is_some m.reader_due || (is_some (next_key m.keys) || is_some m.clock && m.devices.clock.enable)))

-- the time of the earliest event, ticks included
abbrev pub next_event : Timed → Option ℕ
next_event m =
    earlier m.printer_due (earlier m.punch_due (earlier m.reader_due (earlier (next_key m.keys) (next_tick m.clock m.time))))

unfoldable pub idles : Timed → List Entry → Advanced
idles m said =
    if is_to_come m then record { machine = record m { time = min (unwrap_or (next_event m) m.limit) m.limit }; entries = said }
    else record { machine = record m { stop = Some Silent }; entries = said }

-- One advance

abbrev pub runs_or_idles : Timed → List Entry → Advanced
runs_or_idles m said = if m.core.waiting then idles m said else executes m said

abbrev pub grants_or : Timed → List Entry → Option Request → Advanced
grants_or m said None = runs_or_idles m said
grants_or m said (Some r) =
    if is_above (priority_of m.core.ps) (Some r) then grants m said r.vector else runs_or_idles m said

unfoldable pub turn : Timed → List Entry → Advanced
turn m said = grants_or m said (request_of m.devices)

unfoldable pub going : Timed → Advanced
going m =
    if nat_le m.limit m.time then record { machine = record m { stop = Some Limit }; entries = [] }
    else (let a : Advanced = with_events m in turn a.machine a.entries)

abbrev pub advance_from : Timed → Option Stop → Advanced
advance_from m None = going m
advance_from m (Some s) = record { machine = m; entries = [] }

-- after a stop nothing changes
unfoldable pub advance : Timed → Advanced
advance m = advance_from m m.stop

-- What a machine keeps: nothing that is due is past

abbrev pub IsAhead : ℕ → Option ℕ → Type 0
IsAhead time None = Unit {0}
IsAhead time (Some t) = time ≤ t

-- keys to come, each after the one before
abbrev pub AreAhead : ℕ → List Key → Type 0
AreAhead time [] = Unit {0}
AreAhead time (k ∷ keys) = (time ≤ k.at) × (k.at ≤ 20000000) × AreAhead (k.at + 1) keys

pub record IsTimed (m : Timed) : Type 0 where
  pub time : m.time ≤ m.limit
  pub limit : m.limit ≤ 20000000
  pub instructions : m.instructions ≤ m.time
  pub printer : IsAhead m.time m.printer_due
  pub punch : IsAhead m.time m.punch_due
  pub reader : IsAhead m.time m.reader_due
  pub keys : AreAhead m.time m.keys
  pub period : IsPeriod m.clock
  pub printer_delay : (1 ≤ m.printer_delay) × (m.printer_delay ≤ 1000000)
  pub punch_delay : (1 ≤ m.punch_delay) × (m.punch_delay ≤ 1000000)
  pub reader_delay : (1 ≤ m.reader_delay) × (m.reader_delay ≤ 1000000)

-- all that is due comes later than now
pub record IsLater (m : Timed) : Type 0 where
  pub printer : IsAhead (m.time + 1) m.printer_due
  pub punch : IsAhead (m.time + 1) m.punch_due
  pub reader : IsAhead (m.time + 1) m.reader_due
  pub keys : AreAhead (m.time + 1) m.keys
