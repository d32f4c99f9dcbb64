-- The devices: what reads, writes, events, grants and a reset do to them.
use Rattle.std.specs.Prelude.{ℕ, ◌<◌, ◌+◌, ◌/◌, ◌%◌, ◌==◌, Bool, true, false, ◌&&◌, ◌||◌, not, Option, Some, None, if◌then◌else◌}
use Rattle.pdp_dev.specs.declared.devices.Line.{Line}
use Rattle.pdp_dev.specs.declared.devices.Reader.{Reader}
use Rattle.pdp_dev.specs.declared.devices.Devices.{Devices}
use Rattle.pdp_dev.specs.declared.devices.Request.{Request}
use Rattle.pdp_dev.specs.declared.register.Register.{Register}
use Rattle.pdp_dev.specs.declared.register.Register.TheVariants.{KeyboardStatus, KeyboardByte, PrinterStatus, PrinterByte, ClockStatus, ReaderStatus, ReaderByte, PunchStatus, PunchByte}
use Rattle.pdp_dev.specs.declared.entry.Event.{Event}
use Rattle.pdp_dev.specs.declared.entry.Event.TheVariants.{Key, Printer as PrinterEvent, Punch as PunchEvent, Reader as ReaderEvent, Clock}
use Rattle.pdp_dev.specs.declared.entry.Port.TheVariants.{Printer as PrinterPort, Punch as PunchPort}
use Rattle.pdp_dev.specs.declared.entry.Entry.{Entry}
use Rattle.pdp_dev.specs.declared.entry.Entry.TheVariants.{Print, Punch, Lost}

-- a request rises where its cause becomes true, stands while it is true, and falls where it becomes false
abbrev pub asks : Bool → Bool → Bool → Bool
asks was request is = is && (not was || request)

-- a line's cause is that its flag and its enable bit are both true
abbrev pub set_line : Line → Bool → Bool → Line
set_line line flag enable =
    record { flag = flag; enable = enable; request = asks (line.flag && line.enable) line.request (flag && enable) }

-- the reader's cause is that it is done or has met an error, and is enabled
abbrev pub set_reader : Reader → Bool → Bool → Bool → ℕ → Bool → Reader
set_reader r done error busy byte enable =
    record {
      done = done;
      error = error;
      busy = busy;
      byte = byte;
      enable = enable;
      request = asks ((r.done || r.error) && r.enable) r.request ((done || error) && enable);
    }

-- a bit of weight unit in a status word
abbrev pub bit : Bool → ℕ → ℕ
bit b unit = if b then unit else 0

abbrev pub is_set : ℕ → ℕ → Bool
is_set w unit = w / unit % 2 == 1

abbrev pub status_of : Line → ℕ
status_of line = bit line.flag 128 + bit line.enable 64

abbrev pub reader_status : Reader → ℕ
reader_status r = bit r.error 32768 + bit r.busy 2048 + bit r.done 128 + bit r.enable 64

-- the word that a read gives
abbrev pub read_of : Devices → Register → ℕ
read_of d KeyboardStatus = status_of d.keyboard
read_of d KeyboardByte = d.key
read_of d PrinterStatus = status_of d.printer
read_of d PrinterByte = 0
read_of d ClockStatus = status_of d.clock
read_of d ReaderStatus = reader_status d.reader
read_of d ReaderByte = d.reader.byte
read_of d PunchStatus = status_of d.punch
read_of d PunchByte = 0

-- the devices after it: a read of a byte that came in ends its waiting
abbrev pub after_read : Devices → Register → Devices
after_read d KeyboardByte = record d { keyboard = set_line d.keyboard false d.keyboard.enable }
after_read d ReaderByte = record d { reader = set_reader d.reader false d.reader.error d.reader.busy d.reader.byte d.reader.enable }
after_read d KeyboardStatus = d
after_read d PrinterStatus = d
after_read d PrinterByte = d
after_read d ClockStatus = d
after_read d ReaderStatus = d
after_read d PunchStatus = d
after_read d PunchByte = d

-- an output device that is ready takes a byte and is busy; one that is busy loses it
abbrev pub takes_byte : Line → Line
takes_byte line = if line.flag then set_line line false line.enable else line

-- a 1 in bit 0 starts the reader, unless it is busy or has met an error
abbrev pub command_reader : Reader → ℕ → Reader
command_reader r w =
    let starts : Bool = is_set w 1 && not (r.busy || r.error) in
    set_reader r (r.done && not starts) r.error (r.busy || starts) (if starts then 0 else r.byte) (is_set w 64)

-- the clock's request rises at ticks alone, and falls where its flag or its enable bit is written 0
abbrev pub command_clock : Line → ℕ → Line
command_clock line w =
    record { flag = line.flag && is_set w 128; enable = is_set w 64; request = line.request && is_set w 128 && is_set w 64 }

-- the devices after a write
abbrev pub written : Devices → Register → ℕ → Devices
written d KeyboardStatus w = record d { keyboard = set_line d.keyboard d.keyboard.flag (is_set w 64) }
written d KeyboardByte w = d
written d PrinterStatus w = record d { printer = set_line d.printer d.printer.flag (is_set w 64) }
written d PrinterByte w = record d { printer = takes_byte d.printer }
written d ClockStatus w = record d { clock = command_clock d.clock w }
written d ReaderStatus w = record d { reader = command_reader d.reader w }
written d ReaderByte w = d
written d PunchStatus w = record d { punch = set_line d.punch d.punch.flag (is_set w 64) }
written d PunchByte w = record d { punch = takes_byte d.punch }

-- the entry that a write adds
abbrev pub said_at : Devices → Register → ℕ → Option Entry
said_at d PrinterByte w = Some (if d.printer.flag then Print (w % 256) else Lost PrinterPort (w % 256))
said_at d PunchByte w = Some (if d.punch.flag then Punch (w % 256) else Lost PunchPort (w % 256))
said_at d KeyboardStatus w = None
said_at d KeyboardByte w = None
said_at d PrinterStatus w = None
said_at d ClockStatus w = None
said_at d ReaderStatus w = None
said_at d ReaderByte w = None
said_at d PunchStatus w = None

-- the reader comes to a byte, or to the tape's end: only where it is busy
abbrev pub reads_byte : Reader → Option ℕ → Reader
reads_byte r (Some b) = if r.busy then set_reader r true r.error false b r.enable else r
reads_byte r None = if r.busy then set_reader r r.done true false r.byte r.enable else r

-- the devices after an event
abbrev pub happened : Devices → Event → Devices
happened d (Key k) = record d { key = k; keyboard = set_line d.keyboard true d.keyboard.enable }
happened d PrinterEvent = record d { printer = set_line d.printer true d.printer.enable }
happened d PunchEvent = record d { punch = set_line d.punch true d.punch.enable }
happened d (ReaderEvent b) = record d { reader = reads_byte d.reader b }
happened d Clock =
    record d { clock = record { flag = true; enable = d.clock.enable; request = d.clock.request || d.clock.enable } }

-- a byte, where one comes in
abbrev pub IsByte : Option ℕ → Type 0
IsByte None = Unit {0}
IsByte (Some b) = b < 256

-- what can happen: a byte that comes in is less than 256
abbrev pub IsEvent : Event → Type 0
IsEvent (Key b) = b < 256
IsEvent (ReaderEvent b) = IsByte b
IsEvent PrinterEvent = Unit {0}
IsEvent PunchEvent = Unit {0}
IsEvent Clock = Unit {0}

-- the pending request: the clock's where it stands, else the first of reader, punch, keyboard, printer (order own)
abbrev pub request_of : Devices → Option Request
request_of d =
    if d.clock.request then Some (record { vector = 0o100; level = 6 })
    else (if d.reader.request then Some (record { vector = 0o70; level = 4 })
    else (if d.punch.request then Some (record { vector = 0o74; level = 4 })
    else (if d.keyboard.request then Some (record { vector = 0o60; level = 4 })
    else (if d.printer.request then Some (record { vector = 0o64; level = 4 }) else None))))

-- a grant makes the request of this vector fall
abbrev pub granted : Devices → ℕ → Devices
granted d vector =
    if vector == 0o100 then record d { clock = record d.clock { request = false } }
    else (if vector == 0o70 then record d { reader = record d.reader { request = false } }
    else (if vector == 0o74 then record d { punch = record d.punch { request = false } }
    else (if vector == 0o60 then record d { keyboard = record d.keyboard { request = false } }
    else (if vector == 0o64 then record d { printer = record d.printer { request = false } } else d))))

-- a line at opening: nothing waits, or it is ready
abbrev pub quiet : Line
quiet = record { flag = false; enable = false; request = false }

abbrev pub ready : Line
ready = record { flag = true; enable = false; request = false }

abbrev pub opening_devices : Devices
opening_devices =
    record {
      keyboard = quiet;
      key = 0;
      printer = ready;
      punch = ready;
      reader = record { done = false; error = false; busy = false; byte = 0; enable = false; request = false };
      clock = quiet;
    }
