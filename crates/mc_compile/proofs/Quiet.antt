-- Devices of which none may ask for an interrupt.
use Rattle.std.proofs.Common.{◌≡◌, ℕ, Bool, true, false, ◌&&◌, ◌||◌, Option, Some, None, refl}
use Rattle.std.specs.Prelude.{if◌then◌else◌}
use Rattle.pdp_dev.specs.declared.devices.Line.{Line}
use Rattle.pdp_dev.specs.declared.devices.Reader.{Reader}
use Rattle.pdp_dev.specs.declared.devices.Devices.{Devices}
use Rattle.pdp_dev.specs.declared.entry.Event.{Event}
use Rattle.pdp_dev.specs.declared.entry.Event.TheVariants.{Key, Printer as PrinterEvent, Punch as PunchEvent, Reader as ReaderEvent, Clock}
use Rattle.pdp_dev.specs.declared.register.Register.TheVariants.{PrinterByte, PunchByte}
use Rattle.pdp_dev.specs.Devices.{set_line, set_reader, asks, takes_byte, reads_byte, happened, written, request_of, opening_devices}

-- a line that may not ask, and does not
abbrev pub IsOff : Line → Type 0
IsOff line = (line.enable ≡ false) × (line.request ≡ false)

pub record IsQuiet (d : Devices) : Type 0 where
  pub keyboard : IsOff d.keyboard
  pub printer : IsOff d.printer
  pub punch : IsOff d.punch
  pub reader : (d.reader.enable ≡ false) × (d.reader.request ≡ false)
  pub clock : IsOff d.clock

pub quiet_opening : IsQuiet opening_devices
quiet_opening = record { keyboard = (refl, refl); printer = (refl, refl); punch = (refl, refl); reader = (refl, refl); clock = (refl, refl) }

pub quiet_none : (d : Devices) → IsQuiet d → request_of d ≡ None
quiet_none d q = rw (q.clock.1, q.reader.1, q.punch.1, q.keyboard.1, q.printer.1) refl

off_set : (line : Line) (flag : Bool) → IsOff line → IsOff (set_line line flag line.enable)
off_set line true h = (h.0, rw h.0 refl)
off_set line false h = (h.0, refl)

off_either : (b : Bool) (x y : Line) → IsOff x → IsOff y → IsOff (if b then x else y)
off_either true x y hx hy = hx
off_either false x y hx hy = hy

off_takes : (line : Line) → IsOff line → IsOff (takes_byte line)
off_takes line h = off_either line.flag (set_line line false line.enable) line (off_set line false h) h

abbrev IsReaderOff : Reader → Type 0
IsReaderOff r = (r.enable ≡ false) × (r.request ≡ false)

nothing_asks : (was request : Bool) (b enable : Bool) → enable ≡ false → asks was request (b && enable) ≡ false
nothing_asks was request true enable h = rw h refl
nothing_asks was request false enable h = refl

reader_set : (r : Reader) (done error busy : Bool) (byte : ℕ) → IsReaderOff r → IsReaderOff (set_reader r done error busy byte r.enable)
reader_set r done error busy byte h = (h.0, nothing_asks ((r.done || r.error) && r.enable) r.request (done || error) r.enable h.0)

reader_either : (b : Bool) (x y : Reader) → IsReaderOff x → IsReaderOff y → IsReaderOff (if b then x else y)
reader_either true x y hx hy = hx
reader_either false x y hx hy = hy

reader_reads : (r : Reader) (byte : Option ℕ) → IsReaderOff r → IsReaderOff (reads_byte r byte)
reader_reads r None h = reader_either r.busy _ r (reader_set r r.done true false r.byte h) h
reader_reads r (Some byte) h = reader_either r.busy _ r (reader_set r true r.error false byte h) h

pub quiet_event : (d : Devices) (e : Event) → IsQuiet d → IsQuiet (happened d e)
quiet_event d (Key k) q = record { keyboard = off_set d.keyboard true q.keyboard; printer = q.printer; punch = q.punch; reader = q.reader; clock = q.clock }
quiet_event d PrinterEvent q = record { keyboard = q.keyboard; printer = off_set d.printer true q.printer; punch = q.punch; reader = q.reader; clock = q.clock }
quiet_event d PunchEvent q = record { keyboard = q.keyboard; printer = q.printer; punch = off_set d.punch true q.punch; reader = q.reader; clock = q.clock }
quiet_event d (ReaderEvent byte) q = record { keyboard = q.keyboard; printer = q.printer; punch = q.punch; reader = reader_reads d.reader byte q.reader; clock = q.clock }
quiet_event d Clock q = record { keyboard = q.keyboard; printer = q.printer; punch = q.punch; reader = q.reader; clock = (q.clock.0, rw (q.clock.1, q.clock.0) refl) }

pub quiet_printer : (d : Devices) (b : ℕ) → IsQuiet d → IsQuiet (written d PrinterByte b)
quiet_printer d b q = record { keyboard = q.keyboard; printer = off_takes d.printer q.printer; punch = q.punch; reader = q.reader; clock = q.clock }

pub quiet_punch : (d : Devices) (b : ℕ) → IsQuiet d → IsQuiet (written d PunchByte b)
quiet_punch d b q = record { keyboard = q.keyboard; printer = q.printer; punch = off_takes d.punch q.punch; reader = q.reader; clock = q.clock }
