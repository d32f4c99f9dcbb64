-- The report of a run: a line for each entry of the journal that it shows, the number of instructions, and the ending.
use Rattle.std.specs.Prelude.{ℕ, ◌+◌, ◌-◌, ◌/◌, ◌%◌, ◌≤◌, Bool, true, Some, None, List, [], ◌∷◌, ◌++◌, map, codes, decimal, nat_le, slice_index_or, if◌then◌else◌}
use Rattle.std.specs.List.{flat_map}
use Rattle.pdp_dev.specs.declared.entry.Entry.{Entry}
use Rattle.pdp_dev.specs.declared.entry.Entry.TheVariants.{Event as EventEntry, Grant, Print, Punch as PunchEntry, Lost}
use Rattle.pdp_dev.specs.declared.entry.Event.{Event}
use Rattle.pdp_dev.specs.declared.entry.Event.TheVariants.{Key, Printer, Punch, Reader, Clock}
use Rattle.pdp_dev.specs.declared.entry.Port.{Port}
use Rattle.pdp_dev.specs.declared.entry.Port.TheVariants.{Printer as PrinterPort, Punch as PunchPort}
use Rattle.mc_report.specs.declared.ending.Ending.{Ending}
use Rattle.mc_report.specs.declared.ending.Ending.TheVariants.{End, Stuck, Trap, Limit, Halt, BusFault, Reserved, Silent}

-- the octal digits of a number at these places
abbrev pub digits_at : List ℕ → ℕ → List ℕ
digits_at places n = map (λ place. 48 + n / place % 8) places

abbrev pub three_octal : ℕ → List ℕ
three_octal n = digits_at (0o100 ∷ 0o10 ∷ 1 ∷ []) n

abbrev pub six_octal : ℕ → List ℕ
six_octal n = digits_at (0o100000 ∷ 0o10000 ∷ 0o1000 ∷ 0o100 ∷ 0o10 ∷ 1 ∷ []) n

-- a vector, which has three digits where they suffice
abbrev pub vector_octal : ℕ → List ℕ
vector_octal vector = if nat_le vector 0o777 then three_octal vector else six_octal vector

abbrev pub event_text : Event → List ℕ
event_text (Key byte) = codes "key " ++ three_octal byte
event_text Printer = codes "printer"
event_text Punch = codes "punch"
event_text (Reader (Some byte)) = codes "reader " ++ three_octal byte
event_text (Reader None) = codes "reader end"
event_text Clock = codes "clock"

abbrev pub port_text : Port → List ℕ
port_text PrinterPort = codes "printer"
port_text PunchPort = codes "punch"

-- what the line of an entry says
abbrev pub entry_text : Entry → List ℕ
entry_text (EventEntry event) = codes "event " ++ event_text event
entry_text (Grant vector) = codes "grant " ++ vector_octal vector
entry_text (Print byte) = codes "print " ++ three_octal byte
entry_text (PunchEntry byte) = codes "punch " ++ three_octal byte
entry_text (Lost port byte) = codes "lost " ++ port_text port ++ codes " " ++ three_octal byte

-- events and grants are shown only with the journal
abbrev pub is_shown : Entry → Bool → Bool
is_shown (EventEntry event) journal = journal
is_shown (Grant vector) journal = journal
is_shown (Print byte) journal = true
is_shown (PunchEntry byte) journal = true
is_shown (Lost port byte) journal = true

-- the line of an entry with its end, or nothing where it is not shown
abbrev pub line : Entry → Bool → List ℕ
line entry journal = if is_shown entry journal then entry_text entry ++ codes "\n" else []

-- the names of the traps, from 1 on
abbrev pub trap_names : List (List ℕ)
trap_names =
    codes "index" ∷ codes "overflow" ∷ codes "divide" ∷ codes "case" ∷ codes "rank" ∷ codes "range" ∷ codes "twice" ∷ codes "workspace" ∷ codes "room" ∷ []

abbrev pub name_of_trap : ℕ → List ℕ
name_of_trap n = slice_index_or trap_names (n - 1) []

-- a trap that ends a run is one of those that have a name
abbrev pub IsNamed : Ending → Type 0
IsNamed (Trap n) = (1 ≤ n) × (n ≤ 9)
IsNamed End = Unit {0}
IsNamed Stuck = Unit {0}
IsNamed Limit = Unit {0}
IsNamed Halt = Unit {0}
IsNamed (BusFault address) = Unit {0}
IsNamed (Reserved word) = Unit {0}
IsNamed Silent = Unit {0}

abbrev pub ending_text : Ending → List ℕ
ending_text End = codes "end"
ending_text Stuck = codes "stuck"
ending_text (Trap n) = codes "trap " ++ decimal n ++ codes " " ++ name_of_trap n
ending_text Limit = codes "limit"
ending_text Halt = codes "halt"
ending_text (BusFault address) = codes "bus fault " ++ six_octal address
ending_text (Reserved word) = codes "reserved " ++ six_octal word
ending_text Silent = codes "silent"

abbrev pub ending_line : Ending → List ℕ
ending_line ending = ending_text ending ++ codes "\n"

abbrev pub count_line : ℕ → List ℕ
count_line instructions = codes "instructions " ++ decimal instructions ++ codes "\n"

-- the whole report
abbrev pub report_of : List Entry → ℕ → Ending → Bool → List ℕ
report_of entries instructions ending journal =
    flat_map (λ entry. line entry journal) entries ++ (count_line instructions ++ ending_line ending)
