-- What a part of an instruction does to the processor, the devices and the journal.
use Rattle.std.specs.Prelude.{◌≡◌, ℕ, ◌-◌, ◌/◌, ◌%◌, ◌==◌, nat_lt, Bool, true, false, List, [], ◌∷◌, ◌++◌, Option, Some, None, Result, Ok, Err, if◌then◌else◌, slice_index, slice_set}
use Rattle.pdp_dev.specs.declared.devices.Devices.{Devices}
use Rattle.pdp_dev.specs.declared.register.Register.{Register}
use Rattle.pdp_dev.specs.declared.entry.Entry.{Entry}
use Rattle.pdp_dev.specs.Register.{register_at}
use Rattle.pdp_dev.specs.Devices.{read_of, after_read, written, said_at}
use Rattle.pdp_def.specs.declared.outcome.Outcome.{Outcome}
use Rattle.pdp_def.specs.declared.outcome.Outcome.TheVariants.{BusFault}
use Rattle.pdp_def.specs.State.{CoreState, byte_of, with_byte}

-- the state that an instruction works on, with the journal so far
pub record Bus : Type 0 where
  pub core : CoreState
  pub devices : Devices
  pub said : List Entry

abbrev pub bus : CoreState → Devices → List Entry → Bus
bus c d said = record { core = c; devices = d; said = said }

-- a value with the state after it
pub record After (T : Type 0) : Type 0 where
  pub value : T
  pub bus : Bus

-- it gives a value, or stops the instruction
abbrev pub Access : Type 0 → Type 0
Access T = Result (After T) Outcome

abbrev pub Does : Type 0 → Type 0
Does T = Bus → Access T

abbrev pub then_do : {A B : Type 0} → Access A → (A → Does B) → Access B
then_do (Ok a) f = f a.value a.bus
then_do (Err stop) f = Err stop

infixl 10 ◌>>=◌
abbrev pub ◌>>=◌ : {A B : Type 0} → Does A → (A → Does B) → Does B
(m >>= f) b = then_do (m b) f

infixl 10 ◌>>◌
abbrev pub ◌>>◌ : {A B : Type 0} → Does A → Does B → Does B
(m >> n) b = then_do (m b) (λ _. n)

abbrev pub gives : {A : Type 0} → A → Does A
gives a b = Ok (record { value = a; bus = b })

-- this state of the processor from here on
abbrev pub goes_on : CoreState → Does (Unit {0})
goes_on c b = Ok (record { value = tt; bus = record b { core = c } })

abbrev pub register : ℕ → Does ℕ
register r b = Ok (record { value = slice_index b.core.registers r; bus = b })

abbrev pub set_register : ℕ → ℕ → Does (Unit {0})
set_register r w b = goes_on (record b.core { registers = slice_set b.core.registers r w }) b

-- the address of the status word
abbrev pub status_word : ℕ
status_word = 0o177776

-- an address that no word has: an odd one, or one above memory that is neither PS nor a device register
abbrev pub is_absent : Option Register → Bool
is_absent (Some r) = false
is_absent None = true

unfoldable pub is_bad : ℕ → Bool
is_bad a =
    if a % 2 == 1 then true
    else (if nat_lt a 0o160000 then false else (if a == 0o177776 then false else is_absent (register_at a)))

abbrev pub read_register : ℕ → Option Register → Does ℕ
read_register a (Some r) b = Ok (record { value = read_of b.devices r; bus = record b { devices = after_read b.devices r } })
read_register a None b = Err (BusFault a)

-- the word at an address, with what its read does to a device
unfoldable pub read_word : ℕ → Does ℕ
read_word a b =
    if a % 2 == 1 then Err (BusFault a)
    else (if nat_lt a 0o160000 then gives (slice_index b.core.memory (a / 2)) b
    else (if a == 0o177776 then gives b.core.ps b else read_register a (register_at a) b))

abbrev pub entries : Option Entry → List Entry
entries (Some e) = e ∷ []
entries None = []

abbrev pub put_register : ℕ → Option Register → Bus → Bus
put_register w (Some r) b = record b { devices = written b.devices r w; said = b.said ++ entries (said_at b.devices r w) }
put_register w None b = b

-- a word is put at an address that is not bad: of the status word its low byte
unfoldable pub put_word : ℕ → ℕ → Bus → Bus
put_word a w b =
    if nat_lt a 0o160000 then record b { core = record b.core { memory = slice_set b.core.memory (a / 2) w } }
    else (if a == 0o177776 then record b { core = record b.core { ps = w % 256 } } else put_register w (register_at a) b)

unfoldable pub write_word : ℕ → ℕ → Does (Unit {0})
write_word a w b = if is_bad a then Err (BusFault a) else Ok (record { value = tt; bus = put_word a w b })

-- the high half of a device register's word, which its device does not notice
abbrev pub read_high : ℕ → Option Register → Does ℕ
read_high a (Some r) b = gives (read_of b.devices r / 256) b
read_high a None b = Err (BusFault a)

-- the byte at an address: in memory half of its word; above, at an even address the low half of a read of the word, at
-- an odd one the high half of the word around it, without a read's effect
unfoldable pub read_byte : ℕ → Does ℕ
read_byte a b =
    if nat_lt a 0o160000 then gives (byte_of b.core.memory a) b
    else (if a % 2 == 0 then (read_word a >>= (λ w. gives (w % 256))) b
    else (if a == 0o177777 then gives (b.core.ps / 256) b else read_high a (register_at (a - 1)) b))

-- a byte is written: in memory into its half; above, at an even address as a word, and at an odd one nothing happens
unfoldable pub write_byte : ℕ → ℕ → Does (Unit {0})
write_byte a v b =
    if nat_lt a 0o160000 then goes_on (record b.core { memory = with_byte b.core.memory a (v % 256) }) b
    else (if a % 2 == 0 then write_word a (v % 256) b
    else (if is_bad (a - 1) then Err (BusFault a) else gives tt b))

-- nothing but the registers has changed
abbrev pub Kept : CoreState → CoreState → Type 0
Kept c c' = c' ≡ record c { registers = c'.registers }
