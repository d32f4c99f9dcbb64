-- The eight ways to name an operand, and its value, by the width of the instruction.
use Rattle.std.specs.Prelude.{ℕ, ◌<◌, ◌+◌, ◌-◌, ◌*◌, ◌/◌, ◌%◌, ◌==◌, nat_lt, if◌then◌else◌}
use Rattle.mc_word.specs.Word.{extended}
use Rattle.pdp_def.specs.declared.operand.Place.{Place}
use Rattle.pdp_def.specs.declared.operand.Place.TheVariants.{InRegister, InMemory}
use Rattle.pdp_def.specs.declared.operation.Width.{Width}
use Rattle.pdp_def.specs.declared.operation.Width.TheVariants.{Byte, Word}
use Rattle.pdp_def.specs.Does.{Does, ◌>>=◌, ◌>>◌, gives, register, set_register, read_word, write_word, read_byte, write_byte}

abbrev pub plus : ℕ → ℕ → ℕ
plus a b = (a + b) % 65536

-- how far modes 2 and 4 step: by a word, but in byte forms by a byte, save on SP and PC
abbrev pub step_of : Width → ℕ → ℕ
step_of Byte r = if nat_lt r 6 then 1 else 2
step_of Word r = 2

-- the register's word, and then it goes on by a step
unfoldable pub step_on : ℕ → ℕ → Does ℕ
step_on step r = do
  a ← register r
  set_register r (plus a step)
  gives a

-- the register goes back by a step; its word then is given
unfoldable pub step_back : ℕ → ℕ → Does ℕ
step_back step r = do
  a ← register r
  set_register r (plus a (65536 - step))
  gives (plus a (65536 - step))

-- the next word of the program
abbrev pub next_word : Does ℕ
next_word = do
  a ← step_on 2 7
  read_word a

-- an address away from a register by the next word, which is fetched before the register is read
unfoldable pub indexed : ℕ → Does ℕ
indexed r = do
  x ← next_word
  a ← register r
  gives (plus x a)

-- the address that stands at an address
abbrev pub deferred : Does ℕ → Does ℕ
deferred m = do
  at ← m
  read_word at

-- the address that a mode from 1 to 7 names with a register
abbrev pub address_by : Width → ℕ → ℕ → Does ℕ
address_by width mode r =
    if mode == 1 then register r
    else (if mode == 2 then step_on (step_of width r) r
    else (if mode == 3 then deferred (step_on 2 r)
    else (if mode == 4 then step_back (step_of width r) r
    else (if mode == 5 then deferred (step_back 2 r)
    else (if mode == 6 then indexed r else deferred (indexed r))))))

-- an operand of six bits has its mode in the high three and its register in the low three
abbrev pub mode_of : ℕ → ℕ
mode_of field = field / 8

unfoldable pub address : Width → ℕ → Does ℕ
address width field = address_by width (mode_of field) (field % 8)

-- the place that an operand names: mode 0 is the register itself
unfoldable pub locate : Width → ℕ → Does Place
locate width field = if mode_of field == 0 then gives (InRegister (field % 8)) else (address width field >>= (λ a. gives (InMemory a)))

-- the value at a place: of a register a byte form takes the low byte
unfoldable pub fetch : Width → Place → Does ℕ
fetch Word (InRegister r) = register r
fetch Word (InMemory a) = read_word a
fetch Byte (InRegister r) = register r >>= (λ w. gives (w % 256))
fetch Byte (InMemory a) = read_byte a

-- a value is put into a place: in a register a byte form leaves the high byte
unfoldable pub put : Width → Place → ℕ → Does (Unit {0})
put Word (InRegister r) v = set_register r v
put Word (InMemory a) v = write_word a v
put Byte (InRegister r) v = register r >>= (λ w. set_register r (w / 256 * 256 + v % 256))
put Byte (InMemory a) v = write_byte a v

-- MOVB alone extends the sign of a byte that it puts into a register
unfoldable pub put_moved : Width → Place → ℕ → Does (Unit {0})
put_moved Word place v = put Word place v
put_moved Byte (InRegister r) v = set_register r (extended (v % 256))
put_moved Byte (InMemory a) v = write_byte a v

-- SP goes down by a word, and the word there is written
unfoldable pub push : ℕ → Does (Unit {0})
push w = do
  sp ← step_back 2 6
  write_word sp w

-- the word at SP, which goes up by a word
unfoldable pub pop : Does ℕ
pop = do
  sp ← step_on 2 6
  read_word sp

-- a register is one of the eight
abbrev pub IsPlace : Place → Type 0
IsPlace (InRegister r) = r < 8
IsPlace (InMemory a) = Unit {0}
