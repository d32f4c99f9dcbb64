-- What each instruction does, as a list of parts in their order.
use Rattle.std.specs.Prelude.{ℕ, ◌+◌, ◌-◌, ◌*◌, ◌/◌, ◌%◌, ◌==◌, true, false, List, Option, Some, None, Ok, Err, slice_index, slice_set, if◌then◌else◌}
use Rattle.mc_word.specs.Word.{extended}
use Rattle.mc_word.specs.declared.word.Codes.{Codes}
use Rattle.pdp_dev.specs.declared.devices.Devices.{Devices}
use Rattle.pdp_dev.specs.declared.entry.Entry.{Entry}
use Rattle.pdp_dev.specs.Devices.{opening_devices}
use Rattle.pdp_isa.specs.declared.instr.Instr.{Instr}
use Rattle.pdp_isa.specs.declared.instr.Instr.TheVariants.{Mov, MovByte, Cmp, CmpByte, Bit, BitByte, Bic, BicByte, Bis, BisByte, Add, Sub, Clr, ClrByte, Com, ComByte, Inc, IncByte, Dec, DecByte, Neg, NegByte, Adc, AdcByte, Sbc, SbcByte, Tst, TstByte, Ror, RorByte, Rol, RolByte, Asr, AsrByte, Asl, AslByte, Sxt, Swab, Xor, Mul, Div, Ash, Ashc, Sob, Jmp, Jsr, Rts, Rti, Rtt, Halt as HaltRow, Wait, Reset, Bpt, Iot, Emt, Trap, ClearCodes, SetCodes, Br, Bne, Beq, Bge, Blt, Bgt, Ble, Bpl, Bmi, Bhi, Blos, Bvc, Bvs, Bcc, Bcs}
use Rattle.pdp_isa.specs.Table.{instruction_of}
use Rattle.pdp_def.specs.declared.outcome.Outcome.{Outcome}
use Rattle.pdp_def.specs.declared.outcome.Outcome.TheVariants.{Ran, Idle, Halt, BusFault, Reserved}
use Rattle.pdp_def.specs.declared.operand.Place.{Place}
use Rattle.pdp_def.specs.declared.operand.Place.TheVariants.{InRegister, InMemory}
use Rattle.pdp_def.specs.declared.operation.Width.{Width}
use Rattle.pdp_def.specs.declared.operation.Width.TheVariants.{Byte, Word}
use Rattle.pdp_def.specs.declared.operation.BinaryOperation.{BinaryOperation}
use Rattle.pdp_def.specs.declared.operation.BinaryOperation.TheVariants.{Compare, And, AndNot, Or, ExclusiveOr, Plus, Minus}
use Rattle.pdp_def.specs.declared.operation.UnaryOperation.{UnaryOperation}
use Rattle.pdp_def.specs.declared.operation.UnaryOperation.TheVariants.{Complement, Increment, Decrement, Negate, AddCarry, SubtractCarry, RotateRight, RotateLeft, ShiftRight, ShiftLeft, SwapBytes}
use Rattle.pdp_def.specs.declared.operation.PairOperation.{PairOperation}
use Rattle.pdp_def.specs.declared.operation.PairOperation.TheVariants.{Multiply, Divide, Shift}
use Rattle.pdp_def.specs.declared.operation.Condition.{Condition}
use Rattle.pdp_def.specs.declared.operation.Condition.TheVariants.{Always, NotEqual, Equal, GreaterOrEqual, Less, Greater, LessOrEqual, NotNegative, Negative, Higher, LowerOrSame, OverflowClear, OverflowSet, CarryClear, CarrySet}
use Rattle.pdp_def.specs.State.{CoreState}
use Rattle.pdp_def.specs.Does.{Bus, bus, After, Access, Does, ◌>>=◌, ◌>>◌, gives, goes_on, register, set_register, is_bad, put_word}
use Rattle.pdp_def.specs.Operands.{plus, next_word, mode_of, address, locate, fetch, put, put_moved, push, pop}
use Rattle.pdp_def.specs.Codes.{has_n, has_c, cleared_codes, added_codes, extension_codes, codes_of, moved_in, combined, altered, holds}
use Rattle.pdp_def.specs.Signed.{shifted_word, paired}
pub use Rattle.pdp_def.specs.Codes.{bit, with_codes, moved_codes}

-- the condition codes are set, by the status word as it was
abbrev pub set_codes : (ℕ → Codes) → Does (Unit {0})
set_codes f b = goes_on (record b.core { ps = with_codes b.core.ps (f b.core.ps) }) b

-- the codes after a value was put into a place; where the status word itself was written, they stay as written
unfoldable pub sets : Place → (ℕ → Codes) → Does (Unit {0})
sets (InRegister r) f = set_codes f
sets (InMemory a) f = if a == 0o177776 then gives tt else set_codes f

abbrev pub status : Does ℕ
status b = gives b.core.ps b

abbrev pub set_status : ℕ → Does (Unit {0})
set_status w b = goes_on (record b.core { ps = w }) b

-- ---- two operands: the source is addressed and read before the target is addressed

-- MOV writes its target without a read
unfoldable pub moves : Width → ℕ → ℕ → Does Outcome
moves width source target = do
  from ← locate width source
  a ← fetch width from
  to ← locate width target
  put_moved width to a
  sets to (moved_in width a)
  gives Ran

-- CMP and BIT write nothing
unfoldable pub compares : BinaryOperation → Width → ℕ → ℕ → Does Outcome
compares operation width source target = do
  from ← locate width source
  a ← fetch width from
  to ← locate width target
  b ← fetch width to
  ps ← status
  set_codes (λ _. (combined operation width a b (has_c ps)).codes)
  gives Ran

-- BIC, BIS, ADD and SUB read their target and then write it
unfoldable pub combines : BinaryOperation → Width → ℕ → ℕ → Does Outcome
combines operation width source target = do
  from ← locate width source
  a ← fetch width from
  to ← locate width target
  b ← fetch width to
  ps ← status
  put width to (combined operation width a b (has_c ps)).word
  sets to (λ _. (combined operation width a b (has_c ps)).codes)
  gives Ran

-- ---- one operand

unfoldable pub clears : Width → ℕ → Does Outcome
clears width target = do
  to ← locate width target
  put width to 0
  sets to (λ _. codes_of width 0 false false)
  gives Ran

unfoldable pub tests : Width → ℕ → Does Outcome
tests width target = do
  to ← locate width target
  a ← fetch width to
  set_codes (λ _. codes_of width a false false)
  gives Ran

-- all ones where N is set, else 0
unfoldable pub extends : ℕ → Does Outcome
extends target = do
  to ← locate Word target
  ps ← status
  put Word to (if has_n ps then 65535 else 0)
  sets to (λ _. extension_codes ps)
  gives Ran

unfoldable pub alters : UnaryOperation → Width → ℕ → Does Outcome
alters operation width target = do
  to ← locate width target
  a ← fetch width to
  ps ← status
  put width to (altered operation width a (has_c ps)).word
  sets to (λ _. (altered operation width a (has_c ps)).codes)
  gives Ran

-- ---- a register and an operand: the register is read after the other operand was addressed and read

-- XOR
unfoldable pub combines_register : ℕ → ℕ → Does Outcome
combines_register r target = do
  to ← locate Word target
  b ← fetch Word to
  a ← register r
  ps ← status
  put Word to (combined ExclusiveOr Word a b (has_c ps)).word
  sets to (λ _. (combined ExclusiveOr Word a b (has_c ps)).codes)
  gives Ran

-- ASH
unfoldable pub shifts : ℕ → ℕ → Does Outcome
shifts r source = do
  from ← locate Word source
  s ← fetch Word from
  a ← register r
  set_register r (shifted_word a s).word
  set_codes (λ _. (shifted_word a s).codes)
  gives Ran

-- the odd register of a pair: behind an even register the next one, and an odd one itself
abbrev pub partner_of : ℕ → ℕ
partner_of r = r / 2 * 2 + 1

-- MUL, DIV and ASHC: the high word goes to R and the low word to its partner, which for an odd R leaves the low word
unfoldable pub computes_pair : PairOperation → ℕ → ℕ → Does Outcome
computes_pair operation r source = do
  from ← locate Word source
  s ← fetch Word from
  high ← register r
  low ← register (partner_of r)
  set_register r (paired operation high low s).high
  set_register (partner_of r) (paired operation high low s).low
  set_codes (λ _. (paired operation high low s).codes)
  gives Ran

abbrev pub reserved : ℕ → Does Outcome
reserved w b = Err (Reserved w)

-- DIV and ASHC: an odd register is reserved, before anything is addressed
unfoldable pub computes_even_pair : ℕ → PairOperation → ℕ → ℕ → Does Outcome
computes_even_pair w operation r source = if r % 2 == 1 then reserved w else computes_pair operation r source

-- ---- branches, jumps, subroutines

abbrev pub goes_to : ℕ → Does Outcome
goes_to a = do
  set_register 7 a
  gives Ran

-- a branch adds twice its signed offset to PC
unfoldable pub branches : Condition → ℕ → Does Outcome
branches condition offset = do
  ps ← status
  pc ← register 7
  if holds condition ps then goes_to (plus pc (2 * extended offset)) else gives Ran

-- SOB: R less 1; where that is not 0, PC goes back by twice the offset
unfoldable pub counts_down : ℕ → ℕ → Does Outcome
counts_down r offset = do
  a ← register r
  set_register r (plus a 65535)
  pc ← register 7
  if plus a 65535 == 0 then gives Ran else goes_to (plus pc (65536 - 2 * offset))

-- JMP, and JSR: mode 0 is reserved, before anything is addressed
unfoldable pub jumps : ℕ → ℕ → Does Outcome
jumps w target =
    if mode_of target == 0 then reserved w else (address Word target >>= goes_to)

-- the address is taken, R is pushed, R takes PC, and PC the address
abbrev pub calls_at : ℕ → ℕ → Does Outcome
calls_at r a = do
  link ← register r
  push link
  pc ← register 7
  set_register r pc
  goes_to a

unfoldable pub calls : ℕ → ℕ → ℕ → Does Outcome
calls w r target =
    if mode_of target == 0 then reserved w else (address Word target >>= calls_at r)

-- RTS: PC takes R, and R is popped
unfoldable pub returns : ℕ → Does Outcome
returns r = do
  pc ← register r
  set_register 7 pc
  link ← pop
  set_register r link
  gives Ran

-- RTI and RTT: PC is popped, and then PS, of which the low byte counts
unfoldable pub resumes : Does Outcome
resumes = do
  pc ← pop
  set_register 7 pc
  ps ← pop
  set_status (ps % 256)
  gives Ran

-- ---- traps, and what grants share with them

-- PS and PC are pushed to these addresses; PC and PS are loaded from the vector's two words, read before; waiting ends
unfoldable pub enters : ℕ → ℕ → ℕ → Bus → Bus
enters vector first second b =
    let b1 : Bus = put_word first b.core.ps b in
    let b2 : Bus = put_word second (slice_index b.core.registers 7) b1 in
    record b2 {
      core = record b2.core {
        registers = slice_set (slice_set b2.core.registers 6 second) 7 (slice_index b.core.memory (vector / 2));
        ps = slice_index b.core.memory (vector / 2 + 1) % 256;
        waiting = false;
      };
    }

abbrev pub enters_at : ℕ → ℕ → ℕ → Does Outcome
enters_at vector first second b =
    if is_bad first then Err (BusFault first)
    else (if is_bad second then Err (BusFault second) else gives Ran (enters vector first second b))

-- BPT, IOT, EMT and TRAP: PS goes to two below SP, and PC to two below that; the first of these addresses that is bad
-- is a fault
unfoldable pub traps : ℕ → Does Outcome
traps vector = do
  sp ← register 6
  enters_at vector (plus sp 65534) (plus sp 65532)

-- ---- the rest

-- WAIT
abbrev pub waits : Does Outcome
waits b = gives Idle (record b { core = record b.core { waiting = true } })

-- RESET: the devices are as at opening
abbrev pub resets : Does Outcome
resets b = gives Ran (record b { devices = opening_devices })

-- clear and set codes
abbrev pub masks : (ℕ → Codes) → Does Outcome
masks f = do
  set_codes f
  gives Ran

-- the table of instructions; a word that it lacks is reserved
unfoldable pub row : ℕ → Option Instr → Does Outcome
row w None = reserved w
row w (Some (Mov source target)) = moves Word source.value target.value
row w (Some (MovByte source target)) = moves Byte source.value target.value
row w (Some (Cmp source target)) = compares Compare Word source.value target.value
row w (Some (CmpByte source target)) = compares Compare Byte source.value target.value
row w (Some (Bit source target)) = compares And Word source.value target.value
row w (Some (BitByte source target)) = compares And Byte source.value target.value
row w (Some (Bic source target)) = combines AndNot Word source.value target.value
row w (Some (BicByte source target)) = combines AndNot Byte source.value target.value
row w (Some (Bis source target)) = combines Or Word source.value target.value
row w (Some (BisByte source target)) = combines Or Byte source.value target.value
row w (Some (Add source target)) = combines Plus Word source.value target.value
row w (Some (Sub source target)) = combines Minus Word source.value target.value
row w (Some (Clr target)) = clears Word target.value
row w (Some (ClrByte target)) = clears Byte target.value
row w (Some (Com target)) = alters Complement Word target.value
row w (Some (ComByte target)) = alters Complement Byte target.value
row w (Some (Inc target)) = alters Increment Word target.value
row w (Some (IncByte target)) = alters Increment Byte target.value
row w (Some (Dec target)) = alters Decrement Word target.value
row w (Some (DecByte target)) = alters Decrement Byte target.value
row w (Some (Neg target)) = alters Negate Word target.value
row w (Some (NegByte target)) = alters Negate Byte target.value
row w (Some (Adc target)) = alters AddCarry Word target.value
row w (Some (AdcByte target)) = alters AddCarry Byte target.value
row w (Some (Sbc target)) = alters SubtractCarry Word target.value
row w (Some (SbcByte target)) = alters SubtractCarry Byte target.value
row w (Some (Tst target)) = tests Word target.value
row w (Some (TstByte target)) = tests Byte target.value
row w (Some (Ror target)) = alters RotateRight Word target.value
row w (Some (RorByte target)) = alters RotateRight Byte target.value
row w (Some (Rol target)) = alters RotateLeft Word target.value
row w (Some (RolByte target)) = alters RotateLeft Byte target.value
row w (Some (Asr target)) = alters ShiftRight Word target.value
row w (Some (AsrByte target)) = alters ShiftRight Byte target.value
row w (Some (Asl target)) = alters ShiftLeft Word target.value
row w (Some (AslByte target)) = alters ShiftLeft Byte target.value
row w (Some (Sxt target)) = extends target.value
row w (Some (Swab target)) = alters SwapBytes Word target.value
row w (Some (Xor r target)) = combines_register r.value target.value
row w (Some (Mul r source)) = computes_pair Multiply r.value source.value
row w (Some (Div r source)) = computes_even_pair w Divide r.value source.value
row w (Some (Ash r source)) = shifts r.value source.value
row w (Some (Ashc r source)) = computes_even_pair w Shift r.value source.value
row w (Some (Sob r offset)) = counts_down r.value offset.value
row w (Some (Jmp target)) = jumps w target.value
row w (Some (Jsr r target)) = calls w r.value target.value
row w (Some (Rts r)) = returns r.value
row w (Some Rti) = resumes
row w (Some Rtt) = resumes
row w (Some HaltRow) = gives Halt
row w (Some Wait) = waits
row w (Some Reset) = resets
row w (Some Bpt) = traps 0o14
row w (Some Iot) = traps 0o20
row w (Some (Emt code)) = traps 0o30
row w (Some (Trap code)) = traps 0o34
row w (Some (ClearCodes mask)) = masks (cleared_codes mask.value)
row w (Some (SetCodes mask)) = masks (added_codes mask.value)
row w (Some (Br offset)) = branches Always offset.value
row w (Some (Bne offset)) = branches NotEqual offset.value
row w (Some (Beq offset)) = branches Equal offset.value
row w (Some (Bge offset)) = branches GreaterOrEqual offset.value
row w (Some (Blt offset)) = branches Less offset.value
row w (Some (Bgt offset)) = branches Greater offset.value
row w (Some (Ble offset)) = branches LessOrEqual offset.value
row w (Some (Bpl offset)) = branches NotNegative offset.value
row w (Some (Bmi offset)) = branches Negative offset.value
row w (Some (Bhi offset)) = branches Higher offset.value
row w (Some (Blos offset)) = branches LowerOrSame offset.value
row w (Some (Bvc offset)) = branches OverflowClear offset.value
row w (Some (Bvs offset)) = branches OverflowSet offset.value
row w (Some (Bcc offset)) = branches CarryClear offset.value
row w (Some (Bcs offset)) = branches CarrySet offset.value

unfoldable pub performs : ℕ → Does Outcome
performs w = row w (instruction_of w)

unfoldable pub attempt : Does Outcome
attempt = do
  w ← next_word
  performs w

-- where an instruction stops by a fault, nothing changes
abbrev pub or_nothing : Bus → Access Outcome → After Outcome
or_nothing b (Ok a) = a
or_nothing b (Err stop) = record { value = stop; bus = b }

-- the effect of the instruction at PC
unfoldable pub effect : CoreState → Devices → List Entry → After Outcome
effect c d said = or_nothing (bus c d said) (attempt (bus c d said))
