-- The instruction table: the words of each instruction, and the instruction of each word.
use Rattle.std.specs.Prelude.{◌≡◌, ℕ, ◌+◌, ◌*◌, ◌/◌, ◌%◌, ◌<◌, ◌==◌, Bool, true, false, Option, Some, None, List, [], ◌∷◌, if◌then◌else◌}
use Rattle.std.specs.List.{All, Contains}
use Rattle.std.proofs.Common.{arith}
use Rattle.pdp_isa.specs.declared.instr.Field.{Field}
use Rattle.pdp_isa.specs.declared.instr.Instr.{Instr}
use Rattle.pdp_isa.specs.declared.instr.Instr.TheVariants.{Mov, MovByte, Cmp, CmpByte, Bit, BitByte, Bic, BicByte, Bis, BisByte, Add, Sub, Clr, ClrByte, Com, ComByte, Inc, IncByte, Dec, DecByte, Neg, NegByte, Adc, AdcByte, Sbc, SbcByte, Tst, TstByte, Ror, RorByte, Rol, RolByte, Asr, AsrByte, Asl, AslByte, Sxt, Swab, Xor, Mul, Div, Ash, Ashc, Sob, Jmp, Jsr, Rts, Rti, Rtt, Halt, Wait, Reset, Bpt, Iot, Emt, Trap, ClearCodes, SetCodes, Br, Bne, Beq, Bge, Blt, Bgt, Ble, Bpl, Bmi, Bhi, Blos, Bvc, Bvs, Bcc, Bcs}

pub mod-below : (w n : ℕ) → w % (n + 1) < n + 1
mod-below w n = omega arith

-- the low part of a number, as a field of n + 1 values
abbrev pub field : (n : ℕ) → ℕ → Field (n + 1)
field n w = record { value = w % (n + 1); in_range = mod-below w n }

-- bits 0 to 2, 0 to 3, 0 to 5 and 0 to 7 of a word
abbrev pub low_three : ℕ → Field 8
low_three w = field 7 w

abbrev pub low_four : ℕ → Field 16
low_four w = field 15 w

abbrev pub low_six : ℕ → Field 64
low_six w = field 63 w

abbrev pub low_eight : ℕ → Field 256
low_eight w = field 255 w

-- bits 6 to 8 and 6 to 11 of a word
abbrev pub high_three : ℕ → Field 8
high_three w = field 7 (w / 0o100)

abbrev pub high_six : ℕ → Field 64
high_six w = field 63 (w / 0o100)

-- a row of the table: its pattern has 0 in all fields, its fields are the low bits that give so many words,
-- and it reads each of these words as an instruction
pub record Row : Type 0 where
  pub pattern : ℕ
  pub words : ℕ
  pub reads : ℕ → Instr

abbrev pub table : List Row
table =
    record { pattern = 0o010000; words = 0o10000; reads = λ w. Mov (high_six w) (low_six w) } ∷
    record { pattern = 0o110000; words = 0o10000; reads = λ w. MovByte (high_six w) (low_six w) } ∷
    record { pattern = 0o020000; words = 0o10000; reads = λ w. Cmp (high_six w) (low_six w) } ∷
    record { pattern = 0o120000; words = 0o10000; reads = λ w. CmpByte (high_six w) (low_six w) } ∷
    record { pattern = 0o030000; words = 0o10000; reads = λ w. Bit (high_six w) (low_six w) } ∷
    record { pattern = 0o130000; words = 0o10000; reads = λ w. BitByte (high_six w) (low_six w) } ∷
    record { pattern = 0o040000; words = 0o10000; reads = λ w. Bic (high_six w) (low_six w) } ∷
    record { pattern = 0o140000; words = 0o10000; reads = λ w. BicByte (high_six w) (low_six w) } ∷
    record { pattern = 0o050000; words = 0o10000; reads = λ w. Bis (high_six w) (low_six w) } ∷
    record { pattern = 0o150000; words = 0o10000; reads = λ w. BisByte (high_six w) (low_six w) } ∷
    record { pattern = 0o060000; words = 0o10000; reads = λ w. Add (high_six w) (low_six w) } ∷
    record { pattern = 0o160000; words = 0o10000; reads = λ w. Sub (high_six w) (low_six w) } ∷
    record { pattern = 0o005000; words = 0o100; reads = λ w. Clr (low_six w) } ∷
    record { pattern = 0o105000; words = 0o100; reads = λ w. ClrByte (low_six w) } ∷
    record { pattern = 0o005100; words = 0o100; reads = λ w. Com (low_six w) } ∷
    record { pattern = 0o105100; words = 0o100; reads = λ w. ComByte (low_six w) } ∷
    record { pattern = 0o005200; words = 0o100; reads = λ w. Inc (low_six w) } ∷
    record { pattern = 0o105200; words = 0o100; reads = λ w. IncByte (low_six w) } ∷
    record { pattern = 0o005300; words = 0o100; reads = λ w. Dec (low_six w) } ∷
    record { pattern = 0o105300; words = 0o100; reads = λ w. DecByte (low_six w) } ∷
    record { pattern = 0o005400; words = 0o100; reads = λ w. Neg (low_six w) } ∷
    record { pattern = 0o105400; words = 0o100; reads = λ w. NegByte (low_six w) } ∷
    record { pattern = 0o005500; words = 0o100; reads = λ w. Adc (low_six w) } ∷
    record { pattern = 0o105500; words = 0o100; reads = λ w. AdcByte (low_six w) } ∷
    record { pattern = 0o005600; words = 0o100; reads = λ w. Sbc (low_six w) } ∷
    record { pattern = 0o105600; words = 0o100; reads = λ w. SbcByte (low_six w) } ∷
    record { pattern = 0o005700; words = 0o100; reads = λ w. Tst (low_six w) } ∷
    record { pattern = 0o105700; words = 0o100; reads = λ w. TstByte (low_six w) } ∷
    record { pattern = 0o006000; words = 0o100; reads = λ w. Ror (low_six w) } ∷
    record { pattern = 0o106000; words = 0o100; reads = λ w. RorByte (low_six w) } ∷
    record { pattern = 0o006100; words = 0o100; reads = λ w. Rol (low_six w) } ∷
    record { pattern = 0o106100; words = 0o100; reads = λ w. RolByte (low_six w) } ∷
    record { pattern = 0o006200; words = 0o100; reads = λ w. Asr (low_six w) } ∷
    record { pattern = 0o106200; words = 0o100; reads = λ w. AsrByte (low_six w) } ∷
    record { pattern = 0o006300; words = 0o100; reads = λ w. Asl (low_six w) } ∷
    record { pattern = 0o106300; words = 0o100; reads = λ w. AslByte (low_six w) } ∷
    record { pattern = 0o006700; words = 0o100; reads = λ w. Sxt (low_six w) } ∷
    record { pattern = 0o000300; words = 0o100; reads = λ w. Swab (low_six w) } ∷
    record { pattern = 0o074000; words = 0o1000; reads = λ w. Xor (high_three w) (low_six w) } ∷
    record { pattern = 0o070000; words = 0o1000; reads = λ w. Mul (high_three w) (low_six w) } ∷
    record { pattern = 0o071000; words = 0o1000; reads = λ w. Div (high_three w) (low_six w) } ∷
    record { pattern = 0o072000; words = 0o1000; reads = λ w. Ash (high_three w) (low_six w) } ∷
    record { pattern = 0o073000; words = 0o1000; reads = λ w. Ashc (high_three w) (low_six w) } ∷
    record { pattern = 0o077000; words = 0o1000; reads = λ w. Sob (high_three w) (low_six w) } ∷
    record { pattern = 0o000100; words = 0o100; reads = λ w. Jmp (low_six w) } ∷
    record { pattern = 0o004000; words = 0o1000; reads = λ w. Jsr (high_three w) (low_six w) } ∷
    record { pattern = 0o000200; words = 0o10; reads = λ w. Rts (low_three w) } ∷
    record { pattern = 0o000002; words = 1; reads = λ w. Rti } ∷
    record { pattern = 0o000006; words = 1; reads = λ w. Rtt } ∷
    record { pattern = 0o000000; words = 1; reads = λ w. Halt } ∷
    record { pattern = 0o000001; words = 1; reads = λ w. Wait } ∷
    record { pattern = 0o000005; words = 1; reads = λ w. Reset } ∷
    record { pattern = 0o000003; words = 1; reads = λ w. Bpt } ∷
    record { pattern = 0o000004; words = 1; reads = λ w. Iot } ∷
    record { pattern = 0o104000; words = 0o400; reads = λ w. Emt (low_eight w) } ∷
    record { pattern = 0o104400; words = 0o400; reads = λ w. Trap (low_eight w) } ∷
    record { pattern = 0o000240; words = 0o20; reads = λ w. ClearCodes (low_four w) } ∷
    record { pattern = 0o000260; words = 0o20; reads = λ w. SetCodes (low_four w) } ∷
    record { pattern = 0o000400; words = 0o400; reads = λ w. Br (low_eight w) } ∷
    record { pattern = 0o001000; words = 0o400; reads = λ w. Bne (low_eight w) } ∷
    record { pattern = 0o001400; words = 0o400; reads = λ w. Beq (low_eight w) } ∷
    record { pattern = 0o002000; words = 0o400; reads = λ w. Bge (low_eight w) } ∷
    record { pattern = 0o002400; words = 0o400; reads = λ w. Blt (low_eight w) } ∷
    record { pattern = 0o003000; words = 0o400; reads = λ w. Bgt (low_eight w) } ∷
    record { pattern = 0o003400; words = 0o400; reads = λ w. Ble (low_eight w) } ∷
    record { pattern = 0o100000; words = 0o400; reads = λ w. Bpl (low_eight w) } ∷
    record { pattern = 0o100400; words = 0o400; reads = λ w. Bmi (low_eight w) } ∷
    record { pattern = 0o101000; words = 0o400; reads = λ w. Bhi (low_eight w) } ∷
    record { pattern = 0o101400; words = 0o400; reads = λ w. Blos (low_eight w) } ∷
    record { pattern = 0o102000; words = 0o400; reads = λ w. Bvc (low_eight w) } ∷
    record { pattern = 0o102400; words = 0o400; reads = λ w. Bvs (low_eight w) } ∷
    record { pattern = 0o103000; words = 0o400; reads = λ w. Bcc (low_eight w) } ∷
    record { pattern = 0o103400; words = 0o400; reads = λ w. Bcs (low_eight w) } ∷
    []

-- a word is a row's where the bits in front of the fields are those of the pattern
abbrev pub is_in : Row → ℕ → Bool
is_in row w = w / row.words == row.pattern / row.words

-- the instruction of the first row that has the word
abbrev pub find : List Row → ℕ → Option Instr
find [] w = None
find (row ∷ rest) w = if is_in row w then Some (row.reads w) else find rest w

-- the instruction that a word is, if there is one
unfoldable pub instruction_of : ℕ → Option Instr
instruction_of w = find table w

-- the rows, for statements that speak of each of them
unfoldable pub rows : List Row
rows = table

-- what the table says of a word: the reading of each row that has it, so of one at most, and None where no row has it
pub record IsAnswer (w : ℕ) (answer : Option Instr) : Type 0 where
  pub each : (row : Row) → Contains rows row → is_in row w ≡ true → answer ≡ Some (row.reads w)
  pub none : All (λ row. is_in row w ≡ false) rows → answer ≡ None

-- the word of an instruction: its row's pattern with the fields in their places
abbrev pub spelled : Instr → ℕ
spelled (Mov source target) = 0o010000 + 0o100 * source.value + target.value
spelled (MovByte source target) = 0o110000 + 0o100 * source.value + target.value
spelled (Cmp source target) = 0o020000 + 0o100 * source.value + target.value
spelled (CmpByte source target) = 0o120000 + 0o100 * source.value + target.value
spelled (Bit source target) = 0o030000 + 0o100 * source.value + target.value
spelled (BitByte source target) = 0o130000 + 0o100 * source.value + target.value
spelled (Bic source target) = 0o040000 + 0o100 * source.value + target.value
spelled (BicByte source target) = 0o140000 + 0o100 * source.value + target.value
spelled (Bis source target) = 0o050000 + 0o100 * source.value + target.value
spelled (BisByte source target) = 0o150000 + 0o100 * source.value + target.value
spelled (Add source target) = 0o060000 + 0o100 * source.value + target.value
spelled (Sub source target) = 0o160000 + 0o100 * source.value + target.value
spelled (Clr target) = 0o005000 + target.value
spelled (ClrByte target) = 0o105000 + target.value
spelled (Com target) = 0o005100 + target.value
spelled (ComByte target) = 0o105100 + target.value
spelled (Inc target) = 0o005200 + target.value
spelled (IncByte target) = 0o105200 + target.value
spelled (Dec target) = 0o005300 + target.value
spelled (DecByte target) = 0o105300 + target.value
spelled (Neg target) = 0o005400 + target.value
spelled (NegByte target) = 0o105400 + target.value
spelled (Adc target) = 0o005500 + target.value
spelled (AdcByte target) = 0o105500 + target.value
spelled (Sbc target) = 0o005600 + target.value
spelled (SbcByte target) = 0o105600 + target.value
spelled (Tst target) = 0o005700 + target.value
spelled (TstByte target) = 0o105700 + target.value
spelled (Ror target) = 0o006000 + target.value
spelled (RorByte target) = 0o106000 + target.value
spelled (Rol target) = 0o006100 + target.value
spelled (RolByte target) = 0o106100 + target.value
spelled (Asr target) = 0o006200 + target.value
spelled (AsrByte target) = 0o106200 + target.value
spelled (Asl target) = 0o006300 + target.value
spelled (AslByte target) = 0o106300 + target.value
spelled (Sxt target) = 0o006700 + target.value
spelled (Swab target) = 0o000300 + target.value
spelled (Xor register target) = 0o074000 + 0o100 * register.value + target.value
spelled (Mul register source) = 0o070000 + 0o100 * register.value + source.value
spelled (Div register source) = 0o071000 + 0o100 * register.value + source.value
spelled (Ash register source) = 0o072000 + 0o100 * register.value + source.value
spelled (Ashc register source) = 0o073000 + 0o100 * register.value + source.value
spelled (Sob register offset) = 0o077000 + 0o100 * register.value + offset.value
spelled (Jmp target) = 0o000100 + target.value
spelled (Jsr register target) = 0o004000 + 0o100 * register.value + target.value
spelled (Rts register) = 0o000200 + register.value
spelled Rti = 0o000002
spelled Rtt = 0o000006
spelled Halt = 0o000000
spelled Wait = 0o000001
spelled Reset = 0o000005
spelled Bpt = 0o000003
spelled Iot = 0o000004
spelled (Emt code) = 0o104000 + code.value
spelled (Trap code) = 0o104400 + code.value
spelled (ClearCodes mask) = 0o000240 + mask.value
spelled (SetCodes mask) = 0o000260 + mask.value
spelled (Br offset) = 0o000400 + offset.value
spelled (Bne offset) = 0o001000 + offset.value
spelled (Beq offset) = 0o001400 + offset.value
spelled (Bge offset) = 0o002000 + offset.value
spelled (Blt offset) = 0o002400 + offset.value
spelled (Bgt offset) = 0o003000 + offset.value
spelled (Ble offset) = 0o003400 + offset.value
spelled (Bpl offset) = 0o100000 + offset.value
spelled (Bmi offset) = 0o100400 + offset.value
spelled (Bhi offset) = 0o101000 + offset.value
spelled (Blos offset) = 0o101400 + offset.value
spelled (Bvc offset) = 0o102000 + offset.value
spelled (Bvs offset) = 0o102400 + offset.value
spelled (Bcc offset) = 0o103000 + offset.value
spelled (Bcs offset) = 0o103400 + offset.value
