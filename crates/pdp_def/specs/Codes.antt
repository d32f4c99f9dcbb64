-- Values of a byte or a word, the condition codes, and what one- and two-operand instructions compute.
use Rattle.std.specs.Prelude.{ℕ, ◌+◌, ◌-◌, ◌*◌, ◌/◌, ◌%◌, ◌==◌, nat_le, nat_lt, Bool, true, false, not, ◌&&◌, ◌||◌, bit_and, bit_or, bit_xor, if◌then◌else◌}
use Rattle.mc_word.specs.declared.word.Codes.{Codes}
use Rattle.pdp_def.specs.declared.operation.Width.{Width}
use Rattle.pdp_def.specs.declared.operation.Width.TheVariants.{Byte, Word}
use Rattle.pdp_def.specs.declared.operation.BinaryOperation.{BinaryOperation}
use Rattle.pdp_def.specs.declared.operation.BinaryOperation.TheVariants.{Compare, And, AndNot, Or, ExclusiveOr, Plus, Minus}
use Rattle.pdp_def.specs.declared.operation.UnaryOperation.{UnaryOperation}
use Rattle.pdp_def.specs.declared.operation.UnaryOperation.TheVariants.{Complement, Increment, Decrement, Negate, AddCarry, SubtractCarry, RotateRight, RotateLeft, ShiftRight, ShiftLeft, SwapBytes}
use Rattle.pdp_def.specs.declared.operation.Condition.{Condition}
use Rattle.pdp_def.specs.declared.operation.Condition.TheVariants.{Always, NotEqual, Equal, GreaterOrEqual, Less, Greater, LessOrEqual, NotNegative, Negative, Higher, LowerOrSame, OverflowClear, OverflowSet, CarryClear, CarrySet}
use Rattle.pdp_def.specs.declared.operation.Computed.{Computed}

-- how many values a width has; the lower half of them has the sign 0
abbrev pub size : Width → ℕ
size Byte = 256
size Word = 65536

abbrev pub half : Width → ℕ
half Byte = 128
half Word = 32768

abbrev pub is_minus : Width → ℕ → Bool
is_minus width a = nat_le (half width) a

abbrev pub differ : Bool → Bool → Bool
differ a b = if a then not b else b

abbrev pub bit : Bool → ℕ → ℕ
bit b unit = if b then unit else 0

-- the codes of a status word: N 8, Z 4, V 2, C 1
abbrev pub has_n : ℕ → Bool
has_n ps = ps / 8 % 2 == 1

abbrev pub has_z : ℕ → Bool
has_z ps = ps / 4 % 2 == 1

abbrev pub has_v : ℕ → Bool
has_v ps = ps / 2 % 2 == 1

abbrev pub has_c : ℕ → Bool
has_c ps = ps % 2 == 1

-- the status word with other condition codes
abbrev pub with_codes : ℕ → Codes → ℕ
with_codes ps k = ps / 16 * 16 + (bit k.n 8 + bit k.z 4 + bit k.v 2 + bit k.c 1)

-- N and Z by the result, with this V and this C
abbrev pub codes_of : Width → ℕ → Bool → Bool → Codes
codes_of width r v c = record { n = is_minus width r; z = r == 0; v = v; c = c }

-- the codes of a value that is moved: N and Z by it, V clear, C as before
abbrev pub moved_in : Width → ℕ → ℕ → Codes
moved_in width a ps = codes_of width a false (has_c ps)

-- those of a word
abbrev pub moved_codes : ℕ → ℕ → Codes
moved_codes w ps = moved_in Word w ps

-- the codes whose bits a mask has, cleared or set
abbrev pub cleared_codes : ℕ → ℕ → Codes
cleared_codes mask ps =
    record {
      n = has_n ps && not (has_n mask);
      z = has_z ps && not (has_z mask);
      v = has_v ps && not (has_v mask);
      c = has_c ps && not (has_c mask);
    }

abbrev pub added_codes : ℕ → ℕ → Codes
added_codes mask ps =
    record { n = has_n ps || has_n mask; z = has_z ps || has_z mask; v = has_v ps || has_v mask; c = has_c ps || has_c mask }

-- the codes that SXT sets, by N as it was: Z is its opposite, V is clear, N and C stay
abbrev pub extension_codes : ℕ → Codes
extension_codes ps = record { n = has_n ps; z = not (has_n ps); v = false; c = has_c ps }

-- a result, with N and Z by it and with this V and this C
abbrev pub computed : Width → ℕ → Bool → Bool → Computed
computed width r v c = record { word = r; codes = codes_of width r v c }

-- a sum: V where equal signs give another sign, C where it carries
abbrev pub sum_in : Width → ℕ → ℕ → Computed
sum_in width a b =
    let r : ℕ = (a + b) % size width in
    computed width r (not (differ (is_minus width a) (is_minus width b)) && differ (is_minus width a) (is_minus width r)) (nat_le (size width) (a + b))

-- a difference: V where the signs differ and the result has the second's, C where it borrows
abbrev pub difference_in : Width → ℕ → ℕ → Computed
difference_in width a b =
    let r : ℕ = (a + (size width - b)) % size width in
    computed width r (differ (is_minus width a) (is_minus width b) && not (differ (is_minus width b) (is_minus width r))) (nat_lt a b)

-- what a two-operand instruction computes of its source, its target and C: BIT, BIC, BIS and XOR clear V and leave C
unfoldable pub combined : BinaryOperation → Width → ℕ → ℕ → Bool → Computed
combined Compare width source target c = difference_in width source target
combined And width source target c = computed width (bit_and source target) false c
combined AndNot width source target c = computed width (bit_and target (65535 - source)) false c
combined Or width source target c = computed width (bit_or target source) false c
combined ExclusiveOr width source target c = computed width (bit_xor target source) false c
combined Plus width source target c = sum_in width target source
combined Minus width source target c = difference_in width target source

-- a result that was shifted by one place: V is N xor C
abbrev pub shifted_by_one : Width → ℕ → Bool → Computed
shifted_by_one width r c = computed width r (differ (is_minus width r) c) c

-- what a one-operand instruction computes of its target and C
unfoldable pub altered : UnaryOperation → Width → ℕ → Bool → Computed
altered Complement width a c = computed width (size width - 1 - a) false true
-- V where it was the greatest, or the least
altered Increment width a c = computed width ((a + 1) % size width) (a == half width - 1) c
altered Decrement width a c = computed width ((a + (size width - 1)) % size width) (a == half width) c
-- V where the result is the least, C where it is not 0
altered Negate width a c =
    let r : ℕ = (size width - a) % size width in
    computed width r (r == half width) (not (r == 0))
-- V where C was set at the greatest, C where C was set at all ones
altered AddCarry width a c = computed width ((a + bit c 1) % size width) (c && a == half width - 1) (c && a == size width - 1)
-- V where C was set at the least, C where C was set at 0
altered SubtractCarry width a c = computed width ((a + (size width - bit c 1)) % size width) (c && a == half width) (c && a == 0)
-- the bit that falls out is C
altered RotateRight width a c = shifted_by_one width (a / 2 + bit c (half width)) (a % 2 == 1)
altered RotateLeft width a c = shifted_by_one width ((2 * a + bit c 1) % size width) (is_minus width a)
altered ShiftRight width a c = shifted_by_one width (a / 2 + bit (is_minus width a) (half width)) (a % 2 == 1)
altered ShiftLeft width a c = shifted_by_one width (2 * a % size width) (is_minus width a)
-- N and Z by the new low byte, V and C clear
altered SwapBytes width a c =
    record { word = a % 256 * 256 + a / 256; codes = codes_of Byte (a / 256) false false }

-- what a branch tests in the status word
unfoldable pub holds : Condition → ℕ → Bool
holds Always ps = true
holds NotEqual ps = not (has_z ps)
holds Equal ps = has_z ps
holds GreaterOrEqual ps = not (differ (has_n ps) (has_v ps))
holds Less ps = differ (has_n ps) (has_v ps)
holds Greater ps = not (has_z ps) && not (differ (has_n ps) (has_v ps))
holds LessOrEqual ps = has_z ps || differ (has_n ps) (has_v ps)
holds NotNegative ps = not (has_n ps)
holds Negative ps = has_n ps
holds Higher ps = not (has_c ps) && not (has_z ps)
holds LowerOrSame ps = has_c ps || has_z ps
holds OverflowClear ps = not (has_v ps)
holds OverflowSet ps = has_v ps
holds CarryClear ps = not (has_c ps)
holds CarrySet ps = has_c ps
