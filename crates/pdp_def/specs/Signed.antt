-- Products, quotients and shifts of signed numbers in two's complement. A number of 32 bits is a high and a low word.
use Rattle.std.specs.Prelude.{ℕ, ◌+◌, ◌-◌, ◌*◌, ◌/◌, ◌%◌, ◌^◌, ◌==◌, nat_le, nat_lt, Bool, true, false, not, ◌||◌, if◌then◌else◌}
use Rattle.mc_word.specs.declared.word.Codes.{Codes}
use Rattle.pdp_def.specs.declared.operation.PairOperation.{PairOperation}
use Rattle.pdp_def.specs.declared.operation.PairOperation.TheVariants.{Multiply, Divide, Shift}
use Rattle.pdp_def.specs.declared.operation.Computed.{Computed}
use Rattle.pdp_def.specs.declared.operation.ComputedPair.{ComputedPair}
use Rattle.pdp_def.specs.declared.operation.Shifted.{Shifted}
use Rattle.pdp_def.specs.Codes.{differ}

-- half of the values of a word, and of two words: from there on they stand for negative numbers
abbrev pub word_half : ℕ
word_half = 0o100000

abbrev pub pair_half : ℕ
pair_half = 0o100000 * 0o200000

-- the size of the number that a value stands for, and the value of a number by its sign and its size
abbrev pub magnitude : ℕ → ℕ → ℕ
magnitude half x = if nat_le half x then 2 * half - x else x

abbrev pub value_of : ℕ → Bool → ℕ → ℕ
value_of half minus m = if minus then (2 * half - m) % (2 * half) else m

-- a signed word holds the number of this sign and this size
abbrev pub fits_word : Bool → ℕ → Bool
fits_word minus m = if minus then nat_le m word_half else nat_lt m word_half

abbrev pub pair_of : ℕ → Codes → ComputedPair
pair_of x codes = record { high = x / 0o200000; low = x % 0o200000; codes = codes }

-- MUL: N and Z by the 32 bits, V clear, C where the product is no signed word's
unfoldable pub product : ℕ → ℕ → ComputedPair
product a b =
    let minus : Bool = differ (nat_le word_half a) (nat_le word_half b) in
    let m : ℕ = magnitude word_half a * magnitude word_half b in
    let x : ℕ = value_of pair_half minus m in
    pair_of x (record { n = nat_le pair_half x; z = x == 0; v = false; c = not (fits_word minus m) })

-- DIV: the quotient of the sizes with the sign of both, and the remainder of the sizes with the dividend's sign. Where
-- the divisor is 0, or a signed word does not hold the quotient, the dividend stays
unfoldable pub quotient : ℕ → ℕ → ℕ → ComputedPair
quotient high low divisor =
    let x : ℕ = high * 0o200000 + low in
    let minus : Bool = differ (nat_le word_half high) (nat_le word_half divisor) in
    let m : ℕ = magnitude pair_half x / magnitude word_half divisor in
    let rest : ℕ = magnitude pair_half x % magnitude word_half divisor in
    let q : ℕ = value_of word_half minus m in
    if divisor == 0 then record { high = high; low = low; codes = record { n = false; z = false; v = true; c = true } }
    else (if fits_word minus m then record {
      high = q;
      low = value_of word_half (nat_le word_half high) rest;
      codes = record { n = nat_le word_half q; z = q == 0; v = false; c = false };
    }
    else record { high = high; low = low; codes = record { n = false; z = false; v = true; c = false } })

-- to the left: the bits from the size on fall out, the lowest of them last. The sign at each moment of the shift is one
-- of the n + 1 bits from half on: it changed unless these are all 0 or all 1
abbrev pub shifted_left : ℕ → ℕ → ℕ → Shifted
shifted_left half x n =
    let y : ℕ = x * 2 ^ n in
    record { number = y % (2 * half); out = y / (2 * half) % 2 == 1; changed = not (y / half == 0 || y / half == 2 ^ (n + 1) - 1) }

-- to the right: the sign stands in front 32 times more, and the low n bits fall out, the highest of them last
abbrev pub shifted_right : ℕ → ℕ → ℕ → Shifted
shifted_right half x n =
    let y : ℕ = x + (if nat_le half x then (2 ^ 32 - 1) * (2 * half) else 0) in
    record { number = y / 2 ^ n % (2 * half); out = y / 2 ^ (n - 1) % 2 == 1; changed = false }

-- a count of six bits is a signed number: below 32 to the left, else to the right by what it lacks of 64
unfoldable pub shifted : ℕ → ℕ → ℕ → Shifted
shifted half x count = if nat_lt count 32 then shifted_left half x count else shifted_right half x (64 - count)

-- N and Z by the result, V where the sign changed at any moment, C the last bit that fell out
abbrev pub shift_codes : ℕ → Shifted → Codes
shift_codes half s = record { n = nat_le half s.number; z = s.number == 0; v = s.changed; c = s.out }

-- ASH: one word, shifted by the source's low six bits
unfoldable pub shifted_word : ℕ → ℕ → Computed
shifted_word a source =
    let s : Shifted = shifted word_half a (source % 64) in
    record { word = s.number; codes = shift_codes word_half s }

-- ASHC: two words, likewise
unfoldable pub shifted_pair : ℕ → ℕ → ℕ → ComputedPair
shifted_pair high low source =
    let s : Shifted = shifted pair_half (high * 0o200000 + low) (source % 64) in
    pair_of s.number (shift_codes pair_half s)

-- what MUL, DIV and ASHC compute of a register, its partner and the source
unfoldable pub paired : PairOperation → ℕ → ℕ → ℕ → ComputedPair
paired Multiply high low source = product high source
paired Divide high low source = quotient high low source
paired Shift high low source = shifted_pair high low source
