-- The rules of evaluation for single values. A value is a word; an integer is the number that its word stands for.
use Rattle.std.specs.Prelude.{ℕ, ◌-◌, ◌==◌, nat_lt, Bool, true, false, not, int_lt, if◌then◌else◌, ℤ, pos, negsuc, ◌+ℤ◌, ◌-ℤ◌, ◌*ℤ◌}
use Rattle.std.specs.Int.RustNames.{int_div, int_rem}
use Rattle.mc_tree.specs.declared.expression.Relation.{Relation}
use Rattle.mc_tree.specs.declared.expression.Relation.TheVariants.{Equal, Unequal, Less, LessEqual, Greater, GreaterEqual}
use Rattle.mc_word.specs.Word.{signed_of}

-- what an operation gives: a word, or a trap by its number
pub data Outcome : Type 0 where
  Gives : ℕ → Outcome
  Traps : ℕ → Outcome

-- the traps of single values
abbrev pub overflow : ℕ
overflow = 2

abbrev pub zero_divisor : ℕ
zero_divisor = 3

abbrev pub range : ℕ
range = 6

-- the word of an integer; past -32768 to 32767 it overflows
abbrev pub integer : ℤ → Outcome
integer (pos n) = if nat_lt 32767 n then Traps overflow else Gives n
integer (negsuc n) = if nat_lt 32767 n then Traps overflow else Gives (65535 - n)

abbrev pub added : ℕ → ℕ → Outcome
added a b = integer (signed_of a +ℤ signed_of b)

abbrev pub subtracted : ℕ → ℕ → Outcome
subtracted a b = integer (signed_of a -ℤ signed_of b)

abbrev pub multiplied : ℕ → ℕ → Outcome
multiplied a b = integer (signed_of a *ℤ signed_of b)

abbrev pub negated : ℕ → Outcome
negated a = integer (pos 0 -ℤ signed_of a)

-- The quotient truncates, and the remainder has the dividend's sign. Where the quotient overflows, both do.
abbrev pub divided : ℕ → ℕ → Outcome
divided a b = if b == 0 then Traps zero_divisor else integer (int_div (signed_of a) (signed_of b))

abbrev pub remainder_by : ℕ → ℕ → Outcome → Outcome
remainder_by a b (Traps n) = Traps n
remainder_by a b (Gives quotient) = integer (int_rem (signed_of a) (signed_of b))

abbrev pub remainder : ℕ → ℕ → Outcome
remainder a b = remainder_by a b (divided a b)

-- the character of an integer or of a character
abbrev pub character : ℕ → Outcome
character w = if nat_lt 255 w then Traps range else Gives w

-- Whether a relation holds of two scalars, which are compared by the integers that their words stand for, whatever their type.
abbrev pub holds : Relation → ℕ → ℕ → Bool
holds Equal a b = a == b
holds Unequal a b = not (a == b)
holds Less a b = int_lt (signed_of a) (signed_of b)
holds LessEqual a b = not (int_lt (signed_of b) (signed_of a))
holds Greater a b = int_lt (signed_of b) (signed_of a)
holds GreaterEqual a b = not (int_lt (signed_of a) (signed_of b))

-- the word of a truth
abbrev pub truth : Bool → ℕ
truth false = 0
truth true = 1
