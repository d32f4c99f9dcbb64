-- Words of 16 bits as numbers below 65536, and the condition codes of their sums and differences.
use Rattle.std.specs.Prelude.{ℕ, ◌+◌, ◌-◌, ◌%◌, Bool, ◌==◌, nat_le, nat_lt, not, ◌&&◌, if◌then◌else◌, ℤ, pos, negsuc, ◌<ℤ◌, ◌⊎◌}
use Rattle.mc_word.specs.declared.word.Codes.{Codes}

-- the sign of a word: negative from 100000 octal on
abbrev pub is_negative : ℕ → Bool
is_negative w = nat_le 0o100000 w

-- two words have the same sign
abbrev pub same_sign : ℕ → ℕ → Bool
same_sign a b = if is_negative a then is_negative b else not (is_negative b)

-- the number that a word stands for, from -32768 to 32767
abbrev pub signed_of : ℕ → ℤ
signed_of w = if is_negative w then negsuc (0o177777 - w) else pos w

-- a number that no word stands for
abbrev pub Overflows : ℤ → Type 0
Overflows z = (z <ℤ negsuc 32767) ⊎ (pos 32767 <ℤ z)

-- the word of a sum and of a difference
abbrev pub sum_of : ℕ → ℕ → ℕ
sum_of a b = (a + b) % 0o200000

abbrev pub difference_of : ℕ → ℕ → ℕ
difference_of a b = (a + (0o200000 - b)) % 0o200000

-- the codes of a sum: V where equal signs give another sign, C where it carries
abbrev pub sum_codes : ℕ → ℕ → Codes
sum_codes a b =
    record {
      n = is_negative (sum_of a b);
      z = sum_of a b == 0;
      v = same_sign a b && not (same_sign a (sum_of a b));
      c = nat_le 0o200000 (a + b);
    }

-- the codes of a difference: V where the signs differ and the result has the second's, C where it borrows
abbrev pub difference_codes : ℕ → ℕ → Codes
difference_codes a b =
    record {
      n = is_negative (difference_of a b);
      z = difference_of a b == 0;
      v = not (same_sign a b) && same_sign b (difference_of a b);
      c = nat_lt a b;
    }

-- a byte as a word of the same sign
abbrev pub extended : ℕ → ℕ
extended b = if nat_lt b 0o200 then b else b + 0o177400
