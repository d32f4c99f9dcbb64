-- The number at the front of bytes.
use Rattle.std.specs.Prelude.{◌≡◌, ◌≤◌, ◌<◌, ℕ, ◌+◌, List, ◌++◌, length, take, drop}
use Rattle.mc_tree.specs.declared.token.Kind.{Kind}
use Rattle.mc_tree.specs.declared.token.Kind.TheVariants.{Number, Char}
use Rattle.mc_tree.specs.Spellings.{Form, Decimal, Octal, Character, is_digit_of, mark_of, Each, IsLongest}
use Rattle.mc_scan.specs.declared.number.Form.{Form as NumberForm}
use Rattle.mc_scan.specs.declared.number.Form.TheVariants.{Decimal as DecimalForm, Octal as OctalForm, Character as CharacterForm}

abbrev pub kind_of : Form → ℕ → Kind
kind_of Decimal value = Number value
kind_of Octal value = Number value
kind_of Character value = Char value

abbrev pub form_of : NumberForm → Form
form_of DecimalForm = Decimal
form_of OctalForm = Octal
form_of CharacterForm = Character

-- n digits and the form's mark are the longest token at the front
pub record IsNumeralFront (form : Form) (n : ℕ) (bytes : List ℕ) : Type 0 where
  pub within : n + length (mark_of form) ≤ length bytes
  pub some : 0 < n
  pub digits : Each (is_digit_of form) (take n bytes)
  pub marked : take (n + length (mark_of form)) bytes ≡ take n bytes ++ mark_of form
  pub longest : IsLongest (take (n + length (mark_of form)) bytes) (drop (n + length (mark_of form)) bytes)
