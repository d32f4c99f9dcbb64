-- A line's form as a function of its fields, word by word.
use Rattle.std.specs.Prelude.{◌≡◌, ℕ, Bool, true, false, ◌&&◌, if◌then◌else◌, List, [], ◌∷◌, map, codes, Option, Some, None, option_and_then}
use Rattle.std.specs.List.{list_all}
use Rattle.std.specs.Str.{bytes_eq}
use Rattle.mc_script.specs.declared.setting.Setting.{Setting}
use Rattle.mc_script.specs.declared.setting.Setting.TheVariants.{Printer, Reader, Punch, Clock, Limit}
use Rattle.mc_script.specs.declared.line.Line.{Line}
use Rattle.mc_script.specs.declared.line.Line.TheVariants as line
use Rattle.mc_script.specs.Lines.{has_bytes, fields}
use Rattle.mc_script.specs.Forms.{Form, Strikes, Tape, Sets, is_digit, value}

-- What a function found, seen by `view`, is what reading finds.
abbrev pub Finds : {X Y : Type 0} → (X → Y) → Option X → Option Y → Type 0
Finds view None read = read ≡ None
Finds view (Some x) read = read ≡ Some (view x)

infixl 10 ◌>>=◌
abbrev pub ◌>>=◌ : {A B : Type 0} → Option A → (A → Option B) → Option B
o >>= f = option_and_then f o

unfoldable pub is_numeral : ℕ → List ℕ → Bool
is_numeral base field = has_bytes field && list_all (is_digit base) field

-- the numeral in the first field, and the fields behind it
unfoldable pub numeral_of : ℕ → List (List ℕ) → Option (List ℕ × List (List ℕ))
numeral_of base [] = None
numeral_of base (field ∷ others) = if is_numeral base field then Some (field, others) else None

-- the fields behind a word
unfoldable pub behind_of : List ℕ → List (List ℕ) → Option (List (List ℕ))
behind_of word [] = None
behind_of word (field ∷ others) = if bytes_eq field word then Some others else None

unfoldable pub ended_of : List (List ℕ) → Option (Unit {0})
ended_of [] = Some tt
ended_of (field ∷ others) = None

unfoldable pub sets_of : Setting → List (List ℕ) → Option Form
sets_of setting words = do
  n ← numeral_of 10 words
  end ← ended_of n.1
  Some (Sets setting (value 10 n.0))

unfoldable pub delay_of : List (List ℕ) → Option Form
delay_of [] = None
delay_of (device ∷ words) =
    if bytes_eq device (codes "printer") then sets_of Printer words else (if bytes_eq device (codes "reader") then sets_of Reader words
    else (if bytes_eq device (codes "punch") then sets_of Punch words else None))

unfoldable pub strikes_of : List (List ℕ) → Option Form
strikes_of words = do
  time ← numeral_of 10 words
  key ← behind_of (codes "key") time.1
  byte ← numeral_of 8 key
  end ← ended_of byte.1
  Some (Strikes (value 10 time.0) (value 8 byte.0))

abbrev pub has_fields : List (List ℕ) → Bool
has_fields [] = false
has_fields (field ∷ words) = true

unfoldable pub tape_of : List (List ℕ) → Option Form
tape_of words = if has_fields words && list_all (is_numeral 8) words then Some (Tape (map (value 8) words)) else None

unfoldable pub form_of : List (List ℕ) → Option Form
form_of [] = None
form_of (word ∷ words) =
    if bytes_eq word (codes "at") then strikes_of words else (if bytes_eq word (codes "tape") then tape_of words
    else (if bytes_eq word (codes "delay") then delay_of words else (if bytes_eq word (codes "clock") then sets_of Clock words
    else (if bytes_eq word (codes "limit") then sets_of Limit words else None))))

-- the form of a line that was read
abbrev pub form_in : Line → Form
form_in (line.Strikes time byte) = Strikes (value 10 time.now) (value 8 byte.now)
form_in (line.Tape numerals) = Tape (map (value 8) (fields numerals.now))
form_in (line.Sets setting n) = Sets setting (value 10 n.now)
