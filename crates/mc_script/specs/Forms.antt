-- The forms of a script's lines, with the values and the order that are allowed (own).
use Rattle.std.specs.Prelude.{◌≡◌, ◌≢◌, ℕ, ◌+◌, ◌-◌, ◌*◌, ◌≤◌, Bool, true, false, nat_le, nat_lt, ◌&&◌, if◌then◌else◌, List, [], ◌∷◌, ◌++◌, codes, fold, Option, Some, None, IsSome, unwrap_or}
use Rattle.mc_script.specs.declared.script.Key.{Key}
use Rattle.mc_script.specs.declared.setting.Setting.{Setting}
use Rattle.mc_script.specs.declared.setting.Setting.TheVariants.{Printer, Reader, Punch, Clock, Limit}
use Rattle.mc_script.specs.Script.{AreBytes, ScriptState, IsWithin}

-- what a line says: a key is struck at a time; bytes are on the tape; a delay, the clock or the limit has a value
pub data Form : Type 0 where
  Strikes : ℕ → ℕ → Form
  Tape : List ℕ → Form
  Sets : Setting → ℕ → Form

-- a digit of a base of at most ten
abbrev pub is_digit : ℕ → ℕ → Bool
is_digit base b = nat_le 48 b && nat_lt b (48 + base)

abbrev pub AreDigits : ℕ → List ℕ → Type 0
AreDigits base [] = Unit {0}
AreDigits base (b ∷ digits) = (is_digit base b ≡ true) × AreDigits base digits

-- the value of digits; leading zeros are allowed, and there is no greatest value
abbrev pub value : ℕ → List ℕ → ℕ
value base digits = fold (λ n b. n * base + (b - 48)) 0 digits

-- one or more digits with this value
pub record IsNumeral (base : ℕ) (digits : List ℕ) (n : ℕ) : Type 0 where
  pub some : digits ≢ []
  pub each : AreDigits base digits
  pub is : n ≡ value base digits

abbrev pub AreNumerals : ℕ → List (List ℕ) → List ℕ → Type 0
AreNumerals base [] [] = Unit {0}
AreNumerals base [] (n ∷ ns) = ⊥
AreNumerals base (digits ∷ numerals) [] = ⊥
AreNumerals base (digits ∷ numerals) (n ∷ ns) = IsNumeral base digits n × AreNumerals base numerals ns

-- the words before a value
abbrev pub words_of : Setting → List (List ℕ)
words_of Printer = codes "delay" ∷ codes "printer" ∷ []
words_of Reader = codes "delay" ∷ codes "reader" ∷ []
words_of Punch = codes "delay" ∷ codes "punch" ∷ []
words_of Clock = codes "clock" ∷ []
words_of Limit = codes "limit" ∷ []

-- The fields are `at DEC key OCT`; `tape OCT OCT ..`, with one or more; or the words of a setting and DEC.
abbrev pub IsForm : List (List ℕ) → Form → Type 0
IsForm line (Strikes time byte) =
    (t : List ℕ) × (b : List ℕ) × IsNumeral 10 t time × IsNumeral 8 b byte × (line ≡ codes "at" ∷ t ∷ codes "key" ∷ b ∷ [])
IsForm line (Tape bytes) =
    (numerals : List (List ℕ)) × (numerals ≢ []) × AreNumerals 8 numerals bytes × (line ≡ codes "tape" ∷ numerals)
IsForm line (Sets setting n) = (digits : List ℕ) × IsNumeral 10 digits n × (line ≡ words_of setting ++ digits ∷ [])

abbrev pub greatest_of : Setting → ℕ
greatest_of Printer = 1000000
greatest_of Reader = 1000000
greatest_of Punch = 1000000
greatest_of Clock = 20000000
greatest_of Limit = 20000000

abbrev pub IsInRange : Form → Type 0
IsInRange (Strikes time byte) = IsWithin 20000000 time × (byte ≤ 255)
IsInRange (Tape bytes) = AreBytes bytes
IsInRange (Sets setting n) = IsWithin (greatest_of setting) n

-- What forms say together

abbrev pub keys_of : List Form → List Key
keys_of [] = []
keys_of (Strikes time byte ∷ forms) = record { at = time; byte = byte } ∷ keys_of forms
keys_of (Tape bytes ∷ forms) = keys_of forms
keys_of (Sets setting n ∷ forms) = keys_of forms

abbrev pub tape_of : List Form → List ℕ
tape_of [] = []
tape_of (Strikes time byte ∷ forms) = tape_of forms
tape_of (Tape bytes ∷ forms) = bytes ++ tape_of forms
tape_of (Sets setting n ∷ forms) = tape_of forms

abbrev pub same_setting : Setting → Setting → Bool
same_setting Printer Printer = true
same_setting Reader Reader = true
same_setting Punch Punch = true
same_setting Clock Clock = true
same_setting Limit Limit = true
same_setting _ _ = false

-- the value that a setting is given, where it is given one
abbrev pub value_of : Setting → List Form → Option ℕ
value_of setting [] = None
value_of setting (Strikes time byte ∷ forms) = value_of setting forms
value_of setting (Tape bytes ∷ forms) = value_of setting forms
value_of setting (Sets other n ∷ forms) = if same_setting setting other then Some n else value_of setting forms

-- the time of the last key; 0 where there is none
abbrev pub last_time : List Form → ℕ
last_time forms = fold (λ time key. key.at) 0 (keys_of forms)

-- the script of these lines, with the usual values where none is given
abbrev pub script_of : List Form → ScriptState
script_of forms =
    record {
      keys = keys_of forms;
      tape = tape_of forms;
      printer = unwrap_or (value_of Printer forms) 300;
      reader = unwrap_or (value_of Reader forms) 200;
      punch = unwrap_or (value_of Punch forms) 400;
      clock = value_of Clock forms;
      limit = unwrap_or (value_of Limit forms) 1000000;
    }

-- Order of lines

-- the same setting stood in a line before
abbrev pub Repeats : Form → List Form → Type 0
Repeats (Strikes time byte) before = ⊥
Repeats (Tape bytes) before = ⊥
Repeats (Sets setting n) before = IsSome (value_of setting before)

-- a key's time is not greater than that of the key before it
abbrev pub GoesBack : Form → List Form → Type 0
GoesBack (Strikes time byte) before = time ≤ last_time before
GoesBack (Tape bytes) before = ⊥
GoesBack (Sets setting n) before = ⊥

pub record IsGood (form : Form) (before : List Form) : Type 0 where
  pub in_range : IsInRange form
  pub once : ¬ Repeats form before
  pub forward : ¬ GoesBack form before
