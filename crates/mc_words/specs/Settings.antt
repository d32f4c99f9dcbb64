-- What the text of settings says, or why it is refused. The keys and their ranges are this project's own.
use Rattle.std.specs.Prelude.{◌≡◌, ℕ, ℤ, pos, negsuc, nat_le, Bool, true, ◌&&◌, ◌||◌, List, codes, Option, Some, None, Result, Ok, Err, if◌then◌else◌}
use Rattle.std.proofs.Common.{sym, ap, ◌∙◌}
use Rattle.std.specs.Str.{bytes_eq, IsUtf8}
use Rattle.mc_word.specs.declared.word.Settings.{Settings}
use Rattle.toml.specs.Data.{Data, Members, no_members, member, get_member, as_integer}
use Rattle.toml.specs.Parse.{parse_document}
use Rattle.mc_words.specs.declared.setting_fault.SettingFault.{SettingFault}
use Rattle.mc_words.specs.declared.setting_fault.SettingFault.TheVariants.{NotToml, UnknownKey, BadKind, OutOfRange}

pub record Numbers : Type 0 where
  -- the words of each process's workspace
  pub workspace_words : ℕ
  -- how many processes there may be at one time
  pub processes : ℕ

abbrev pub numbers_of : Settings → Numbers
numbers_of s = record { workspace_words = s.workspace_words; processes = s.processes }

abbrev pub is_known : List ℕ → Bool
is_known key = bytes_eq key (codes "workspace_words") || bytes_eq key (codes "processes")

-- the table has no key but these two
abbrev pub are_known : Members → Bool
are_known no_members = true
are_known (member key value members) = is_known key && are_known members

infixl 10 ◌>>=◌
abbrev pub ◌>>=◌ : {A B : Type 0} → Result A SettingFault → (A → Result B SettingFault) → Result B SettingFault
(Ok a) >>= f = f a
(Err fault) >>= f = Err fault

abbrev pub an_integer : Option ℤ → Result (Option ℤ) SettingFault
an_integer None = Err BadKind
an_integer (Some z) = Ok (Some z)

-- the integer at a key, where there is a value
unfoldable pub number_of : Option Data → Result (Option ℤ) SettingFault
number_of None = Ok None
number_of (Some value) = an_integer (as_integer value)

-- the number, if it lies from `least` to `most`, and the usual one where there is none
unfoldable pub within : ℕ → ℕ → ℕ → Option ℤ → Result ℕ SettingFault
within usual least most None = Ok usual
within usual least most (Some (pos n)) = if nat_le least n && nat_le n most then Ok n else Err OutOfRange
within usual least most (Some (negsuc n)) = Err OutOfRange

-- Both values must be integers before a range is looked at.
unfoldable pub chosen : Members → Result Numbers SettingFault
chosen members = do
  workspace ← number_of (get_member (codes "workspace_words") members)
  processes ← number_of (get_member (codes "processes") members)
  w ← within 200 64 4096 workspace
  p ← within 16 2 32 processes
  Ok (record { workspace_words = w; processes = p })

abbrev pub settings_in : Members → Result Numbers SettingFault
settings_in members = if are_known members then chosen members else Err UnknownKey

-- what is answered to the bytes of a settings file
pub data AnswersSettings (bytes : List ℕ) (answer : Result Numbers SettingFault) : Type 0 where
  no_toml : (IsUtf8 bytes → parse_document bytes ≡ None) → answer ≡ Err NotToml → AnswersSettings bytes answer
  table : (members : Members) → IsUtf8 bytes → parse_document bytes ≡ Some members → answer ≡ settings_in members → AnswersSettings bytes answer

-- There is one answer.
pub AnswersSettings-unique : (bytes : List ℕ) (a b : Result Numbers SettingFault) → AnswersSettings bytes a → AnswersSettings bytes b → a ≡ b
AnswersSettings-unique bytes a b (no_toml lacks e) (no_toml also f) = e ∙ sym f
AnswersSettings-unique bytes a b (no_toml lacks e) (table found u is f) = let none = lacks u in cc
AnswersSettings-unique bytes a b (table found u is e) (no_toml lacks f) = let none = lacks u in cc
AnswersSettings-unique bytes a b (table found u is e) (table other v also f) =
    let same : found ≡ other = cc in e ∙ ap settings_in same ∙ sym f
