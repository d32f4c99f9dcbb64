-- What the words behind a command say: options and positional words, read from left to right. The form of the words is
-- this project's own.
use Rattle.std.specs.Prelude.{ℕ, suc, ◌==◌, Bool, true, false, List, [], ◌∷◌, ◌++◌, codes, Option, Some, None, option_and_then, if◌then◌else◌}
use Rattle.std.specs.List.{list_any, before_first, after_first}
use Rattle.std.specs.Str.{bytes_eq}

-- how a word looks
pub data Look : Type 0 where
  -- `--`
  Ends : Look
  -- `--NAME` or `--NAME=VALUE`
  Named : List ℕ → Option (List ℕ) → Look
  -- a `-` with something else behind it
  Short : Look
  -- any other word, and `-` itself
  Plain : Look

-- `=`
abbrev pub is_equals : ℕ → Bool
is_equals b = b == 61

-- what stands behind two hyphens
abbrev pub look_named : List ℕ → Look
look_named [] = Ends
look_named (x ∷ xs) =
    Named (before_first is_equals (x ∷ xs)) (if list_any is_equals (x ∷ xs) then Some (after_first is_equals (x ∷ xs)) else None)

-- what stands behind one
abbrev pub look_behind : List ℕ → Look
look_behind [] = Plain
look_behind (c ∷ rest) = if c == 45 then look_named rest else Short

abbrev pub look_of : List ℕ → Look
look_of [] = Plain
look_of (b ∷ rest) = if b == 45 then look_behind rest else Plain

-- what has been read so far
pub record Reading : Type 0 where
  -- how often `--journal` stood
  pub journals : ℕ
  -- the values of `--settings`
  pub settings : List (List ℕ)
  pub positionals : List (List ℕ)
  -- the next word is the value of `--settings`
  pub wants : Bool
  -- `--` has ended the options
  pub ended : Bool

abbrev pub nothing_read : Reading
nothing_read = record { journals = 0; settings = []; positionals = []; wants = false; ended = false }

abbrev pub with_positional : Reading → List ℕ → Reading
with_positional r word = record r { positionals = r.positionals ++ word ∷ [] }

abbrev pub with_settings : Reading → List ℕ → Reading
with_settings r value = record r { settings = r.settings ++ value ∷ []; wants = false }

-- `--journal` has no value
abbrev pub reads_journal : Reading → Option (List ℕ) → Option Reading
reads_journal r None = Some (record r { journals = suc r.journals })
reads_journal r (Some value) = None

-- `--settings` has its value behind `=`, or as the next word
abbrev pub reads_settings : Reading → Option (List ℕ) → Option Reading
reads_settings r None = Some (record r { wants = true })
reads_settings r (Some value) = Some (with_settings r value)

abbrev pub reads_named : Reading → List ℕ → Option (List ℕ) → Option Reading
reads_named r name value =
    if bytes_eq (codes "journal") name then reads_journal r value
    else (if bytes_eq (codes "settings") name then reads_settings r value else None)

-- a word that is no value of an option
abbrev pub reads_look : Reading → List ℕ → Look → Option Reading
reads_look r word Ends = Some (record r { ended = true })
reads_look r word (Named name value) = reads_named r name value
reads_look r word Short = None
reads_look r word Plain = Some (with_positional r word)

-- the value of `--settings` is no option
abbrev pub reads_value : Reading → List ℕ → Look → Option Reading
reads_value r word Plain = Some (with_settings r word)
reads_value r word Ends = None
reads_value r word (Named name value) = None
reads_value r word Short = None

-- one word more; none where it can't stand there
abbrev pub reads_word : Reading → List ℕ → Option Reading
reads_word r word =
    if r.ended then Some (with_positional r word)
    else (if r.wants then reads_value r word (look_of word) else reads_look r word (look_of word))

-- all words; none where one can't stand, or the value of `--settings` is missing
abbrev pub reads_all : Reading → List (List ℕ) → Option Reading
reads_all r [] = if r.wants then None else Some r
reads_all r (word ∷ words) = option_and_then (λ s. reads_all s words) (reads_word r word)

-- what is left of that at the end of the words
pub record Parts : Type 0 where
  pub journals : ℕ
  pub settings : List (List ℕ)
  pub positionals : List (List ℕ)

abbrev pub parts_of : Reading → Parts
parts_of r = record { journals = r.journals; settings = r.settings; positionals = r.positionals }
