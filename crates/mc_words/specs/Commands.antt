-- Which command the words name, and with what. The commands are this project's own.
use Rattle.std.specs.Prelude.{ℕ, ◌+◌, ◌-◌, ◌*◌, ◌==◌, nat_le, Bool, true, false, ◌&&◌, not, List, [], ◌∷◌, fold, codes, Option, Some, None, option_map, option_and_then, is_some, if◌then◌else◌}
use Rattle.std.specs.List.{list_all}
use Rattle.std.specs.Str.{bytes_eq}
use Rattle.mc_words.specs.declared.command.Command.{Command}
use Rattle.mc_words.specs.declared.command.Command.TheVariants as said
use Rattle.mc_words.specs.Options.{Parts, parts_of, nothing_read, reads_all}

-- a command with the names as texts
pub data Order : Type 0 where
  -- a source, a script, settings, and whether events and grants are reported
  Run : List ℕ → List ℕ → Option (List ℕ) → Bool → Order
  -- a source, an image, settings
  Compile : List ℕ → List ℕ → Option (List ℕ) → Order
  -- an image, a script, and whether events and grants are reported
  Exec : List ℕ → List ℕ → Bool → Order
  -- a source
  Check : List ℕ → Order
  Generate : ℕ → Order
  OwnRun : ℕ → Order

abbrev pub order_of : Command → Order
order_of (said.Run source script settings journal) = Run source.now script.now (option_map (λ s. s.now) settings) journal
order_of (said.Compile source image settings) = Compile source.now image.now (option_map (λ s. s.now) settings)
order_of (said.Exec image script journal) = Exec image.now script.now journal
order_of (said.Check source) = Check source.now
order_of (said.Generate n) = Generate n
order_of (said.OwnRun n) = OwnRun n

-- at most one `--journal`, and whether it stands there
unfoldable pub flag_of : ℕ → Option Bool
flag_of n = if n == 0 then Some false else (if n == 1 then Some true else None)

-- at most one `--settings`, and its value
abbrev pub value_in : List (List ℕ) → Option (Option (List ℕ))
value_in [] = Some None
value_in (value ∷ []) = Some (Some value)
value_in (value ∷ other ∷ values) = None

abbrev pub is_digit : ℕ → Bool
is_digit b = nat_le 48 b && nat_le b 57

abbrev pub number_of : List ℕ → ℕ
number_of digits = fold (λ value digit. value * 10 + (digit - 48)) 0 digits

-- one or more decimal digits of a value from 1 to 26
unfoldable pub count_of : List ℕ → Option ℕ
count_of digits =
    if list_all is_digit digits && (nat_le 1 (number_of digits) && nat_le (number_of digits) 26) then Some (number_of digits) else None

-- the positional words, where there are as many as a command wants
abbrev pub single_of : List (List ℕ) → Option (List ℕ)
single_of [] = None
single_of (word ∷ []) = Some word
single_of (word ∷ other ∷ words) = None

abbrev pub pair_of : List (List ℕ) → Option (List ℕ × List ℕ)
pair_of [] = None
pair_of (first ∷ []) = None
pair_of (first ∷ second ∷ []) = Some (first, second)
pair_of (first ∷ second ∷ third ∷ words) = None

infixl 10 ◌>>=◌
abbrev pub ◌>>=◌ : {A B : Type 0} → Option A → (A → Option B) → Option B
o >>= f = option_and_then f o

-- a command of two names
abbrev pub of_two : (List ℕ → List ℕ → Order) → List (List ℕ) → Option Order
of_two make words = do
  names ← pair_of words
  Some (make names.0 names.1)

-- a command of one word
abbrev pub of_word : List ℕ → List ℕ → Option Order
of_word name word =
    if bytes_eq name (codes "check") then Some (Check word)
    else (if bytes_eq name (codes "generate") then option_map Generate (count_of word)
    else (if bytes_eq name (codes "self") then option_map OwnRun (count_of word) else None))

-- a command that has no options
unfoldable pub without_options : List ℕ → List (List ℕ) → Option Order
without_options name words = do
  word ← single_of words
  of_word name word

-- a command with its options, of which it must have each one that stands there
unfoldable pub by_name : List ℕ → Bool → Option (List ℕ) → List (List ℕ) → Option Order
by_name name journal settings words =
    if bytes_eq name (codes "run") then of_two (λ source script. Run source script settings journal) words
    else (if bytes_eq name (codes "compile") && not journal then of_two (λ source image. Compile source image settings) words
    else (if is_some settings then None
    else (if bytes_eq name (codes "exec") then of_two (λ image script. Exec image script journal) words
    else (if journal then None else without_options name words))))

-- no option may stand twice
unfoldable pub named : List ℕ → Parts → Option Order
named name parts = do
  journal ← flag_of parts.journals
  settings ← value_in parts.settings
  by_name name journal settings parts.positionals

-- the command that the words name
abbrev pub command_of : List (List ℕ) → Option Order
command_of [] = None
command_of (name ∷ words) = option_and_then (λ r. named name (parts_of r)) (reads_all nothing_read words)
