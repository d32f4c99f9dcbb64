-- How far a script is read.
use Rattle.std.specs.Prelude.{◌≡◌, ℕ, ◌+◌, false, ◌==◌, ◌⊎◌, if◌then◌else◌, List, [], ◌∷◌, ◌++◌, length}
use Rattle.mc_script.specs.declared.fault.ScriptFault.{ScriptFault}
use Rattle.mc_script.specs.declared.fault.ScriptFault.TheVariants.{Memory}
use Rattle.mc_script.specs.Lines.{is_line_feed, lines_of}
use Rattle.mc_script.specs.Forms.{Form, IsForm, IsGood}
use Rattle.mc_script.specs.Texts.{Accepts, StandsIn, HasFirstFault}

-- a line without the carriage return at its end
abbrev pub strip : List ℕ → List ℕ
strip [] = []
strip (b ∷ []) = if b == 13 then [] else b ∷ []
strip (b ∷ c ∷ line) = b ∷ strip (c ∷ line)

abbrev pub HasNoFeed : List ℕ → Type 0
HasNoFeed [] = Unit {0}
HasNoFeed (b ∷ line) = (is_line_feed b ≡ false) × HasNoFeed line

-- The lines before `rest` are accepted and have these forms, and `number` is that of the next line.
pub record IsRead (number : ℕ) (forms : List Form) (rest text : List ℕ) : Type 0 where
  pub lines : List (List ℕ)
  pub parts : lines_of text ≡ lines ++ lines_of rest
  pub counted : length lines + 1 ≡ number
  pub accepts : Accepts [] lines forms

-- A line of these fields is accepted behind some forms, and `after` are the forms with its own.
pub data GoesOn (line : List (List ℕ)) (before after : List Form) : Type 0 where
  skips : line ≡ [] → after ≡ before → GoesOn line before after
  takes : (form : Form) → IsForm line form → IsGood form before → after ≡ before ++ form ∷ [] → GoesOn line before after

-- want of memory, or the fault of that line
abbrev pub MayStand : ScriptFault → ℕ → List (List ℕ) → List Form → Type 0
MayStand fault number line before = (fault ≡ Memory) ⊎ StandsIn fault number line before

-- want of memory, or the first fault of the text
abbrev pub IsRefusal : ScriptFault → List ℕ → Type 0
IsRefusal fault text = (fault ≡ Memory) ⊎ HasFirstFault text fault
