-- What `run` answers.
use Rattle.std.specs.Prelude.{ℕ, Bool, List, codes, Option}
use Rattle.mc_shelf.specs.Outside.{Files}
use Rattle.mc_shelf.specs.declared.ask.Ask.{Ask}
use Rattle.mc_words.specs.Settings.{Numbers}
use Rattle.mc_script.specs.Script.{ScriptState}
use Rattle.mc_tree.specs.declared.fault.Fault.{Fault}
use Rattle.mc_compile.specs.Accepted.{IsTooLarge, IsSourceFault, IsNotBuilt}
use Rattle.mc_driver.specs.declared.files.FileKind.TheVariants.{Source, Script}
use Rattle.mc_driver.specs.Refusal.{source_line, IsLine}
use Rattle.mc_driver.specs.Run.{IsRunOf}
use Rattle.mc_driver.specs.Stages.{AsksNothing, AfterLoad, AfterScript, AfterSettings}

-- A source has a fault, or is too large, or is accepted and not of a form that is compiled today, or its program runs.
pub data AfterSource (source : List ℕ) (settings : Numbers) (journal : Bool) (script : ScriptState) (status : ℕ) (text : List ℕ) : Type 0 where
  has_fault : (fault : Fault) → IsSourceFault source fault → IsLine 2 (source_line fault) status text → AfterSource source settings journal script status text
  is_too_large : IsTooLarge source → IsLine 13 (codes "too large\n") status text → AfterSource source settings journal script status text
  not_built : IsNotBuilt source → IsLine 15 (codes "not yet source\n") status text → AfterSource source settings journal script status text
  runs : IsRunOf source settings script journal status text → AfterSource source settings journal script status text

-- `run` under settings: the source is loaded, the script is loaded and read, the source is compiled, and its image runs
abbrev pub IsRunUnder : List ℕ → List ℕ → Bool → Option Files → Numbers → List Ask → ℕ → List ℕ → Type 0
IsRunUnder source script journal known settings =
    AfterLoad Source source (λ bytes. AfterLoad Script script (λ lines. AfterScript lines (λ s. AsksNothing (AfterSource bytes settings journal s))) known) known

-- `run`: the settings come first
abbrev pub IsRunAnswer : List ℕ → List ℕ → Option (List ℕ) → Bool → Option Files → List Ask → ℕ → List ℕ → Type 0
IsRunAnswer source script settings journal known = AfterSettings settings (IsRunUnder source script journal known) known
