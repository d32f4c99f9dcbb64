-- What `compile` answers.
use Rattle.std.specs.Prelude.{◌≡◌, ℕ, List, [], codes, Option}
use Rattle.mc_shelf.specs.Outside.{Files}
use Rattle.mc_shelf.specs.declared.ask.Ask.{Ask}
use Rattle.mc_words.specs.Settings.{Numbers}
use Rattle.mc_image.specs.Image.{ImageState}
use Rattle.mc_image.specs.Format.{image_bytes}
use Rattle.mc_tree.specs.declared.fault.Fault.{Fault}
use Rattle.mc_compile.specs.Accepted.{IsTooLarge, IsSourceFault, IsNotBuilt}
use Rattle.mc_compile.specs.Tracks.{CompiledFrom}
use Rattle.mc_driver.specs.declared.files.FileKind.TheVariants.{Source}
use Rattle.mc_driver.specs.Refusal.{source_line, IsLine}
use Rattle.mc_driver.specs.Stages.{AfterLoad, AfterSettings, IsSaved, SavesWhenDone}

-- A source has a fault, or is too large, or is accepted and not of a form that is compiled today, and nothing is asked; or the
-- bytes of its image are saved.
pub data AfterCompiling (source : List ℕ) (settings : Numbers) (name : List ℕ) (before after : Option Files) (asked : List Ask) (status : ℕ) (text : List ℕ) : Type 0 where
  no_image_for_fault : (fault : Fault) → IsSourceFault source fault → asked ≡ [] → IsLine 2 (source_line fault) status text → AfterCompiling source settings name before after asked status text
  no_image_for_size : IsTooLarge source → asked ≡ [] → IsLine 13 (codes "too large\n") status text → AfterCompiling source settings name before after asked status text
  no_image_yet : IsNotBuilt source → asked ≡ [] → IsLine 15 (codes "not yet source\n") status text → AfterCompiling source settings name before after asked status text
  saves : (image : ImageState) → CompiledFrom source settings.workspace_words settings.processes image → IsSaved name (image_bytes image) before after asked status text → AfterCompiling source settings name before after asked status text

-- `compile` under settings: the source is loaded and compiled, and its image is saved
abbrev pub IsCompiledUnder : List ℕ → List ℕ → Numbers → Option Files → Option Files → Option Files → List Ask → ℕ → List ℕ → Type 0
IsCompiledUnder source image settings known before after =
    AfterLoad Source source (λ bytes. AfterCompiling bytes settings image before after) known

-- `compile`: the settings come first
abbrev pub IsCompileAnswer : List ℕ → List ℕ → Option (List ℕ) → Option Files → Option Files → Option Files → List Ask → ℕ → List ℕ → Type 0
IsCompileAnswer source image settings =
    SavesWhenDone (λ known before after. AfterSettings settings (λ numbers. IsCompiledUnder source image numbers known before after) known)
