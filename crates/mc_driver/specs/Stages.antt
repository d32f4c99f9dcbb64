-- What several commands do: files are loaded and read, lines are said, a file is saved. Loads and saves stand in their order.
use Rattle.std.specs.Prelude.{◌≡◌, ◌≢◌, ℕ, ◌<◌, ◌≤◌, List, [], ◌∷◌, ◌++◌, length, codes, decimal, Option, Some, None, Ok, Err}
use Rattle.mc_shelf.specs.Outside.{Files, placed}
use Rattle.mc_shelf.specs.declared.ask.Ask.{Ask}
use Rattle.mc_shelf.specs.declared.ask.Ask.TheVariants.{Load, Save}
use Rattle.mc_words.specs.Settings.{Numbers, AnswersSettings}
use Rattle.mc_words.specs.declared.setting_fault.SettingFault.{SettingFault}
use Rattle.mc_words.specs.declared.setting_fault.SettingFault.TheVariants.{Memory as SettingMemory}
use Rattle.mc_image.specs.declared.fault.ImageFault.{ImageFault}
use Rattle.mc_image.specs.Image.{ImageState}
use Rattle.mc_image.specs.Format.{IsImage}
use Rattle.mc_image.specs.Faults.{HasFirstFault}
use Rattle.mc_script.specs.declared.fault.ScriptFault.{ScriptFault}
use Rattle.mc_script.specs.Script.{ScriptState}
use Rattle.mc_script.specs.Texts.{IsText, HasFirstFault as HasFirstFaultInScript}
use Rattle.mc_driver.specs.declared.files.FileKind.{FileKind}
use Rattle.mc_driver.specs.declared.files.FileKind.TheVariants.{Source, Script, Image, Settings}
use Rattle.mc_driver.specs.Outside.{Reads}
use Rattle.mc_driver.specs.Refusal.{image_line, script_line, setting_line, IsLine}

-- How many bytes a file has at most.
abbrev pub most : FileKind → ℕ
most Source = 262144
most Script = 1048576
most Image = 131072
most Settings = 4096

abbrev pub too_long_line : FileKind → List ℕ
too_long_line Source = codes "too long source\n"
too_long_line Script = codes "too long script\n"
too_long_line Image = codes "too long image\n"
too_long_line Settings = codes "too long settings\n"

-- A last step: it asks for nothing.
abbrev pub AsksNothing : (ℕ → List ℕ → Type 0) → List Ask → ℕ → List ℕ → Type 0
AsksNothing Answers asked status text = (asked ≡ []) × Answers status text

-- A load is asked. The file is too long, and nothing more is asked, or the answer goes on with its bytes and asks for the rest.
-- The bytes are those of the file, or any where nothing is known of it.
pub data AfterLoad (kind : FileKind) (name : List ℕ) (Next : List ℕ → List Ask → ℕ → List ℕ → Type 0) (known : Option Files) (asked : List Ask) (status : ℕ) (text : List ℕ) : Type 0 where
  long_file : (bytes : List ℕ) → Reads known name bytes → asked ≡ Load name ∷ [] → most kind < length bytes → IsLine 14 (too_long_line kind) status text → AfterLoad kind name Next known asked status text
  loaded : (bytes : List ℕ) (rest : List Ask) → Reads known name bytes → asked ≡ Load name ∷ rest → length bytes ≤ most kind → Next bytes rest status text → AfterLoad kind name Next known asked status text

-- Bytes are no image, and nothing more is asked, or the answer goes on with the image that they are.
pub data AfterImage (bytes : List ℕ) (Next : ImageState → List Ask → ℕ → List ℕ → Type 0) (asked : List Ask) (status : ℕ) (text : List ℕ) : Type 0 where
  no_image : (fault : ImageFault) → HasFirstFault bytes fault → asked ≡ [] → IsLine 4 (image_line fault) status text → AfterImage bytes Next asked status text
  an_image : (image : ImageState) → IsImage bytes image → Next image asked status text → AfterImage bytes Next asked status text

-- A text is no script, and nothing more is asked, or the answer goes on with the script that it is.
pub data AfterScript (bytes : List ℕ) (Next : ScriptState → List Ask → ℕ → List ℕ → Type 0) (asked : List Ask) (status : ℕ) (text : List ℕ) : Type 0 where
  no_script : (fault : ScriptFault) → HasFirstFaultInScript bytes fault → asked ≡ [] → IsLine 3 (script_line fault) status text → AfterScript bytes Next asked status text
  a_script : (script : ScriptState) → IsText bytes script → Next script asked status text → AfterScript bytes Next asked status text

-- Bytes are no settings, and nothing more is asked, or the answer goes on with the settings that they are.
pub data AfterReadingSettings (bytes : List ℕ) (Next : Numbers → List Ask → ℕ → List ℕ → Type 0) (asked : List Ask) (status : ℕ) (text : List ℕ) : Type 0 where
  no_settings : (fault : SettingFault) → fault ≢ SettingMemory → AnswersSettings bytes (Err fault) → asked ≡ [] → IsLine 10 (setting_line fault) status text → AfterReadingSettings bytes Next asked status text
  some_settings : (numbers : Numbers) → AnswersSettings bytes (Ok numbers) → Next numbers asked status text → AfterReadingSettings bytes Next asked status text

-- workspaces of 200 words, and at most 16 processes
abbrev pub usual : Numbers
usual = record { workspace_words = 200; processes = 16 }

-- Where there is no settings file, the answer goes on with the usual settings; else the file is loaded and read.
abbrev pub AfterSettings : Option (List ℕ) → (Numbers → List Ask → ℕ → List ℕ → Type 0) → Option Files → List Ask → ℕ → List ℕ → Type 0
AfterSettings None Next known = Next usual
AfterSettings (Some name) Next known = AfterLoad Settings name (λ bytes. AfterReadingSettings bytes Next) known

-- the load of a settings file, where there is one
abbrev pub settings_load : Option (List ℕ) → List Ask
settings_load None = []
settings_load (Some name) = Load name ∷ []

-- Nothing is saved.
pub record SavesNothing (Answers : Option Files → List Ask → ℕ → List ℕ → Type 0) (known before after : Option Files) (asked : List Ask) (status : ℕ) (text : List ℕ) : Type 0 where
  pub kept : after ≡ before
  pub answers : Answers known asked status text

-- Nothing is saved unless the command is done.
pub record SavesWhenDone (Answers : Option Files → Option Files → Option Files → List Ask → ℕ → List ℕ → Type 0) (known before after : Option Files) (asked : List Ask) (status : ℕ) (text : List ℕ) : Type 0 where
  pub kept : status ≢ 0 → after ≡ before
  pub answers : Answers known before after asked status text

-- Bytes are saved under a name, and their number is said.
pub record IsSaved (name bytes : List ℕ) (before after : Option Files) (asked : List Ask) (status : ℕ) (text : List ℕ) : Type 0 where
  pub one_ask : asked ≡ Save name ∷ []
  pub saved : after ≡ placed before name (Some bytes)
  pub said : IsLine 0 (codes "image " ++ decimal (length bytes) ++ codes "\n") status text
