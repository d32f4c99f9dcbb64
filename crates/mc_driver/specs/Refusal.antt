-- The lines in which a source, an image, a script or settings are refused: a noun, a place where there is one, and a name.
use Rattle.std.specs.Prelude.{◌≡◌, ℕ, List, [], ◌++◌, codes, decimal, Option, Some, None}
use Rattle.mc_tree.specs.declared.fault.Code.{Code}
use Rattle.mc_tree.specs.declared.fault.Code.TheVariants as code
use Rattle.mc_tree.specs.declared.fault.Fault.{Fault}
use Rattle.mc_compile.specs.declared.refusal.Refusal.{Refusal}
use Rattle.mc_compile.specs.declared.refusal.Refusal.TheVariants.{Source, TooLarge, NotYet, Memory}
use Rattle.mc_image.specs.declared.fault.ImageFault.{ImageFault}
use Rattle.mc_image.specs.declared.fault.ImageFault.TheVariants.{BadHeader, Truncated, BadCount, BadSum, OutOfMemoryRange, Overlap, NoStart, Trailing, Memory as ImageMemory}
use Rattle.mc_words.specs.declared.setting_fault.SettingFault.{SettingFault}
use Rattle.mc_words.specs.declared.setting_fault.SettingFault.TheVariants.{NotToml, UnknownKey, BadKind, OutOfRange as SettingOutOfRange, Memory as SettingMemory}
use Rattle.mc_script.specs.declared.fault.ScriptFault.{ScriptFault}
use Rattle.mc_script.specs.declared.fault.ScriptFault.TheVariants.{BadLine, OutOfRange, Twice, Backwards, Memory as ScriptMemory}

abbrev pub place_text : Option ℕ → List ℕ
place_text None = []
place_text (Some place) = decimal place ++ codes " "

-- a byte of the image, from 0; that there is no start has no place
abbrev pub image_place : ImageFault → Option ℕ
image_place (BadHeader at) = Some at
image_place (Truncated at) = Some at
image_place (BadCount at) = Some at
image_place (BadSum at) = Some at
image_place (OutOfMemoryRange at) = Some at
image_place (Overlap at) = Some at
image_place NoStart = None
image_place (Trailing at) = Some at
image_place ImageMemory = None

-- want of memory is no fault, and never said
abbrev pub image_fault_name : ImageFault → List ℕ
image_fault_name (BadHeader at) = codes "BadHeader"
image_fault_name (Truncated at) = codes "Truncated"
image_fault_name (BadCount at) = codes "BadCount"
image_fault_name (BadSum at) = codes "BadSum"
image_fault_name (OutOfMemoryRange at) = codes "OutOfMemoryRange"
image_fault_name (Overlap at) = codes "Overlap"
image_fault_name NoStart = codes "NoStart"
image_fault_name (Trailing at) = codes "Trailing"
image_fault_name ImageMemory = codes "Memory"

abbrev pub image_line : ImageFault → List ℕ
image_line fault = codes "image " ++ place_text (image_place fault) ++ image_fault_name fault ++ codes "\n"

-- a line of the script, from 1
abbrev pub script_place : ScriptFault → Option ℕ
script_place (BadLine line) = Some line
script_place (OutOfRange line) = Some line
script_place (Twice line) = Some line
script_place (Backwards line) = Some line
script_place ScriptMemory = None

abbrev pub script_fault_name : ScriptFault → List ℕ
script_fault_name (BadLine line) = codes "BadLine"
script_fault_name (OutOfRange line) = codes "OutOfRange"
script_fault_name (Twice line) = codes "Twice"
script_fault_name (Backwards line) = codes "Backwards"
script_fault_name ScriptMemory = codes "Memory"

abbrev pub script_line : ScriptFault → List ℕ
script_line fault = codes "script " ++ place_text (script_place fault) ++ script_fault_name fault ++ codes "\n"

abbrev pub setting_fault_name : SettingFault → List ℕ
setting_fault_name NotToml = codes "NotToml"
setting_fault_name UnknownKey = codes "UnknownKey"
setting_fault_name BadKind = codes "BadKind"
setting_fault_name SettingOutOfRange = codes "OutOfRange"
setting_fault_name SettingMemory = codes "Memory"

abbrev pub setting_line : SettingFault → List ℕ
setting_line fault = codes "settings " ++ setting_fault_name fault ++ codes "\n"

-- the name of a fault's code
abbrev pub code_name : Code → List ℕ
code_name code.BadByte = codes "BadByte"
code_name code.NumberTooLarge = codes "NumberTooLarge"
code_name code.OpenComment = codes "OpenComment"
code_name code.OpenText = codes "OpenText"
code_name code.Unexpected = codes "Unexpected"
code_name code.TooDeep = codes "TooDeep"
code_name code.S1 = codes "S1"
code_name code.S2 = codes "S2"
code_name code.S3 = codes "S3"
code_name code.S4 = codes "S4"
code_name code.S5 = codes "S5"
code_name code.Y1 = codes "Y1"
code_name code.Y2 = codes "Y2"
code_name code.Y3 = codes "Y3"
code_name code.Y4 = codes "Y4"
code_name code.Y5 = codes "Y5"
code_name code.Y6 = codes "Y6"
code_name code.Y7 = codes "Y7"
code_name code.Y8 = codes "Y8"
code_name code.M1 = codes "M1"
code_name code.M2 = codes "M2"
code_name code.M3 = codes "M3"
code_name code.M4 = codes "M4"
code_name code.M5 = codes "M5"
code_name code.M6 = codes "M6"
code_name code.M7 = codes "M7"
code_name code.M8 = codes "M8"
code_name code.M9 = codes "M9"
code_name code.M10 = codes "M10"

-- the line and the column of the fault, both from 1, and its code
abbrev pub source_line : Fault → List ℕ
source_line fault = codes "source " ++ decimal fault.place.line ++ codes " " ++ decimal fault.place.column ++ codes " " ++ code_name fault.code ++ codes "\n"

-- one line, with a status
abbrev pub IsLine : ℕ → List ℕ → ℕ → List ℕ → Type 0
IsLine code line status text = (status ≡ code) × (text ≡ line)

-- what is said of a source that is refused, and the status; want of memory is never said
abbrev pub IsSaid : Refusal → ℕ → List ℕ → Type 0
IsSaid (Source code place) = IsLine 2 (source_line (record { code = code; place = place }))
IsSaid TooLarge = IsLine 13 (codes "too large\n")
IsSaid NotYet = IsLine 15 (codes "not yet source\n")
IsSaid Memory = λ status text. ⊥
