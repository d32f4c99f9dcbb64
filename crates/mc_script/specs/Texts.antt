-- The script of a text, and the first fault of every other text (own).
use Rattle.std.specs.Prelude.{◌≡◌, ◌≢◌, ℕ, ◌+◌, ◌⊎◌, List, [], ◌∷◌, ◌++◌, length}
use Rattle.mc_script.specs.declared.fault.ScriptFault.{ScriptFault}
use Rattle.mc_script.specs.declared.fault.ScriptFault.TheVariants.{BadLine, OutOfRange, Twice, Backwards, Memory}
use Rattle.mc_script.specs.Script.{ScriptState}
use Rattle.mc_script.specs.Lines.{lines_of, fields_of}
use Rattle.mc_script.specs.Forms.{Form, IsForm, IsInRange, Repeats, GoesBack, IsGood, script_of}

-- The lines, which follow lines of the forms `before`, are accepted, and together with those they have the forms `all`.
-- A line without fields is skipped.
abbrev pub Accepts : List Form → List (List ℕ) → List Form → Type 0
Accepts before [] all = all ≡ before
Accepts before (line ∷ lines) all =
    ((fields_of line ≡ []) × Accepts before lines all)
    ⊎ ((form : Form) × IsForm (fields_of line) form × IsGood form before × Accepts (before ++ form ∷ []) lines all)

-- The text is this script: no line is refused.
pub record IsText (text : List ℕ) (script : ScriptState) : Type 0 where
  pub forms : List Form
  pub accepted : Accepts [] (lines_of text) forms
  pub is : script ≡ script_of forms

-- This fault stands in the line of this number and these fields, which follows lines of the forms `before`.
-- Want of memory is no fault of the text.
abbrev pub StandsIn : ScriptFault → ℕ → List (List ℕ) → List Form → Type 0
StandsIn (BadLine n) number line before = (n ≡ number) × (line ≢ []) × ((form : Form) → ¬ IsForm line form)
StandsIn (OutOfRange n) number line before = (n ≡ number) × (form : Form) × IsForm line form × ¬ IsInRange form
StandsIn (Twice n) number line before = (n ≡ number) × (form : Form) × IsForm line form × IsInRange form × Repeats form before
StandsIn (Backwards n) number line before =
    (n ≡ number) × (form : Form) × IsForm line form × IsInRange form × (¬ Repeats form before) × GoesBack form before
StandsIn Memory number line before = ⊥

-- The first refused line has this fault. Lines are numbered from 1.
pub record HasFirstFault (text : List ℕ) (fault : ScriptFault) : Type 0 where
  pub accepted : List (List ℕ)
  pub line : List ℕ
  pub left : List (List ℕ)
  pub before : List Form
  pub parts : lines_of text ≡ accepted ++ line ∷ left
  pub accepts : Accepts [] accepted before
  pub stands : StandsIn fault (length accepted + 1) (fields_of line) before
