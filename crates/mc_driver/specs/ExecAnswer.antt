-- What `exec` answers.
use Rattle.std.specs.Prelude.{ℕ, Bool, List, Option}
use Rattle.mc_shelf.specs.Outside.{Files}
use Rattle.mc_shelf.specs.declared.ask.Ask.{Ask}
use Rattle.mc_driver.specs.declared.files.FileKind.TheVariants.{Script, Image}
use Rattle.mc_driver.specs.declared.ending.Origin.TheVariants.{Foreign}
use Rattle.mc_driver.specs.Run.{IsReport}
use Rattle.mc_driver.specs.Stages.{AsksNothing, AfterLoad, AfterImage, AfterScript}

-- `exec`: the image is loaded and read, the script is loaded and read, and the image runs
abbrev pub IsExecAnswer : List ℕ → List ℕ → Bool → Option Files → List Ask → ℕ → List ℕ → Type 0
IsExecAnswer image script journal known =
    AfterLoad Image image (λ bytes. AfterImage bytes (λ i. AfterLoad Script script (λ lines. AfterScript lines (λ s. AsksNothing (IsReport Foreign journal i s))) known)) known
