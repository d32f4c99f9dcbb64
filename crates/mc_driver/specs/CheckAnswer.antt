-- What `check` answers.
use Rattle.std.specs.Prelude.{ℕ, List, codes, Option}
use Rattle.mc_shelf.specs.Outside.{Files}
use Rattle.mc_shelf.specs.declared.ask.Ask.{Ask}
use Rattle.mc_tree.specs.declared.fault.Fault.{Fault}
use Rattle.mc_prog.specs.Resolved.{Resolved}
use Rattle.mc_compile.specs.Accepted.{IsAccepted, IsTooLarge, IsSourceFault}
use Rattle.mc_driver.specs.declared.files.FileKind.TheVariants.{Source}
use Rattle.mc_driver.specs.Refusal.{source_line, IsLine}
use Rattle.mc_driver.specs.Stages.{AsksNothing, AfterLoad}

-- A source has a fault, or is too large, or is accepted.
pub data AfterChecking (source : List ℕ) (status : ℕ) (text : List ℕ) : Type 0 where
  fails_check : (fault : Fault) → IsSourceFault source fault → IsLine 2 (source_line fault) status text → AfterChecking source status text
  exceeds_size : IsTooLarge source → IsLine 13 (codes "too large\n") status text → AfterChecking source status text
  passes : (program : Resolved) → IsAccepted source program → IsLine 0 (codes "ok\n") status text → AfterChecking source status text

-- `check`: the source is loaded, and goes through all stages
abbrev pub IsCheckAnswer : List ℕ → Option Files → List Ask → ℕ → List ℕ → Type 0
IsCheckAnswer source known = AfterLoad Source source (λ bytes. AsksNothing (AfterChecking bytes)) known
