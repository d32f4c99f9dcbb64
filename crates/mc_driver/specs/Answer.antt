-- What the top call answers to each command, what it prints with it, and what it has asked for by then.
use Rattle.std.specs.Prelude.{ℕ, List, [], ◌∷◌, ◌++◌, codes, Option, Some, None, Contains}
use Rattle.mc_shelf.specs.Outside.{Files}
use Rattle.mc_shelf.specs.declared.ask.Ask.{Ask}
use Rattle.mc_shelf.specs.declared.ask.Ask.TheVariants.{Load, Save}
use Rattle.mc_words.specs.Commands.{Order, Run, Compile, Exec, Check, Generate, OwnRun, command_of}
use Rattle.mc_report.specs.Ring.{ring_text}
use Rattle.mc_driver.specs.Refusal.{IsLine}
use Rattle.mc_driver.specs.Stages.{AsksNothing, SavesNothing, settings_load}
use Rattle.mc_driver.specs.RunAnswer.{IsRunAnswer}
use Rattle.mc_driver.specs.ExecAnswer.{IsExecAnswer}
use Rattle.mc_driver.specs.CompileAnswer.{IsCompileAnswer}
use Rattle.mc_driver.specs.CheckAnswer.{IsCheckAnswer}

-- what is answered to a command, or where there is none, by what is known of the files for loads, and with the files as told
-- before and after it, and these loads and saves
abbrev pub AnswersTo : Option Order → Option Files → Option Files → Option Files → List Ask → ℕ → List ℕ → Type 0
AnswersTo None = SavesNothing (λ known. AsksNothing (IsLine 1 (codes "words\n")))
AnswersTo (Some (Run source script settings journal)) = SavesNothing (IsRunAnswer source script settings journal)
AnswersTo (Some (Compile source image settings)) = IsCompileAnswer source image settings
AnswersTo (Some (Exec image script journal)) = SavesNothing (IsExecAnswer image script journal)
AnswersTo (Some (Check source)) = SavesNothing (IsCheckAnswer source)
AnswersTo (Some (Generate n)) = SavesNothing (λ known. AsksNothing (IsLine 0 (ring_text n)))
AnswersTo (Some (OwnRun n)) = SavesNothing (λ known. AsksNothing (IsLine 15 (codes "not yet words\n")))

-- what is answered to words
abbrev pub IsAnswer : List (List ℕ) → Option Files → Option Files → Option Files → List Ask → ℕ → List ℕ → Type 0
IsAnswer words = AnswersTo (command_of words)

-- the loads and saves of a command, in their order
abbrev pub asks_of : Option Order → List Ask
asks_of None = []
asks_of (Some (Run source script settings journal)) = settings_load settings ++ Load source ∷ Load script ∷ []
asks_of (Some (Compile source image settings)) = settings_load settings ++ Load source ∷ Save image ∷ []
asks_of (Some (Exec image script journal)) = Load image ∷ Load script ∷ []
asks_of (Some (Check source)) = Load source ∷ []
asks_of (Some (Generate n)) = []
asks_of (Some (OwnRun n)) = []

-- the name under which a command may save
abbrev pub target_of : Option Order → Option (List ℕ)
target_of None = None
target_of (Some (Run source script settings journal)) = None
target_of (Some (Compile source image settings)) = Some image
target_of (Some (Exec image script journal)) = None
target_of (Some (Check source)) = None
target_of (Some (Generate n)) = None
target_of (Some (OwnRun n)) = None

-- the status of refused settings, where there is a file of them
abbrev pub settings_status : Option (List ℕ) → List ℕ
settings_status None = []
settings_status (Some name) = 10 ∷ []

-- the statuses that a command can have, besides 11 where the outside fails and 12 for want of memory
abbrev pub statuses_of : Option Order → List ℕ
statuses_of None = 1 ∷ []
statuses_of (Some (Run source script settings journal)) = settings_status settings ++ 0 ∷ 2 ∷ 3 ∷ 5 ∷ 6 ∷ 7 ∷ 9 ∷ 13 ∷ 14 ∷ 15 ∷ []
statuses_of (Some (Compile source image settings)) = settings_status settings ++ 0 ∷ 2 ∷ 13 ∷ 14 ∷ 15 ∷ []
statuses_of (Some (Exec image script journal)) = 3 ∷ 4 ∷ 7 ∷ 8 ∷ 14 ∷ []
statuses_of (Some (Check source)) = 0 ∷ 2 ∷ 13 ∷ 14 ∷ []
statuses_of (Some (Generate n)) = 0 ∷ []
statuses_of (Some (OwnRun n)) = 15 ∷ []

-- the statuses that words can have
abbrev pub HasStatus : List (List ℕ) → ℕ → Type 0
HasStatus words status = Contains (11 ∷ 12 ∷ statuses_of (command_of words)) status
