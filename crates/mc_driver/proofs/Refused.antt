-- What is said of a source that is refused is an answer of each command.
use Rattle.std.proofs.Common.{◌≡◌, ℕ, Bool, List, [], Option}
use Rattle.mc_shelf.specs.Outside.{Files}
use Rattle.mc_shelf.specs.declared.ask.Ask.{Ask}
use Rattle.mc_words.specs.Settings.{Numbers}
use Rattle.mc_script.specs.Script.{ScriptState}
use Rattle.mc_compile.specs.declared.refusal.Refusal.{Refusal}
use Rattle.mc_compile.specs.declared.refusal.Refusal.TheVariants.{Source, TooLarge, NotYet, Memory}
use Rattle.mc_compile.specs.Accepted.{IsRefused, IsNotCompiled}
use Rattle.mc_driver.specs.Refusal.{IsSaid}
use Rattle.mc_driver.specs.RunAnswer.{AfterSource, has_fault, is_too_large, not_built}
use Rattle.mc_driver.specs.CompileAnswer.{AfterCompiling, no_image_for_fault, no_image_for_size, no_image_yet}
use Rattle.mc_driver.specs.CheckAnswer.{AfterChecking, fails_check, exceeds_size}

pub run_refused : (source : List ℕ) (settings : Numbers) (journal : Bool) (script : ScriptState) (refusal : Refusal) (status : ℕ) (text : List ℕ) → IsNotCompiled source refusal → IsSaid refusal status text → AfterSource source settings journal script status text
run_refused source settings journal script (Source code place) status text why said = has_fault (record { code = code; place = place }) why said
run_refused source settings journal script TooLarge status text why said = is_too_large why said
run_refused source settings journal script NotYet status text why said = not_built why said
run_refused source settings journal script Memory status text why said = absurd said

pub compile_refused : (source : List ℕ) (settings : Numbers) (name : List ℕ) (refusal : Refusal) (before after : Option Files) (asked : List Ask) (status : ℕ) (text : List ℕ) → IsNotCompiled source refusal → asked ≡ [] → IsSaid refusal status text → AfterCompiling source settings name before after asked status text
compile_refused source settings name (Source code place) before after asked status text why none said = no_image_for_fault (record { code = code; place = place }) why none said
compile_refused source settings name TooLarge before after asked status text why none said = no_image_for_size why none said
compile_refused source settings name NotYet before after asked status text why none said = no_image_yet why none said
compile_refused source settings name Memory before after asked status text why none said = absurd said

pub check_refused : (source : List ℕ) (refusal : Refusal) (status : ℕ) (text : List ℕ) → IsRefused source refusal → IsSaid refusal status text → AfterChecking source status text
check_refused source (Source code place) status text why said = fails_check (record { code = code; place = place }) why said
check_refused source TooLarge status text why said = exceeds_size why said
check_refused source NotYet status text why said = absurd why
check_refused source Memory status text why said = absurd said
