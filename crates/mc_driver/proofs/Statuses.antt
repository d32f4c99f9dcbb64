-- The statuses that a command can have are those of its answers.
use Rattle.std.proofs.lemmas.Bool.Decides.{eqb_tells}
use Rattle.std.proofs.Common.{◌≡◌, ◌≢◌, ◌<◌, ◌+◌, ℕ, zero, suc, Bool, true, false, List, [], ◌∷◌, ◌++◌, length, Option, Some, None, ◌⊎◌, refl, sym, ap, ◌∙◌, subst, arith, inl, inr, nat_le}
use Rattle.std.specs.Prelude.{Contains, slice_index_or, if◌then◌else◌}
use Rattle.mc_shelf.specs.Outside.{Files, View}
use Rattle.mc_shelf.specs.declared.ask.Ask.{Ask}
use Rattle.mc_words.specs.Settings.{Numbers}
use Rattle.mc_words.specs.Commands.{Order, Run, Compile, Exec, Check, Generate, OwnRun}
use Rattle.mc_script.specs.Script.{ScriptState}
use Rattle.pdp_machine.specs.declared.stop.Stop.{Stop}
use Rattle.pdp_machine.specs.declared.stop.Stop.TheVariants.{Halt, BusFault, Reserved, Silent, Limit}
use Rattle.mc_report.specs.declared.ending.Ending.{Ending}
use Rattle.mc_report.specs.declared.ending.Ending.TheVariants.{End, Stuck, Trap, Limit as LimitEnding, Halt as HaltEnding, BusFault as BusFaultEnding, Reserved as ReservedEnding, Silent as SilentEnding}
use Rattle.mc_driver.specs.Run.{status_of, stop_ending, ending, IsProgramEnding}
use Rattle.mc_driver.specs.Outside.{EndsSaving}
use Rattle.mc_driver.specs.declared.files.FileKind.TheVariants.{Settings}
use Rattle.mc_driver.specs.Stages.{AfterLoad, long_file, loaded, AfterImage, no_image, an_image, AfterScript, no_script, a_script, AfterReadingSettings, no_settings, some_settings}
use Rattle.mc_driver.specs.RunAnswer.{AfterSource, has_fault, is_too_large, not_built, runs, IsRunUnder}
use Rattle.mc_driver.specs.ExecAnswer.{IsExecAnswer}
use Rattle.mc_driver.specs.CompileAnswer.{AfterCompiling, no_image_for_fault, no_image_for_size, no_image_yet, saves, IsCompiledUnder}
use Rattle.mc_driver.specs.CheckAnswer.{AfterChecking, fails_check, exceeds_size, passes, IsCheckAnswer}
use Rattle.mc_driver.specs.Answer.{AnswersTo, statuses_of}

-- an element of a list, at its place
at : (xs : List ℕ) (k n status : ℕ) → k < length xs → slice_index_or xs k n ≡ n → status ≡ n → Contains xs status
at xs k n status within there is = subst (λ (s : ℕ). Contains xs s) (sym is) (k, within, there)

more : (x : ℕ) (xs : List ℕ) (status : ℕ) → Contains xs status → Contains (x ∷ xs) status
more x xs status c = (suc c.0, omega (arith, c.1), c.2)

abbrev run_statuses : List ℕ
run_statuses = 0 ∷ 2 ∷ 3 ∷ 5 ∷ 6 ∷ 7 ∷ 9 ∷ 13 ∷ 14 ∷ 15 ∷ []

abbrev compile_statuses : List ℕ
compile_statuses = 0 ∷ 2 ∷ 13 ∷ 14 ∷ 15 ∷ []

abbrev exec_statuses : List ℕ
exec_statuses = 3 ∷ 4 ∷ 7 ∷ 8 ∷ 14 ∷ []

abbrev check_statuses : List ℕ
check_statuses = 0 ∷ 2 ∷ 13 ∷ 14 ∷ []

trap_status : (b : Bool) → Contains run_statuses (if b then 5 else 9)
trap_status true = (3, omega arith, refl)
trap_status false = (6, omega arith, refl)

program_status : (e : Ending) → IsProgramEnding e → Contains run_statuses (status_of e)
program_status End is = (0, omega arith, refl)
program_status Stuck is = (4, omega arith, refl)
program_status (Trap n) is = trap_status (nat_le n 7)
program_status LimitEnding is = (5, omega arith, refl)
program_status HaltEnding is = absurd is
program_status (BusFaultEnding a) is = absurd is
program_status (ReservedEnding w) is = absurd is
program_status SilentEnding is = absurd is

foreign_status : (stop : Option Stop) → Contains exec_statuses (status_of (stop_ending stop))
foreign_status None = (3, omega arith, refl)
foreign_status (Some Halt) = (3, omega arith, refl)
foreign_status (Some (BusFault a)) = (3, omega arith, refl)
foreign_status (Some (Reserved w)) = (3, omega arith, refl)
foreign_status (Some Silent) = (3, omega arith, refl)
foreign_status (Some Limit) = (2, omega arith, refl)

source_status : (source : List ℕ) (settings : Numbers) (journal : Bool) (script : ScriptState) (status : ℕ) (text : List ℕ) → AfterSource source settings journal script status text → Contains run_statuses status
source_status source settings journal script status text (has_fault fault is line) = at run_statuses 1 2 status (omega arith) refl line.0
source_status source settings journal script status text (is_too_large is line) = at run_statuses 7 13 status (omega arith) refl line.0
source_status source settings journal script status text (not_built is line) = at run_statuses 9 15 status (omega arith) refl line.0
source_status source settings journal script status text (runs r) =
    subst (λ (s : ℕ). Contains run_statuses s) (sym r.report.status_is) (program_status _ r.meaning.ends_as.ending_is)

run_status : (source script : List ℕ) (journal : Bool) (known : Option Files) (settings : Numbers) (asked : List Ask) (status : ℕ) (text : List ℕ) → IsRunUnder source script journal known settings asked status text → Contains run_statuses status
run_status source script journal known settings asked status text (long_file bytes reads e long line) = at run_statuses 8 14 status (omega arith) refl line.0
run_status source script journal known settings asked status text (loaded bytes rest reads e short (long_file b r f long line)) = at run_statuses 8 14 status (omega arith) refl line.0
run_status source script journal known settings asked status text (loaded bytes rest reads e short (loaded b others r f little (no_script fault is none line))) = at run_statuses 2 3 status (omega arith) refl line.0
run_status source script journal known settings asked status text (loaded bytes rest reads e short (loaded b others r f little (a_script s is next))) = source_status bytes settings journal s status text next.1

compiling_status : (source : List ℕ) (settings : Numbers) (name : List ℕ) (before after : Option Files) (asked : List Ask) (status : ℕ) (text : List ℕ) → AfterCompiling source settings name before after asked status text → Contains compile_statuses status
compiling_status source settings name before after asked status text (no_image_for_fault fault is none line) = at compile_statuses 1 2 status (omega arith) refl line.0
compiling_status source settings name before after asked status text (no_image_for_size is none line) = at compile_statuses 2 13 status (omega arith) refl line.0
compiling_status source settings name before after asked status text (no_image_yet is none line) = at compile_statuses 4 15 status (omega arith) refl line.0
compiling_status source settings name before after asked status text (saves image made saved) = at compile_statuses 0 0 status (omega arith) refl saved.said.0

compile_status : (source image : List ℕ) (settings : Numbers) (known before after : Option Files) (asked : List Ask) (status : ℕ) (text : List ℕ) → IsCompiledUnder source image settings known before after asked status text → Contains compile_statuses status
compile_status source image settings known before after asked status text (long_file bytes reads e long line) = at compile_statuses 3 14 status (omega arith) refl line.0
compile_status source image settings known before after asked status text (loaded bytes rest reads e short next) = compiling_status bytes settings image before after rest status text next

exec_status : (image script : List ℕ) (journal : Bool) (known : Option Files) (asked : List Ask) (status : ℕ) (text : List ℕ) → IsExecAnswer image script journal known asked status text → Contains exec_statuses status
exec_status image script journal known asked status text (long_file bytes reads e long line) = at exec_statuses 4 14 status (omega arith) refl line.0
exec_status image script journal known asked status text (loaded bytes rest reads e short (no_image fault is none line)) = at exec_statuses 1 4 status (omega arith) refl line.0
exec_status image script journal known asked status text (loaded bytes rest reads e short (an_image i is (long_file b r f long line))) = at exec_statuses 4 14 status (omega arith) refl line.0
exec_status image script journal known asked status text (loaded bytes rest reads e short (an_image i is (loaded b others r f little (no_script fault has none line)))) = at exec_statuses 0 3 status (omega arith) refl line.0
exec_status image script journal known asked status text (loaded bytes rest reads e short (an_image i is (loaded b others r f little (a_script s has next)))) =
    subst (λ (n : ℕ). Contains exec_statuses n) (sym next.1.status_is) (foreign_status _)

check_status : (source : List ℕ) (known : Option Files) (asked : List Ask) (status : ℕ) (text : List ℕ) → IsCheckAnswer source known asked status text → Contains check_statuses status
check_status source known asked status text (long_file bytes reads e long line) = at check_statuses 3 14 status (omega arith) refl line.0
check_status source known asked status text (loaded bytes rest reads e short (none, fails_check fault is line)) = at check_statuses 1 2 status (omega arith) refl line.0
check_status source known asked status text (loaded bytes rest reads e short (none, exceeds_size is line)) = at check_statuses 2 13 status (omega arith) refl line.0
check_status source known asked status text (loaded bytes rest reads e short (none, passes program is line)) = at check_statuses 0 0 status (omega arith) refl line.0

answer_status : (order : Option Order) (known before after : Option Files) (asked : List Ask) (status : ℕ) (text : List ℕ) → AnswersTo order known before after asked status text → Contains (statuses_of order) status
answer_status None known before after asked status text a = at (1 ∷ []) 0 1 status (omega arith) refl a.answers.1.0
answer_status (Some (Run source script None journal)) known before after asked status text a = run_status source script journal known _ asked status text a.answers
answer_status (Some (Run source script (Some name) journal)) known before after asked status text a = from a.answers
  where
    from : AfterLoad Settings name (λ b. AfterReadingSettings b (IsRunUnder source script journal known)) known asked status text → Contains (10 ∷ run_statuses) status
    from (long_file bytes reads e long line) = at (10 ∷ run_statuses) 9 14 status (omega arith) refl line.0
    from (loaded bytes rest reads e short (no_settings fault other has none line)) = at (10 ∷ run_statuses) 0 10 status (omega arith) refl line.0
    from (loaded bytes rest reads e short (some_settings numbers is next)) = more 10 run_statuses status (run_status source script journal known numbers rest status text next)
answer_status (Some (Compile source image None)) known before after asked status text a = compile_status source image _ known before after asked status text a.answers
answer_status (Some (Compile source image (Some name))) known before after asked status text a = from a.answers
  where
    from : AfterLoad Settings name (λ b. AfterReadingSettings b (λ n. IsCompiledUnder source image n known before after)) known asked status text → Contains (10 ∷ compile_statuses) status
    from (long_file bytes reads e long line) = at (10 ∷ compile_statuses) 4 14 status (omega arith) refl line.0
    from (loaded bytes rest reads e short (no_settings fault other has none line)) = at (10 ∷ compile_statuses) 0 10 status (omega arith) refl line.0
    from (loaded bytes rest reads e short (some_settings numbers is next)) = more 10 compile_statuses status (compile_status source image numbers known before after rest status text next)
answer_status (Some (Exec image script journal)) known before after asked status text a = exec_status image script journal known asked status text a.answers
answer_status (Some (Check source)) known before after asked status text a = check_status source known asked status text a.answers
answer_status (Some (Generate n)) known before after asked status text a = at (0 ∷ []) 0 0 status (omega arith) refl a.answers.1.0
answer_status (Some (OwnRun n)) known before after asked status text a = at (15 ∷ []) 0 15 status (omega arith) refl a.answers.1.0

-- each answer of a command has one of its statuses
pub ends_status : (order : Option Order) {wanted : List Ask} {target : Option (List ℕ)} (v w : View) (result : ℕ) → EndsSaving v wanted target (AnswersTo order) result w → Contains (11 ∷ 12 ∷ statuses_of order) result
ends_status order v w result e =
    elim (eqb_tells result 11) [ inl is ↦ at (11 ∷ 12 ∷ statuses_of order) 0 11 result (omega arith) refl is.1 | inr is ↦ elim (eqb_tells result 12) [ inl too ↦ at (11 ∷ 12 ∷ statuses_of order) 1 12 result (omega arith) refl too.1 | inr neither ↦ other is.1 neither.1 ] ]
  where
    other : result ≢ 11 → result ≢ 12 → Contains (11 ∷ 12 ∷ statuses_of order) result
    other no11 no12 =
        let a = e.answer None (inl refl) no11 no12 in
        more 11 (12 ∷ statuses_of order) result (more 12 (statuses_of order) result (answer_status order None v.files w.files a.some result a.text a.answers))
