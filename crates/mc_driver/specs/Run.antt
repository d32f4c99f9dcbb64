-- What a run prints, and that it is a run of the program's meaning.
use Rattle.std.specs.Prelude.{◌≡◌, ◌≢◌, ℕ, ◌==◌, nat_le, Bool, false, ◌&&◌, List, [], Option, Some, None, IsSome, slice_index, if◌then◌else◌}
use Rattle.tracking.specs.Tracking.{Tracking}
use Rattle.pdp_def.specs.Moments.{Moment, after_all, ArePossible}
use Rattle.mc_image.specs.Image.{ImageState}
use Rattle.mc_script.specs.Script.{ScriptState}
use Rattle.pdp_machine.specs.declared.stop.Stop.{Stop}
use Rattle.pdp_machine.specs.declared.stop.Stop.TheVariants.{Halt, BusFault, Reserved, Silent, Limit}
use Rattle.pdp_machine.specs.Timed.{Timed, Advanced, is_to_come}
use Rattle.pdp_machine.specs.Run.{machine_run}
use Rattle.pdp_machine.specs.Made.{IsMade, state}
use Rattle.mc_report.specs.declared.ending.Ending.{Ending}
use Rattle.mc_report.specs.declared.ending.Ending.TheVariants.{End, Stuck, Trap, Limit as LimitEnding, Halt as HaltEnding, BusFault as BusFaultEnding, Reserved as ReservedEnding, Silent as SilentEnding}
use Rattle.mc_report.specs.Report.{report_of}
use Rattle.mc_words.specs.Settings.{Numbers}
use Rattle.mc_prog.specs.Program.{Program}
use Rattle.mc_meaning.specs.Config.{Config, opening_config}
use Rattle.mc_meaning.specs.Runs.{config_after, IsTrapped, IsQuiet, IsEnded, IsStuck}
use Rattle.mc_straight.specs.Form.{program_of, size_of}
use Rattle.mc_driver.specs.declared.ending.Origin.{Origin}
use Rattle.mc_driver.specs.declared.ending.Origin.TheVariants.{Compiled as CompiledOrigin, Foreign}
use Rattle.mc_compile.specs.Tracks.{Bounds, opened, Traps, Tracked, CompiledFrom}

-- words 46 and 50 (octal) of a machine
abbrev pub trap_word : Timed → ℕ
trap_word m = slice_index m.core.memory 19

abbrev pub live_word : Timed → ℕ
live_word m = slice_index m.core.memory 20

abbrev pub is_trap : ℕ → Bool
is_trap n = nat_le 1 n && nat_le n 9

-- the ending of a run: a halt is a trap of the number in word 46, and silence is the end where no process is left
abbrev pub ending_of : Option Stop → ℕ → ℕ → Ending
ending_of None trap live = SilentEnding
ending_of (Some Halt) trap live = if is_trap trap then Trap trap else HaltEnding
ending_of (Some (BusFault a)) trap live = BusFaultEnding a
ending_of (Some (Reserved w)) trap live = ReservedEnding w
ending_of (Some Silent) trap live = if live == 0 then End else Stuck
ending_of (Some Limit) trap live = LimitEnding

abbrev pub status_of : Ending → ℕ
status_of End = 0
status_of Stuck = 6
status_of (Trap n) = if nat_le n 7 then 5 else 9
status_of LimitEnding = 7
status_of HaltEnding = 8
status_of (BusFaultEnding a) = 8
status_of (ReservedEnding w) = 8
status_of SilentEnding = 8

abbrev pub ending : Timed → Ending
ending m = ending_of m.stop (trap_word m) (live_word m)

-- the ending of a foreign image's run: the machine's stop as it is
abbrev pub stop_ending : Option Stop → Ending
stop_ending None = SilentEnding
stop_ending (Some Halt) = HaltEnding
stop_ending (Some (BusFault a)) = BusFaultEnding a
stop_ending (Some (Reserved w)) = ReservedEnding w
stop_ending (Some Silent) = SilentEnding
stop_ending (Some Limit) = LimitEnding

-- the ending of an image's run, by where the image comes from
abbrev pub ending_at : Origin → Option Stop → ℕ → ℕ → Ending
ending_at CompiledOrigin stop trap live = ending_of stop trap live
ending_at Foreign stop trap live = stop_ending stop

abbrev pub ending_for : Origin → Timed → Ending
ending_for origin m = ending_at origin m.stop (trap_word m) (live_word m)

-- the report of a run
abbrev pub text_of : Origin → Bool → Advanced → List ℕ
text_of origin journal run = report_of run.entries run.machine.instructions (ending_for origin run.machine) journal

-- The text is the report of the machine's run of an image, and the status says how it ended.
pub record IsReport (origin : Origin) (journal : Bool) (image : ImageState) (script : ScriptState) (status : ℕ) (text : List ℕ) : Type 0 where
  -- the run is a list of moments, each possible where it comes
  pub made : IsMade image script
  -- the machine stops: each advance without a stop takes time
  pub stops : IsSome (machine_run image script).machine.stop
  pub text_is : text ≡ text_of origin journal (machine_run image script)
  pub status_is : status ≡ status_of (ending_for origin (machine_run image script).machine)

-- the endings that a compiled program can have
abbrev pub IsProgramEnding : Ending → Type 0
IsProgramEnding End = Unit {0}
IsProgramEnding Stuck = Unit {0}
IsProgramEnding (Trap n) = Unit {0}
IsProgramEnding LimitEnding = Unit {0}
IsProgramEnding HaltEnding = ⊥
IsProgramEnding (BusFaultEnding a) = ⊥
IsProgramEnding (ReservedEnding w) = ⊥
IsProgramEnding SilentEnding = ⊥

-- How a machine's run and the program's run end: each exactly where the other does, unless the script's limit cut it off.
pub record EndsAs (program : Program) (bounds : Bounds) (m : Timed) (c : Config) : Type 0 where
  pub ending_is : IsProgramEnding (ending m)
  -- silence is where nothing can go on and no event is to come
  pub quiet : m.stop ≡ Some Silent → IsQuiet c × (is_to_come m ≡ false)
  pub falls_silent : IsQuiet c → is_to_come m ≡ false → m.stop ≢ Some Limit → m.stop ≡ Some Silent
  -- at the end every process has ended
  pub ended : ending m ≡ End → IsEnded c
  pub ends : IsEnded c → is_to_come m ≡ false → m.stop ≢ Some Limit → ending m ≡ End
  -- where the machine is stuck, some process has not ended
  pub stuck : ending m ≡ Stuck → IsStuck c
  pub sticks : IsStuck c → is_to_come m ≡ false → m.stop ≢ Some Limit → ending m ≡ Stuck
  -- a trap is the program's own, or a check of the workspace
  pub trapped : (n : ℕ) → ending m ≡ Trap n → Traps program bounds n c
  pub traps : (n : ℕ) → IsTrapped n c → m.stop ≢ Some Limit → ending m ≡ Trap n

-- The machine's whole run is a list of moments, which one run of the program tracks; and both end alike.
pub record IsRunOfProgram (program : Program) (bounds : Bounds) (image : ImageState) (script : ScriptState) : Type 0 where
  pub moments : List Moment
  pub possible : ArePossible (opened image) moments
  pub leads : after_all (opened image) moments ≡ state [] (machine_run image script)
  pub tracking : Tracking (Tracked program bounds image) moments
  pub ends_as : EndsAs program bounds (machine_run image script).machine (config_after program (opening_config program) tracking.run)

-- the text is the report of the machine's run of an image that is compiled from the source
pub record IsRunOf (source : List ℕ) (settings : Numbers) (script : ScriptState) (journal : Bool) (status : ℕ) (text : List ℕ) : Type 0 where
  pub image : ImageState
  pub compiled : CompiledFrom source settings.workspace_words settings.processes image
  pub report : IsReport CompiledOrigin journal image script status text
  pub meaning : IsRunOfProgram (program_of compiled.form) (record { workspace = settings.workspace_words; processes = settings.processes; size = size_of compiled.straight.tokens }) image script
