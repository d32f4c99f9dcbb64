-- What it is for a run of the machine to be tracked by a run of the program's meaning.
use Rattle.std.specs.Prelude.{◌≡◌, ◌≢◌, ℕ, ◌+◌, ◌*◌, ◌≤◌, true, List, [], Some, None, slice_index}
use Rattle.tracking.specs.Tracking.{Tracking}
use Rattle.tracking.specs.Simulation.{total}
use Rattle.pdp_dev.specs.Devices.{opening_devices}
use Rattle.pdp_def.specs.declared.outcome.Outcome.TheVariants.{Halt, BusFault, Reserved}
use Rattle.pdp_def.specs.Laws.{core_of}
use Rattle.pdp_def.specs.Moments.{MachineState, Moment, priority_of, after_all, ArePossible}
use Rattle.mc_straight.specs.Form.{Straight, IsStraightSource, program_of, size_of}
use Rattle.mc_image.specs.Image.{ImageState}
use Rattle.pdp_machine.specs.Opening.{image_memory}
use Rattle.mc_prog.specs.Program.{Program}
use Rattle.mc_prog.specs.Resolved.{Resolved}
use Rattle.mc_meaning.specs.Config.{Config, topmost, live, IsNoneReady, opening_config}
use Rattle.mc_meaning.specs.Runs.{Step, config_after, IsRun, earns, IsTrapped}
use Rattle.mc_meaning.specs.Exclusion.{Exclusive, OverWorkspace, OverRoom}
use Rattle.mc_compile.specs.Accepted.{IsAccepted}

-- the size of a workspace in words, how many processes may exist at once, and the size of the source in words
pub record Bounds : Type 0 where
  pub workspace : ℕ
  pub processes : ℕ
  pub size : ℕ

-- the machine at opening with an image
abbrev pub opened : ImageState → MachineState
opened image =
    record {
      core = core_of 0 0 0 0 0 0 0 image.start 0 (image_memory 28672 image.blocks);
      devices = opening_devices;
      journal = [];
      instructions = 0;
      stop = None;
    }

-- words 46 and 50 (octal): the number of a trap after a halt, and the number of processes that have not ended
abbrev pub trap_word : MachineState → ℕ
trap_word m = slice_index m.core.memory 19

abbrev pub live_word : MachineState → ℕ
live_word m = slice_index m.core.memory 20

-- a machine that waits has nothing to run
pub record IsAtRest (m : MachineState) (c : Config) : Type 0 where
  pub nothing_acts : topmost c ≡ None
  pub nothing_ready : IsNoneReady c.processes
  pub no_trap : c.trap ≡ None
  pub priority : priority_of m.core.ps ≡ 0
  pub count : live_word m ≡ live c.processes

-- what the number of a trap says of the run: 1 to 7 are traps of the meaning, 8 and 9 the workspace checks
pub data Traps (program : Program) (bounds : Bounds) (n : ℕ) (c : Config) : Type 0 where
  traps : IsTrapped n c → Traps program bounds n c
  over_workspace : n ≡ 8 → c.trap ≡ None → OverWorkspace program bounds.workspace c → Traps program bounds n c
  over_room : n ≡ 9 → c.trap ≡ None → OverRoom bounds.size bounds.workspace bounds.processes c → Traps program bounds n c

-- the machine after some moments, and the configuration after the part of the run that has come so far
pub record Agrees (program : Program) (bounds : Bounds) (m : MachineState) (c : Config) (earned : ℕ) : Type 0 where
  pub journal : m.journal ≡ c.journal
  pub devices : m.devices ≡ c.devices
  pub instructions : m.instructions ≤ 1000 * earned + 1000
  pub waits : m.core.waiting ≡ true → IsAtRest m c
  pub no_bus_fault : (a : ℕ) → m.stop ≢ Some (BusFault a)
  pub no_reserved : (w : ℕ) → m.stop ≢ Some (Reserved w)
  pub halts : m.stop ≡ Some Halt → Traps program bounds (trap_word m) c
  pub exclusive : Exclusive program c
  pub room : live c.processes ≤ bounds.processes

pub record Tracked (program : Program) (bounds : Bounds) (image : ImageState) (moments : List Moment) (run : List Step) : Type 0 where
  pub is_run : IsRun program run
  pub agrees : Agrees program bounds (after_all (opened image) moments) (config_after program (opening_config program) run) (total earns run)

-- every list of moments of the image, whatever the moments of the interrupts, is tracked by one run of the program
abbrev pub Compiled : Program → Bounds → ImageState → Type 0
Compiled program bounds image =
    (moments : List Moment) → ArePossible (opened image) moments → Tracking (Tracked program bounds image) moments

-- an image whose runs are runs of the program that an accepted source stands for, with workspaces of so many words and at
-- most so many processes
pub record CompiledFrom (source : List ℕ) (workspace processes : ℕ) (image : ImageState) : Type 0 where
  pub form : Straight
  pub straight : IsStraightSource source form
  pub program : Resolved
  pub accepted : IsAccepted source program
  pub compiled : Compiled (program_of form) (record { workspace = workspace; processes = processes; size = size_of straight.tokens }) image
