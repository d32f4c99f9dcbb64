-- The whole run of a machine.
use Rattle.std.specs.Prelude.{ℕ, zero, suc, ◌+◌, [], ◌++◌}
use Rattle.mc_image.specs.Image.{ImageState}
use Rattle.mc_script.specs.Script.{ScriptState}
use Rattle.pdp_machine.specs.Timed.{Timed, Advanced, advance}
use Rattle.pdp_machine.specs.Opening.{opening_machine}

-- so many advances, and all their entries
unfoldable pub advances : ℕ → Timed → Advanced
advances zero m = record { machine = m; entries = [] }
advances (suc n) m =
    let before : Advanced = advances n m in
    let a : Advanced = advance before.machine in
    record { machine = a.machine; entries = before.entries ++ a.entries }

-- the run of an image under a script, to the machine's stop: each advance without a stop takes time, so the
-- stop comes within limit + 1 advances, and after it nothing changes
unfoldable pub machine_run : ImageState → ScriptState → Advanced
machine_run image script = advances (script.limit + 1) (opening_machine image script)
