-- The addresses of the device registers.
use Rattle.std.specs.Prelude.{ℕ, ◌==◌, Option, Some, None, if◌then◌else◌}
use Rattle.pdp_dev.specs.declared.register.Register.{Register}
use Rattle.pdp_dev.specs.declared.register.Register.TheVariants.{KeyboardStatus, KeyboardByte, PrinterStatus, PrinterByte, ClockStatus, ReaderStatus, ReaderByte, PunchStatus, PunchByte}

-- the register at each address of the bus
abbrev pub register_at : ℕ → Option Register
register_at a =
    if a == 0o177560 then Some KeyboardStatus
    else (if a == 0o177562 then Some KeyboardByte
    else (if a == 0o177564 then Some PrinterStatus
    else (if a == 0o177566 then Some PrinterByte
    else (if a == 0o177546 then Some ClockStatus
    else (if a == 0o177550 then Some ReaderStatus
    else (if a == 0o177552 then Some ReaderByte
    else (if a == 0o177554 then Some PunchStatus
    else (if a == 0o177556 then Some PunchByte else None))))))))
