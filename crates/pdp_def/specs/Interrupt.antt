-- What a grant does.
use Rattle.std.specs.Prelude.{ℕ, ◌+◌, ◌%◌, ◌==◌, Bool, true, not, nat_lt, List, [], ◌∷◌, ◌++◌, Ok, Err, if◌then◌else◌, slice_index}
use Rattle.pdp_dev.specs.declared.devices.Devices.{Devices}
use Rattle.pdp_dev.specs.declared.entry.Entry.{Entry}
use Rattle.pdp_dev.specs.declared.entry.Entry.TheVariants.{Grant}
use Rattle.pdp_dev.specs.Devices.{granted}
use Rattle.pdp_def.specs.declared.outcome.Outcome.{Outcome}
use Rattle.pdp_def.specs.declared.outcome.Outcome.TheVariants.{Ran, BusFault}
use Rattle.pdp_def.specs.State.{CoreState}
use Rattle.pdp_def.specs.Does.{Bus, bus, After, Access, is_bad}
use Rattle.pdp_def.specs.Perform.{enters, or_nothing}

-- the request falls and the grant is entered; PS and PC are pushed, and PC and PS are loaded from the vector
unfoldable pub takes_over : CoreState → Devices → List Entry → ℕ → ℕ → ℕ → Bus
takes_over c d said vector first second = enters vector first second (bus c (granted d vector) (said ++ Grant vector ∷ []))

-- an address at which memory has no word: an odd one, or one above it
abbrev pub is_outside : ℕ → Bool
is_outside a = if a % 2 == 1 then true else not (nat_lt a 0o160000)

-- PS goes to two below SP, and PC to two below that; a bad one of these addresses is a fault, the first such
abbrev pub pushes_at : CoreState → Devices → List Entry → ℕ → ℕ → ℕ → Access Outcome
pushes_at c d said vector first second =
    if is_bad first then Err (BusFault first)
    else (if is_bad second then Err (BusFault second)
    else Ok (record { value = Ran; bus = takes_over c d said vector first second }))

-- The vector's two words are read before, and in memory alone: where one of them lies outside, its address is a fault, the
-- first such.
abbrev pub grants_at : CoreState → Devices → List Entry → ℕ → ℕ → ℕ → Access Outcome
grants_at c d said vector first second =
    if is_outside vector then Err (BusFault vector)
    else (if is_outside (vector + 2) then Err (BusFault (vector + 2)) else pushes_at c d said vector first second)

-- the effect of a grant; at a fault nothing changes
unfoldable pub interrupted : CoreState → Devices → List Entry → ℕ → After Outcome
interrupted c d said vector =
    or_nothing (bus c d said) (grants_at c d said vector ((slice_index c.registers 6 + 65534) % 65536) ((slice_index c.registers 6 + 65532) % 65536))
