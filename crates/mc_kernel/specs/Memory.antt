-- The memory below the data when a compiled program begins: vectors, the kernel, its variables and descriptors.
use Rattle.std.specs.Prelude.{ℕ, zero, suc, ◌+◌, ◌-◌, ◌*◌, ◌/◌, ◌==◌, nat_lt, min, List, [], ◌∷◌, ◌++◌, replicate, if◌then◌else◌}
use Rattle.mc_kernel.specs.Kernel.{emt_at, reader_stub, punch_stub, keys_stub, printer_stub, clock_stub, trap_at}
use Rattle.mc_kernel.specs.Words.{kernel_words}

unfoldable pub zeros : ℕ → List ℕ
zeros n = replicate n 0

-- how many processes can be live: as many as are set, and as the words from `work_at` up to the registers hold
abbrev pub live_of : ℕ → ℕ → ℕ → ℕ
live_of workspace processes work_at = min processes ((57344 - work_at) / (2 * workspace))

abbrev pub descriptor_at : ℕ → ℕ
descriptor_at i = 0o4000 + 32 * i

-- the address behind the workspace of a descriptor, and the one that no frame passes: 40 words are kept for what is suspended
abbrev pub top_of : ℕ → ℕ → ℕ → ℕ
top_of workspace work_at i = work_at + 2 * workspace * (i + 1)

abbrev pub bound_of : ℕ → ℕ → ℕ → ℕ
bound_of workspace work_at i = work_at + 2 * workspace * i + 80

-- from 0 to 103: EMT at 30 and TRAP at 34, word 50, the number of live processes, and the five vectors from 60 to 100; each with
-- the processor status 340
unfoldable pub vectors : List ℕ
vectors =
    0 ∷ 0 ∷ 0 ∷ 0 ∷ 0 ∷ 0 ∷ 0 ∷ 0 ∷ 0 ∷ 0 ∷ 0 ∷ 0 ∷
    emt_at ∷ 0o340 ∷ trap_at ∷ 0o340 ∷ 0 ∷ 0 ∷ 0 ∷ 0 ∷
    1 ∷ 0 ∷ 0 ∷ 0 ∷
    keys_stub ∷ 0o340 ∷ printer_stub ∷ 0o340 ∷ reader_stub ∷ 0o340 ∷ punch_stub ∷ 0o340 ∷ clock_stub ∷ 0o340 ∷
    []

-- the first free descriptor
abbrev pub free_of : ℕ → ℕ
free_of live = if nat_lt 1 live then descriptor_at 1 else 0

-- cur, bound, ready, last, free: the main process acts, and nothing is ready
unfoldable pub variables : ℕ → ℕ → ℕ → List ℕ
variables workspace work_at live = descriptor_at 0 ∷ bound_of workspace work_at 0 ∷ 0 ∷ 0o2004 ∷ free_of live ∷ []

-- all but the main process's are free, each behind the one before it
abbrev pub link_of : ℕ → ℕ → ℕ
link_of live i = if i == 0 then 0 else (if nat_lt (i + 1) live then descriptor_at (i + 1) else 0)

unfoldable pub descriptor : ℕ → ℕ → ℕ → ℕ → List ℕ
descriptor workspace work_at live i =
    if nat_lt i live
    then
    link_of live i ∷ 0 ∷ 0 ∷ bound_of workspace work_at i ∷ 0 ∷ 0 ∷ top_of workspace work_at i ∷ 0 ∷ 0 ∷ 0 ∷ 0 ∷ 0 ∷ 0 ∷ 0 ∷ 0 ∷ 0 ∷ []
    else 0 ∷ 0 ∷ 0 ∷ 0 ∷ 0 ∷ 0 ∷ 0 ∷ 0 ∷ 0 ∷ 0 ∷ 0 ∷ 0 ∷ 0 ∷ 0 ∷ 0 ∷ 0 ∷ []

-- the first n of them
unfoldable pub descriptors : ℕ → ℕ → ℕ → ℕ → List ℕ
descriptors workspace work_at live zero = []
descriptors workspace work_at live (suc n) = descriptors workspace work_at live n ++ descriptor workspace work_at live n

-- vectors from 0, the kernel from 400, variables from 2000, 32 descriptors from 4000, all up to 20000
abbrev pub low_of : ℕ → ℕ → ℕ → List ℕ
low_of workspace work_at live =
    vectors ++ zeros 94 ++ kernel_words ++ zeros 205
    ++ variables workspace work_at live ++ zeros 507
    ++ descriptors workspace work_at live 32 ++ zeros 2560

unfoldable pub low_memory : ℕ → ℕ → ℕ → List ℕ
low_memory workspace processes work_at = low_of workspace work_at (live_of workspace processes work_at)

-- the slot of a vector, two words of the kernel: the descriptor at doio or 0, and started or 0
abbrev pub slot_at : ℕ → ℕ
slot_at vector =
    if vector == 0o60 then 0o2030 else (if vector == 0o64 then 0o2034 else (if vector == 0o70 then 0o2020 else (if vector == 0o74 then 0o2024 else (if vector == 0o100 then 0o2040 else 0))))
