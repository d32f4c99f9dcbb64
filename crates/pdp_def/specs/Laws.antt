-- Words in memory, and what an instruction that stands there does.
use Rattle.std.specs.Prelude.{◌≡◌, ◌≢◌, ℕ, suc, ◌+◌, ◌*◌, ◌/◌, ◌%◌, ◌<◌, ◌≤◌, true, false, List, [], ◌∷◌, length, slice_index, slice_set, Ok, refl}
use Rattle.std.proofs.Common.{◌∙◌, subst, arith, get_or-set_other}
use Rattle.std.proofs.lemmas.Bool.{ne_eqb, lt-ltb}
use Rattle.pdp_dev.specs.declared.devices.Devices.{Devices}
use Rattle.pdp_dev.specs.declared.entry.Entry.{Entry}
use Rattle.pdp_isa.specs.Table.{instruction_of}
use Rattle.pdp_def.specs.declared.outcome.Outcome.{Outcome}
use Rattle.pdp_def.specs.declared.outcome.Outcome.TheVariants.{Ran, Idle}
use Rattle.pdp_def.specs.declared.operand.Place.TheVariants.{InMemory}
use Rattle.pdp_def.specs.State.{CoreState}
use Rattle.pdp_def.specs.Does.{bus, Access, then_do, ◌>>◌, gives, is_bad, read_word, put_word, write_word}
use Rattle.pdp_def.specs.Operands.{step_on, address, locate, fetch, put, put_moved}
use Rattle.pdp_def.specs.Codes.{moved_codes}
use Rattle.pdp_def.specs.Perform.{sets, moves, row, performs, attempt}

-- these words stand in memory from a place on; the word at address 2 * i has place i
abbrev pub HasAt : List ℕ → ℕ → List ℕ → Type 0
HasAt memory at [] = Unit {0}
HasAt memory at (w ∷ words) = (slice_index memory at ≡ w) × HasAt memory (at + 1) words

-- a write in front of them leaves them
pub HasAt-set : (memory : List ℕ) (at i v : ℕ) (words : List ℕ) → i < at → HasAt memory at words → HasAt (slice_set memory i v) at words
HasAt-set memory at i v [] h has = tt
HasAt-set memory at i v (w ∷ words) h has =
    let ne : at ≢ i = omega arith in
    (get_or-set_other memory i at v 0 ne ∙ has.0, HasAt-set memory (at + 1) i v words (omega arith) has.1)

-- words stand where each of them does
pub HasAt-each : (memory : List ℕ) (at : ℕ) (words : List ℕ) → ((i : ℕ) → i < length words → slice_index memory (at + i) ≡ slice_index words i) → HasAt memory at words
HasAt-each memory at [] each = tt
HasAt-each memory at (w ∷ words) each =
    let first : at + 0 ≡ at = omega arith in
    let next : (i : ℕ) → i < length words → slice_index memory (at + 1 + i) ≡ slice_index words i =
    λ i h. let e : at + suc i ≡ at + 1 + i = omega arith in subst (λ (k : ℕ). slice_index memory k ≡ slice_index words i) e (each (suc i) (omega arith)) in
    (subst (λ (k : ℕ). slice_index memory k ≡ w) first (each 0 (omega arith)), HasAt-each memory (at + 1) words next)

-- a processor that is not waiting, with these registers
abbrev pub core_of : (r0 r1 r2 r3 r4 r5 sp pc ps : ℕ) → List ℕ → CoreState
core_of r0 r1 r2 r3 r4 r5 sp pc ps memory =
    record { registers = r0 ∷ r1 ∷ r2 ∷ r3 ∷ r4 ∷ r5 ∷ sp ∷ pc ∷ []; ps = ps; waiting = false; memory = memory }

-- a word is read from memory
pub read_law : (a k w : ℕ) (c : CoreState) (d : Devices) (said : List Entry) → a ≡ 2 * k → k < 28672 → slice_index c.memory k ≡ w → read_word a (bus c d said) ≡ Ok (record { value = w; bus = bus c d said })
unfolding read_word
read_law a k w c d said e h is =
    let even : a % 2 ≢ 1 = omega arith in
    let low : a < 0o160000 = omega arith in
    let half : a / 2 ≡ k = omega arith in
    rw (ne_eqb (a % 2) 1 even, lt-ltb a 0o160000 low, half, is) refl

-- a word is written into memory
pub write_law : (a k w : ℕ) (c : CoreState) (d : Devices) (said : List Entry) → a ≡ 2 * k → k < 28672 → write_word a w (bus c d said) ≡ Ok (record { value = tt; bus = bus (record c { memory = slice_set c.memory k w }) d said })
unfolding write_word is_bad put_word
write_law a k w c d said e h =
    let even : a % 2 ≢ 1 = omega arith in
    let low : a < 0o160000 = omega arith in
    let half : a / 2 ≡ k = omega arith in
    rw (ne_eqb (a % 2) 1 even, lt-ltb a 0o160000 low, half) refl

-- what is left of a move after its word is written
abbrev pub move_ends : ℕ → ℕ → Access (Unit {0}) → Access Outcome
move_ends a w r = then_do r (λ _. sets (InMemory a) (moved_codes w) >> gives Ran)

-- MOV #w, @#a
pub move_law : (n w a r0 r1 r2 r3 r4 r5 sp ps : ℕ) (m : List ℕ) (d : Devices) (said : List Entry) (rest : List ℕ) → n + 3 ≤ 28672 → HasAt m n (0o012737 ∷ w ∷ a ∷ rest) → attempt (bus (core_of r0 r1 r2 r3 r4 r5 sp (2 * n) ps m) d said) ≡ move_ends a w (write_word a w (bus (core_of r0 r1 r2 r3 r4 r5 sp (2 * (n + 3)) ps m) d said))
unfolding attempt performs row instruction_of step_on address locate fetch put put_moved moves
move_law n w a r0 r1 r2 r3 r4 r5 sp ps m d said rest h has =
    let c1 = core_of r0 r1 r2 r3 r4 r5 sp (2 * (n + 1)) ps m in
    let c2 = core_of r0 r1 r2 r3 r4 r5 sp (2 * (n + 1 + 1)) ps m in
    let c3 = core_of r0 r1 r2 r3 r4 r5 sp (2 * (n + 3)) ps m in
    let e1 : (2 * n + 2) % 65536 ≡ 2 * (n + 1) = omega arith in
    let e2 : (2 * (n + 1) + 2) % 65536 ≡ 2 * (n + 1 + 1) = omega arith in
    let e3 : (2 * (n + 1 + 1) + 2) % 65536 ≡ 2 * (n + 3) = omega arith in
    rw (e1, read_law (2 * n) n 0o012737 c1 d said refl (omega arith) has.0, e2, read_law (2 * (n + 1)) (n + 1) w c2 d said refl (omega arith) has.1.0, e3, read_law (2 * (n + 1 + 1)) (n + 1 + 1) a c3 d said refl (omega arith) has.1.1.0) refl

-- WAIT
pub wait_law : (n r0 r1 r2 r3 r4 r5 sp ps : ℕ) (m : List ℕ) (d : Devices) (said : List Entry) (rest : List ℕ) → n + 1 ≤ 28672 → HasAt m n (1 ∷ rest) → attempt (bus (core_of r0 r1 r2 r3 r4 r5 sp (2 * n) ps m) d said) ≡ Ok (record { value = Idle; bus = bus (record (core_of r0 r1 r2 r3 r4 r5 sp (2 * (n + 1)) ps m) { waiting = true }) d said })
unfolding attempt performs row instruction_of step_on
wait_law n r0 r1 r2 r3 r4 r5 sp ps m d said rest h has =
    let c1 = core_of r0 r1 r2 r3 r4 r5 sp (2 * (n + 1)) ps m in
    let e1 : (2 * n + 2) % 65536 ≡ 2 * (n + 1) = omega arith in
    rw (e1, read_law (2 * n) n 1 c1 d said refl (omega arith) has.0) refl
