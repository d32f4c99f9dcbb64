-- An instruction or a grant only adds to the journal, and does the same whatever stands in it.
use Rattle.std.specs.Prelude.{◌≡◌, ℕ, ◌+◌, ◌-◌, ◌*◌, ◌/◌, ◌%◌, ◌==◌, nat_lt, Bool, true, false, List, [], ◌∷◌, ◌++◌, Option, Some, None, Ok, Err, if◌then◌else◌, slice_index, slice_set, refl}
use Rattle.std.proofs.Common.{ap, ◌∙◌, append_assoc}
use Rattle.mc_word.specs.Word.{extended}
use Rattle.mc_word.specs.declared.word.Codes.{Codes}
use Rattle.pdp_dev.specs.declared.devices.Devices.{Devices}
use Rattle.pdp_dev.specs.declared.register.Register.{Register}
use Rattle.pdp_dev.specs.declared.entry.Entry.{Entry}
use Rattle.pdp_dev.specs.declared.entry.Entry.TheVariants.{Grant}
use Rattle.pdp_dev.specs.Register.{register_at}
use Rattle.pdp_dev.specs.Devices.{said_at, written, granted}
use Rattle.pdp_isa.specs.declared.instr.Instr.{Instr}
use Rattle.pdp_isa.specs.declared.instr.Instr.TheVariants.{Mov, MovByte, Cmp, CmpByte, Bit, BitByte, Bic, BicByte, Bis, BisByte, Add, Sub, Clr, ClrByte, Com, ComByte, Inc, IncByte, Dec, DecByte, Neg, NegByte, Adc, AdcByte, Sbc, SbcByte, Tst, TstByte, Ror, RorByte, Rol, RolByte, Asr, AsrByte, Asl, AslByte, Sxt, Swab, Xor, Mul, Div, Ash, Ashc, Sob, Jmp, Jsr, Rts, Rti, Rtt, Halt as HaltRow, Wait, Reset, Bpt, Iot, Emt, Trap, ClearCodes, SetCodes, Br, Bne, Beq, Bge, Blt, Bgt, Ble, Bpl, Bmi, Bhi, Blos, Bvc, Bvs, Bcc, Bcs}
use Rattle.pdp_isa.specs.Table.{instruction_of}
use Rattle.pdp_def.specs.declared.outcome.Outcome.{Outcome}
use Rattle.pdp_def.specs.declared.outcome.Outcome.TheVariants.{Ran, Halt}
use Rattle.pdp_def.specs.declared.operand.Place.{Place}
use Rattle.pdp_def.specs.declared.operand.Place.TheVariants.{InRegister, InMemory}
use Rattle.pdp_def.specs.declared.operation.Width.{Width}
use Rattle.pdp_def.specs.declared.operation.Width.TheVariants.{Byte, Word}
use Rattle.pdp_def.specs.declared.operation.BinaryOperation.{BinaryOperation}
use Rattle.pdp_def.specs.declared.operation.BinaryOperation.TheVariants.{Compare, And, AndNot, Or, ExclusiveOr, Plus, Minus}
use Rattle.pdp_def.specs.declared.operation.UnaryOperation.{UnaryOperation}
use Rattle.pdp_def.specs.declared.operation.UnaryOperation.TheVariants.{Complement, Increment, Decrement, Negate, AddCarry, SubtractCarry, RotateRight, RotateLeft, ShiftRight, ShiftLeft, SwapBytes}
use Rattle.pdp_def.specs.declared.operation.PairOperation.{PairOperation}
use Rattle.pdp_def.specs.declared.operation.PairOperation.TheVariants.{Multiply, Divide, Shift}
use Rattle.pdp_def.specs.declared.operation.Condition.{Condition}
use Rattle.pdp_def.specs.declared.operation.Condition.TheVariants.{Always, NotEqual, Equal, GreaterOrEqual, Less, Greater, LessOrEqual, NotNegative, Negative, Higher, LowerOrSame, OverflowClear, OverflowSet, CarryClear, CarrySet}
use Rattle.pdp_def.specs.declared.operation.Computed.{Computed}
use Rattle.pdp_def.specs.State.{CoreState}
use Rattle.pdp_def.specs.Does.{Bus, bus, After, Access, Does, then_do, ◌>>=◌, ◌>>◌, gives, register, set_register, is_bad, read_register, read_word, entries, put_register, put_word, write_word, read_high, read_byte, write_byte}
use Rattle.pdp_def.specs.Operands.{plus, step_of, step_on, step_back, next_word, indexed, deferred, mode_of, address, locate, fetch, put, put_moved, push, pop}
use Rattle.pdp_def.specs.Codes.{has_c, cleared_codes, added_codes, combined, holds}
use Rattle.pdp_def.specs.Perform.{set_codes, sets, status, set_status, moves, compares, combines, clears, tests, extends, alters, combines_register, shifts, computes_pair, reserved, computes_even_pair, goes_to, branches, counts_down, jumps, calls_at, calls, returns, resumes, enters, enters_at, traps, waits, resets, masks, row, performs, attempt, or_nothing, effect}
use Rattle.pdp_def.specs.Interrupt.{takes_over, is_outside, pushes_at, grants_at, interrupted}

-- the same state, with these entries in front of the journal
abbrev pub behind : List Entry → Bus → Bus
behind xs b = record b { said = xs ++ b.said }

abbrev pub after_behind : {T : Type 0} → List Entry → After T → After T
after_behind xs a = record a { bus = behind xs a.bus }

abbrev pub access_behind : {T : Type 0} → List Entry → Access T → Access T
access_behind xs (Ok a) = Ok (after_behind xs a)
access_behind xs (Err stop) = Err stop

-- a part of an instruction that does the same behind any journal
abbrev pub Frames : {T : Type 0} → Does T → Type 0
Frames m = (xs : List Entry) (b : Bus) → m (behind xs b) ≡ access_behind xs (m b)

frames-then : {A B : Type 0} (m : Does A) (f : A → Does B) → Frames m → ((a : A) → Frames (f a)) → Frames (m >>= f)
frames-then m f h k xs b = ap (λ r. then_do r f) (h xs b) ∙ go (m b)
  where
    go : (r : Access _) → then_do (access_behind xs r) f ≡ access_behind xs (then_do r f)
    go (Ok a) = k a.value xs a.bus
    go (Err stop) = refl

frames-gives : {A : Type 0} (a : A) → Frames (gives a)
frames-gives a xs b = refl

frames-register : (r : ℕ) → Frames (register r)
frames-register r xs b = refl

frames-set_register : (r w : ℕ) → Frames (set_register r w)
frames-set_register r w xs b = refl

-- two tests alike
if_under : {A B : Type 0} (F : A → B) (t : Bool) (x y : B) (x' y' : A) → x ≡ F x' → y ≡ F y' → (if t then x else y) ≡ F (if t then x' else y')
if_under F true x y x' y' h k = h
if_under F false x y x' y' h k = k

frames-step_on : (step r : ℕ) → Frames (step_on step r)
unfolding step_on
frames-step_on step r xs b = refl

frames-step_back : (step r : ℕ) → Frames (step_back step r)
unfolding step_back
frames-step_back step r xs b = refl

frames-read_register : (a : ℕ) (r : Option Register) → Frames (read_register a r)
frames-read_register a (Some r) xs b = refl
frames-read_register a None xs b = refl

frames-read_word : (a : ℕ) → Frames (read_word a)
unfolding read_word
frames-read_word a xs b =
    if_under (access_behind xs) (a % 2 == 1) _ _ _ _ refl
    (if_under (access_behind xs) (nat_lt a 0o160000) _ _ _ _ refl
    (if_under (access_behind xs) (a == 0o177776) _ _ _ _ refl (frames-read_register a (register_at a) xs b)))

frames-put_register : (w : ℕ) (r : Option Register) (xs : List Entry) (b : Bus) → put_register w r (behind xs b) ≡ behind xs (put_register w r b)
frames-put_register w None xs b = refl
frames-put_register w (Some r) xs b =
    ap (λ (l : List Entry). let b' : Bus = record b { devices = written b.devices r w; said = l } in b') (append_assoc xs b.said (entries (said_at b.devices r w)))

pub frames-put_word : (a w : ℕ) (xs : List Entry) (b : Bus) → put_word a w (behind xs b) ≡ behind xs (put_word a w b)
unfolding put_word
frames-put_word a w xs b =
    if_under (behind xs) (nat_lt a 0o160000) _ _ _ _ refl
    (if_under (behind xs) (a == 0o177776) _ _ _ _ refl (frames-put_register w (register_at a) xs b))

frames-write_word : (a w : ℕ) → Frames (write_word a w)
unfolding write_word
frames-write_word a w xs b =
    if_under (access_behind xs) (is_bad a) _ _ _ _ refl
    (ap (λ (b' : Bus). let r : Access (Unit {0}) = Ok (record { value = tt; bus = b' }) in r) (frames-put_word a w xs b))

frames-read_high : (a : ℕ) (r : Option Register) → Frames (read_high a r)
frames-read_high a (Some r) xs b = refl
frames-read_high a None xs b = refl

frames-read_byte : (a : ℕ) → Frames (read_byte a)
unfolding read_byte
frames-read_byte a xs b =
    if_under (access_behind xs) (nat_lt a 0o160000) _ _ _ _ refl
    (if_under (access_behind xs) (a % 2 == 0) _ _ _ _ (frames-then (read_word a) _ (frames-read_word a) (λ w. frames-gives (w % 256)) xs b)
    (if_under (access_behind xs) (a == 0o177777) _ _ _ _ refl (frames-read_high a (register_at (a - 1)) xs b)))

frames-write_byte : (a v : ℕ) → Frames (write_byte a v)
unfolding write_byte
frames-write_byte a v xs b =
    if_under (access_behind xs) (nat_lt a 0o160000) _ _ _ _ refl
    (if_under (access_behind xs) (a % 2 == 0) _ _ _ _ (frames-write_word a (v % 256) xs b)
    (if_under (access_behind xs) (is_bad (a - 1)) _ _ _ _ refl refl))

frames-next_word : Frames next_word
frames-next_word = frames-then (step_on 2 7) read_word (frames-step_on 2 7) frames-read_word

frames-indexed : (r : ℕ) → Frames (indexed r)
unfolding indexed
frames-indexed r =
    frames-then next_word _ frames-next_word (λ x. frames-then (register r) (λ a. gives (plus x a)) (frames-register r) (λ a. frames-gives (plus x a)))

frames-deferred : (m : Does ℕ) → Frames m → Frames (deferred m)
frames-deferred m h = frames-then m read_word h frames-read_word

-- a test between two parts
frames-if : {A : Type 0} (t : Bool) (m n : Does A) → Frames m → Frames n → Frames (if t then m else n)
frames-if true m n h k = h
frames-if false m n h k = k

frames-address : (width : Width) (field : ℕ) → Frames (address width field)
unfolding address
frames-address width field =
    let mode : ℕ = field / 8 in
    let r : ℕ = field % 8 in
    frames-if (mode == 1) _ _ (frames-register r)
    (frames-if (mode == 2) _ _ (frames-step_on (step_of width r) r)
    (frames-if (mode == 3) _ _ (frames-deferred (step_on 2 r) (frames-step_on 2 r))
    (frames-if (mode == 4) _ _ (frames-step_back (step_of width r) r)
    (frames-if (mode == 5) _ _ (frames-deferred (step_back 2 r) (frames-step_back 2 r))
    (frames-if (mode == 6) _ _ (frames-indexed r) (frames-deferred (indexed r) (frames-indexed r)))))))

frames-locate : (width : Width) (field : ℕ) → Frames (locate width field)
unfolding locate
frames-locate width field =
    frames-if (mode_of field == 0) _ _ (frames-gives (InRegister (field % 8)))
    (frames-then (address width field) _ (frames-address width field) (λ a. frames-gives (InMemory a)))

frames-fetch : (width : Width) (p : Place) → Frames (fetch width p)
unfolding fetch
frames-fetch Word (InRegister r) = frames-register r
frames-fetch Word (InMemory a) = frames-read_word a
frames-fetch Byte (InRegister r) = λ xs b. refl
frames-fetch Byte (InMemory a) = frames-read_byte a

frames-put : (width : Width) (p : Place) (v : ℕ) → Frames (put width p v)
unfolding put
frames-put Word (InRegister r) v = frames-set_register r v
frames-put Word (InMemory a) v = frames-write_word a v
frames-put Byte (InRegister r) v = λ xs b. refl
frames-put Byte (InMemory a) v = frames-write_byte a v

frames-put_moved : (width : Width) (p : Place) (v : ℕ) → Frames (put_moved width p v)
unfolding put_moved
frames-put_moved Word p v = frames-put Word p v
frames-put_moved Byte (InRegister r) v = frames-set_register r (extended (v % 256))
frames-put_moved Byte (InMemory a) v = frames-write_byte a v

frames-push : (w : ℕ) → Frames (push w)
unfolding push
frames-push w =
    frames-then (step_back 2 6) (λ sp. write_word sp w) (frames-step_back 2 6) (λ sp. frames-write_word sp w)

frames-pop : Frames pop
unfolding pop
frames-pop = frames-then (step_on 2 6) read_word (frames-step_on 2 6) frames-read_word

frames-set_codes : (f : ℕ → Codes) → Frames (set_codes f)
frames-set_codes f xs b = refl

frames-status : Frames status
frames-status xs b = refl

frames-set_status : (w : ℕ) → Frames (set_status w)
frames-set_status w xs b = refl

frames-sets : (p : Place) (f : ℕ → Codes) → Frames (sets p f)
unfolding sets
frames-sets (InRegister r) f = frames-set_codes f
frames-sets (InMemory a) f = frames-if (a == 0o177776) (gives tt) (set_codes f) (frames-gives tt) (frames-set_codes f)

-- the end of an instruction: the codes are set
frames-ends : (m : Does (Unit {0})) → Frames m → Frames (m >> gives Ran)
frames-ends m h = frames-then m _ h (λ _. frames-gives Ran)

-- a result is put into a place, with its codes
frames-result : (m : Does (Unit {0})) (to : Place) (f : ℕ → Codes) → Frames m → Frames (m >> (sets to f >> gives Ran))
frames-result m to f h = frames-then m _ h (λ _. frames-ends (sets to f) (frames-sets to f))

frames-moves : (width : Width) (source target : ℕ) → Frames (moves width source target)
unfolding moves
frames-moves width source target =
    frames-then (locate width source) _ (frames-locate width source)
    (λ from. frames-then (fetch width from) _ (frames-fetch width from)
    (λ a. frames-then (locate width target) _ (frames-locate width target)
    (λ to. frames-result (put_moved width to a) to _ (frames-put_moved width to a))))

frames-compares : (operation : BinaryOperation) (width : Width) (source target : ℕ) → Frames (compares operation width source target)
unfolding compares
frames-compares operation width source target =
    frames-then (locate width source) _ (frames-locate width source)
    (λ from. frames-then (fetch width from) _ (frames-fetch width from)
    (λ a. frames-then (locate width target) _ (frames-locate width target)
    (λ to. frames-then (fetch width to) _ (frames-fetch width to)
    (λ b _ _. refl))))

frames-combines : (operation : BinaryOperation) (width : Width) (source target : ℕ) → Frames (combines operation width source target)
unfolding combines
frames-combines operation width source target =
    frames-then (locate width source) _ (frames-locate width source)
    (λ from. frames-then (fetch width from) _ (frames-fetch width from)
    (λ a. frames-then (locate width target) _ (frames-locate width target)
    (λ to. frames-then (fetch width to) _ (frames-fetch width to)
    (λ b. frames-then status _ frames-status (λ ps. frames-result (put width to _) to _ (frames-put width to _))))))

frames-clears : (width : Width) (target : ℕ) → Frames (clears width target)
unfolding clears
frames-clears width target =
    frames-then (locate width target) _ (frames-locate width target) (λ to. frames-result (put width to 0) to _ (frames-put width to 0))

frames-tests : (width : Width) (target : ℕ) → Frames (tests width target)
unfolding tests
frames-tests width target =
    frames-then (locate width target) _ (frames-locate width target)
    (λ to. frames-then (fetch width to) _ (frames-fetch width to) (λ a _ _. refl))

frames-extends : (target : ℕ) → Frames (extends target)
unfolding extends
frames-extends target =
    frames-then (locate Word target) _ (frames-locate Word target)
    (λ to. frames-then status _ frames-status (λ ps. frames-result (put Word to _) to _ (frames-put Word to _)))

frames-alters : (operation : UnaryOperation) (width : Width) (target : ℕ) → Frames (alters operation width target)
unfolding alters
frames-alters operation width target =
    frames-then (locate width target) _ (frames-locate width target)
    (λ to. frames-then (fetch width to) _ (frames-fetch width to)
    (λ a. frames-then status _ frames-status (λ ps. frames-result (put width to _) to _ (frames-put width to _))))

frames-combines_register : (r target : ℕ) → Frames (combines_register r target)
unfolding combines_register
frames-combines_register r target =
    frames-then (locate Word target) _ (frames-locate Word target)
    (λ to. frames-then (fetch Word to) _ (frames-fetch Word to)
    (λ b xs b'. let x : Computed = combined ExclusiveOr Word (slice_index b'.core.registers r) b (has_c b'.core.ps) in
    frames-result (put Word to x.word) to (λ _. x.codes) (frames-put Word to x.word) xs b'))

frames-shifts : (r source : ℕ) → Frames (shifts r source)
unfolding shifts
frames-shifts r source =
    frames-then (locate Word source) _ (frames-locate Word source)
    (λ from. frames-then (fetch Word from) _ (frames-fetch Word from) (λ s _ _. refl))

frames-computes_pair : (operation : PairOperation) (r source : ℕ) → Frames (computes_pair operation r source)
unfolding computes_pair
frames-computes_pair operation r source =
    frames-then (locate Word source) _ (frames-locate Word source)
    (λ from. frames-then (fetch Word from) _ (frames-fetch Word from) (λ s _ _. refl))

frames-reserved : (w : ℕ) → Frames (reserved w)
frames-reserved w xs b = refl

frames-computes_even_pair : (w : ℕ) (operation : PairOperation) (r source : ℕ) → Frames (computes_even_pair w operation r source)
unfolding computes_even_pair
frames-computes_even_pair w operation r source =
    frames-if (r % 2 == 1) _ _ (frames-reserved w) (frames-computes_pair operation r source)

frames-goes_to : (a : ℕ) → Frames (goes_to a)
frames-goes_to a = frames-ends (set_register 7 a) (frames-set_register 7 a)

frames-branches : (condition : Condition) (offset : ℕ) → Frames (branches condition offset)
unfolding branches
frames-branches condition offset xs b =
    let a : ℕ = plus (slice_index b.core.registers 7) (2 * extended offset) in
    frames-if (holds condition b.core.ps) (goes_to a) (gives Ran) (frames-goes_to a) (frames-gives Ran) xs b

frames-counts_down : (r offset : ℕ) → Frames (counts_down r offset)
unfolding counts_down
frames-counts_down r offset xs b =
    let left : ℕ = plus (slice_index b.core.registers r) 65535 in
    let b' : Bus = record b { core = record b.core { registers = slice_set b.core.registers r left } } in
    let a : ℕ = plus (slice_index b'.core.registers 7) (65536 - 2 * offset) in
    frames-if (left == 0) (gives Ran) (goes_to a) (frames-gives Ran) (frames-goes_to a) xs b'

frames-jumps : (w target : ℕ) → Frames (jumps w target)
unfolding jumps
frames-jumps w target =
    frames-if (mode_of target == 0) _ _ (frames-reserved w) (frames-then (address Word target) goes_to (frames-address Word target) frames-goes_to)

frames-calls_at : (r a : ℕ) → Frames (calls_at r a)
frames-calls_at r a xs b =
    let link : ℕ = slice_index b.core.registers r in
    let jumps_on : Does Outcome = register 7 >>= (λ pc. set_register r pc >> goes_to a) in
    frames-then (push link) (λ _. jumps_on) (frames-push link) (λ _ _ _. refl) xs b

frames-calls : (w r target : ℕ) → Frames (calls w r target)
unfolding calls
frames-calls w r target =
    frames-if (mode_of target == 0) _ _ (frames-reserved w)
    (frames-then (address Word target) (calls_at r) (frames-address Word target) (frames-calls_at r))

frames-returns : (r : ℕ) → Frames (returns r)
unfolding returns
frames-returns r xs b =
    let b' : Bus = record b { core = record b.core { registers = slice_set b.core.registers 7 (slice_index b.core.registers r) } } in
    frames-then pop (λ link. set_register r link >> gives Ran) frames-pop (λ _ _ _. refl) xs b'

frames-resumes : Frames resumes
unfolding resumes
frames-resumes =
    let pops_status : Does Outcome = pop >>= (λ ps. set_status (ps % 256) >> gives Ran) in
    frames-then pop (λ pc. set_register 7 pc >> pops_status) frames-pop
    (λ pc xs b. let b' : Bus = record b { core = record b.core { registers = slice_set b.core.registers 7 pc } } in
    frames-then pop (λ ps. set_status (ps % 256) >> gives Ran) frames-pop (λ _ _ _. refl) xs b')

enters_behind : (vector first second : ℕ) (xs : List Entry) (b : Bus) → enters vector first second (behind xs b) ≡ behind xs (enters vector first second b)
unfolding enters
enters_behind vector first second xs b =
    let pc : ℕ = slice_index b.core.registers 7 in
    let whole : Bus → Bus = λ b2. let b3 : Bus = record b2 { core = record b2.core { registers = slice_set (slice_set b2.core.registers 6 second) 7 (slice_index b.core.memory (vector / 2)); ps = slice_index b.core.memory (vector / 2 + 1) % 256; waiting = false } } in b3 in
    ap (λ (b' : Bus). whole (put_word second pc b')) (frames-put_word first b.core.ps xs b) ∙ ap whole (frames-put_word second pc xs (put_word first b.core.ps b))

frames-enters_at : (vector first second : ℕ) → Frames (enters_at vector first second)
frames-enters_at vector first second xs b =
    if_under (access_behind xs) (is_bad first) _ _ _ _ refl
    (if_under (access_behind xs) (is_bad second) _ _ _ _ refl
    (ap (λ (b' : Bus). let r : Access Outcome = Ok (record { value = Ran; bus = b' }) in r) (enters_behind vector first second xs b)))

frames-traps : (vector : ℕ) → Frames (traps vector)
unfolding traps
frames-traps vector =
    frames-then (register 6) _ (frames-register 6) (λ sp. frames-enters_at vector (plus sp 65534) (plus sp 65532))

frames-waits : Frames waits
frames-waits xs b = refl

frames-resets : Frames resets
frames-resets xs b = refl

frames-masks : (f : ℕ → Codes) → Frames (masks f)
frames-masks f = frames-ends (set_codes f) (frames-set_codes f)

frames-row : (w : ℕ) (i : Option Instr) → Frames (row w i)
unfolding row
frames-row w None = frames-reserved w
frames-row w (Some (Mov source target)) = frames-moves Word source.value target.value
frames-row w (Some (MovByte source target)) = frames-moves Byte source.value target.value
frames-row w (Some (Cmp source target)) = frames-compares Compare Word source.value target.value
frames-row w (Some (CmpByte source target)) = frames-compares Compare Byte source.value target.value
frames-row w (Some (Bit source target)) = frames-compares And Word source.value target.value
frames-row w (Some (BitByte source target)) = frames-compares And Byte source.value target.value
frames-row w (Some (Bic source target)) = frames-combines AndNot Word source.value target.value
frames-row w (Some (BicByte source target)) = frames-combines AndNot Byte source.value target.value
frames-row w (Some (Bis source target)) = frames-combines Or Word source.value target.value
frames-row w (Some (BisByte source target)) = frames-combines Or Byte source.value target.value
frames-row w (Some (Add source target)) = frames-combines Plus Word source.value target.value
frames-row w (Some (Sub source target)) = frames-combines Minus Word source.value target.value
frames-row w (Some (Clr target)) = frames-clears Word target.value
frames-row w (Some (ClrByte target)) = frames-clears Byte target.value
frames-row w (Some (Com target)) = frames-alters Complement Word target.value
frames-row w (Some (ComByte target)) = frames-alters Complement Byte target.value
frames-row w (Some (Inc target)) = frames-alters Increment Word target.value
frames-row w (Some (IncByte target)) = frames-alters Increment Byte target.value
frames-row w (Some (Dec target)) = frames-alters Decrement Word target.value
frames-row w (Some (DecByte target)) = frames-alters Decrement Byte target.value
frames-row w (Some (Neg target)) = frames-alters Negate Word target.value
frames-row w (Some (NegByte target)) = frames-alters Negate Byte target.value
frames-row w (Some (Adc target)) = frames-alters AddCarry Word target.value
frames-row w (Some (AdcByte target)) = frames-alters AddCarry Byte target.value
frames-row w (Some (Sbc target)) = frames-alters SubtractCarry Word target.value
frames-row w (Some (SbcByte target)) = frames-alters SubtractCarry Byte target.value
frames-row w (Some (Tst target)) = frames-tests Word target.value
frames-row w (Some (TstByte target)) = frames-tests Byte target.value
frames-row w (Some (Ror target)) = frames-alters RotateRight Word target.value
frames-row w (Some (RorByte target)) = frames-alters RotateRight Byte target.value
frames-row w (Some (Rol target)) = frames-alters RotateLeft Word target.value
frames-row w (Some (RolByte target)) = frames-alters RotateLeft Byte target.value
frames-row w (Some (Asr target)) = frames-alters ShiftRight Word target.value
frames-row w (Some (AsrByte target)) = frames-alters ShiftRight Byte target.value
frames-row w (Some (Asl target)) = frames-alters ShiftLeft Word target.value
frames-row w (Some (AslByte target)) = frames-alters ShiftLeft Byte target.value
frames-row w (Some (Sxt target)) = frames-extends target.value
frames-row w (Some (Swab target)) = frames-alters SwapBytes Word target.value
frames-row w (Some (Xor r target)) = frames-combines_register r.value target.value
frames-row w (Some (Mul r source)) = frames-computes_pair Multiply r.value source.value
frames-row w (Some (Div r source)) = frames-computes_even_pair w Divide r.value source.value
frames-row w (Some (Ash r source)) = frames-shifts r.value source.value
frames-row w (Some (Ashc r source)) = frames-computes_even_pair w Shift r.value source.value
frames-row w (Some (Sob r offset)) = frames-counts_down r.value offset.value
frames-row w (Some (Jmp target)) = frames-jumps w target.value
frames-row w (Some (Jsr r target)) = frames-calls w r.value target.value
frames-row w (Some (Rts r)) = frames-returns r.value
frames-row w (Some Rti) = frames-resumes
frames-row w (Some Rtt) = frames-resumes
frames-row w (Some HaltRow) = frames-gives Halt
frames-row w (Some Wait) = frames-waits
frames-row w (Some Reset) = frames-resets
frames-row w (Some Bpt) = frames-traps 0o14
frames-row w (Some Iot) = frames-traps 0o20
frames-row w (Some (Emt code)) = frames-traps 0o30
frames-row w (Some (Trap code)) = frames-traps 0o34
frames-row w (Some (ClearCodes mask)) = frames-masks (cleared_codes mask.value)
frames-row w (Some (SetCodes mask)) = frames-masks (added_codes mask.value)
frames-row w (Some (Br offset)) = frames-branches Always offset.value
frames-row w (Some (Bne offset)) = frames-branches NotEqual offset.value
frames-row w (Some (Beq offset)) = frames-branches Equal offset.value
frames-row w (Some (Bge offset)) = frames-branches GreaterOrEqual offset.value
frames-row w (Some (Blt offset)) = frames-branches Less offset.value
frames-row w (Some (Bgt offset)) = frames-branches Greater offset.value
frames-row w (Some (Ble offset)) = frames-branches LessOrEqual offset.value
frames-row w (Some (Bpl offset)) = frames-branches NotNegative offset.value
frames-row w (Some (Bmi offset)) = frames-branches Negative offset.value
frames-row w (Some (Bhi offset)) = frames-branches Higher offset.value
frames-row w (Some (Blos offset)) = frames-branches LowerOrSame offset.value
frames-row w (Some (Bvc offset)) = frames-branches OverflowClear offset.value
frames-row w (Some (Bvs offset)) = frames-branches OverflowSet offset.value
frames-row w (Some (Bcc offset)) = frames-branches CarryClear offset.value
frames-row w (Some (Bcs offset)) = frames-branches CarrySet offset.value

frames-performs : (w : ℕ) → Frames (performs w)
unfolding performs
frames-performs w = frames-row w (instruction_of w)

frames-attempt : Frames attempt
unfolding attempt
frames-attempt = frames-then next_word performs frames-next_word frames-performs

or_nothing_behind : (xs : List Entry) (b : Bus) (r : Access Outcome) → or_nothing (behind xs b) (access_behind xs r) ≡ after_behind xs (or_nothing b r)
or_nothing_behind xs b (Ok a) = refl
or_nothing_behind xs b (Err stop) = refl

-- the effect of an instruction behind a journal
pub effect_behind : (c : CoreState) (d : Devices) (xs ys : List Entry) → effect c d (xs ++ ys) ≡ after_behind xs (effect c d ys)
unfolding effect
effect_behind c d xs ys =
    ap (or_nothing (bus c d (xs ++ ys))) (frames-attempt xs (bus c d ys)) ∙ or_nothing_behind xs (bus c d ys) (attempt (bus c d ys))

takes_over_behind : (c : CoreState) (d : Devices) (xs ys : List Entry) (vector first second : ℕ) → takes_over c d (xs ++ ys) vector first second ≡ behind xs (takes_over c d ys vector first second)
unfolding takes_over
takes_over_behind c d xs ys vector first second =
    let g : Devices = granted d vector in
    let b0 : Bus = bus c g (ys ++ Grant vector ∷ []) in
    let e0 : bus c g ((xs ++ ys) ++ Grant vector ∷ []) ≡ behind xs b0 = ap (λ (l : List Entry). bus c g l) (append_assoc xs ys (Grant vector ∷ [])) in
    ap (enters vector first second) e0 ∙ enters_behind vector first second xs b0

pushes_at_behind : (c : CoreState) (d : Devices) (xs ys : List Entry) (vector first second : ℕ) → pushes_at c d (xs ++ ys) vector first second ≡ access_behind xs (pushes_at c d ys vector first second)
pushes_at_behind c d xs ys vector first second =
    if_under (access_behind xs) (is_bad first) _ _ _ _ refl
    (if_under (access_behind xs) (is_bad second) _ _ _ _ refl
    (ap (λ (b : Bus). let r : Access Outcome = Ok (record { value = Ran; bus = b }) in r) (takes_over_behind c d xs ys vector first second)))

grants_at_behind : (c : CoreState) (d : Devices) (xs ys : List Entry) (vector first second : ℕ) → grants_at c d (xs ++ ys) vector first second ≡ access_behind xs (grants_at c d ys vector first second)
grants_at_behind c d xs ys vector first second =
    if_under (access_behind xs) (is_outside vector) _ _ _ _ refl
    (if_under (access_behind xs) (is_outside (vector + 2)) _ _ _ _ refl (pushes_at_behind c d xs ys vector first second))

-- the effect of a grant behind a journal
pub interrupted_behind : (c : CoreState) (d : Devices) (xs ys : List Entry) (vector : ℕ) → interrupted c d (xs ++ ys) vector ≡ after_behind xs (interrupted c d ys vector)
unfolding interrupted
interrupted_behind c d xs ys vector =
    let first : ℕ = (slice_index c.registers 6 + 65534) % 65536 in
    let second : ℕ = (slice_index c.registers 6 + 65532) % 65536 in
    ap (or_nothing (bus c d (xs ++ ys))) (grants_at_behind c d xs ys vector first second) ∙ or_nothing_behind xs (bus c d ys) (grants_at c d ys vector first second)
