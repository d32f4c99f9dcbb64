-- The instructions of the machine that stand for one of process code. They depend on that instruction alone, and on what the
-- numbers in it name: an entry, a process, a module.
use Rattle.std.specs.Prelude.{ℕ, ◌+◌, ◌*◌, ◌%◌, ◌-◌, ◌==◌, nat_le, nat_lt, Bool, ℤ, List, [], ◌∷◌, Option, Some, None, slice_get, if◌then◌else◌}
use Rattle.std.specs.Int.{cast_unsigned, w16}
use Rattle.mc_tree.specs.declared.expression.Relation.{Relation}
use Rattle.mc_tree.specs.declared.expression.Relation.TheVariants.{Equal, Unequal, Less, LessEqual, Greater, GreaterEqual}
use Rattle.mc_pcode.specs.declared.instruction.Cell.{Cell}
use Rattle.mc_pcode.specs.declared.instruction.Cell.TheVariants.{Global, Local, Through}
use Rattle.mc_pcode.specs.declared.instruction.Operand.{Operand}
use Rattle.mc_pcode.specs.declared.instruction.Operand.TheVariants as operand
use Rattle.mc_pcode.specs.declared.instruction.Value.{Value}
use Rattle.mc_pcode.specs.declared.instruction.Value.TheVariants.{V0, V1, V2, V3}
use Rattle.mc_pcode.specs.declared.instruction.PInstr.{PInstr}
use Rattle.mc_pcode.specs.declared.instruction.PInstr.TheVariants as code
use Rattle.mc_pcode.specs.declared.program.PEntry.{PEntry}
use Rattle.mc_pcode.specs.declared.program.PProcess.{PProcess}
use Rattle.mc_pcode.specs.Code.{ProcessCode}
use Rattle.mc_kernel.specs.Kernel.{wait_at, send_at, doio_at, start_at, end_at}
use Rattle.mc_expand.specs.declared.line.Register.{Register}
use Rattle.mc_expand.specs.declared.line.Register.TheVariants as register
use Rattle.mc_expand.specs.declared.line.Item.{Item}
use Rattle.mc_expand.specs.declared.line.Item.TheVariants as item
use Rattle.mc_expand.specs.declared.line.Argument.{Argument}
use Rattle.mc_expand.specs.declared.line.Argument.TheVariants.{In, At, Increment, Decrement, Indexed, IndexedAt, Immediate, Absolute}
use Rattle.mc_expand.specs.declared.line.Line.{Line}
use Rattle.mc_expand.specs.Lines.{two, one, onto, bare, word_of}

-- The instructions' words without their operands (DEC's Processor Handbook)

abbrev pub mov : ℕ
mov = 0o010000

abbrev pub cmp : ℕ
cmp = 0o020000

abbrev pub bit : ℕ
bit = 0o030000

abbrev pub bic : ℕ
bic = 0o040000

abbrev pub bis : ℕ
bis = 0o050000

abbrev pub add : ℕ
add = 0o060000

abbrev pub sub : ℕ
sub = 0o160000

abbrev pub clr : ℕ
clr = 0o005000

abbrev pub complement : ℕ
complement = 0o005100

abbrev pub neg : ℕ
neg = 0o005400

abbrev pub tst : ℕ
tst = 0o005700

abbrev pub sxt : ℕ
sxt = 0o006700

abbrev pub jmp : ℕ
jmp = 0o000100

abbrev pub mul : ℕ
mul = 0o070000

abbrev pub div : ℕ
div = 0o071000

abbrev pub ash : ℕ
ash = 0o072000

abbrev pub exclusive_or : ℕ
exclusive_or = 0o074000

abbrev pub jsr : ℕ
jsr = 0o004000

-- branches with an offset of no words
abbrev pub br : ℕ
br = 0o000400

abbrev pub bne : ℕ
bne = 0o001000

abbrev pub beq : ℕ
beq = 0o001400

abbrev pub bge : ℕ
bge = 0o002000

abbrev pub blt : ℕ
blt = 0o002400

abbrev pub bgt : ℕ
bgt = 0o003000

abbrev pub ble : ℕ
ble = 0o003400

abbrev pub bpl : ℕ
bpl = 0o100000

abbrev pub bvc : ℕ
bvc = 0o102000

-- also known as BHIS
abbrev pub bcc : ℕ
bcc = 0o103000

-- the address of the processor status
abbrev pub ps_at : ℕ
ps_at = 0o177776

-- Parts

abbrev pub register_of : Value → Register
register_of V0 = register.R0
register_of V1 = register.R1
register_of V2 = register.R2
register_of V3 = register.R3

-- the register that holds a value, and the word whose address it holds
abbrev pub value : Value → Argument
value v = In (register_of v)

abbrev pub word_at : Value → Argument
word_at v = At (register_of v)

abbrev pub number : ℕ → Argument
number n = Immediate (item.Plain n)

abbrev pub address : ℕ → Argument
address a = Absolute (item.Plain a)

-- the stack's top
abbrev pub pushed : Argument
pushed = Decrement register.Sp

abbrev pub popped : Argument
popped = Increment register.Sp

-- so many words in bytes
abbrev pub doubled : ℕ → ℕ
doubled n = n % 32768 * 2

abbrev pub cell : Cell → Argument
cell (Global n) = Absolute (item.Data n)
cell (Local n) = Indexed (item.Plain (doubled n)) register.R4
cell (Through n) = IndexedAt (item.Plain (doubled n)) register.R4

abbrev pub operand_of : Operand → Argument
operand_of (operand.Const w) = number w
operand_of (operand.Value v) = value v
operand_of (operand.Cell c) = cell c

abbrev pub trap : ℕ → Line
trap n = bare (0o104400 + n)

abbrev pub jump : ℕ → Line
jump place = one jmp (Absolute (item.Place place))

-- an instruction behind which the trap comes where the branch is not taken
abbrev pub check : Line → ℕ → ℕ → List Line
check test holds n = test ∷ bare (holds + 1) ∷ trap n ∷ []

-- 1 in the value where the branch is taken, else 0
abbrev pub truth : Line → ℕ → Value → List Line
truth test holds v = test ∷ bare (holds + 2) ∷ one clr (value v) ∷ bare (br + 2) ∷ two mov (number 1) (value v) ∷ []

-- to the place where the branch over the jump is not taken
abbrev pub jump_unless : Line → ℕ → ℕ → List Line
jump_unless test over place = test ∷ bare (over + 2) ∷ jump place ∷ []

-- the address of a cell
abbrev pub address_of : Cell → Value → List Line
address_of (Global n) v = two mov (Immediate (item.Data n)) (value v) ∷ []
address_of (Local n) v = two mov (In register.R4) (value v) ∷ two add (number (doubled n)) (value v) ∷ []
address_of (Through n) v = two mov (cell (Local n)) (value v) ∷ []

abbrev pub read_register : ℕ → ℕ → Value → List Line
read_register a mask v =
    if mask == 0o177777
    then two mov (address a) (value v) ∷ []
    else two mov (address a) (value v) ∷ two bic (number (0o177777 - mask)) (value v) ∷ []

-- the bit whose number the value holds
abbrev pub bit_test : Operand → Value → List Line
bit_test x i =
    two mov (number 1) (In register.R5) ∷
    onto ash register.R5 (value i) ∷
    two bit (In register.R5) (operand_of x) ∷
    bare (bne + 2) ∷
    one clr (value i) ∷
    bare (br + 2) ∷
    two mov (number 1) (value i) ∷
    []

-- how many words an instruction with this one operand has
abbrev pub operand_words : Option Item → ℕ
operand_words None = 1
operand_words (Some i) = 2

-- one instruction reads and writes the word
abbrev pub bit_put : Argument → Value → Value → List Line
bit_put word i b =
    two mov (number 1) (In register.R5) ∷
    onto ash register.R5 (value i) ∷
    one tst (value b) ∷
    bare (beq + (operand_words (word_of word) + 1)) ∷
    two bis (In register.R5) word ∷
    bare (br + operand_words (word_of word)) ∷
    two bic (In register.R5) word ∷
    []

abbrev pub index : ℤ → ℤ → ℕ → Value → Value → List Line
index low high size i v =
    two cmp (value i) (number (cast_unsigned w16 low)) ∷
    bare (bge + 1) ∷
    trap 1 ∷
    two cmp (value i) (number (cast_unsigned w16 high)) ∷
    bare (ble + 1) ∷
    trap 1 ∷
    two mov (value i) (In register.R5) ∷
    two sub (number (cast_unsigned w16 low)) (In register.R5) ∷
    onto mul register.R5 (number (doubled size)) ∷
    two add (In register.R5) (value v) ∷
    []

-- the product's low half; the carry says that it is none
abbrev pub multiply : Operand → Value → List Line
multiply x v =
    two mov (value v) (In register.R5) ∷
    onto mul register.R5 (operand_of x) ∷
    bare (bcc + 1) ∷
    trap 2 ∷
    two mov (In register.R5) (value v) ∷
    []

-- the quotient comes into R4 and the remainder into R5, so the frame's address is put by
abbrev pub divide : Operand → Value → Register → List Line
divide x v from =
    two mov (operand_of x) pushed ∷
    bare (bne + 1) ∷
    trap 3 ∷
    two mov (In register.R4) pushed ∷
    two mov (value v) (In register.R5) ∷
    one sxt (In register.R4) ∷
    onto div register.R4 (Indexed (item.Plain 2) register.Sp) ∷
    bare (bvc + 1) ∷
    trap 2 ∷
    two mov (In from) (value v) ∷
    two mov popped (In register.R4) ∷
    one tst popped ∷
    []

-- the branch that is taken where the relation holds
abbrev pub branch_of : Relation → ℕ
branch_of Equal = beq
branch_of Unequal = bne
branch_of Less = blt
branch_of LessEqual = ble
branch_of Greater = bgt
branch_of GreaterEqual = bge

-- the kernel's entry of this address is entered
abbrev pub enters : ℕ → List Line
enters entry = two mov (number entry) (In register.R5) ∷ bare 0o104000 ∷ []

-- the activation of an entry goes
abbrev pub returns : Option PEntry → List Line
returns None = []
returns (Some e) =
    two add (number (doubled e.locals)) (In register.Sp) ∷
    two mov popped (In register.R5) ∷
    two mov popped (In register.R4) ∷
    two add (number (doubled e.params)) (In register.Sp) ∷
    one jmp (At register.R5) ∷
    []

abbrev pub priority_in : Option ℕ → ℕ
priority_in None = 0
priority_in (Some p) = p

-- the processor status with this priority
abbrev pub status_of : ℕ → ℕ
status_of priority = priority % 8 * 32

abbrev pub params_of : Option PEntry → ℕ
params_of None = 0
params_of (Some e) = e.params

abbrev pub params_of_process : List PEntry → Option PProcess → ℕ
params_of_process entries None = 0
params_of_process entries (Some q) = params_of (slice_get entries q.entry)

abbrev pub starts : ℕ → ℕ → List Line
starts q params =
    two mov (Immediate (item.Record q)) (In register.R0) ∷
    two mov (number start_at) (In register.R5) ∷
    bare 0o104000 ∷
    two add (number (doubled params)) (In register.Sp) ∷
    []

-- so many times a word from where R1 leads to where R0 leads; so many words of the activation are zero
abbrev pub copies : ℕ → List Line
copies k = two mov (number k) (In register.R5) ∷ two mov (Increment register.R1) (Increment register.R0) ∷ bare 0o077502 ∷ []

abbrev pub clears : ℕ → List Line
clears k = two mov (In register.R4) (In register.R0) ∷ two mov (number k) (In register.R5) ∷ one clr (Increment register.R0) ∷ bare 0o077502 ∷ []

-- the bits that both have, and those that one of both has
abbrev pub and : Operand → Value → List Line
and x v = two mov (operand_of x) (In register.R5) ∷ one complement (In register.R5) ∷ two bic (In register.R5) (value v) ∷ []

abbrev pub xor : Operand → Value → List Line
xor x v = two mov (operand_of x) (In register.R5) ∷ onto exclusive_or register.R5 (value v) ∷ []

-- the processor status is put by and becomes this one
abbrev pub enter : ℕ → List Line
enter status = two mov (address ps_at) pushed ∷ two mov (number status) (address ps_at) ∷ []

-- a rank below 0 traps
abbrev pub wait : List Line
wait = one tst (In register.R1) ∷ bare (bpl + 1) ∷ trap 5 ∷ two mov (number wait_at) (In register.R5) ∷ bare 0o104000 ∷ []

-- One instruction of process code

abbrev pub template : ProcessCode → PInstr → List Line
template p (code.Move x v) = two mov (operand_of x) (value v) ∷ []
template p (code.Store x c) = two mov (operand_of x) (cell c) ∷ []
template p (code.Push v) = two mov (value v) pushed ∷ []
template p (code.Pop v) = two mov popped (value v) ∷ []
template p (code.Address c v) = address_of c v
template p (code.LoadAt u v) = two mov (word_at u) (value v) ∷ []
template p (code.StoreAt x v) = two mov (operand_of x) (word_at v) ∷ []
template p (code.CopyAt k) = copies k
template p (code.ReadRegister a mask v) = read_register a mask v
template p (code.WriteRegister x a) = two mov (operand_of x) (address a) ∷ []
template p (code.BitTest x i) = bit_test x i
template p (code.BitPut c i b) = bit_put (cell c) i b
template p (code.BitPutAt v i b) = bit_put (word_at v) i b
template p (code.BitPutRegister a i b) = bit_put (address a) i b
template p (code.Index low high size i v) = index low high size i v
template p (code.BitIndex v) = check (two bit (number 0o177760) (value v)) beq 1
template p (code.Field k v) = two add (number (doubled k)) (value v) ∷ []
template p (code.Add x v) = check (two add (operand_of x) (value v)) bvc 2
template p (code.Subtract x v) = check (two sub (operand_of x) (value v)) bvc 2
template p (code.Multiply x v) = multiply x v
template p (code.Divide x v) = divide x v register.R4
template p (code.Modulo x v) = divide x v register.R5
template p (code.Negate v) = check (one neg (value v)) bvc 2
template p (code.And x v) = and x v
template p (code.Or x v) = two bis (operand_of x) (value v) ∷ []
template p (code.Xor x v) = xor x v
template p (code.NotBits v) = one complement (value v) ∷ []
template p (code.Not v) = truth (one tst (value v)) beq v
template p (code.Compare r x v) = truth (two cmp (value v) (operand_of x)) (branch_of r) v
template p (code.ToChar v) = check (two bit (number 0o177400) (value v)) beq 6
template p (code.Jump l) = jump l ∷ []
template p (code.JumpFalse v l) = jump_unless (one tst (value v)) bne l
template p (code.JumpTrue v l) = jump_unless (one tst (value v)) beq l
template p (code.CaseTest w v l) = jump_unless (two cmp (value v) (number w)) bne l
template p (code.TrapNow n) = trap (n % 256) ∷ []
template p (code.Argument x) = two mov (operand_of x) pushed ∷ []
template p (code.Call e) = onto jsr register.R4 (Absolute (item.Entry e)) ∷ []
template p (code.Return e) = returns (slice_get p.entries e)
template p (code.ZeroLocal k) = clears (k % 65536)
template p (code.Result x) = two mov (operand_of x) (In register.R0) ∷ []
template p (code.Enter m) = enter (status_of (priority_in (slice_get p.priorities m)))
template p (code.Leave m) = two mov popped (address ps_at) ∷ []
template p (code.Start q) = starts q (params_of_process p.entries (slice_get p.processes q))
template p code.Wait = wait
template p code.Send = enters send_at
template p (code.Awaited v) = truth (one tst (word_at v)) bne v
template p code.Doio = enters doio_at
template p code.EndProcess = enters end_at

-- What stands in front of an entry's code

-- room for the frame is checked against the bound; the place of return, and the R4 before
abbrev pub entered : PEntry → List Line
entered e =
    two mov (In register.Sp) (In register.R5) ∷
    two sub (number (doubled e.frame)) (In register.R5) ∷
    two cmp (In register.R5) (address 0o2002) ∷
    bare (bcc + 1) ∷
    trap 8 ∷
    two mov (In register.R4) pushed ∷
    two sub (number (doubled e.locals)) (In register.Sp) ∷
    two mov (In register.Sp) (In register.R4) ∷
    []

-- a process's text: its frame was checked when it was compiled
abbrev pub opened : PEntry → List Line
opened e = two sub (number (doubled e.locals)) (In register.Sp) ∷ two mov (In register.Sp) (In register.R4) ∷ []

abbrev pub main_opened : PEntry → List Line
main_opened e =
    two mov (Immediate item.MainTop) (In register.Sp) ∷
    two sub (number (doubled e.locals)) (In register.Sp) ∷
    two mov (In register.Sp) (In register.R4) ∷
    []

-- the frame does not fit into a workspace: 40 words of it are kept for what is suspended
abbrev pub main_full : List Line
main_full = two mov (Immediate item.MainTop) (In register.Sp) ∷ trap 8 ∷ []

abbrev pub is_full : ℕ → PEntry → Bool
is_full workspace e = nat_lt workspace (40 + e.frame)

-- of the entry of this number: the main process's is 0, and those of so many processes follow
abbrev pub prologue : ℕ → ℕ → ℕ → PEntry → List Line
prologue workspace processes n e =
    if n == 0
    then (if is_full workspace e then main_full else main_opened e)
    else (if is_full workspace e then trap 8 ∷ [] else (if nat_le n processes then opened e else entered e))
