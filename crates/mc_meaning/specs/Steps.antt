-- One evaluation step of the topmost process. A step that replaces a statement, an expression or a designator by its parts
-- changes nothing else. Every other step reads at most one word and changes at most one, besides the parameters of a call or
-- a start.
use Rattle.std.specs.Prelude.{ℕ, ◌+◌, ◌-◌, ◌==◌, nat_lt, List, [], ◌∷◌, ◌++◌, length, map, take, not, Option, Some, None, Bool, true, false, slice_get, slice_index, drop, if◌then◌else◌}
use Rattle.mc_prog.specs.declared.program.Form.{Form}
use Rattle.mc_prog.specs.declared.program.Form.TheVariants as form
use Rattle.mc_prog.specs.Values.{Outcome, Gives, Traps, truth}
use Rattle.mc_prog.specs.Resolved.{Resolved}
use Rattle.mc_meaning.specs.declared.process.Item.{Item}
use Rattle.mc_meaning.specs.declared.process.Item.TheVariants.{Runs, CallsBody, Evaluates, Names, Reads, Indexes, Selects, TestsBit, ReadsBit, Operates, Decides, Writes, WritesBit, Spreads, Moves, Clears, Branches, Turns, Repeats, Loops, Leaves, Tries, Calls, Starts, Waits, Sends, Awaits, StandsAtDoio, Returns, Ends}
use Rattle.mc_meaning.specs.declared.store.Found.{Found}
use Rattle.mc_meaning.specs.declared.store.Found.TheVariants as found
use Rattle.mc_meaning.specs.declared.store.Target.{Target}
use Rattle.mc_meaning.specs.declared.store.Target.TheVariants as target
use Rattle.mc_meaning.specs.Configuration.{Configuration, ProcessState, stored, topmost}
use Rattle.mc_meaning.specs.Access.{after_reading, after_writing, after_writing_bit, bit_of, cell_target, element_offset, field_offset, moved, moved_word, slot_target, value_of, word_at}
use Rattle.mc_meaning.specs.Actions.{finish, is_waited_for, send, stand_at_doio, start, trapped, wait}
use Rattle.mc_meaning.specs.Calling.{enter_body, enter_procedure, leave, moves, with_process}
use Rattle.mc_meaning.specs.Operations.{binary, is_binary, unary}
use Rattle.mc_meaning.specs.Parts.{branch_items, form_at, named_parts, part_at, parts_at, statement_parts, type_at, value_parts}

-- The process n, which is q, goes on with this.
abbrev pub goes_on : Configuration → ℕ → ProcessState → List Found → List Item → Configuration
goes_on c n q found_ rest = with_process c n (record q { found = found_; rest = rest })

abbrev pub replaced : Configuration → ℕ → ProcessState → List Item → List Item → Configuration
replaced c n q items rest = goes_on c n q q.found (items ++ rest)

abbrev pub finds : Configuration → ℕ → ProcessState → Found → List Item → Configuration
finds c n q f rest = goes_on c n q (f ∷ q.found) rest

-- Expressions

abbrev pub evaluate : Resolved → Configuration → ℕ → ProcessState → ℕ → List Item → Form → Configuration
evaluate p c n q node rest (form.Constant w) = finds c n q (found.Value w) rest
evaluate p c n q node rest other = replaced c n q (value_parts p node other) rest

abbrev pub name : Resolved → Configuration → ℕ → ProcessState → ℕ → List Item → Form → Configuration
name p c n q node rest (form.Cell k) = finds c n q (found.Named (cell_target p k)) rest
name p c n q node rest (form.Slot k) = finds c n q (found.Named (slot_target n q.activations k)) rest
name p c n q node rest (form.Literal bytes) = finds c n q (found.Text node) rest
name p c n q node rest other = replaced c n q (named_parts p node other) rest

abbrev pub read : Configuration → ℕ → ProcessState → ℕ → List Item → List Found → Configuration
read c n q t rest (found.Named there ∷ found_) = goes_on (after_reading c there) n q (found.Value (value_of t there (word_at c there)) ∷ found_) rest
read c n q t rest other = c

-- an index outside the bounds traps 1
abbrev pub at_element : Configuration → ℕ → ProcessState → Target → List Found → List Item → Option ℕ → Configuration
at_element c n q there found_ rest None = trapped c 1
at_element c n q there found_ rest (Some k) = goes_on c n q (found.Named (moved there k) ∷ found_) rest

abbrev pub index : Resolved → Configuration → ℕ → ProcessState → ℕ → List Item → List Found → Configuration
index p c n q node rest (found.Value w ∷ (found.Named there ∷ found_)) = at_element c n q there found_ rest (element_offset p node w)
index p c n q node rest other = c

abbrev pub select : Resolved → Configuration → ℕ → ProcessState → ℕ → List Item → List Found → Configuration
select p c n q node rest (found.Named there ∷ found_) = goes_on c n q (found.Named (moved there (field_offset p node)) ∷ found_) rest
select p c n q node rest other = c

-- a bit's index outside 0 to 15 traps 1
abbrev pub test_bit : Configuration → ℕ → ProcessState → List Item → List Found → Configuration
test_bit c n q rest (found.Value i ∷ (found.Named there ∷ found_)) = if nat_lt i 16 then goes_on c n q (found.Bit there i ∷ found_) rest else trapped c 1
test_bit c n q rest (found.Value i ∷ (found.Value w ∷ found_)) = if nat_lt i 16 then goes_on c n q (found.BitOf w i ∷ found_) rest else trapped c 1
test_bit c n q rest other = c

abbrev pub read_bit : Configuration → ℕ → ProcessState → List Item → List Found → Configuration
read_bit c n q rest (found.Bit there i ∷ found_) = goes_on (after_reading c there) n q (found.Value (bit_of (word_at c there) i) ∷ found_) rest
read_bit c n q rest (found.BitOf w i ∷ found_) = goes_on c n q (found.Value (bit_of w i) ∷ found_) rest
read_bit c n q rest other = c

abbrev pub gives : Configuration → ℕ → ProcessState → List Found → List Item → Outcome → Configuration
gives c n q found_ rest (Gives w) = goes_on c n q (found.Value w ∷ found_) rest
gives c n q found_ rest (Traps k) = trapped c k

abbrev pub operate : Resolved → Configuration → ℕ → ProcessState → ℕ → List Item → Bool → List Found → Configuration
operate p c n q node rest true (found.Value b ∷ (found.Value a ∷ found_)) = gives c n q found_ rest (binary (form_at p node) a b)
operate p c n q node rest false (found.Value a ∷ found_) = gives c n q found_ rest (unary p node (type_at p (part_at p node 0)) (form_at p node) a)
operate p c n q node rest two other = c

-- whether the left side alone decides: a false one of `and`, a true one of `or`
abbrev pub is_decided : Form → ℕ → Bool
is_decided form.And w = w == 0
is_decided other w = not (w == 0)

abbrev pub decide : Resolved → Configuration → ℕ → ProcessState → ℕ → List Item → List Found → Configuration
decide p c n q node rest (found.Value w ∷ found_) =
    if is_decided (form_at p node) w then goes_on c n q (found.Value w ∷ found_) rest else goes_on c n q found_ (Evaluates (part_at p node 1) ∷ rest)
decide p c n q node rest other = c

-- Assignments

abbrev pub write : Configuration → ℕ → ProcessState → List Item → List Found → Configuration
write c n q rest (found.Value w ∷ (found.Named there ∷ found_)) = after_writing (goes_on c n q found_ rest) there w
write c n q rest other = c

abbrev pub write_bit : Configuration → ℕ → ProcessState → List Item → List Found → Configuration
write_bit c n q rest (found.Value w ∷ (found.Bit there i ∷ found_)) = after_writing_bit (goes_on c n q found_ rest) there i (truth (not (w == 0)))
write_bit c n q rest other = c

abbrev pub spread : Resolved → Configuration → ℕ → ProcessState → ℕ → List Item → List Found → Configuration
spread p c n q words rest (from ∷ (found.Named (target.Stored to) ∷ found_)) = goes_on c n q found_ (moves p to from words ++ rest)
spread p c n q words rest other = c

-- Statements

abbrev pub branch_on : Configuration → ℕ → ProcessState → List Item → (Bool → List Item) → List Found → Configuration
branch_on c n q rest selected (found.Value w ∷ found_) = goes_on c n q found_ (selected (not (w == 0)) ++ rest)
branch_on c n q rest selected other = c

abbrev pub turn_items : Resolved → ℕ → Bool → List Item
turn_items p node true = Runs (part_at p node 1) ∷ (Runs node ∷ [])
turn_items p node false = []

abbrev pub repeat_items : ℕ → Bool → List Item
repeat_items node true = []
repeat_items node false = Runs node ∷ []

-- Behind the last `when` the loop begins again.
abbrev pub loop_items : Resolved → ℕ → ℕ → Option ℕ → List Item
loop_items p node k None = Runs node ∷ []
loop_items p node k (Some part) = Evaluates (part_at p part 0) ∷ (Leaves node k ∷ [])

-- the condition, the body behind `do` where there is one, and the body behind `exit`
abbrev pub leave_parts : ℕ → ℕ → List ℕ → Bool → List Item
leave_parts node k (condition ∷ (behind ∷ [])) true = []
leave_parts node k (condition ∷ (behind ∷ [])) false = Runs behind ∷ (Loops node (k + 1) ∷ [])
leave_parts node k (condition ∷ (does ∷ (behind ∷ others))) true = Runs does ∷ []
leave_parts node k (condition ∷ (does ∷ (behind ∷ others))) false = Runs behind ∷ (Loops node (k + 1) ∷ [])
leave_parts node k other holds = []

abbrev pub leave_items : Resolved → ℕ → ℕ → Bool → List Item
leave_items p node k = leave_parts node k (parts_at p (part_at p node (k + 1)))

-- the labels of an arm, each with the arm's body, which is its last part
abbrev pub arm_labels : List ℕ → List (ℕ × ℕ)
arm_labels parts = map (λ label. (label, slice_index parts (length parts - 1))) (take (length parts - 1) parts)

-- the labels of a `case` in the order of the text, each with the body of its arm
abbrev pub labels_of : Resolved → List ℕ → List (ℕ × ℕ)
labels_of p [] = []
labels_of p (arm ∷ arms) = arm_labels (parts_at p arm) ++ labels_of p arms

abbrev pub word_in : Form → ℕ
word_in (form.Constant w) = w
word_in other = 0

-- One label is compared; behind the last one without a match it traps 4.
abbrev pub try_label : Resolved → Configuration → ℕ → ProcessState → ℕ → ℕ → List Item → ℕ → List Found → Option (ℕ × ℕ) → Configuration
try_label p c n q node k rest w found_ None = trapped c 4
try_label p c n q node k rest w found_ (Some l) =
    if word_in (form_at p l.0) == w then goes_on c n q found_ (Runs l.1 ∷ rest) else goes_on c n q (found.Value w ∷ found_) (Tries node (k + 1) ∷ rest)

abbrev pub try : Resolved → Configuration → ℕ → ProcessState → ℕ → ℕ → List Item → List Found → Configuration
try p c n q node k rest (found.Value w ∷ found_) = try_label p c n q node k rest w found_ (slice_get (labels_of p (drop 1 (parts_at p node))) k)
try p c n q node k rest other = c

-- Calls and processes

abbrev pub call_procedure : Resolved → Configuration → ℕ → ProcessState → ℕ → List Item → Form → Configuration
call_procedure p c n q count rest (form.Procedure k) = enter_procedure p c n q k count rest (slice_get p.procedures k)
call_procedure p c n q count rest other = c

abbrev pub start_process : Resolved → Configuration → ℕ → ProcessState → ℕ → List Item → Form → Configuration
start_process p c n q count rest (form.Process k) = start p c n q k count rest (slice_get p.processes k)
start_process p c n q count rest other = c

-- how many arguments a call has
abbrev pub count_of : Resolved → ℕ → ℕ
count_of p node = length (parts_at p node) - 1

abbrev pub await : Configuration → ℕ → ProcessState → List Item → List Found → Configuration
await c n q rest (found.Named (target.Stored signal) ∷ found_) = goes_on c n q (found.Value (truth (is_waited_for c.waiters signal)) ∷ found_) rest
await c n q rest other = c

-- what the process n, which is q, does next
abbrev pub next : Resolved → Configuration → ℕ → ProcessState → List Item → Configuration
next p c n q [] = c
next p c n q (Runs node ∷ rest) = replaced c n q (statement_parts p node (form_at p node)) rest
next p c n q (CallsBody m ∷ rest) = enter_body p c n q m rest (slice_get p.modules m)
next p c n q (Evaluates node ∷ rest) = evaluate p c n q node rest (form_at p node)
next p c n q (Names node ∷ rest) = name p c n q node rest (form_at p node)
next p c n q (Reads t ∷ rest) = read c n q t rest q.found
next p c n q (Indexes node ∷ rest) = index p c n q node rest q.found
next p c n q (Selects node ∷ rest) = select p c n q node rest q.found
next p c n q (TestsBit ∷ rest) = test_bit c n q rest q.found
next p c n q (ReadsBit ∷ rest) = read_bit c n q rest q.found
next p c n q (Operates node ∷ rest) = operate p c n q node rest (is_binary (form_at p node)) q.found
next p c n q (Decides node ∷ rest) = decide p c n q node rest q.found
next p c n q (Writes ∷ rest) = write c n q rest q.found
next p c n q (WritesBit ∷ rest) = write_bit c n q rest q.found
next p c n q (Spreads words ∷ rest) = spread p c n q words rest q.found
next p c n q (Moves to from ∷ rest) = record (goes_on c n q q.found rest) { store = stored c.store to (moved_word c from) }
next p c n q (Clears there ∷ rest) = record (goes_on c n q q.found rest) { store = stored c.store there 0 }
next p c n q (Branches node k ∷ rest) = branch_on c n q rest (branch_items p node k) q.found
next p c n q (Turns node ∷ rest) = branch_on c n q rest (turn_items p node) q.found
next p c n q (Repeats node ∷ rest) = branch_on c n q rest (repeat_items node) q.found
next p c n q (Loops node k ∷ rest) = replaced c n q (loop_items p node k (slice_get (parts_at p node) (k + 1))) rest
next p c n q (Leaves node k ∷ rest) = branch_on c n q rest (leave_items p node k) q.found
next p c n q (Tries node k ∷ rest) = try p c n q node k rest q.found
next p c n q (Calls node ∷ rest) = call_procedure p c n q (count_of p node) rest (form_at p (part_at p node 0))
next p c n q (Starts node ∷ rest) = start_process p c n q (count_of p node) rest (form_at p (part_at p node 0))
next p c n q (Waits ranked ∷ rest) = wait c n q ranked rest q.found
next p c n q (Sends ∷ rest) = send c n q rest q.found
next p c n q (Awaits ∷ rest) = await c n q rest q.found
next p c n q (StandsAtDoio ∷ rest) = stand_at_doio c n q rest
next p c n q (Returns result ∷ rest) = leave c n q result q.activations
next p c n q (Ends ∷ rest) = finish c n q rest

abbrev pub next_of : Resolved → Configuration → ℕ → Option ProcessState → Configuration
next_of p c n None = c
next_of p c n (Some q) = next p c n q q.rest

abbrev pub step_at : Resolved → Configuration → Option ℕ → Configuration
step_at p c None = c
step_at p c (Some n) = next_of p c n (slice_get c.processes n)

-- one evaluation step of the topmost process
abbrev pub evaluated : Resolved → Configuration → Configuration
evaluated p c = step_at p c (topmost c)
