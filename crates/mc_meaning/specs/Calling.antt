-- Calls: activations with their parameters, and their ends.
use Rattle.std.specs.Prelude.{ℕ, zero, suc, ◌+◌, List, [], ◌∷◌, ◌++◌, length, Option, Some, None, slice_get, slice_set, take, drop, reverse}
use Rattle.mc_prog.specs.declared.program.CodeInfo.{CodeInfo}
use Rattle.mc_prog.specs.declared.program.Form.{Form}
use Rattle.mc_prog.specs.declared.program.Form.TheVariants as form
use Rattle.mc_prog.specs.declared.program.ModuleInfo.{ModuleInfo}
use Rattle.mc_prog.specs.declared.program.ModuleKind.{ModuleKind}
use Rattle.mc_prog.specs.declared.program.ModuleKind.TheVariants as kind
use Rattle.mc_prog.specs.declared.program.Slot.{Slot}
use Rattle.mc_prog.specs.declared.program.SlotKind.{SlotKind}
use Rattle.mc_prog.specs.declared.program.SlotKind.TheVariants as slots
use Rattle.mc_prog.specs.Known.{words_of}
use Rattle.mc_prog.specs.Resolved.{Resolved}
use Rattle.mc_meaning.specs.declared.process.Activation.{Activation}
use Rattle.mc_meaning.specs.declared.process.Item.{Item}
use Rattle.mc_meaning.specs.declared.process.Item.TheVariants.{Runs, Moves, Clears, Returns}
use Rattle.mc_meaning.specs.declared.process.Reference.{Reference}
use Rattle.mc_meaning.specs.declared.process.Running.{Running}
use Rattle.mc_meaning.specs.declared.process.Running.TheVariants as running
use Rattle.mc_meaning.specs.declared.store.Found.{Found}
use Rattle.mc_meaning.specs.declared.store.Found.TheVariants as found
use Rattle.mc_meaning.specs.declared.store.Name.{Name}
use Rattle.mc_meaning.specs.declared.store.Name.TheVariants.{Private}
use Rattle.mc_meaning.specs.declared.store.Source.TheVariants as source
use Rattle.mc_meaning.specs.declared.store.Target.TheVariants as target
use Rattle.mc_meaning.specs.Configuration.{Configuration, ProcessState, Store, all_stored}
use Rattle.mc_meaning.specs.Access.{moved_name}
use Rattle.mc_meaning.specs.Parts.{form_at}

abbrev pub with_process : Configuration → ℕ → ProcessState → Configuration
with_process c n q = record c { processes = slice_set c.processes n q }

-- inside a device module its priority holds, elsewhere the priority stays
abbrev pub priority_inside : ModuleKind → ℕ → ℕ → ℕ
priority_inside kind.Device own before = own
priority_inside kind.Plain own before = before
priority_inside kind.Interface own before = before

abbrev pub priority_in : Option ModuleInfo → ℕ → ℕ
priority_in None before = before
priority_in (Some m) before = priority_inside m.kind m.priority before

-- Moves of several words

-- from the word k on, so many words of what is named
abbrev pub word_moves : Name → Name → ℕ → ℕ → List Item
word_moves to from k zero = []
word_moves to from k (suc words) = Moves (moved_name to k) (source.Stored (moved_name from k)) ∷ word_moves to from (k + 1) words

abbrev pub byte_moves : Name → ℕ → List ℕ → List Item
byte_moves to k [] = []
byte_moves to k (b ∷ bytes) = Moves (moved_name to k) (source.Byte b) ∷ byte_moves to (k + 1) bytes

abbrev pub text_of : Form → List ℕ
text_of (form.Literal bytes) = bytes
text_of other = []

-- the moves of a structured value of so many words, lowest word first
abbrev pub moves : Resolved → Name → Found → ℕ → List Item
moves p to (found.Named (target.Stored from)) words = word_moves to from 0 words
moves p to (found.Text n) words = byte_moves to 0 (text_of (form_at p n))
moves p to other words = []

-- Parameters and locals of an activation of the process n

abbrev pub clears : Name → ℕ → ℕ → List Item
clears name k zero = []
clears name k (suc words) = Clears (moved_name name k) ∷ clears name (k + 1) words

abbrev pub slot_clears : Resolved → Name → ℕ → SlotKind → List Item
slot_clears p name t slots.Local = clears name 0 (words_of p.types t)
slot_clears p name t slots.Constant = []
slot_clears p name t slots.Variable = []
slot_clears p name t slots.Result = []

-- the locals, whose words are set to zero one after the other; the slots are numbered from k
abbrev pub local_clears : Resolved → ℕ → ℕ → ℕ → List Slot → List Item
local_clears p n activation k [] = []
local_clears p n activation k (s ∷ slots_) = slot_clears p (Private n activation k 0) s.type_of s.kind ++ local_clears p n activation (k + 1) slots_

abbrev pub scalar_for : Name → SlotKind → Found → List (Name × ℕ)
scalar_for name slots.Constant (found.Value w) = (name, w) ∷ []
scalar_for name kind_ other = []

-- the words of the scalar parameters
abbrev pub scalars_for : ℕ → ℕ → ℕ → List Slot → List Found → List (Name × ℕ)
scalars_for n activation k slots_ [] = []
scalars_for n activation k [] (f ∷ arguments) = []
scalars_for n activation k (s ∷ slots_) (f ∷ arguments) = scalar_for (Private n activation k 0) s.kind f ++ scalars_for n activation (k + 1) slots_ arguments

abbrev pub reference_for : ℕ → SlotKind → Found → List Reference
reference_for k slots.Variable (found.Named there) = record { slot = k; target = there } ∷ []
reference_for k kind_ other = []

-- what the `var` parameters stand for
abbrev pub references_for : ℕ → List Slot → List Found → List Reference
references_for k slots_ [] = []
references_for k [] (f ∷ arguments) = []
references_for k (s ∷ slots_) (f ∷ arguments) = reference_for k s.kind f ++ references_for (k + 1) slots_ arguments

abbrev pub parameter_moves : Resolved → Name → ℕ → SlotKind → Found → List Item
parameter_moves p name t slots.Constant f = moves p name f (words_of p.types t)
parameter_moves p name t slots.Variable f = []
parameter_moves p name t slots.Local f = []
parameter_moves p name t slots.Result f = []

-- the moves of structured parameters, in the order of the parameters
abbrev pub copies : Resolved → ℕ → ℕ → ℕ → List Slot → List Found → List Item
copies p n activation k slots_ [] = []
copies p n activation k [] (f ∷ arguments) = []
copies p n activation k (s ∷ slots_) (f ∷ arguments) = parameter_moves p (Private n activation k 0) s.type_of s.kind f ++ copies p n activation (k + 1) slots_ arguments

abbrev pub result_from : ℕ → SlotKind → Option ℕ → Option ℕ
result_from k slots.Result later = Some k
result_from k slots.Constant later = later
result_from k slots.Variable later = later
result_from k slots.Local later = later

-- the slot of the result, where there is one
abbrev pub result_slot : ℕ → List Slot → Option ℕ
result_slot k [] = None
result_slot k (s ∷ slots_) = result_from k s.kind (result_slot (k + 1) slots_)

abbrev pub zero_for : ℕ → ℕ → Option ℕ → List (Name × ℕ)
zero_for n activation None = []
zero_for n activation (Some slot) = (Private n activation slot 0, 0) ∷ []

-- the words that an activation begins with: 0 for its result, where it has one, and its scalar parameters
abbrev pub first_words : ℕ → ℕ → List Slot → List Found → List (Name × ℕ)
first_words n activation slots_ arguments = zero_for n activation (result_slot 0 slots_) ++ scalars_for n activation 0 slots_ arguments

-- Entering and leaving

-- the arguments of a call in their order: those that were found last
abbrev pub arguments_of : ℕ → List Found → List Found
arguments_of count found_ = reverse (take count found_)

abbrev pub at_priority : ProcessState → ℕ → ProcessState
at_priority q priority = record q { standing = record q.standing { priority = priority } }

-- The process with an activation of what runs, at this priority. What its caller has found, and has still to do, is put by in
-- the activation.
abbrev pub entered : ProcessState → List Item → Running → ℕ → ℕ → List Reference → ℕ → ProcessState
entered q rest runs in_module frame references priority = record (at_priority q priority) {
  activations = record { running = runs; «module» = Some in_module; before = q.standing.priority; frame = frame; references = references; found = q.found; rest = rest } ∷ q.activations;
  found = [];
}

abbrev pub enter_body : Resolved → Configuration → ℕ → ProcessState → ℕ → List Item → Option ModuleInfo → Configuration
enter_body p c n q m rest None = c
enter_body p c n q m rest (Some x) =
    with_process c n (record (entered q rest (running.Body m) m x.body.frame [] (priority_inside x.kind x.priority q.standing.priority)) { rest = Runs x.body.body ∷ (Returns None ∷ []) })

-- what a call has to do: the words of its structured parameters, those of its locals, its body, and its end
abbrev pub called_items : Resolved → ℕ → ℕ → CodeInfo → List Found → List Item
called_items p n activation code arguments =
    copies p n activation 0 code.slots arguments ++ (local_clears p n activation 0 code.slots ++ (Runs code.body ∷ (Returns (result_slot 0 code.slots) ∷ [])))

-- A call makes the activation with its scalar and `var` parameters, and with 0 for its result.
abbrev pub called : Resolved → Configuration → ℕ → ProcessState → ℕ → CodeInfo → List Found → List Item → Configuration
called p c n q k code arguments rest =
    record (with_process c n (record (entered q rest (running.Procedure k) code.«module» code.frame (references_for 0 code.slots arguments) (priority_in (slice_get p.modules code.«module») q.standing.priority)) {
      rest = called_items p n (length q.activations) code arguments;
    })) { store = all_stored c.store (first_words n (length q.activations) code.slots arguments) }

abbrev pub enter_procedure : Resolved → Configuration → ℕ → ProcessState → ℕ → ℕ → List Item → Option CodeInfo → Configuration
enter_procedure p c n q k count rest None = c
enter_procedure p c n q k count rest (Some code) = called p c n (record q { found = drop count q.found }) k code (arguments_of count q.found) rest

abbrev pub with_result : Store → ℕ → ℕ → Option ℕ → List Found → List Found
with_result store n activation None found_ = found_
with_result store n activation (Some slot) found_ = found.Value (store (Private n activation slot 0)) ∷ found_

-- the process behind its last activation: at the priority before it, with what its caller had found and has still to do
abbrev pub returned : ProcessState → List Activation → ProcessState
returned q [] = q
returned q (a ∷ activations) = record (at_priority q a.before) { activations = activations; found = a.found; rest = a.rest }

-- The end of a call restores the priority and what its caller was at, and gives the result.
abbrev pub leave : Configuration → ℕ → ProcessState → Option ℕ → List Activation → Configuration
leave c n q result [] = c
leave c n q result (a ∷ activations) =
    with_process c n (record (returned q (a ∷ activations)) { found = with_result c.store n (length activations) result a.found })
