-- Reading and writing: words of the store, device registers, bits; and what elements and fields name.
use Rattle.std.specs.Prelude.{ℕ, ◌+◌, ◌-◌, ◌*◌, ◌/◌, ◌%◌, ◌^◌, ◌==◌, List, [], ◌∷◌, ◌++◌, length, Option, Some, None, Bool, true, false, ◌&&◌, slice_get, if◌then◌else◌, ℤ, pos, negsuc, ◌-ℤ◌, int_lt}
use Rattle.pdp_dev.specs.declared.devices.Devices.{Devices}
use Rattle.pdp_dev.specs.declared.register.Register.{Register}
use Rattle.pdp_dev.specs.Register.{register_at}
use Rattle.pdp_dev.specs.Devices.{read_of, after_read, written, said_at}
use Rattle.pdp_def.specs.Does.{entries}
use Rattle.mc_word.specs.Word.{signed_of}
use Rattle.mc_prog.specs.declared.program.CellInfo.{CellInfo}
use Rattle.mc_prog.specs.declared.program.FieldInfo.{FieldInfo}
use Rattle.mc_prog.specs.declared.program.Form.{Form}
use Rattle.mc_prog.specs.declared.program.Form.TheVariants as form
use Rattle.mc_prog.specs.declared.program.Shape.{Shape}
use Rattle.mc_prog.specs.declared.program.Shape.TheVariants as shape
use Rattle.mc_prog.specs.Known.{char, words_of}
use Rattle.mc_prog.specs.Resolved.{Resolved}
use Rattle.mc_meaning.specs.declared.process.Activation.{Activation}
use Rattle.mc_meaning.specs.declared.process.Reference.{Reference}
use Rattle.mc_meaning.specs.declared.store.Name.{Name}
use Rattle.mc_meaning.specs.declared.store.Name.TheVariants.{Variable, Private}
use Rattle.mc_meaning.specs.declared.store.Source.{Source}
use Rattle.mc_meaning.specs.declared.store.Source.TheVariants as source
use Rattle.mc_meaning.specs.declared.store.Target.{Target}
use Rattle.mc_meaning.specs.declared.store.Target.TheVariants as target
use Rattle.mc_meaning.specs.Configuration.{Configuration, stored}
use Rattle.mc_meaning.specs.Parts.{form_at, part_at, shape_at, type_at}

-- Words

abbrev pub register_word : Devices → Option Register → ℕ
register_word d None = 0
register_word d (Some r) = read_of d r

abbrev pub register_read : Devices → Option Register → Devices
register_read d None = d
register_read d (Some r) = after_read d r

-- the word that is read there
abbrev pub word_at : Configuration → Target → ℕ
word_at c (target.Stored name) = c.store name
word_at c (target.Register a) = register_word c.devices (register_at a)

-- A read of a register may change its device.
abbrev pub after_reading : Configuration → Target → Configuration
after_reading c (target.Stored name) = c
after_reading c (target.Register a) = record c { devices = register_read c.devices (register_at a) }

abbrev pub register_written : Configuration → ℕ → Option Register → Configuration
register_written c w None = c
register_written c w (Some r) = record c { devices = written c.devices r w; journal = c.journal ++ entries (said_at c.devices r w) }

abbrev pub after_writing : Configuration → Target → ℕ → Configuration
after_writing c (target.Stored name) w = record c { store = stored c.store name w }
after_writing c (target.Register a) w = register_written c w (register_at a)

abbrev pub is_register : Target → Bool
is_register (target.Stored name) = false
is_register (target.Register a) = true

-- the value of a word of a type: of a register that is a character the low byte
abbrev pub value_of : ℕ → Target → ℕ → ℕ
value_of t there w = if is_register there && (t == char) then w % 256 else w

-- Bits

abbrev pub bit_of : ℕ → ℕ → ℕ
bit_of w i = w / (2 ^ i) % 2

-- the word with this bit; past the bits of a word there is none
abbrev pub with_bit : ℕ → ℕ → ℕ → ℕ
with_bit w i bit = ((w - bit_of w i * 2 ^ i) + bit * 2 ^ i) % 65536

-- A bit of a word is written: the word is read, and written with this bit.
abbrev pub after_writing_bit : Configuration → Target → ℕ → ℕ → Configuration
after_writing_bit c there i bit = after_writing (after_reading c there) there (with_bit (word_at c there) i bit)

-- Names

abbrev pub moved_name : Name → ℕ → Name
moved_name (Variable cell word) k = Variable cell (word + k)
moved_name (Private process activation slot word) k = Private process activation slot (word + k)

-- what stands so many words further
abbrev pub moved : Target → ℕ → Target
moved (target.Stored name) k = target.Stored (moved_name name k)
moved (target.Register a) k = target.Register a

abbrev pub register_or : ℕ → Option ℕ → Target
register_or cell None = target.Stored (Variable cell 0)
register_or cell (Some a) = target.Register a

abbrev pub cell_or : ℕ → Option CellInfo → Target
cell_or cell None = target.Stored (Variable cell 0)
cell_or cell (Some info) = register_or cell info.register

-- what a variable of a module names: its register, or its first word
abbrev pub cell_target : Resolved → ℕ → Target
cell_target p cell = cell_or cell (slice_get p.cells cell)

-- what a `var` parameter stands for; a slot that is none names its own first word
abbrev pub reference_of : List Reference → ℕ → Target → Target
reference_of [] slot own = own
reference_of (r ∷ references) slot own = if r.slot == slot then r.target else reference_of references slot own

-- what a slot names in the last activation of the process n, which is numbered by how many stand below it
abbrev pub slot_target : ℕ → List Activation → ℕ → Target
slot_target n [] slot = target.Stored (Private n 0 slot 0)
slot_target n (a ∷ activations) slot = reference_of a.references slot (target.Stored (Private n (length activations) slot 0))

abbrev pub field_or : Option FieldInfo → ℕ
field_or None = 0
field_or (Some f) = f.offset

abbrev pub field_in : Shape → Form → ℕ
field_in (shape.Record fields) (form.Field k) = field_or (slice_get fields k)
field_in other_shape other = 0

-- how many words of a record stand before the selected field
abbrev pub field_offset : Resolved → ℕ → ℕ
field_offset p n = field_in (shape_at p (type_at p (part_at p n 0))) (form_at p (part_at p n 1))

abbrev pub words_above : ℤ → ℕ
words_above (pos k) = k
words_above (negsuc k) = 0

abbrev pub element_in : Resolved → Shape → ℕ → Option ℕ
element_in p (shape.Array index low high element) w =
    if int_lt (signed_of w) low then None
    else (if int_lt high (signed_of w) then None else Some (words_above (signed_of w -ℤ low) * words_of p.types element))
element_in p other w = None

-- how many words of an array stand before the element of this index; none outside the bounds
abbrev pub element_offset : Resolved → ℕ → ℕ → Option ℕ
element_offset p n w = element_in p (shape_at p (type_at p (part_at p n 0))) w

-- the word that a structured move takes
abbrev pub moved_word : Configuration → Source → ℕ
moved_word c (source.Stored name) = c.store name
moved_word c (source.Byte b) = b
