-- Expressions that must be constant: those of constant declarations, of bits in brackets, of labels and of addresses,
-- vectors and priorities. They have only constants in them, and their evaluation does not trap.
use Rattle.std.specs.Prelude.{ℕ, ◌==◌, ◌+◌, ◌-◌, ◌^◌, nat_lt, List, [], ◌∷◌, Option, Some, None, Bool, true, false, not, ◌&&◌, if◌then◌else◌, bit_or}
use Rattle.mc_tree.specs.declared.fault.Code.TheVariants as code
use Rattle.mc_tree.specs.declared.fault.Fault.{Fault}
use Rattle.mc_tree.specs.declared.place.Place.{Place}
use Rattle.mc_prog.specs.declared.typing.Meaning.{Meaning}
use Rattle.mc_prog.specs.declared.typing.Meaning.TheVariants as meaning
use Rattle.mc_prog.specs.declared.typing.Typed.{Typed}
use Rattle.mc_prog.specs.declared.program.TypeInfo.{TypeInfo}
use Rattle.mc_prog.specs.Known.{integer, bits}
use Rattle.mc_prog.specs.declared.typing.Said.{Said}
use Rattle.mc_prog.specs.Said.{at, fine, or_else, wants_type}

abbrev pub trap_fault : Place → Meaning → Option Fault
trap_fault place (meaning.Trap t) = at code.Y5 place
trap_fault place (meaning.Constant t w) = None
trap_fault place (meaning.Value t) = None
trap_fault place (meaning.Text n p) = None
trap_fault place (meaning.Variable v) = None
trap_fault place (meaning.Bit c) = None
trap_fault place meaning.Nothing = None
trap_fault place meaning.Faulty = None
trap_fault place (meaning.Unknown ch) = None
trap_fault place meaning.NoValue = None
trap_fault place (meaning.Own c) = None
trap_fault place meaning.OwnBit = None
trap_fault place (meaning.Procedure c) = None
trap_fault place (meaning.Process n) = None
trap_fault place (meaning.Standard s) = None
trap_fault place (meaning.Type t) = None
trap_fault place (meaning.Bounds t l h) = None

-- an expression that is not constant, or whose evaluation traps
abbrev pub fixed_fault : Typed → Option Fault
fixed_fault t = if t.fixed then trap_fault t.place t.meaning else at code.Y5 t.place

-- the word of a constant; 0 where there is none
abbrev pub word_of : Meaning → ℕ
word_of (meaning.Constant t w) = w
word_of (meaning.Trap t) = 0
word_of (meaning.Value t) = 0
word_of (meaning.Text n p) = 0
word_of (meaning.Variable v) = 0
word_of (meaning.Bit c) = 0
word_of meaning.Nothing = 0
word_of meaning.Faulty = 0
word_of (meaning.Unknown ch) = 0
word_of meaning.NoValue = 0
word_of (meaning.Own c) = 0
word_of meaning.OwnBit = 0
word_of (meaning.Procedure c) = 0
word_of (meaning.Process n) = 0
word_of (meaning.Standard s) = 0
word_of (meaning.Type t) = 0
word_of (meaning.Bounds t l h) = 0

abbrev pub is_constant : Meaning → Bool
is_constant (meaning.Constant t w) = true
is_constant (meaning.Trap t) = false
is_constant (meaning.Value t) = false
is_constant (meaning.Text n p) = false
is_constant (meaning.Variable v) = false
is_constant (meaning.Bit c) = false
is_constant meaning.Nothing = false
is_constant meaning.Faulty = false
is_constant (meaning.Unknown ch) = false
is_constant meaning.NoValue = false
is_constant (meaning.Own c) = false
is_constant meaning.OwnBit = false
is_constant (meaning.Procedure c) = false
is_constant (meaning.Process n) = false
is_constant (meaning.Standard s) = false
is_constant (meaning.Type t) = false
is_constant (meaning.Bounds t l h) = false

-- a constant of a type
abbrev pub is_constant_of : ℕ → Meaning → Bool
is_constant_of u (meaning.Constant t w) = t == u
is_constant_of u (meaning.Trap t) = false
is_constant_of u (meaning.Value t) = false
is_constant_of u (meaning.Text n p) = false
is_constant_of u (meaning.Variable v) = false
is_constant_of u (meaning.Bit c) = false
is_constant_of u meaning.Nothing = false
is_constant_of u meaning.Faulty = false
is_constant_of u (meaning.Unknown ch) = false
is_constant_of u meaning.NoValue = false
is_constant_of u (meaning.Own c) = false
is_constant_of u meaning.OwnBit = false
is_constant_of u (meaning.Procedure c) = false
is_constant_of u (meaning.Process n) = false
is_constant_of u (meaning.Standard s) = false
is_constant_of u (meaning.Type t) = false
is_constant_of u (meaning.Bounds t l h) = false

-- an address, a vector or a priority is an integer constant
abbrev pub address_fault : Typed → Option Fault
address_fault t = if t.fixed && is_constant_of integer t.meaning then None else at code.Y5 t.place

-- the number of a bit: an integer constant from 0 to 15
abbrev pub number_fault : Typed → Option Fault
number_fault t = if is_constant t.meaning && not (nat_lt (word_of t.meaning) 16) then at code.Y5 t.place else None

abbrev pub bit_fault : List TypeInfo → Typed → Option Fault
bit_fault types t = or_else (fixed_fault t) (or_else (wants_type types integer code.Y1 t) (number_fault t))

abbrev pub order_fault : Typed → Typed → Option Fault
order_fault first last =
    if (is_constant first.meaning && is_constant last.meaning) && nat_lt (word_of last.meaning) (word_of first.meaning) then at code.Y4 first.place else None

-- the word whose bits from one to another are set
abbrev pub bits_between : ℕ → ℕ → ℕ
bits_between first last = 2 ^ (last + 1) - 2 ^ first

abbrev pub element_meaning : Option Fault → Typed → Typed → Meaning
element_meaning None first last =
    if is_constant first.meaning && is_constant last.meaning then meaning.Constant bits (bits_between (word_of first.meaning) (word_of last.meaning)) else meaning.Faulty
element_meaning (Some f) first last = meaning.Faulty

abbrev pub element_with : Option Fault → Typed → Typed → Said
element_with fault_ first last = record { meaning = element_meaning fault_ first last; fault = fault_ }

-- one bit, or those from one to another
abbrev pub element : List TypeInfo → List Typed → Said
element types [] = fine meaning.Faulty
element types (a ∷ []) = element_with (bit_fault types a) a a
element types (a ∷ (b ∷ more)) = element_with (or_else (bit_fault types a) (or_else (bit_fault types b) (order_fault a b))) a b

abbrev pub bits_with : Meaning → Meaning → Meaning
bits_with (meaning.Constant t w) (meaning.Constant u v) = meaning.Constant bits (bit_or w v)
bits_with (meaning.Constant t w) other = meaning.Faulty
bits_with other m = meaning.Faulty

-- a bits constant, from its elements
abbrev pub bits_of : Meaning → List Typed → Meaning
bits_of so_far [] = so_far
bits_of so_far (e ∷ elements) = bits_of (bits_with so_far e.meaning) elements
