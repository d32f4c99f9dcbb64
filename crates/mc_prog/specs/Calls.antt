-- Calls: what can be called in which place, and what arguments are taken. A wrong number of arguments is a fault of the
-- called name, a wrong type one of the argument.
use Rattle.std.specs.Prelude.{ℕ, ◌==◌, List, [], ◌∷◌, length, Option, Some, None, Bool, false, ◌&&◌, ◌||◌, if◌then◌else◌, slice_get}
use Rattle.mc_tree.specs.declared.fault.Code.TheVariants as code
use Rattle.mc_tree.specs.declared.fault.Fault.{Fault}
use Rattle.mc_tree.specs.declared.place.Place.{Place}
use Rattle.mc_prog.specs.declared.program.Standard.{Standard}
use Rattle.mc_prog.specs.declared.program.Standard.TheVariants as standard
use Rattle.mc_prog.specs.declared.program.TypeInfo.{TypeInfo}
use Rattle.mc_prog.specs.declared.typing.Answer.{Answer}
use Rattle.mc_prog.specs.declared.typing.Answer.TheVariants as answer
use Rattle.mc_prog.specs.declared.typing.Callable.{Callable}
use Rattle.mc_prog.specs.declared.typing.Change.{Change}
use Rattle.mc_prog.specs.declared.typing.Change.TheVariants as change
use Rattle.mc_prog.specs.declared.typing.Meaning.{Meaning}
use Rattle.mc_prog.specs.declared.typing.Meaning.TheVariants as meaning
use Rattle.mc_prog.specs.declared.typing.Typed.{Typed}
use Rattle.mc_prog.specs.declared.typing.Variable.{Variable}
use Rattle.mc_prog.specs.declared.typing.Allowed.TheVariants as allowed
use Rattle.mc_prog.specs.declared.typing.Wanted.{Wanted}
use Rattle.mc_prog.specs.Values.{Outcome, Gives, character}
use Rattle.mc_prog.specs.Known.{Known, integer, boolean, char, bits, signal, is_scalar, is_text_type, words_of, same_place}
use Rattle.mc_prog.specs.declared.typing.Said.{Said}
use Rattle.mc_prog.specs.Said.{at, fine, wrong, or_else, is_faulty, wants, wants_type, value_by}
use Rattle.mc_prog.specs.Operators.{unless, constant_by}
use Rattle.mc_prog.specs.Designators.{wanted_or}

-- a variable of a type, and no value of one
abbrev pub is_variable_of : ℕ → Meaning → Bool
is_variable_of t (meaning.Variable v) = v.type_of == t
is_variable_of t (meaning.Constant u w) = false
is_variable_of t (meaning.Trap u) = false
is_variable_of t (meaning.Value u) = false
is_variable_of t (meaning.Text n p) = false
is_variable_of t (meaning.Bit c) = false
is_variable_of t meaning.Nothing = false
is_variable_of t meaning.Faulty = false
is_variable_of t (meaning.Unknown ch) = false
is_variable_of t meaning.NoValue = false
is_variable_of t (meaning.Own c) = false
is_variable_of t meaning.OwnBit = false
is_variable_of t (meaning.Procedure c) = false
is_variable_of t (meaning.Process n) = false
is_variable_of t (meaning.Standard s) = false
is_variable_of t (meaning.Type u) = false
is_variable_of t (meaning.Bounds u l h) = false

-- a text that stands as it is, of as many bytes as the type has words
abbrev pub is_text_of : List TypeInfo → ℕ → Typed → Meaning → Bool
is_text_of types t typed (meaning.Text n p) = is_text_type types t && ((n == words_of types t) && same_place p typed.place)
is_text_of types t typed (meaning.Variable v) = false
is_text_of types t typed (meaning.Constant u w) = false
is_text_of types t typed (meaning.Trap u) = false
is_text_of types t typed (meaning.Value u) = false
is_text_of types t typed (meaning.Bit c) = false
is_text_of types t typed meaning.Nothing = false
is_text_of types t typed meaning.Faulty = false
is_text_of types t typed (meaning.Unknown ch) = false
is_text_of types t typed meaning.NoValue = false
is_text_of types t typed (meaning.Own c) = false
is_text_of types t typed meaning.OwnBit = false
is_text_of types t typed (meaning.Procedure c) = false
is_text_of types t typed (meaning.Process n) = false
is_text_of types t typed (meaning.Standard s) = false
is_text_of types t typed (meaning.Type u) = false
is_text_of types t typed (meaning.Bounds u l h) = false

-- an argument for a parameter of a type that is read alone
abbrev pub value_fault : List TypeInfo → ℕ → Typed → Option Fault
value_fault types t argument =
    if is_scalar types t then wants_type types t code.Y6 argument
    else (if is_faulty argument.meaning then None
    else (if is_variable_of t argument.meaning then None
    else (if is_text_of types t argument argument.meaning then None else at code.Y6 argument.place)))

-- whether what is given for `var` may be changed there
abbrev pub change_fault : Change → Bool → Place → Option Fault
change_fault change.May register place = if register then at code.Y2 place else None
change_fault change.Never register place = at code.Y2 place
change_fault change.Elsewhere register place = if register then at code.Y2 place else at code.Y3 place

abbrev pub type_fault : Variable → Option ℕ → Place → Option Fault
type_fault v None place = None
type_fault v (Some t) place = if v.type_of == t then None else at code.Y6 place

-- an argument for a `var` parameter
abbrev pub name_fault : Option ℕ → Place → Meaning → Option Fault
name_fault t place (meaning.Variable v) = or_else (change_fault v.change v.register place) (type_fault v t place)
name_fault t place (meaning.Unknown ch) = change_fault ch false place
name_fault t place meaning.Nothing = at code.Y2 place
name_fault t place meaning.Faulty = at code.Y2 place
name_fault t place meaning.NoValue = at code.Y2 place
name_fault t place (meaning.Constant u w) = at code.Y2 place
name_fault t place (meaning.Trap u) = at code.Y2 place
name_fault t place (meaning.Value u) = at code.Y2 place
name_fault t place (meaning.Text n p) = at code.Y2 place
name_fault t place (meaning.Bit c) = at code.Y2 place
name_fault t place (meaning.Own c) = at code.Y2 place
name_fault t place meaning.OwnBit = at code.Y2 place
name_fault t place (meaning.Procedure c) = at code.Y2 place
name_fault t place (meaning.Process n) = at code.Y2 place
name_fault t place (meaning.Standard s) = at code.Y2 place
name_fault t place (meaning.Type u) = at code.Y2 place
name_fault t place (meaning.Bounds u l h) = at code.Y2 place

abbrev pub known_fault : List TypeInfo → Option ℕ → Typed → Option Fault
known_fault types None argument = None
known_fault types (Some t) argument = value_fault types t argument

abbrev pub argument_fault : List TypeInfo → Wanted → Typed → Option Fault
argument_fault types w argument =
    if w.by_name then name_fault w.type_of argument.place argument.meaning else known_fault types w.type_of argument

-- the first fault of arguments, of which there are as many as wanted
abbrev pub arguments_fault : List TypeInfo → List Wanted → List Typed → Option Fault
arguments_fault types [] arguments = None
arguments_fault types (w ∷ wanted) [] = None
arguments_fault types (w ∷ wanted) (a ∷ arguments) = or_else (argument_fault types w a) (arguments_fault types wanted arguments)

abbrev pub call_fault : List TypeInfo → Place → List Wanted → List Typed → Option Fault
call_fault types place wanted arguments =
    if length arguments == length wanted then arguments_fault types wanted arguments else at code.Y6 place

abbrev pub uncallable : Place → Said
uncallable place = wrong meaning.Faulty code.Y6 place

-- a signal, as the standard calls take it: a variable or an element
abbrev pub signal_fault : Typed → Option Fault
signal_fault argument =
    if is_faulty argument.meaning then None else (if is_variable_of signal argument.meaning then None else at code.Y6 argument.place)

-- one of the arguments has a fault in it
abbrev pub any_faulty : List Typed → Bool
any_faulty [] = false
any_faulty (a ∷ arguments) = is_faulty a.meaning || any_faulty arguments

-- A call with a fault in its arguments has no value.
abbrev pub answered : Meaning → List Typed → Meaning
answered m arguments = if any_faulty arguments then meaning.Faulty else m

abbrev pub one_signal : Place → Meaning → List Typed → Said
one_signal place m [] = uncallable place
one_signal place m (a ∷ []) = unless (signal_fault a) (answered m (a ∷ []))
one_signal place m (a ∷ (b ∷ more)) = uncallable place

-- a signal, and a rank where there is one
abbrev pub signal_and_rank : List TypeInfo → Place → List Typed → Said
signal_and_rank types place [] = uncallable place
signal_and_rank types place (a ∷ []) = unless (signal_fault a) meaning.Nothing
signal_and_rank types place (a ∷ (b ∷ [])) = unless (or_else (signal_fault a) (wants_type types integer code.Y6 b)) meaning.Nothing
signal_and_rank types place (a ∷ (b ∷ (c ∷ more))) = uncallable place

abbrev pub no_arguments : Place → List Typed → Said
no_arguments place [] = fine meaning.Nothing
no_arguments place (a ∷ more) = uncallable place

-- what conversions give of a constant
abbrev pub converted_word : ℕ → ℕ → Outcome
converted_word target w = if target == char then character w else Gives w

abbrev pub with_type : ℕ → Meaning → Meaning
with_type target (meaning.Constant t w) = constant_by target (converted_word target w)
with_type target (meaning.Trap t) = meaning.Trap target
with_type target (meaning.Value t) = meaning.Value target
with_type target (meaning.Variable v) = meaning.Value target
with_type target (meaning.Bit c) = meaning.Value target
with_type target meaning.Nothing = meaning.Faulty
with_type target meaning.Faulty = meaning.Faulty
with_type target (meaning.Unknown ch) = meaning.Faulty
with_type target meaning.NoValue = meaning.Faulty
with_type target (meaning.Text n p) = meaning.Faulty
with_type target (meaning.Own c) = meaning.Faulty
with_type target meaning.OwnBit = meaning.Faulty
with_type target (meaning.Procedure c) = meaning.Faulty
with_type target (meaning.Process n) = meaning.Faulty
with_type target (meaning.Standard s) = meaning.Faulty
with_type target (meaning.Type t) = meaning.Faulty
with_type target (meaning.Bounds t l h) = meaning.Faulty

abbrev pub converted : List TypeInfo → ℕ → Place → List Typed → Said
converted types target place [] = uncallable place
converted types target place (a ∷ []) = unless (wants types (allowed.Converted target) code.Y6 a) (with_type target a.meaning)
converted types target place (a ∷ (b ∷ more)) = uncallable place

-- integer, char and bits are called as conversions
abbrev pub is_conversion : ℕ → Bool
is_conversion t = (t == integer) || ((t == char) || (t == bits))

abbrev pub function_said : Known → Place → Callable → Answer → List Typed → Said
function_said known place c answer.Nothing arguments = uncallable place
function_said known place c (answer.Value result) arguments =
    unless (call_fault known.types place (wanted_or (slice_get known.procedures c.number)) arguments) (answered (value_by result) arguments)

abbrev pub standard_value : Place → Standard → List Typed → Said
standard_value place standard.Awaited arguments = one_signal place (meaning.Value boolean) arguments
standard_value place standard.Integer arguments = uncallable place
standard_value place standard.Char arguments = uncallable place
standard_value place standard.Bits arguments = uncallable place
standard_value place standard.Wait arguments = uncallable place
standard_value place standard.Send arguments = uncallable place
standard_value place standard.Doio arguments = uncallable place

-- a call in the place of a factor
abbrev pub called_value : Known → Bool → Place → Meaning → List Typed → Said
called_value known standard_ place (meaning.Procedure c) arguments = function_said known place c c.result arguments
called_value known standard_ place (meaning.Own c) arguments = function_said known place c c.result arguments
called_value known standard_ place (meaning.Standard s) arguments = standard_value place s arguments
called_value known standard_ place (meaning.Type t) arguments = if standard_ && is_conversion t then converted known.types t place arguments else uncallable place
called_value known standard_ place (meaning.Unknown ch) arguments = fine meaning.Faulty
called_value known standard_ place meaning.Nothing arguments = uncallable place
called_value known standard_ place meaning.Faulty arguments = uncallable place
called_value known standard_ place meaning.NoValue arguments = uncallable place
called_value known standard_ place (meaning.Constant t w) arguments = uncallable place
called_value known standard_ place (meaning.Trap t) arguments = uncallable place
called_value known standard_ place (meaning.Value t) arguments = uncallable place
called_value known standard_ place (meaning.Text n p) arguments = uncallable place
called_value known standard_ place (meaning.Variable v) arguments = uncallable place
called_value known standard_ place (meaning.Bit c) arguments = uncallable place
called_value known standard_ place meaning.OwnBit arguments = uncallable place
called_value known standard_ place (meaning.Process n) arguments = uncallable place
called_value known standard_ place (meaning.Bounds t l h) arguments = uncallable place

abbrev pub procedure_said : Known → Place → Callable → Answer → List Typed → Said
procedure_said known place c (answer.Value result) arguments = uncallable place
procedure_said known place c answer.Nothing arguments =
    unless (call_fault known.types place (wanted_or (slice_get known.procedures c.number)) arguments) meaning.Nothing

abbrev pub standard_statement : List TypeInfo → Place → Standard → List Typed → Said
standard_statement types place standard.Wait arguments = signal_and_rank types place arguments
standard_statement types place standard.Send arguments = one_signal place meaning.Nothing arguments
standard_statement types place standard.Doio arguments = no_arguments place arguments
standard_statement types place standard.Awaited arguments = uncallable place
standard_statement types place standard.Integer arguments = uncallable place
standard_statement types place standard.Char arguments = uncallable place
standard_statement types place standard.Bits arguments = uncallable place

-- a call in the place of a statement
abbrev pub called_statement : Known → Place → Meaning → List Typed → Said
called_statement known place (meaning.Procedure c) arguments = procedure_said known place c c.result arguments
called_statement known place (meaning.Own c) arguments = procedure_said known place c c.result arguments
called_statement known place (meaning.Process n) arguments =
    unless (call_fault known.types place (wanted_or (slice_get known.processes n)) arguments) meaning.Nothing
called_statement known place (meaning.Standard s) arguments = standard_statement known.types place s arguments
called_statement known place (meaning.Unknown ch) arguments = fine meaning.Nothing
called_statement known place meaning.Nothing arguments = uncallable place
called_statement known place meaning.Faulty arguments = uncallable place
called_statement known place meaning.NoValue arguments = uncallable place
called_statement known place (meaning.Constant t w) arguments = uncallable place
called_statement known place (meaning.Trap t) arguments = uncallable place
called_statement known place (meaning.Value t) arguments = uncallable place
called_statement known place (meaning.Text n p) arguments = uncallable place
called_statement known place (meaning.Variable v) arguments = uncallable place
called_statement known place (meaning.Bit c) arguments = uncallable place
called_statement known place meaning.OwnBit arguments = uncallable place
called_statement known place (meaning.Type t) arguments = uncallable place
called_statement known place (meaning.Bounds t l h) arguments = uncallable place
