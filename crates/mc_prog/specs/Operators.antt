-- The operators: what types they take and give, and what they give of constants. And, or and the relations give a Boolean
-- value of constants by the rules of evaluation.
use Rattle.std.specs.Prelude.{ℕ, ◌==◌, ◌-◌, List, Option, Some, None, Bool, false, ◌&&◌, if◌then◌else◌, bit_and, bit_or, bit_xor}
use Rattle.mc_tree.specs.declared.fault.Code.TheVariants as code
use Rattle.mc_tree.specs.declared.fault.Fault.{Fault}
use Rattle.mc_tree.specs.declared.expression.Sign.{Sign}
use Rattle.mc_tree.specs.declared.expression.Sign.TheVariants as sign
use Rattle.mc_prog.specs.declared.program.TypeInfo.{TypeInfo}
use Rattle.mc_prog.specs.declared.typing.Meaning.{Meaning}
use Rattle.mc_prog.specs.declared.typing.Meaning.TheVariants as meaning
use Rattle.mc_prog.specs.declared.typing.Typed.{Typed}
use Rattle.mc_prog.specs.Values.{Outcome, Gives, Traps, added, subtracted, multiplied, negated, divided, remainder, holds, truth}
use Rattle.mc_prog.specs.declared.typing.Allowed.TheVariants as allowed
use Rattle.mc_prog.specs.declared.typing.Operator.{Operator}
use Rattle.mc_prog.specs.declared.typing.Operator.TheVariants as operator
use Rattle.mc_prog.specs.Known.{integer, boolean}
use Rattle.mc_prog.specs.declared.typing.Said.{Said}
use Rattle.mc_prog.specs.Said.{fine, or_else, type_of, wants, wants_type}

-- the type of what it gives
abbrev pub gives : Operator → ℕ → ℕ
gives operator.Add t = t
gives operator.Subtract t = t
gives operator.Multiply t = t
gives operator.Divide t = t
gives operator.Modulo t = t
gives operator.And t = t
gives operator.Or t = t
gives operator.Xor t = t
gives (operator.Compare r) t = boolean

-- Of two operands that differ, the right one has the fault. Where the left one's type is not known, the right one's is one
-- that the operator takes.
abbrev pub same_by : List TypeInfo → Operator → Typed → Option ℕ → Option Fault
same_by types o right None = wants types (allowed.Operand o) code.Y1 right
same_by types o right (Some t) = wants_type types t code.Y1 right

abbrev pub operands_fault : List TypeInfo → Operator → Typed → Typed → Option Fault
operands_fault types o left right = or_else (wants types (allowed.Operand o) code.Y1 left) (same_by types o right (type_of left.meaning))

-- what the operator gives of two words of a type
abbrev pub computed : Operator → ℕ → ℕ → ℕ → Outcome
computed operator.Add t a b = added a b
computed operator.Subtract t a b = subtracted a b
computed operator.Multiply t a b = multiplied a b
computed operator.Divide t a b = divided a b
computed operator.Modulo t a b = remainder a b
computed operator.And t a b = Gives (bit_and a b)
computed operator.Or t a b = Gives (bit_or a b)
computed operator.Xor t a b = Gives (bit_xor a b)
computed (operator.Compare r) t a b = Gives (truth (holds r a b))

abbrev pub constant_by : ℕ → Outcome → Meaning
constant_by t (Gives w) = meaning.Constant t w
constant_by t (Traps n) = meaning.Trap t

-- A Boolean `and` or `or` whose left side decides does not evaluate its right side.
abbrev pub is_decided : Operator → ℕ → ℕ → Bool
is_decided operator.Add t a = false
is_decided operator.Subtract t a = false
is_decided operator.Multiply t a = false
is_decided operator.Divide t a = false
is_decided operator.Modulo t a = false
is_decided operator.And t a = (t == boolean) && (a == 0)
is_decided operator.Or t a = (t == boolean) && (a == 1)
is_decided operator.Xor t a = false
is_decided (operator.Compare r) t a = false

-- of a constant left side
abbrev pub combined_right : Operator → ℕ → ℕ → Meaning → Meaning
combined_right o t a (meaning.Constant u b) = constant_by (gives o t) (computed o t a b)
combined_right o t a (meaning.Trap u) = if is_decided o t a then meaning.Constant t a else meaning.Trap (gives o t)
combined_right o t a meaning.Nothing = meaning.Faulty
combined_right o t a meaning.Faulty = meaning.Faulty
combined_right o t a (meaning.Unknown ch) = meaning.Faulty
combined_right o t a meaning.NoValue = meaning.Faulty
combined_right o t a (meaning.Value u) = meaning.Value (gives o t)
combined_right o t a (meaning.Text n p) = meaning.Faulty
combined_right o t a (meaning.Variable v) = meaning.Value (gives o t)
combined_right o t a (meaning.Bit c) = meaning.Value (gives o t)
combined_right o t a (meaning.Own c) = meaning.Faulty
combined_right o t a meaning.OwnBit = meaning.Faulty
combined_right o t a (meaning.Procedure c) = meaning.Faulty
combined_right o t a (meaning.Process n) = meaning.Faulty
combined_right o t a (meaning.Standard s) = meaning.Faulty
combined_right o t a (meaning.Type u) = meaning.Faulty
combined_right o t a (meaning.Bounds u l h) = meaning.Faulty

-- of a left side that traps
abbrev pub trapped_right : Operator → ℕ → Option ℕ → Bool → Meaning
trapped_right o t None fixed = meaning.Faulty
trapped_right o t (Some u) fixed = if fixed then meaning.Trap (gives o t) else meaning.Value (gives o t)

abbrev pub value_right : Operator → ℕ → Option ℕ → Meaning
value_right o t None = meaning.Faulty
value_right o t (Some u) = meaning.Value (gives o t)

abbrev pub combined : Operator → Meaning → Typed → Meaning
combined o (meaning.Constant t a) right = combined_right o t a right.meaning
combined o (meaning.Trap t) right = trapped_right o t (type_of right.meaning) right.fixed
combined o (meaning.Value t) right = value_right o t (type_of right.meaning)
combined o (meaning.Variable v) right = value_right o v.type_of (type_of right.meaning)
combined o (meaning.Bit c) right = value_right o boolean (type_of right.meaning)
combined o meaning.Nothing right = meaning.Faulty
combined o meaning.Faulty right = meaning.Faulty
combined o (meaning.Unknown ch) right = meaning.Faulty
combined o meaning.NoValue right = meaning.Faulty
combined o (meaning.Text n p) right = meaning.Faulty
combined o (meaning.Own c) right = meaning.Faulty
combined o meaning.OwnBit right = meaning.Faulty
combined o (meaning.Procedure c) right = meaning.Faulty
combined o (meaning.Process n) right = meaning.Faulty
combined o (meaning.Standard s) right = meaning.Faulty
combined o (meaning.Type t) right = meaning.Faulty
combined o (meaning.Bounds t l h) right = meaning.Faulty

abbrev pub unless : Option Fault → Meaning → Said
unless None m = fine m
unless (Some f) m = record { meaning = meaning.Faulty; fault = Some f }

abbrev pub operated : List TypeInfo → Operator → Typed → Typed → Said
operated types o left right = unless (operands_fault types o left right) (combined o left.meaning right)

-- operators of one operand: what they give of a constant, and a value of the operand's type else
abbrev pub alone : (ℕ → ℕ → Outcome) → Meaning → Meaning
alone f (meaning.Constant t w) = constant_by t (f t w)
alone f (meaning.Trap t) = meaning.Trap t
alone f (meaning.Value t) = meaning.Value t
alone f (meaning.Variable v) = meaning.Value v.type_of
alone f (meaning.Bit c) = meaning.Value boolean
alone f meaning.Nothing = meaning.Faulty
alone f meaning.Faulty = meaning.Faulty
alone f (meaning.Unknown ch) = meaning.Faulty
alone f meaning.NoValue = meaning.Faulty
alone f (meaning.Text n p) = meaning.Faulty
alone f (meaning.Own c) = meaning.Faulty
alone f meaning.OwnBit = meaning.Faulty
alone f (meaning.Procedure c) = meaning.Faulty
alone f (meaning.Process n) = meaning.Faulty
alone f (meaning.Standard s) = meaning.Faulty
alone f (meaning.Type t) = meaning.Faulty
alone f (meaning.Bounds t l h) = meaning.Faulty

abbrev pub signed_word : Sign → ℕ → ℕ → Outcome
signed_word sign.Plus t w = Gives w
signed_word sign.Minus t w = negated w

abbrev pub signed_meaning : Sign → Meaning → Meaning
signed_meaning s m = alone (signed_word s) m

abbrev pub signed : List TypeInfo → Sign → Typed → Said
signed types s operand = unless (wants_type types integer code.Y1 operand) (signed_meaning s operand.meaning)

-- the other truth, or the other bits
abbrev pub negated_word : ℕ → ℕ → Outcome
negated_word t w = Gives ((if t == boolean then 1 else 65535) - w)

abbrev pub not_ : List TypeInfo → Typed → Said
not_ types operand = unless (wants types allowed.Logical code.Y1 operand) (alone negated_word operand.meaning)
