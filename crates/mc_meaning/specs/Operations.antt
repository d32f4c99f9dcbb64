-- The values of operators and conversions.
use Rattle.std.specs.Prelude.{ℕ, ◌-◌, ◌==◌, Bool, true, false, if◌then◌else◌}
use Rattle.std.specs.Prelude.{bit_and, bit_or, bit_xor}
use Rattle.mc_tree.specs.declared.expression.Relation.{Relation}
use Rattle.mc_tree.specs.declared.expression.Relation.TheVariants.{Equal, Unequal, Less, LessEqual, Greater, GreaterEqual}
use Rattle.mc_prog.specs.declared.program.Form.{Form}
use Rattle.mc_prog.specs.declared.program.Form.TheVariants as form
use Rattle.mc_prog.specs.declared.program.Standard.TheVariants as standard
use Rattle.mc_prog.specs.Known.{boolean}
use Rattle.mc_prog.specs.Resolved.{Resolved}
use Rattle.mc_prog.specs.Values.{Outcome, Gives, added, subtracted, multiplied, negated, divided, remainder, character, holds, truth}
use Rattle.mc_meaning.specs.Parts.{form_at, part_at}

abbrev pub compared : Relation → ℕ → ℕ → Outcome
compared relation a b = Gives (truth (holds relation a b))

-- what an operator gives of two values
abbrev pub binary : Form → ℕ → ℕ → Outcome
binary form.Equal a b = compared Equal a b
binary form.Unequal a b = compared Unequal a b
binary form.Less a b = compared Less a b
binary form.LessEqual a b = compared LessEqual a b
binary form.Greater a b = compared Greater a b
binary form.GreaterEqual a b = compared GreaterEqual a b
binary form.Add a b = added a b
binary form.Subtract a b = subtracted a b
binary form.Multiply a b = multiplied a b
binary form.Divide a b = divided a b
binary form.Modulo a b = remainder a b
binary form.And a b = Gives (bit_and a b)
binary form.Or a b = Gives (bit_or a b)
binary form.Xor a b = Gives (bit_xor a b)
binary other a b = Gives a

-- the conversions
abbrev pub converted : Form → ℕ → Outcome
converted (form.Standard standard.Char) a = character a
converted other a = Gives a

-- what an operator gives of one value of the type t
abbrev pub unary : Resolved → ℕ → ℕ → Form → ℕ → Outcome
unary p n t form.Minus a = negated a
unary p n t form.Not a = Gives (if t == boolean then 1 - a else 65535 - a)
unary p n t form.CallValue a = converted (form_at p (part_at p n 0)) a
unary p n t other a = Gives a

-- whether an operator takes two values
abbrev pub is_binary : Form → Bool
is_binary form.Equal = true
is_binary form.Unequal = true
is_binary form.Less = true
is_binary form.LessEqual = true
is_binary form.Greater = true
is_binary form.GreaterEqual = true
is_binary form.Add = true
is_binary form.Subtract = true
is_binary form.Multiply = true
is_binary form.Divide = true
is_binary form.Modulo = true
is_binary form.And = true
is_binary form.Or = true
is_binary form.Xor = true
is_binary other = false
