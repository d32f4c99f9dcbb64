-- Which types places allow, and what operators take.
use Rattle.std.specs.Prelude.{ℕ, ◌==◌, List, Bool, ◌||◌, if◌then◌else◌}
use Rattle.mc_tree.specs.declared.expression.Adding.{Adding}
use Rattle.mc_tree.specs.declared.expression.Adding.TheVariants as adding
use Rattle.mc_tree.specs.declared.expression.Multiplying.{Multiplying}
use Rattle.mc_tree.specs.declared.expression.Multiplying.TheVariants as multiplying
use Rattle.mc_tree.specs.declared.expression.Relation.{Relation}
use Rattle.mc_tree.specs.declared.expression.Relation.TheVariants as relation
use Rattle.mc_prog.specs.declared.program.TypeInfo.{TypeInfo}
use Rattle.mc_prog.specs.declared.typing.Allowed.{Allowed}
use Rattle.mc_prog.specs.declared.typing.Allowed.TheVariants as allowed
use Rattle.mc_prog.specs.declared.typing.Operator.{Operator}
use Rattle.mc_prog.specs.declared.typing.Operator.TheVariants as operator
use Rattle.mc_prog.specs.Known.{integer, char, bits, is_scalar, is_ordered, is_logical}

abbrev pub of_sum : Adding → Operator
of_sum adding.Plus = operator.Add
of_sum adding.Minus = operator.Subtract
of_sum adding.Or = operator.Or
of_sum adding.Xor = operator.Xor

abbrev pub of_product : Multiplying → Operator
of_product multiplying.Times = operator.Multiply
of_product multiplying.Div = operator.Divide
of_product multiplying.Mod = operator.Modulo
of_product multiplying.And = operator.And

abbrev pub relates : List TypeInfo → Relation → ℕ → Bool
relates types relation.Equal t = is_scalar types t
relates types relation.Unequal t = is_scalar types t
relates types relation.Less t = is_ordered types t
relates types relation.LessEqual t = is_ordered types t
relates types relation.Greater t = is_ordered types t
relates types relation.GreaterEqual t = is_ordered types t

-- whether an operator takes operands of a type
abbrev pub takes : List TypeInfo → Operator → ℕ → Bool
takes types operator.Add t = t == integer
takes types operator.Subtract t = t == integer
takes types operator.Multiply t = t == integer
takes types operator.Divide t = t == integer
takes types operator.Modulo t = t == integer
takes types operator.And t = is_logical t
takes types operator.Or t = is_logical t
takes types operator.Xor t = t == bits
takes types (operator.Compare r) t = relates types r t

-- whether a conversion to a type takes values of another
abbrev pub converts_from : List TypeInfo → ℕ → ℕ → Bool
converts_from types target t =
    if target == integer then is_scalar types t
    else (if target == char then (t == integer) || (t == char)
    else ((t == integer) || ((t == char) || (t == bits))))

abbrev pub allows : List TypeInfo → Allowed → ℕ → Bool
allows types (allowed.Only u) t = t == u
allows types allowed.Logical t = is_logical t
allows types allowed.Ordered t = is_ordered types t
allows types (allowed.Operand o) t = takes types o t
allows types (allowed.Converted target) t = converts_from types target t
