-- What is said of each piece of an expression.
use Rattle.std.specs.Prelude.{ℕ, ◌==◌, nat_lt, List, [], ◌∷◌, Bool, true, false, ◌&&◌, if◌then◌else◌}
use Rattle.mc_tree.specs.declared.fault.Code.TheVariants as code
use Rattle.mc_tree.specs.declared.place.Place.{Place}
use Rattle.mc_tree.specs.declared.tree.Id.{Id}
use Rattle.mc_prog.specs.declared.typing.Meaning.{Meaning}
use Rattle.mc_prog.specs.declared.typing.Meaning.TheVariants as meaning
use Rattle.mc_prog.specs.declared.typing.Typed.{Typed}
use Rattle.mc_prog.specs.Known.{Known, declaration_in, is_nowhere}
use Rattle.mc_prog.specs.Calls.{is_conversion}
use Rattle.mc_prog.specs.declared.typing.Said.{Said}
use Rattle.mc_prog.specs.Said.{fine, wrong}

-- A text of one byte is a character; one without bytes is a fault of its own.
abbrev pub text_said : Place → ℕ → Said
text_said place n = if n == 0 then wrong (meaning.Text 0 place) code.Y8 place else fine (meaning.Text n place)

-- whether it is a standard name that is used at a place
abbrev pub is_standard_use : Known → Id → Bool
is_standard_use known id = is_nowhere (declaration_in known.namings id.place)

-- whether something is called as a conversion, by what its name means
abbrev pub converts : Meaning → Bool
converts (meaning.Type t) = is_conversion t
converts meaning.Nothing = false
converts meaning.Faulty = false
converts (meaning.Unknown ch) = false
converts meaning.NoValue = false
converts (meaning.Constant t w) = false
converts (meaning.Trap t) = false
converts (meaning.Value t) = false
converts (meaning.Text n p) = false
converts (meaning.Variable v) = false
converts (meaning.Bit c) = false
converts (meaning.Own c) = false
converts meaning.OwnBit = false
converts (meaning.Procedure c) = false
converts (meaning.Process n) = false
converts (meaning.Standard s) = false
converts (meaning.Bounds t l h) = false

abbrev pub all_fixed : List Typed → Bool
all_fixed [] = true
all_fixed (t ∷ parts) = t.fixed && all_fixed parts

abbrev pub greater : ℕ → ℕ → ℕ
greater a b = if nat_lt a b then b else a

-- the greatest number of factors that are open at once in the parts
abbrev pub greatest_nest : List Typed → ℕ
greatest_nest [] = 0
greatest_nest (t ∷ parts) = greater t.nest (greatest_nest parts)

-- the greatest number of arguments of a call in the parts
abbrev pub most_arguments : List Typed → ℕ
most_arguments [] = 0
most_arguments (t ∷ parts) = greater t.arguments (most_arguments parts)
