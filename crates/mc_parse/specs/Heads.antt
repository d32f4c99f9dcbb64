-- What stands at the front of tokens.
use Rattle.std.specs.Prelude.{◌≡◌, ◌≢◌, List, [], ◌∷◌, length}
use Rattle.std.proofs.Common.{ap, arith}
use Rattle.mc_tree.specs.declared.place.Place.{Place}
use Rattle.mc_tree.specs.declared.token.Token.{Token}
use Rattle.mc_tree.specs.declared.token.Kind.{Kind}
use Rattle.mc_tree.specs.Classes.{Class, class_of}

-- the place of the first token, or else the end
abbrev pub place_of : Place → List Token → Place
place_of end [] = end
place_of end (t ∷ ts) = t.place

-- a token of this class stands at the front
abbrev pub HasFirst : Class → List Token → Type 0
HasFirst class [] = ⊥
HasFirst class (t ∷ ts) = class_of t.kind ≡ class

-- none does
abbrev pub HasOther : Class → List Token → Type 0
HasOther class [] = Unit {0}
HasOther class (t ∷ ts) = class_of t.kind ≢ class

pub nothing_there : (class : Class) (ts : List Token) → length ts ≡ 0 → HasOther class ts
nothing_there class [] e = tt
nothing_there class (t ∷ ts) e = absurd (omega arith)

-- this token stands at the front, wherever it stands in the source
abbrev pub IsFirst : Kind → List Token → Type 0
IsFirst kind [] = ⊥
IsFirst kind (t ∷ ts) = t.kind ≡ kind

pub first_is : (kind : Kind) (ts : List Token) → IsFirst kind ts → HasFirst (class_of kind) ts
first_is kind [] h = h
first_is kind (t ∷ ts) h = ap class_of h
