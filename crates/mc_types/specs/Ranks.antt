-- The first of the faults that rules find: that of the least place, and at one place that of the least number, Y1 last.
use Rattle.std.specs.Prelude.{◌≡◌, ◌⊎◌, ◌≤◌, ℕ, Option, Some, None}
use Rattle.mc_tree.specs.declared.fault.Code.{Code}
use Rattle.mc_tree.specs.declared.fault.Code.TheVariants as code
use Rattle.mc_tree.specs.declared.fault.Fault.{Fault}
use Rattle.mc_prog.specs.First.{IsEarlier, number_of}

-- Y1 comes only where no other code does
abbrev pub rank : Code → ℕ
rank code.Y1 = 29
rank code.BadByte = number_of code.BadByte
rank code.NumberTooLarge = number_of code.NumberTooLarge
rank code.OpenComment = number_of code.OpenComment
rank code.OpenText = number_of code.OpenText
rank code.Unexpected = number_of code.Unexpected
rank code.TooDeep = number_of code.TooDeep
rank code.S1 = number_of code.S1
rank code.S2 = number_of code.S2
rank code.S3 = number_of code.S3
rank code.S4 = number_of code.S4
rank code.S5 = number_of code.S5
rank code.Y2 = number_of code.Y2
rank code.Y3 = number_of code.Y3
rank code.Y4 = number_of code.Y4
rank code.Y5 = number_of code.Y5
rank code.Y6 = number_of code.Y6
rank code.Y7 = number_of code.Y7
rank code.Y8 = number_of code.Y8
rank code.M1 = number_of code.M1
rank code.M2 = number_of code.M2
rank code.M3 = number_of code.M3
rank code.M4 = number_of code.M4
rank code.M5 = number_of code.M5
rank code.M6 = number_of code.M6
rank code.M7 = number_of code.M7
rank code.M8 = number_of code.M8
rank code.M9 = number_of code.M9
rank code.M10 = number_of code.M10

abbrev pub ComesFirst : Fault → Fault → Type 0
ComesFirst f g = IsEarlier f.place g.place ⊎ ((f.place ≡ g.place) × (rank f.code ≤ rank g.code))

-- the first of two faults, or the one that is there
abbrev pub IsFirstOf : Option Fault → Option Fault → Option Fault → Type 0
IsFirstOf None other found = found ≡ other
IsFirstOf (Some f) None found = found ≡ Some f
IsFirstOf (Some f) (Some g) found = ((found ≡ Some f) × ComesFirst f g) ⊎ ((found ≡ Some g) × ComesFirst g f)

pub record IsFirstFault (IsFault : Fault → Type 0) (f : Fault) : Type 0 where
  pub is_fault : IsFault f
  pub first : (g : Fault) → IsFault g → ComesFirst f g

-- the first fault, where there is one
abbrev pub IsLeastOf : (Fault → Type 0) → Option Fault → Type 0
IsLeastOf IsFault None = (f : Fault) → IsFault f → ⊥
IsLeastOf IsFault (Some f) = IsFirstFault IsFault f
