-- The first of a source's faults: that of the least place, and at one place that of the least number.
use Rattle.std.specs.Prelude.{◌≡◌, ◌<◌, ◌≤◌, ◌⊎◌, ℕ, Option, Some, None}
use Rattle.mc_tree.specs.declared.place.Place.{Place}
use Rattle.mc_tree.specs.declared.fault.Code.{Code}
use Rattle.mc_tree.specs.declared.fault.Code.TheVariants.{BadByte, NumberTooLarge, OpenComment, OpenText, Unexpected, TooDeep, S1, S2, S3, S4, S5, Y1, Y2, Y3, Y4, Y5, Y6, Y7, Y8, M1, M2, M3, M4, M5, M6, M7, M8, M9, M10}
use Rattle.mc_tree.specs.declared.fault.Fault.{Fault}

-- the order of codes at one place
abbrev pub number_of : Code → ℕ
number_of BadByte = 0
number_of NumberTooLarge = 1
number_of OpenComment = 2
number_of OpenText = 3
number_of Unexpected = 4
number_of TooDeep = 5
number_of S1 = 6
number_of S2 = 7
number_of S3 = 8
number_of S4 = 9
number_of S5 = 10
number_of Y1 = 11
number_of Y2 = 12
number_of Y3 = 13
number_of Y4 = 14
number_of Y5 = 15
number_of Y6 = 16
number_of Y7 = 17
number_of Y8 = 18
number_of M1 = 19
number_of M2 = 20
number_of M3 = 21
number_of M4 = 22
number_of M5 = 23
number_of M6 = 24
number_of M7 = 25
number_of M8 = 26
number_of M9 = 27
number_of M10 = 28

abbrev pub IsEarlier : Place → Place → Type 0
IsEarlier p q = (p.line < q.line) ⊎ ((p.line ≡ q.line) × (p.column < q.column))

-- a fault that comes no later than another
abbrev pub IsNotAfter : Fault → Fault → Type 0
IsNotAfter f g = IsEarlier f.place g.place ⊎ ((f.place ≡ g.place) × (number_of f.code ≤ number_of g.code))

pub record IsFirst (IsFault : Fault → Type 0) (f : Fault) : Type 0 where
  pub is_fault : IsFault f
  pub first : (g : Fault) → IsFault g → IsNotAfter f g

-- the first of two faults, or the one that is there
abbrev pub IsEarlierOf : Option Fault → Option Fault → Option Fault → Type 0
IsEarlierOf None other found = found ≡ other
IsEarlierOf (Some f) None found = found ≡ Some f
IsEarlierOf (Some f) (Some g) found = ((found ≡ Some f) × IsNotAfter f g) ⊎ ((found ≡ Some g) × IsNotAfter g f)
