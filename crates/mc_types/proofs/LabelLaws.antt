-- The labels of an arm.
use Rattle.std.specs.Prelude.{◌≡◌, ℕ, ◌<◌, List, [], ◌∷◌, length}
use Rattle.std.proofs.Common.{refl, arith}
use Rattle.mc_prog.specs.StatementTypes.{but_last}

-- nothing stands before the last of so few
pub short : (parts : List ℕ) → length parts < 2 → but_last parts ≡ []
short [] l = refl
short (n ∷ []) l = refl
short (n ∷ (m ∷ more)) l = absurd (omega (arith, l))
