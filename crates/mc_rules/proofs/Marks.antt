-- Marks, and how many are left to set.
use Rattle.std.specs.Prelude.{◌≡◌, ◌⊎◌, ℕ, ◌+◌, ◌<◌, ◌≤◌, List, [], ◌∷◌, Some, Bool, true, false, slice_get, slice_set}
use Rattle.std.proofs.Common.{ap, refl, inl, inr, ⊎_elim, arith, zero, suc, length, replicate}
use Rattle.std.proofs.lemmas.Bool.{false≢true}
use Rattle.std.proofs.lemmas.Option.{none-some, same_Some}
use Rattle.mc_rules.specs.Following.{is_unmarked}

-- how many have no mark
abbrev pub unmarked : List Bool → ℕ
unmarked [] = 0
unmarked (true ∷ marks) = unmarked marks
unmarked (false ∷ marks) = suc (unmarked marks)

-- one more mark is one less to set
pub fewer-by-mark : (marks : List Bool) (k : ℕ) → is_unmarked marks k ≡ true → unmarked (slice_set marks k true) + 1 ≡ unmarked marks
fewer-by-mark [] k e = absurd (false≢true e)
fewer-by-mark (true ∷ marks) zero e = absurd (false≢true e)
fewer-by-mark (false ∷ marks) zero e = omega arith
fewer-by-mark (true ∷ marks) (suc k) e = fewer-by-mark marks k e
fewer-by-mark (false ∷ marks) (suc k) e = omega (arith, fewer-by-mark marks k e)

pub no-more-by-mark : (marks : List Bool) (k : ℕ) → unmarked (slice_set marks k true) ≤ unmarked marks
no-more-by-mark [] k = omega arith
no-more-by-mark (true ∷ marks) zero = omega arith
no-more-by-mark (false ∷ marks) zero = omega arith
no-more-by-mark (true ∷ marks) (suc k) = no-more-by-mark marks k
no-more-by-mark (false ∷ marks) (suc k) = omega (arith, no-more-by-mark marks k)

-- A mark was there, or is the one that has been set where there was none.
pub mark-cases : (marks : List Bool) (k j : ℕ) → slice_get (slice_set marks k true) j ≡ Some true → (slice_get marks j ≡ Some true) ⊎ ((j ≡ k) × (is_unmarked marks k ≡ true))
mark-cases [] k j e = inl e
mark-cases (true ∷ marks) zero zero e = inl refl
mark-cases (false ∷ marks) zero zero e = inr (refl, refl)
mark-cases (m ∷ marks) zero (suc j) e = inl e
mark-cases (m ∷ marks) (suc k) zero e = inl e
mark-cases (m ∷ marks) (suc k) (suc j) e = ⊎_elim (λ l. inl l) (λ r. inr (ap suc r.0, r.1)) (mark-cases marks k j e)

-- a mark that is there stays
pub mark-stays : (marks : List Bool) (k j : ℕ) → slice_get marks j ≡ Some true → slice_get (slice_set marks k true) j ≡ Some true
mark-stays [] k j e = e
mark-stays (m ∷ marks) zero zero e = refl
mark-stays (m ∷ marks) zero (suc j) e = e
mark-stays (m ∷ marks) (suc k) zero e = e
mark-stays (m ∷ marks) (suc k) (suc j) e = mark-stays marks k j e

-- the mark that has been set
pub mark-here : (marks : List Bool) (k : ℕ) → k < length marks → slice_get (slice_set marks k true) k ≡ Some true
mark-here [] k less = absurd (omega (arith, less))
mark-here (m ∷ marks) zero less = refl
mark-here (m ∷ marks) (suc k) less = mark-here marks k (omega (arith, less))

pub no-marks : (n j : ℕ) → slice_get (replicate n false) j ≡ Some true → ⊥
no-marks zero j e = none-some true e
no-marks (suc n) zero e = false≢true (same_Some false true e)
no-marks (suc n) (suc j) e = no-marks n j e
