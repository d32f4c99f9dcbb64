-- Runs of a machine whose steps are a function, with a test of which steps are possible.
use Rattle.std.specs.Prelude.{◌≡◌, List, [], ◌∷◌, ◌++◌, refl}

-- the state after these steps
abbrev pub after : {S X : Type 0} → (S → X → S) → S → List X → S
after step s [] = s
after step s (x ∷ xs) = after step (step s x) xs

-- each of these steps is possible where it is taken
abbrev pub IsRunOf : {S X : Type 0} → (S → X → S) → (S → X → Type 0) → S → List X → Type 0
IsRunOf step IsPossible s [] = Unit {0}
IsRunOf step IsPossible s (x ∷ xs) = IsPossible s x × IsRunOf step IsPossible (step s x) xs

-- what comes after two lists of steps comes after the second, from where the first led
pub after-append : {S X : Type 0} (step : S → X → S) (s : S) (xs ys : List X) → after step s (xs ++ ys) ≡ after step (after step s xs) ys
after-append step s [] ys = refl
after-append step s (x ∷ xs) ys = after-append step (step s x) xs ys

pub IsRunOf-append : {S X : Type 0} (step : S → X → S) (IsPossible : S → X → Type 0) (s : S) (xs ys : List X) → IsRunOf step IsPossible s xs → IsRunOf step IsPossible (after step s xs) ys → IsRunOf step IsPossible s (xs ++ ys)
IsRunOf-append step IsPossible s [] ys h k = k
IsRunOf-append step IsPossible s (x ∷ xs) ys h k = (h.0, IsRunOf-append step IsPossible (step s x) xs ys h.1 k)

-- the first part of a run is a run
pub IsRunOf-front : {S X : Type 0} (step : S → X → S) (IsPossible : S → X → Type 0) (s : S) (xs ys : List X) → IsRunOf step IsPossible s (xs ++ ys) → IsRunOf step IsPossible s xs
IsRunOf-front step IsPossible s [] ys h = tt
IsRunOf-front step IsPossible s (x ∷ xs) ys h = (h.0, IsRunOf-front step IsPossible (step s x) xs ys h.1)

pub IsRunOf-behind : {S X : Type 0} (step : S → X → S) (IsPossible : S → X → Type 0) (s : S) (xs ys : List X) → IsRunOf step IsPossible s (xs ++ ys) → IsRunOf step IsPossible (after step s xs) ys
IsRunOf-behind step IsPossible s [] ys h = h
IsRunOf-behind step IsPossible s (x ∷ xs) ys h = IsRunOf-behind step IsPossible (step s x) xs ys h.1
