-- What is known of the files when an answer is judged.
use Rattle.std.proofs.Common.{◌≡◌, ◌≤◌, ◌<◌, ◌+◌, ◌-◌, ◌^◌, ◌⊎◌, ℕ, zero, suc, List, [], ◌∷◌, length, Option, Some, None, refl, sym, ◌∙◌, subst, arith, inl, inr}
use Rattle.std.proofs.lemmas.Option.{none-some}
use Rattle.mc_shelf.specs.Outside.{View, Files, content, Told, Rose}
use Rattle.mc_driver.specs.Outside.{Reads, MayBe, IsKnown}

pub may_be : (v w : View) (result : ℕ) (known : Option Files) → IsKnown v result w known → MayBe v known
may_be v w result known (inl e) = inl e
may_be v w result known (inr (e, quiet, room)) = inr e

-- of unknown files everything holds
pub as_none : (known : Option Files) (P : Files → Type 0) → known ≡ None → Told known P
as_none known P e = λ x is. let f : None ≡ Some x = sym e ∙ is in absurd (none-some x f)

-- what holds of the files as told holds of what is known of them
pub as_known : (v : View) (known : Option Files) (P : Files → Type 0) → MayBe v known → Told v.files P → Told known P
as_known v known P (inl e) told = as_none known P e
as_known v known P (inr e) told = λ x is. told x (sym e ∙ is)

-- the same is known where neither files nor the count of failures have changed
pub known_there : (v u w : View) (result : ℕ) (known : Option Files) → u.files ≡ v.files → u.faults ≡ v.faults → IsKnown v result w known → IsKnown u result w known
known_there v u w result known same faults (inl e) = inl e
known_there v u w result known same faults (inr (e, quiet, room)) =
    inr (e ∙ sym same, (λ f r. quiet f (subst (λ (n : ℕ). Rose n w.faults) faults r)), (λ f. subst (λ (n : ℕ). n < 2 ^ 64 - 1) (sym faults) (room f)))

-- a list that is longer than this
long_list : (n : ℕ) → (bytes : List ℕ) × (n < length bytes)
long_list zero = (0 ∷ [], omega arith)
long_list (suc n) = let b = long_list n in (0 ∷ b.0, omega (arith, b.1))

-- a file that is too long as it is told has such bytes, and so may any where nothing is known
pub long_known : (known : Option Files) (name : List ℕ) (most : ℕ) → Told known (λ files. most < length (content files name)) → (bytes : List ℕ) × (Reads known name bytes × (most < length bytes))
long_known None name most told =
    let b = long_list most in (b.0, ((λ x is. absurd (none-some x is)), b.1))
long_known (Some files) name most told =
    (content files name, ((λ x is. let o : Some files ≡ Some x = is in let same : files ≡ x = cc o in subst (λ (f : Files). content files name ≡ content f name) same refl), told files refl))
