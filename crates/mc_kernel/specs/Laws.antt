-- Laws of the memory below the data.
use Rattle.std.specs.Prelude.{◌≡◌, ℕ, zero, suc, ◌*◌, nat_lt, true, false, [], ◌∷◌, ◌++◌, length, refl, if◌then◌else◌}
use Rattle.std.proofs.Common.{ap, arith}
use Rattle.std.proofs.lemmas.List.{length-append, length-replicate}
use Rattle.mc_kernel.specs.Words.{kernel_words}
use Rattle.mc_kernel.specs.Memory.{zeros, live_of, link_of, bound_of, top_of, vectors, variables, descriptor, descriptors, low_of, low_memory}

pub length-zeros : (n : ℕ) → length (zeros n) ≡ n
unfolding zeros
length-zeros n = length-replicate n 0

length-vectors : length vectors ≡ 34
unfolding vectors
length-vectors = refl

pub length-kernel_words : length kernel_words ≡ 179
unfolding kernel_words
length-kernel_words = refl

length-variables : (workspace work_at live : ℕ) → length (variables workspace work_at live) ≡ 5
unfolding variables
length-variables workspace work_at live = refl

pub length-descriptor : (workspace work_at live i : ℕ) → length (descriptor workspace work_at live i) ≡ 16
unfolding descriptor
length-descriptor workspace work_at live i =
    elim (nat_lt i live) as (λ b. length (if b then link_of live i ∷ 0 ∷ 0 ∷ bound_of workspace work_at i ∷ 0 ∷ 0 ∷ top_of workspace work_at i ∷ 0 ∷ 0 ∷ 0 ∷ 0 ∷ 0 ∷ 0 ∷ 0 ∷ 0 ∷ 0 ∷ [] else 0 ∷ 0 ∷ 0 ∷ 0 ∷ 0 ∷ 0 ∷ 0 ∷ 0 ∷ 0 ∷ 0 ∷ 0 ∷ 0 ∷ 0 ∷ 0 ∷ 0 ∷ 0 ∷ []) ≡ 16) [ true ↦ refl | false ↦ refl ]

pub descriptors-none : (workspace work_at live : ℕ) → descriptors workspace work_at live 0 ≡ []
unfolding descriptors
descriptors-none workspace work_at live = refl

pub descriptors-more : (workspace work_at live n : ℕ) → descriptors workspace work_at live (suc n) ≡ descriptors workspace work_at live n ++ descriptor workspace work_at live n
unfolding descriptors
descriptors-more workspace work_at live n = refl

pub length-descriptors : (workspace work_at live n : ℕ) → length (descriptors workspace work_at live n) ≡ 16 * n
length-descriptors workspace work_at live zero = ap length (descriptors-none workspace work_at live)
length-descriptors workspace work_at live (suc n) =
    omega (arith, ap length (descriptors-more workspace work_at live n), length-append (descriptors workspace work_at live n) (descriptor workspace work_at live n), length-descriptors workspace work_at live n, length-descriptor workspace work_at live n)

pub length-low_of : (workspace work_at live : ℕ) → length (low_of workspace work_at live) ≡ 4096
length-low_of workspace work_at live =
    omega (arith, length-append {A = ℕ}, length-vectors, length-zeros 94, length-kernel_words, length-zeros 205, length-variables workspace work_at live, length-zeros 507, length-descriptors workspace work_at live 32, length-zeros 2560)

pub length-low_memory : (workspace processes work_at : ℕ) → length (low_memory workspace processes work_at) ≡ 4096
unfolding low_memory
length-low_memory workspace processes work_at = length-low_of workspace work_at (live_of workspace processes work_at)
