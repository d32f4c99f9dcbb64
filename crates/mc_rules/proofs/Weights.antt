-- What is still to be gone through weighs less with each node: more than all of a node's parts, the node itself.
use Rattle.std.specs.Prelude.{◌≡◌, ℕ, ◌<◌, ◌≤◌, ◌+◌, ◌*◌, ◌^◌, List, [], ◌∷◌, ◌++◌, length}
use Rattle.std.proofs.Common.{ap, refl, suc, zero, arith}
use Rattle.std.specs.List.{Contains, sum_by}
use Rattle.std.proofs.Math.Nat.{pow-le-pow_right, pow-succ', one-le-pow, mul-lt-mul_of_pos_right}
use Rattle.std.proofs.lemmas.List.Elements.{Contains-append_right}
use Rattle.std.proofs.lemmas.List.{length-append}
use Rattle.std.proofs.lemmas.List.Sums.{sum_by-append, sum_by-cons, sum_by_push}
use Rattle.mc_prog.specs.declared.program.Node.{Node}
use Rattle.mc_rules.specs.Calls.{IsPartOf}
use Rattle.mc_rules.specs.Gathering.{Adds}

-- nodes weigh the powers of what no list is as long as
abbrev pub weight : ℕ → ℕ → ℕ
weight b x = b ^ x

abbrev pub weigh : ℕ → List ℕ → ℕ
weigh b numbers = sum_by (weight b) numbers

times-more : (m w : ℕ) → (m + 1) * w ≡ m * w + w
times-more m w = grind arith

-- each of these is at most k
light : (b k : ℕ) (xs : List ℕ) → 0 < b → ((x : ℕ) → Contains xs x → x < k + 1) → weigh b xs ≤ length xs * b ^ k
light b k [] pos below = omega arith
light b k (x ∷ xs) pos below =
    let one : b ^ x ≤ b ^ k = pow-le-pow_right pos (omega (arith, below x (0, omega arith, refl))) in
    let rest : weigh b xs ≤ length xs * b ^ k = light b k xs pos (λ y m. below y (Contains-append_right (x ∷ []) xs y m)) in
    omega (arith, one, rest, sum_by-cons (weight b) x xs, times-more (length xs) (b ^ k))

none-there : (xs : List ℕ) → ((x : ℕ) → Contains xs x → x < 0) → length xs ≡ 0
none-there [] below = refl
none-there (x ∷ xs) below = absurd (omega (arith, below x (0, omega arith, refl)))

none-weighs : (b : ℕ) (xs : List ℕ) → length xs ≡ 0 → weigh b xs ≡ 0
none-weighs b [] e = refl
none-weighs b (x ∷ xs) e = absurd (omega (arith, e))

-- Fewer than b numbers less than n weigh less than n.
below-weighs : (b n : ℕ) (xs : List ℕ) → length xs < b → ((x : ℕ) → Contains xs x → x < n) → weigh b xs < b ^ n
below-weighs b zero xs few below = omega (arith, none-weighs b xs (none-there xs below), one-le-pow 0 b (omega (arith, few)))
below-weighs b (suc k) xs few below =
    let pos : 0 < b = omega (arith, few) in
    let all : weigh b xs ≤ length xs * b ^ k = light b k xs pos (λ x m. omega (arith, below x m)) in
    let less : length xs * b ^ k < b * b ^ k = mul-lt-mul_of_pos_right few (omega (arith, one-le-pow k b pos)) in
    omega (arith, all, less, pow-succ' b k)

-- less is left where the last one has made room for its parts
pub weighs-less : (b : ℕ) (nodes : List Node) (left : List ℕ) (next : ℕ) (ahead : List ℕ) → length ahead < b → Adds (IsPartOf nodes next) left ahead → weigh b ahead < weigh b (left ++ (next ∷ []))
weighs-less b nodes left next ahead few h =
    let less : weigh b h.added < b ^ next = below-weighs b next h.added (omega (arith, few, ap length h.behind, length-append left h.added)) (λ x m. ((h.are x).0 m).ahead) in
    omega (arith, less, ap (weigh b) h.behind, sum_by-append (weight b) left h.added, sum_by_push (weight b) left next)
