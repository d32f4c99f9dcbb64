-- The header of a block, and the whole block.
use Rattle.std.proofs.Common.{◌≡◌, ◌≢◌, ℕ, ◌+◌, ◌-◌, ◌*◌, ◌/◌, ◌%◌, ◌<◌, ◌≤◌, List, [], ◌∷◌, ◌++◌, length, take, drop, get_or, sum, refl, sym, ◌∙◌, ap, subst, arith, append_assoc}
use Rattle.std.proofs.lemmas.List.{take_at, take-append-drop, drop_more, drop-drop, length-append, length-take, length-drop}
use Rattle.std.proofs.lemmas.List.Sums.{sum_by_push}
use Rattle.mc_image.specs.Format.{word_bytes, frame, checksum, block_bytes}
use Rattle.mc_image.specs.Faults.{HasHeader, HasBadSum}
use Rattle.mc_image.specs.Steps.{IsHeaded}

four : (rest : List ℕ) → 6 ≤ length rest → get_or rest 0 0 ≡ 1 → get_or rest 1 0 ≡ 0 → rest ≡ 1 ∷ 0 ∷ get_or rest 2 0 ∷ get_or rest 3 0 ∷ drop 4 rest
four [] l e f = absurd (omega arith)
four (a ∷ []) l e f = absurd (omega arith)
four (a ∷ b ∷ []) l e f = absurd (omega arith)
four (a ∷ b ∷ x ∷ []) l e f = absurd (omega arith)
four (a ∷ b ∷ x ∷ y ∷ rest) l e f = cc

six : (rest : List ℕ) → 6 ≤ length rest → drop 4 rest ≡ get_or rest 4 0 ∷ get_or rest 5 0 ∷ drop 6 rest
six [] l = absurd (omega arith)
six (a ∷ []) l = absurd (omega arith)
six (a ∷ b ∷ []) l = absurd (omega arith)
six (a ∷ b ∷ x ∷ []) l = absurd (omega arith)
six (a ∷ b ∷ x ∷ y ∷ []) l = absurd (omega arith)
six (a ∷ b ∷ x ∷ y ∷ z ∷ []) l = absurd (omega arith)
six (a ∷ b ∷ x ∷ y ∷ z ∷ w ∷ rest) l = refl

bytes_of_word : (w low high : ℕ) → low < 256 → w ≡ low + 256 * high → low ∷ high ∷ [] ≡ word_bytes w
bytes_of_word w low high l e =
    let p : low ≡ w % 256 = omega arith in
    let q : high ≡ w / 256 = omega arith in
    cc

header_bytes : (rest : List ℕ) (count : ℕ) → 6 ≤ length rest → get_or rest 0 0 ≡ 1 → get_or rest 1 0 ≡ 0 → get_or rest 2 0 < 256 → count ≡ get_or rest 2 0 + 256 * get_or rest 3 0 → rest ≡ 1 ∷ 0 ∷ word_bytes count ++ drop 4 rest
header_bytes rest count l e f fits g =
    four rest l e f ∙ ap (λ (w : List ℕ). 1 ∷ 0 ∷ w ++ drop 4 rest) (bytes_of_word count (get_or rest 2 0) (get_or rest 3 0) fits g)

pub header_there : (rest : List ℕ) (count : ℕ) → 6 ≤ length rest → get_or rest 0 0 ≡ 1 → get_or rest 1 0 ≡ 0 → get_or rest 2 0 < 256 → count ≡ get_or rest 2 0 + 256 * get_or rest 3 0 → HasHeader count rest
header_there rest count l e f fits g = (drop 4 rest, header_bytes rest count l e f fits g, l)

pub headed : (rest : List ℕ) (count address : ℕ) → 6 ≤ count → count < length rest → get_or rest 0 0 ≡ 1 → get_or rest 1 0 ≡ 0 → get_or rest 2 0 < 256 → get_or rest 4 0 < 256 → count ≡ get_or rest 2 0 + 256 * get_or rest 3 0 → address ≡ get_or rest 4 0 + 256 * get_or rest 5 0 → IsHeaded count address rest
headed rest count address low l e f fits fits_too g h =
    let long : 6 ≤ length rest = omega arith in
    let behind : drop 4 rest ≡ word_bytes address ++ drop 6 rest = six rest long ∙ ap (λ (w : List ℕ). w ++ drop 6 rest) (bytes_of_word address (get_or rest 4 0) (get_or rest 5 0) fits_too h) in
    record {
      low = low;
      within = l;
      parts = header_bytes rest count long e f fits g ∙ ap (λ (w : List ℕ). 1 ∷ 0 ∷ word_bytes count ++ w) behind;
    }

-- the data and the checksum behind a header
record IsSplit (count address : ℕ) (rest : List ℕ) : Type 0 where
  check : ℕ
  checks : check ≡ get_or (drop 6 rest) (count - 6) 0
  count_is : count ≡ 6 + length (take (count - 6) (drop 6 rest))
  parts : rest ≡ frame address (take (count - 6) (drop 6 rest)) ++ check ∷ drop (count + 1) rest

split : (count address : ℕ) (rest : List ℕ) → IsHeaded count address rest → IsSplit count address rest
split count address rest h =
    let tail : List ℕ = drop 6 rest in
    let n : ℕ = count - 6 in
    let long : n < length tail = omega (arith, length-drop 6 rest, h.low, h.within) in
    let count_is : count ≡ 6 + length (take n tail) = omega (arith, length-take n tail, h.low, long) in
    let place : 6 + (n + 1) ≡ count + 1 = omega (arith, h.low) in
    let behind : drop (n + 1) tail ≡ drop (count + 1) rest = drop-drop (n + 1) 6 rest ∙ ap (λ (k : ℕ). drop k rest) place in
    let tail_is : tail ≡ take n tail ++ get_or tail n 0 ∷ drop (count + 1) rest =
    sym (take-append-drop n tail) ∙ ap (λ (l : List ℕ). take n tail ++ l) (drop_more tail n 0 long ∙ ap (λ (l : List ℕ). get_or tail n 0 ∷ l) behind) in
    record {
      check = get_or tail n 0;
      checks = refl;
      count_is = count_is;
      parts = h.parts ∙ (ap (λ (l : List ℕ). 1 ∷ 0 ∷ word_bytes count ++ (word_bytes address ++ l)) tail_is
          ∙ ap (λ (k : ℕ). 1 ∷ 0 ∷ word_bytes k ++ (word_bytes address ++ (take n tail ++ get_or tail n 0 ∷ drop (count + 1) rest))) count_is);
    }

length-frame : (address : ℕ) (bytes : List ℕ) → length (frame address bytes) ≡ 6 + length bytes
length-frame address bytes = omega arith

-- the sum of the counted bytes and the checksum
sum_is : (count address : ℕ) (rest : List ℕ) (s : IsSplit count address rest) → sum (take (count + 1) rest) ≡ sum (frame address (take (count - 6) (drop 6 rest))) + s.check
sum_is count address rest s =
    let front : List ℕ = frame address (take (count - 6) (drop 6 rest)) in
    let parts : rest ≡ (front ++ s.check ∷ []) ++ drop (count + 1) rest = s.parts ∙ sym (append_assoc front (s.check ∷ []) (drop (count + 1) rest)) in
    let long : length (front ++ s.check ∷ []) ≡ count + 1 = omega (arith, length-append front (s.check ∷ []), length-frame address (take (count - 6) (drop 6 rest)), s.count_is) in
    let taken : take (count + 1) rest ≡ front ++ s.check ∷ [] =
    ap (take (count + 1)) parts ∙ take_at (front ++ s.check ∷ []) (drop (count + 1) rest) (count + 1) long in
    ap sum taken ∙ sum_by_push (λ x. x) front s.check

checksum_is : (s check : ℕ) → check < 256 → (s + check) % 256 ≡ 0 → check ≡ (256 - s % 256) % 256
checksum_is s check l e = omega arith

pub block_there : (count address : ℕ) (rest : List ℕ) → ((i : ℕ) → get_or (drop 6 rest) i 0 < 256) → IsHeaded count address rest → sum (take (count + 1) rest) % 256 ≡ 0 → rest ≡ block_bytes address (take (count - 6) (drop 6 rest)) ++ drop (count + 1) rest
block_there count address rest fits h e =
    let s : IsSplit count address rest = split count address rest h in
    let front : List ℕ = frame address (take (count - 6) (drop 6 rest)) in
    let zero_sum : (sum front + s.check) % 256 ≡ 0 = ap (λ (k : ℕ). k % 256) (sym (sum_is count address rest s)) ∙ e in
    let small : s.check < 256 = subst (λ (k : ℕ). k < 256) (sym s.checks) (fits (count - 6)) in
    let good : s.check ≡ checksum front = checksum_is (sum front) s.check small zero_sum in
    s.parts ∙ (ap (λ (k : ℕ). front ++ k ∷ drop (count + 1) rest) good ∙ sym (append_assoc front (checksum front ∷ []) (drop (count + 1) rest)))

pub bad_sum : (count address : ℕ) (rest : List ℕ) → IsHeaded count address rest → sum (take (count + 1) rest) % 256 ≢ 0 → HasBadSum rest
bad_sum count address rest h n =
    let s : IsSplit count address rest = split count address rest h in
    let front : List ℕ = frame address (take (count - 6) (drop 6 rest)) in (
      address,
      take (count - 6) (drop 6 rest),
      s.check,
      drop (count + 1) rest,
      s.parts,
      λ e. n (ap (λ (k : ℕ). k % 256) (sum_is count address rest s) ∙ e),
    )
