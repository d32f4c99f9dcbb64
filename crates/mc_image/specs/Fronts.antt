-- What stands at the front of bytes, as a function of them. Only the laws need it: it shows that there is one answer.
use Rattle.std.specs.Prelude.{◌≡◌, ◌≢◌, ℕ, zero, suc, ◌+◌, ◌-◌, ◌*◌, ◌/◌, ◌%◌, ◌<◌, ◌≤◌, ◌⊎◌, Bool, true, false, ◌==◌, nat_lt, nat_le, ◌&&◌, ◌||◌, if◌then◌else◌, List, [], ◌∷◌, ◌++◌, length, take, drop, slice_index, sum, replicate, refl}
use Rattle.std.proofs.Common.{sym, ◌∙◌, ap, subst, inl, inr, arith, append_assoc}
use Rattle.std.proofs.lemmas.Bool.{false_from_ne_true, and_parts, or_cases, or_left, or_right, and_from, leb-true, le-leb, lt-ltb, le-ltb, eq-eqb, ne_eqb}
use Rattle.std.proofs.lemmas.List.{take_at, drop_at, get_or_at, length-append}
use Rattle.mc_image.specs.declared.image.Block.{Block}
use Rattle.mc_image.specs.declared.fault.ImageFault.{ImageFault}
use Rattle.mc_image.specs.declared.fault.ImageFault.TheVariants.{BadHeader, Truncated, BadCount, BadSum, OutOfMemoryRange, Overlap, NoStart, Trailing, Memory}
use Rattle.mc_image.specs.Blocks.{end_of, IsPlaced, AreApart, IsApartFrom}
use Rattle.mc_image.specs.Format.{word_bytes, frame, checksum, block_bytes, start_bytes, Piece, Null, Data, data_bytes}
use Rattle.mc_image.specs.Faults.{HasBadHeader, LacksHeader, HasHeader, CountsTooFew, LacksData, HasBadSum, LeavesMemory, OverlapsData, LacksStart, HasTrailing, StandsAt}

-- a null or a block stands there and is taken; or a fault; or the start block with its address, and nulls to the end
pub data Front : Type 0 where
  Takes : Piece → List ℕ → Front
  Fails : ImageFault → Front
  Ends : ℕ → Front

abbrev pub is_apart : Block → List Block → Bool
is_apart b [] = true
is_apart b (c ∷ blocks) = (nat_le (end_of b) c.address || nat_le (end_of c) b.address) && is_apart b blocks

unfoldable pub ending : ℕ → ℕ → List ℕ → Front
ending here start [] = Ends start
ending here start (b ∷ left) = if b == 0 then ending (suc here) start left else Fails (Trailing here)

unfoldable pub placed : ℕ → List Block → Block → List ℕ → Front
placed here blocks b left =
    if nat_lt 57344 (end_of b) then Fails (OutOfMemoryRange here) else (if is_apart b blocks then Takes (Data b) left else Fails (Overlap here))

unfoldable pub whole : ℕ → List Block → ℕ → List ℕ → List ℕ → Front
whole here blocks address [] left = if address % 2 == 1 then Fails NoStart else ending (here + 7) address left
whole here blocks address (x ∷ bytes) left = placed here blocks (record { address = address; bytes = x ∷ bytes }) left

unfoldable pub summed : ℕ → List Block → ℕ → List ℕ → ℕ → List ℕ → Front
summed here blocks address bytes check left =
    if (sum (frame address bytes) + check) % 256 == 0 then whole here blocks address bytes left else Fails (BadSum here)

unfoldable pub counted : ℕ → List Block → ℕ → ℕ → List ℕ → Front
counted here blocks count address tail =
    if nat_lt count 6 then Fails (BadCount here) else (if nat_lt (length tail) (count - 5) then Fails (Truncated here)
    else summed here blocks address (take (count - 6) tail) (slice_index tail (count - 6)) (drop (count - 5) tail))

unfoldable pub worded : ℕ → List Block → List ℕ → Front
worded here blocks tail =
    if nat_lt (length tail) 4 then Fails (Truncated here)
    else counted here blocks (slice_index tail 0 + 256 * slice_index tail 1) (slice_index tail 2 + 256 * slice_index tail 3) (drop 4 tail)

unfoldable pub headed : ℕ → List Block → List ℕ → Front
headed here blocks [] = Fails (Truncated here)
headed here blocks (z ∷ tail) = if z == 0 then worded here blocks tail else Fails (BadHeader (here + 1))

unfoldable pub front : ℕ → List Block → List ℕ → Front
front here blocks [] = Fails NoStart
front here blocks (b ∷ tail) = if b == 0 then Takes Null tail else (if b == 1 then headed here blocks tail else Fails (BadHeader here))

-- Laws

is_apart-true : (b : Block) (blocks : List Block) → IsApartFrom b blocks → is_apart b blocks ≡ true
is_apart-true b [] h = refl
is_apart-true b (c ∷ blocks) h = and_from _ _ (one h.0) (is_apart-true b blocks h.1)
  where
    one : AreApart b c → (nat_le (end_of b) c.address || nat_le (end_of c) b.address) ≡ true
    one (inl e) = or_left _ _ (le-leb _ _ e)
    one (inr e) = or_right _ _ (le-leb _ _ e)

pub is_apart-means : (b : Block) (blocks : List Block) → is_apart b blocks ≡ true → IsApartFrom b blocks
is_apart-means b [] h = tt
is_apart-means b (c ∷ blocks) h =
    let parts = and_parts (nat_le (end_of b) c.address || nat_le (end_of c) b.address) (is_apart b blocks) h in
    (one (or_cases (nat_le (end_of b) c.address) (nat_le (end_of c) b.address) parts.0), is_apart-means b blocks parts.1)
  where
    one : (nat_le (end_of b) c.address ≡ true) ⊎ (nat_le (end_of c) b.address ≡ true) → AreApart b c
    one (inl e) = inl (leb-true _ _ e)
    one (inr e) = inr (leb-true _ _ e)

word_is : (w : ℕ) → w % 256 + 256 * (w / 256) ≡ w
word_is w = omega arith

-- four bytes more
four_more : (xs : List ℕ) (a b c d : ℕ) → length (a ∷ b ∷ c ∷ d ∷ xs) ≡ 4 + length xs
four_more xs a b c d = omega arith

pub front_null : (here : ℕ) (blocks : List Block) (left : List ℕ) → front here blocks (0 ∷ left) ≡ Takes Null left
unfolding front
front_null here blocks left = refl

front_words : (here : ℕ) (blocks : List Block) (tail : List ℕ) → front here blocks (1 ∷ 0 ∷ tail) ≡ worded here blocks tail
unfolding front headed
front_words here blocks tail = refl

worded_is : (here : ℕ) (blocks : List Block) (a b c d count address : ℕ) (left : List ℕ) → a + 256 * b ≡ count → c + 256 * d ≡ address → worded here blocks (a ∷ b ∷ c ∷ d ∷ left) ≡ counted here blocks count address left
unfolding worded
worded_is here blocks a b c d count address left e f =
    let long : nat_lt (length (a ∷ b ∷ c ∷ d ∷ left)) 4 ≡ false = le-ltb _ _ (omega arith) in
    rw (long, e, f) refl

counted_is : (here : ℕ) (blocks : List Block) (count address : ℕ) (bytes : List ℕ) (check : ℕ) (left : List ℕ) → count ≡ 6 + length bytes → counted here blocks count address (bytes ++ check ∷ left) ≡ summed here blocks address bytes check left
unfolding counted
counted_is here blocks count address bytes check left e =
    let enough : nat_lt count 6 ≡ false = le-ltb _ _ (omega arith) in
    let long : nat_lt (length (bytes ++ check ∷ left)) (count - 5) ≡ false = le-ltb _ _ (omega (arith, length-append bytes (check ∷ left))) in
    let six : length bytes ≡ count - 6 = omega arith in
    let five : length (bytes ++ check ∷ []) ≡ count - 5 = omega (arith, length-append bytes (check ∷ [])) in
    let behind : drop (count - 5) (bytes ++ check ∷ left) ≡ left = ap (drop (count - 5)) (sym (append_assoc bytes (check ∷ []) left)) ∙ drop_at (bytes ++ check ∷ []) left (count - 5) five in
    rw (enough, long, take_at bytes (check ∷ left) (count - 6) six, get_or_at bytes check left 0 (count - 6) six, behind) refl

-- the bytes of a whole block, up to its checksum
pub front_block : (here : ℕ) (blocks : List Block) (address : ℕ) (bytes : List ℕ) (check : ℕ) (left : List ℕ) → front here blocks (frame address bytes ++ check ∷ left) ≡ summed here blocks address bytes check left
front_block here blocks address bytes check left =
    front_words here blocks ((6 + length bytes) % 256 ∷ (6 + length bytes) / 256 ∷ address % 256 ∷ address / 256 ∷ bytes ++ check ∷ left)
    ∙ (worded_is here blocks ((6 + length bytes) % 256) ((6 + length bytes) / 256) (address % 256) (address / 256) (6 + length bytes) address (bytes ++ check ∷ left) (word_is (6 + length bytes)) (word_is address)
    ∙ counted_is here blocks (6 + length bytes) address bytes check left refl)

pub sums_to_zero : (s : ℕ) → (s + (256 - s % 256) % 256) % 256 ≡ 0
sums_to_zero s = omega arith

-- a block and its checksum sum to 0
pub front_whole : (here : ℕ) (blocks : List Block) (address : ℕ) (bytes left : List ℕ) → front here blocks (block_bytes address bytes ++ left) ≡ whole here blocks address bytes left
unfolding summed
front_whole here blocks address bytes left =
    let check : ℕ = checksum (frame address bytes) in
    let regrouped : block_bytes address bytes ++ left ≡ frame address bytes ++ check ∷ left = append_assoc (frame address bytes) (check ∷ []) left in
    let good : ((sum (frame address bytes) + check) % 256 == 0) ≡ true = eq-eqb _ _ (sums_to_zero (sum (frame address bytes))) in
    let total : Front = if (sum (frame address bytes) + check) % 256 == 0 then whole here blocks address bytes left else Fails (BadSum here) in
    let chosen : total ≡ whole here blocks address bytes left = ap (λ (t : Bool). if t then whole here blocks address bytes left else Fails (BadSum here)) good in
    ap (front here blocks) regrouped ∙ (front_block here blocks address bytes check left ∙ chosen)

whole_placed : (here : ℕ) (blocks : List Block) (address : ℕ) (bytes left : List ℕ) → bytes ≢ [] → whole here blocks address bytes left ≡ placed here blocks (record { address = address; bytes = bytes }) left
unfolding whole
whole_placed here blocks address [] left n = absurd (n refl)
whole_placed here blocks address (x ∷ bytes) left n = refl

front_placed : (here : ℕ) (blocks : List Block) (b : Block) (left : List ℕ) → b.bytes ≢ [] → front here blocks (data_bytes b ++ left) ≡ placed here blocks b left
front_placed here blocks b left n = front_whole here blocks b.address b.bytes left ∙ whole_placed here blocks b.address b.bytes left n

-- a block that lies in memory, apart from those before it, is taken
pub takes_block : (here : ℕ) (blocks : List Block) (b : Block) (left : List ℕ) → IsPlaced b → IsApartFrom b blocks → front here blocks (data_bytes b ++ left) ≡ Takes (Data b) left
unfolding placed
takes_block here blocks b left p a =
    let inside : nat_lt 57344 (end_of b) ≡ false = le-ltb _ _ p.1 in
    front_placed here blocks b left p.0 ∙ rw (inside, is_apart-true b blocks a) refl

ending_nulls : (nulls here start : ℕ) → ending here start (replicate nulls 0) ≡ Ends start
unfolding ending
ending_nulls zero here start = refl
ending_nulls (suc nulls) here start = ending_nulls nulls (suc here) start

ending_trailing : (nulls here start b : ℕ) (left : List ℕ) → b ≢ 0 → ending here start (replicate nulls 0 ++ b ∷ left) ≡ Fails (Trailing (here + nulls))
unfolding ending
ending_trailing zero here start b left n =
    let other : (b == 0) ≡ false = ne_eqb b 0 n in
    let same : here ≡ here + 0 = omega arith in
    rw other (ap (λ (k : ℕ). Fails (Trailing k)) same)
ending_trailing (suc nulls) here start b left n =
    let same : suc here + nulls ≡ here + suc nulls = omega arith in
    ending_trailing nulls (suc here) start b left n ∙ ap (λ (k : ℕ). Fails (Trailing k)) same

-- the start block, and nulls to the end
pub ends_image : (here : ℕ) (blocks : List Block) (start nulls : ℕ) → start % 2 ≡ 0 → front here blocks (start_bytes start ++ replicate nulls 0) ≡ Ends start
unfolding whole
ends_image here blocks start nulls e =
    let even : (start % 2 == 1) ≡ false = ne_eqb _ _ (λ f. absurd (omega arith)) in
    front_whole here blocks start [] (replicate nulls 0) ∙ rw even (ending_nulls nulls (here + 7) start)

-- the count and the address of a block whose header is there
record IsCounted (here : ℕ) (blocks : List Block) (count : ℕ) (rest : List ℕ) : Type 0 where
  address : ℕ
  tail : List ℕ
  goes_on : front here blocks rest ≡ counted here blocks count address tail
  long : length rest ≡ 6 + length tail

header_counted : (here : ℕ) (blocks : List Block) (count : ℕ) (left : List ℕ) → 2 ≤ length left → IsCounted here blocks count (1 ∷ 0 ∷ word_bytes count ++ left)
header_counted here blocks count [] h = absurd (omega arith)
header_counted here blocks count (x ∷ []) h = absurd (omega arith)
header_counted here blocks count (x ∷ y ∷ tail) h =
    record {
      address = x + 256 * y;
      tail = tail;
      goes_on = front_words here blocks (count % 256 ∷ count / 256 ∷ x ∷ y ∷ tail)
          ∙ worded_is here blocks (count % 256) (count / 256) x y count (x + 256 * y) tail (word_is count) refl;
      long = omega arith;
    }

has_counted : (here : ℕ) (blocks : List Block) (count : ℕ) (rest : List ℕ) → HasHeader count rest → IsCounted here blocks count rest
has_counted here blocks count rest h =
    let long : 6 ≤ length (1 ∷ 0 ∷ word_bytes count ++ h.0) = subst (λ (l : List ℕ). 6 ≤ length l) h.1 h.2 in
    subst (λ (l : List ℕ). IsCounted here blocks count l) (sym h.1) (header_counted here blocks count h.0 (omega arith))

fails_header : (at here : ℕ) (blocks : List Block) (rest : List ℕ) → HasBadHeader at here rest → front here blocks rest ≡ Fails (BadHeader at)
unfolding front headed
fails_header at here blocks rest (inl h) =
    let zero_not : (h.0 == 0) ≡ false = ne_eqb _ _ h.3 in
    let one_not : (h.0 == 1) ≡ false = ne_eqb _ _ h.4 in
    ap (front here blocks) h.2 ∙ rw (zero_not, one_not) (ap (λ (k : ℕ). Fails (BadHeader k)) (sym h.5))
fails_header at here blocks rest (inr h) =
    let zero_not : (h.0 == 0) ≡ false = ne_eqb _ _ h.3 in
    ap (front here blocks) h.2 ∙ rw zero_not (ap (λ (k : ℕ). Fails (BadHeader k)) (sym h.4))

fails_lacking : (here : ℕ) (blocks : List Block) (rest : List ℕ) → LacksHeader rest → front here blocks rest ≡ Fails (Truncated here)
unfolding front headed worded
fails_lacking here blocks rest (inl e) = ap (front here blocks) e
fails_lacking here blocks rest (inr h) =
    let short : length (1 ∷ 0 ∷ h.0) < 6 = subst (λ (l : List ℕ). length l < 6) h.1 h.2 in
    let few : nat_lt (length h.0) 4 ≡ true = lt-ltb _ _ (omega arith) in
    ap (front here blocks) h.1 ∙ rw few refl

fails_count : (here : ℕ) (blocks : List Block) (rest : List ℕ) → CountsTooFew rest → front here blocks rest ≡ Fails (BadCount here)
unfolding counted
fails_count here blocks rest h =
    let c : IsCounted here blocks h.0 rest = has_counted here blocks h.0 rest h.1 in
    let few : nat_lt h.0 6 ≡ true = lt-ltb _ _ h.2 in
    c.goes_on ∙ rw few refl

fails_data : (here : ℕ) (blocks : List Block) (rest : List ℕ) → LacksData rest → front here blocks rest ≡ Fails (Truncated here)
unfolding counted
fails_data here blocks rest h =
    let c : IsCounted here blocks h.0 rest = has_counted here blocks h.0 rest h.1 in
    let enough : nat_lt h.0 6 ≡ false = le-ltb _ _ h.2 in
    let few : nat_lt (length c.tail) (h.0 - 5) ≡ true = lt-ltb _ _ (omega (arith, c.long, h.3, h.2)) in
    c.goes_on ∙ rw (enough, few) refl

fails_sum : (here : ℕ) (blocks : List Block) (rest : List ℕ) → HasBadSum rest → front here blocks rest ≡ Fails (BadSum here)
unfolding summed
fails_sum here blocks rest h =
    let bad : ((sum (frame h.0 h.1) + h.2) % 256 == 0) ≡ false = ne_eqb _ _ h.5 in
    let chosen : summed here blocks h.0 h.1 h.2 h.3 ≡ Fails (BadSum here) = ap (λ (t : Bool). if t then whole here blocks h.0 h.1 h.3 else Fails (BadSum here)) bad in
    ap (front here blocks) h.4 ∙ (front_block here blocks h.0 h.1 h.2 h.3 ∙ chosen)

fails_memory : (here : ℕ) (blocks : List Block) (rest : List ℕ) → LeavesMemory rest → front here blocks rest ≡ Fails (OutOfMemoryRange here)
unfolding placed
fails_memory here blocks rest h =
    let past : nat_lt 57344 (end_of h.0) ≡ true = lt-ltb _ _ h.2 in
    ap (front here blocks) h.1.1 ∙ (front_placed here blocks h.0 h.1.0 h.1.2 ∙ rw past refl)

fails_overlap : (here : ℕ) (blocks : List Block) (rest : List ℕ) → OverlapsData blocks rest → front here blocks rest ≡ Fails (Overlap here)
unfolding placed
fails_overlap here blocks rest h =
    let inside : nat_lt 57344 (end_of h.0) ≡ false = le-ltb _ _ h.2.1 in
    let meets : is_apart h.0 blocks ≡ false = false_from_ne_true (is_apart h.0 blocks) (λ e. h.3 (is_apart-means h.0 blocks e)) in
    ap (front here blocks) h.1.1 ∙ (front_placed here blocks h.0 h.1.0 h.1.2 ∙ rw (inside, meets) refl)

fails_start : (here : ℕ) (blocks : List Block) (rest : List ℕ) → LacksStart rest → front here blocks rest ≡ Fails NoStart
unfolding front whole
fails_start here blocks rest (inl e) = ap (front here blocks) e
fails_start here blocks rest (inr h) =
    let odd : (h.0 % 2 == 1) ≡ true = eq-eqb _ _ h.3 in
    ap (front here blocks) h.2 ∙ (front_whole here blocks h.0 [] h.1 ∙ rw odd refl)

fails_trailing : (at here : ℕ) (blocks : List Block) (rest : List ℕ) → HasTrailing at here rest → front here blocks rest ≡ Fails (Trailing at)
unfolding whole
fails_trailing at here blocks rest h =
    let even : (h.0 % 2 == 1) ≡ false = ne_eqb _ _ (λ f. absurd (omega (arith, h.5, f))) in
    let place : here + 7 + h.1 ≡ at = omega (arith, h.7) in
    ap (front here blocks) h.4 ∙ (front_whole here blocks h.0 [] (replicate h.1 0 ++ h.2 ∷ h.3)
    ∙ rw even (ending_trailing h.1 (here + 7) h.0 h.2 h.3 h.6 ∙ ap (λ (k : ℕ). Fails (Trailing k)) place))

-- where a fault stands, the front is that fault
pub front_fails : (fault : ImageFault) (here : ℕ) (blocks : List Block) (rest : List ℕ) → StandsAt fault here blocks rest → front here blocks rest ≡ Fails fault
front_fails (BadHeader at) here blocks rest h = fails_header at here blocks rest h
front_fails (Truncated at) here blocks rest h = truncated h.1 ∙ ap (λ (k : ℕ). Fails (Truncated k)) (sym h.0)
  where
    truncated : LacksHeader rest ⊎ LacksData rest → front here blocks rest ≡ Fails (Truncated here)
    truncated (inl k) = fails_lacking here blocks rest k
    truncated (inr k) = fails_data here blocks rest k
front_fails (BadCount at) here blocks rest h = fails_count here blocks rest h.1 ∙ ap (λ (k : ℕ). Fails (BadCount k)) (sym h.0)
front_fails (BadSum at) here blocks rest h = fails_sum here blocks rest h.1 ∙ ap (λ (k : ℕ). Fails (BadSum k)) (sym h.0)
front_fails (OutOfMemoryRange at) here blocks rest h = fails_memory here blocks rest h.1 ∙ ap (λ (k : ℕ). Fails (OutOfMemoryRange k)) (sym h.0)
front_fails (Overlap at) here blocks rest h = fails_overlap here blocks rest h.1 ∙ ap (λ (k : ℕ). Fails (Overlap k)) (sym h.0)
front_fails NoStart here blocks rest h = fails_start here blocks rest h
front_fails (Trailing at) here blocks rest h = fails_trailing at here blocks rest h
front_fails Memory here blocks rest h = absurd h
