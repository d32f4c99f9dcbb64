-- The comment at the front.
use Rattle.std.proofs.Common.{◌≡◌, ◌≤◌, ◌<◌, ℕ, suc, ◌+◌, List, [], ◌∷◌, ◌++◌, length, take, drop, get_or, inr, refl, sym, ◌∙◌, ap, subst, arith, append_assoc}
use Rattle.std.proofs.lemmas.List.{take-append-drop}
use Rattle.mc_tree.specs.Spellings.{HasClose}
use Rattle.std.proofs.lemmas.List.{get_or-take, length-take-le, drop_more, take_at}
use Rattle.std.proofs.Common.{length-append}
use Rattle.mc_scan.specs.Closes.{ClosesAt}
use Rattle.mc_scan.specs.Pieces.{IsGapFront}

-- where `*)` stands in bytes
record IsCloseAt (k : ℕ) (bytes : List ℕ) : Type 0 where
  within : k + 1 < length bytes
  star : get_or bytes k 0 ≡ 42
  paren : get_or bytes (k + 1) 0 ≡ 41

close_place : (front back : List ℕ) → IsCloseAt (length front) (front ++ 42 ∷ 41 ∷ back)
close_place [] back = record { within = omega arith; star = refl; paren = refl }
close_place (x ∷ front) back =
    let h : IsCloseAt (length front) (front ++ 42 ∷ 41 ∷ back) = close_place front back in
    record { within = omega (arith, h.within); star = h.star; paren = shifted h.paren }
  where
    shifted : get_or (front ++ 42 ∷ 41 ∷ back) (length front + 1) 0 ≡ 41 → get_or (x ∷ front ++ 42 ∷ 41 ∷ back) (suc (length front) + 1) 0 ≡ 41
    shifted p =
        let e : suc (length front) + 1 ≡ suc (length front + 1) = omega arith in
        ap (λ (k : ℕ). get_or (x ∷ front ++ 42 ∷ 41 ∷ back) k 0) e ∙ p

record AnyClose (bytes : List ℕ) : Type 0 where
  index : ℕ
  stands : IsCloseAt index bytes

find_close : (bytes : List ℕ) → HasClose bytes → AnyClose bytes
find_close bytes h = record {
  index = length h.0;
  stands = subst (λ (l : List ℕ). IsCloseAt (length h.0) l) (sym (h.2 ∙ append_assoc h.0 (42 ∷ 41 ∷ []) h.1)) (close_place h.0 h.1);
}

-- Where no `*)` begins before n, none stands in the first n bytes.
pub no_close_before : (bytes : List ℕ) (n : ℕ) → n ≤ length bytes → ((k : ℕ) → k < n → get_or bytes k 0 ≡ 42 → get_or bytes (k + 1) 0 ≡ 41 → ⊥) → ¬ HasClose (take n bytes)
no_close_before bytes n l none h = go (find_close (take n bytes) h)
  where
    go : AnyClose (take n bytes) → ⊥
    go a =
        let short : a.index + 1 < n = omega (arith, a.stands.within, length-take-le n bytes l) in
        none a.index (omega arith)
        (sym (get_or-take n bytes a.index 0 (omega arith)) ∙ a.stands.star)
        (sym (get_or-take n bytes (a.index + 1) 0 (omega arith)) ∙ a.stands.paren)

pub no_close : (bytes : List ℕ) (n : ℕ) → length bytes ≤ n → ((k : ℕ) → k < n → get_or bytes k 0 ≡ 42 → get_or bytes (k + 1) 0 ≡ 41 → ⊥) → ¬ HasClose bytes
no_close bytes n l none h = go (find_close bytes h)
  where
    go : AnyClose bytes → ⊥
    go a = none a.index (omega (arith, a.stands.within)) a.stands.star a.stands.paren

pub closes_at : (bytes : List ℕ) (i : ℕ) → i + 1 < length bytes → get_or bytes i 0 ≡ 42 → get_or bytes (i + 1) 0 ≡ 41 → ((k : ℕ) → k < i → get_or bytes k 0 ≡ 42 → get_or bytes (k + 1) 0 ≡ 41 → ⊥) → ClosesAt i bytes
closes_at bytes i l star paren none =
    let here : drop i bytes ≡ get_or bytes i 0 ∷ drop (i + 1) bytes = drop_more bytes i 0 (omega arith) in
    let next : drop (i + 1) bytes ≡ get_or bytes (i + 1) 0 ∷ drop (i + 1 + 1) bytes = drop_more bytes (i + 1) 0 l in
    let two : i + 1 + 1 ≡ i + 2 = omega arith in
    let tail : drop i bytes ≡ 42 ∷ 41 ∷ drop (i + 2) bytes =
    here ∙ (ap (λ (x : ℕ). x ∷ drop (i + 1) bytes) star ∙ ap (λ (s : List ℕ). 42 ∷ s) (next ∙ (ap (λ (x : ℕ). x ∷ drop (i + 1 + 1) bytes) paren ∙ ap (λ (k : ℕ). 41 ∷ drop k bytes) two))) in
    record {
      within = omega arith;
      parts = sym (take-append-drop i bytes) ∙ ap (λ (s : List ℕ). take i bytes ++ s) tail;
      first = no_close_before bytes i (omega arith) none;
    }

-- `(*` and what comes up to the first `*)` behind it
comment_at : (behind : List ℕ) (n : ℕ) → ClosesAt n behind → IsGapFront (n + 4) (40 ∷ 42 ∷ behind)
comment_at behind n c =
    let l : n + 2 ≤ length behind = c.within in
    let four : n + 4 ≡ suc (suc (n + 2)) = omega arith in
    let long : length (take n behind) ≡ n = length-take-le n behind (omega arith) in
    let joined : behind ≡ (take n behind ++ 42 ∷ 41 ∷ []) ++ drop (n + 2) behind = c.parts ∙ sym (append_assoc (take n behind) (42 ∷ 41 ∷ []) (drop (n + 2) behind)) in
    let two : length (take n behind ++ 42 ∷ 41 ∷ []) ≡ n + 2 = length-append (take n behind) (42 ∷ 41 ∷ []) ∙ ap (λ (k : ℕ). k + 2) long in
    let inside : take (n + 2) behind ≡ take n behind ++ 42 ∷ 41 ∷ [] =
    ap (λ (s : List ℕ). take (n + 2) s) joined ∙ take_at (take n behind ++ 42 ∷ 41 ∷ []) (drop (n + 2) behind) (n + 2) two in
    record {
      within = omega arith;
      some = omega arith;
      is_gap = inr (take n behind, c.first, ap (λ (k : ℕ). take k (40 ∷ 42 ∷ behind)) four ∙ ap (λ (s : List ℕ). 40 ∷ 42 ∷ s) inside);
    }

pub comment_front : (bytes behind : List ℕ) (n : ℕ) → behind ≡ drop 2 bytes → 1 < length bytes → get_or bytes 0 0 ≡ 40 → get_or bytes 1 0 ≡ 42 → ClosesAt n behind → IsGapFront (n + 4) bytes
comment_front [] behind n b l p s c = absurd (omega arith)
comment_front (x ∷ []) behind n b l p s c = absurd (omega arith)
comment_front (x ∷ y ∷ bytes) behind n b l p s c =
    let e : 40 ∷ 42 ∷ behind ≡ x ∷ y ∷ bytes = cc in
    subst (λ (xs : List ℕ). IsGapFront (n + 4) xs) e (comment_at behind n c)
