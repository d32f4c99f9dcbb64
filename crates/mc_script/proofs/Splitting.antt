-- The fields of a line, one after the other.
use Rattle.std.proofs.Common.{◌≡◌, ◌≢◌, ℕ, zero, suc, ◌+◌, ◌-◌, ◌<◌, ◌≤◌, Bool, true, false, not, eqb, List, [], ◌∷◌, length, take, drop, get_or, filter, refl, sym, ◌∙◌, ap, subst, arith, inl, inr}
use Rattle.std.specs.List.{slice_split, prefix_len, position_or_len}
use Rattle.std.proofs.lemmas.Bool.{not_from_true, not_from_false, cases_Bool, cases_lt, ne_eqb, eq-eqb}
use Rattle.std.proofs.lemmas.List.{drop_more, drop_all, take_all, length-take, take_rest, nil_from_length}
use Rattle.std.proofs.lemmas.List.Sums.{prefix_len_is, prefix_len-le-length}
use Rattle.std.proofs.lemmas.List.Splits.{slice_split-cons_yes, slice_split_first}
use Rattle.mc_script.specs.Lines.{is_blank, has_bytes, fields}
use Rattle.mc_script.specs.Steps.{strip}

-- the first place that passes
pub place_of : (test : ℕ → Bool) (line : List ℕ) (n : ℕ) → n ≤ length line → ((k : ℕ) → k < n → test (get_or line k 0) ≡ false) → (n < length line → test (get_or line n 0) ≡ true) → position_or_len test line ≡ n
place_of test line n l before here =
    prefix_len_is (λ (x : ℕ). not (test x)) line n 0 l (λ k h. not_from_false (test (get_or line k 0)) (before k h)) (λ h. not_from_true (test (get_or line n 0)) (here h))

pub length_of_front : (test : ℕ → Bool) (line : List ℕ) (n : ℕ) → n ≤ length line → ((k : ℕ) → k < n → test (get_or line k 0) ≡ true) → (n < length line → test (get_or line n 0) ≡ false) → prefix_len test line ≡ n
length_of_front test line n l before here = prefix_len_is test line n 0 l before here

skip_more : (b : ℕ) (line : List ℕ) → is_blank b ≡ true → prefix_len is_blank (b ∷ line) ≡ suc (prefix_len is_blank line)
skip_more b line e = rw e (omega arith)

skip_none : (b : ℕ) (line : List ℕ) → is_blank b ≡ false → prefix_len is_blank (b ∷ line) ≡ 0
skip_none b line e = rw e refl

-- Blanks before a field do not count.
pub fields_skip : (line : List ℕ) → fields (drop (prefix_len is_blank line) line) ≡ fields line
fields_skip [] = refl
fields_skip (b ∷ line) =
    elim (cases_Bool (is_blank b)) [
      | inl e ↦ ap (λ (n : ℕ). fields (drop n (b ∷ line))) (skip_more b line e) ∙ (fields_skip line ∙ sym (ap (filter has_bytes) (slice_split-cons_yes is_blank b line e)))
      | inr e ↦ ap (λ (n : ℕ). fields (drop n (b ∷ line))) (skip_none b line e)
    ]

-- the byte behind the blanks is none
pub skip_stops : (line : List ℕ) → 0 < length (drop (prefix_len is_blank line) line) → is_blank (get_or (drop (prefix_len is_blank line) line) 0 0) ≡ false
skip_stops [] h = absurd (omega arith)
skip_stops (b ∷ line) h =
    elim (cases_Bool (is_blank b)) [
      | inl e ↦
          let more : prefix_len is_blank (b ∷ line) ≡ suc (prefix_len is_blank line) = skip_more b line e in
          let shorter : 0 < length (drop (prefix_len is_blank line) line) = subst (λ (n : ℕ). 0 < length (drop n (b ∷ line))) more h in
          subst (λ (n : ℕ). is_blank (get_or (drop n (b ∷ line)) 0 0) ≡ false) (sym more) (skip_stops line shorter)
      | inr e ↦ subst (λ (n : ℕ). is_blank (get_or (drop n (b ∷ line)) 0 0) ≡ false) (sym (skip_none b line e)) e
    ]

-- a first part with bytes is a field
first_has_bytes : (part : List ℕ) (parts : List (List ℕ)) → 0 < length part → filter has_bytes (part ∷ parts) ≡ part ∷ filter has_bytes parts
first_has_bytes [] parts h = absurd (omega arith)
first_has_bytes (b ∷ part) parts h = refl

front_passes : (test : ℕ → Bool) (b : ℕ) (line : List ℕ) → test b ≡ false → 0 < position_or_len test (b ∷ line)
front_passes test b line e =
    let more : position_or_len test (b ∷ line) ≡ 1 + position_or_len test line = rw e refl in
    omega arith

place_more : (test : ℕ → Bool) (b : ℕ) (line : List ℕ) → test b ≡ false → position_or_len test (b ∷ line) ≡ suc (position_or_len test line)
place_more test b line e = rw e (omega arith)

place_none : (test : ℕ → Bool) (b : ℕ) (line : List ℕ) → test b ≡ true → position_or_len test (b ∷ line) ≡ 0
place_none test b line e = rw e refl

none_passes : (test : ℕ → Bool) (line : List ℕ) → length line ≤ position_or_len test line → slice_split test line ≡ line ∷ []
none_passes test [] h = refl
none_passes test (b ∷ line) h =
    elim (cases_Bool (test b)) [
      | inl e ↦ absurd (omega (arith, place_none test b line e))
      | inr e ↦ rw (e, none_passes test line (omega (arith, place_more test b line e))) refl
    ]

place_passes : (test : ℕ → Bool) (line : List ℕ) → position_or_len test line < length line → test (get_or line (position_or_len test line) 0) ≡ true
place_passes test [] h = absurd (omega arith)
place_passes test (b ∷ line) h =
    elim (cases_Bool (test b)) [
      | inl e ↦ subst (λ (n : ℕ). test (get_or (b ∷ line) n 0) ≡ true) (sym (place_none test b line e)) e
      | inr e ↦ subst (λ (n : ℕ). test (get_or (b ∷ line) n 0) ≡ true) (sym (place_more test b line e)) (place_passes test line (omega (arith, place_more test b line e)))
    ]

-- A line that begins with a field has that field first.
pub fields_first : (line : List ℕ) → 0 < length line → is_blank (get_or line 0 0) ≡ false → fields line ≡ take (position_or_len is_blank line) line ∷ fields (drop (position_or_len is_blank line) line)
fields_first [] l e = absurd (omega arith)
fields_first (b ∷ line) l e =
    let whole : List ℕ = b ∷ line in
    let n : ℕ = position_or_len is_blank whole in
    let some : 0 < n = front_passes is_blank b line e in
    elim (cases_lt n (length whole)) [
      | inl h ↦ stops whole n refl some h
      | inr h ↦ ends whole n refl some h
    ]
  where
    stops : (whole : List ℕ) (n : ℕ) → n ≡ position_or_len is_blank whole → 0 < n → n < length whole → fields whole ≡ take n whole ∷ fields (drop n whole)
    stops whole n same some h =
        let inside : position_or_len is_blank whole < length whole = subst (λ (k : ℕ). k < length whole) same h in
        let cut : slice_split is_blank whole ≡ take n whole ∷ slice_split is_blank (drop (n + 1) whole) =
        slice_split_first is_blank whole 0 inside ∙ ap (λ (k : ℕ). take k whole ∷ slice_split is_blank (drop (k + 1) whole)) (sym same) in
        let blank : is_blank (get_or whole n 0) ≡ true = subst (λ (k : ℕ). is_blank (get_or whole k 0) ≡ true) (sym same) (place_passes is_blank whole inside) in
        let behind : fields (drop n whole) ≡ fields (drop (n + 1) whole) =
        ap fields (drop_more whole n 0 h) ∙ ap (filter has_bytes) (slice_split-cons_yes is_blank (get_or whole n 0) (drop (n + 1) whole) blank) in
        let long : 0 < length (take n whole) = omega (arith, length-take n whole) in
        ap (filter has_bytes) cut ∙ (first_has_bytes (take n whole) (slice_split is_blank (drop (n + 1) whole)) long ∙ ap (λ (l : List (List ℕ)). take n whole ∷ l) (sym behind))

    ends : (whole : List ℕ) (n : ℕ) → n ≡ position_or_len is_blank whole → 0 < n → length whole ≤ n → fields whole ≡ take n whole ∷ fields (drop n whole)
    ends whole n same some h =
        let past : length whole ≤ position_or_len is_blank whole = subst (λ (k : ℕ). length whole ≤ k) same h in
        let fits : position_or_len is_blank whole ≤ length whole = prefix_len-le-length (λ (x : ℕ). not (is_blank x)) whole in
        let long : 0 < length whole = omega arith in
        let all : take n whole ≡ whole = take_all n whole h in
        let none : fields (drop n whole) ≡ [] = ap fields (drop_all n whole h) in
        ap (filter has_bytes) (none_passes is_blank whole past)
        ∙ (first_has_bytes whole [] long ∙ (ap (λ (l : List ℕ). l ∷ []) (sym all) ∙ ap (λ (l : List (List ℕ)). take n whole ∷ l) (sym none)))

-- what is left of a line from a place on
rest_is : (line : List ℕ) (n : ℕ) → n ≡ prefix_len is_blank line → take (length line - n) (drop n line) ≡ drop (prefix_len is_blank line) line
rest_is line n e = take_rest line n ∙ ap (λ (k : ℕ). drop k line) e

pub next_none : (line : List ℕ) (n : ℕ) → n ≡ prefix_len is_blank line → length (take (length line - n) (drop n line)) ≡ 0 → fields line ≡ []
next_none line n e l =
    let none : drop (prefix_len is_blank line) line ≡ [] = sym (rest_is line n e) ∙ nil_from_length (take (length line - n) (drop n line)) l in
    sym (fields_skip line) ∙ ap fields none

pub next_some : (line : List ℕ) (n m : ℕ) → n ≡ prefix_len is_blank line → 0 < length (take (length line - n) (drop n line)) → m ≡ position_or_len is_blank (take (length line - n) (drop n line))
    → fields line ≡ take m (take (length line - n) (drop n line)) ∷ fields (drop m (take (length line - n) (drop n line)))
next_some line n m e l f =
    let same : take (length line - n) (drop n line) ≡ drop (prefix_len is_blank line) line = rest_is line n e in
    let some : 0 < length (drop (prefix_len is_blank line) line) = subst (λ (x : List ℕ). 0 < length x) same l in
    let place : position_or_len is_blank (drop (prefix_len is_blank line) line) ≡ m = ap (λ (x : List ℕ). position_or_len is_blank x) (sym same) ∙ sym f in
    let first : fields line ≡ take m (drop (prefix_len is_blank line) line) ∷ fields (drop m (drop (prefix_len is_blank line) line)) =
    sym (fields_skip line) ∙ (fields_first (drop (prefix_len is_blank line) line) some (skip_stops line some)
    ∙ ap (λ (k : ℕ). take k (drop (prefix_len is_blank line) line) ∷ fields (drop k (drop (prefix_len is_blank line) line))) place) in
    first ∙ ap (λ (x : List ℕ). take m x ∷ fields (drop m x)) (sym same)

-- a line without its return
pub strip_one : (line : List ℕ) (n : ℕ) → length line ≡ suc n → get_or line n 0 ≡ 13 → take n line ≡ strip line
strip_one [] n l e = absurd (omega arith)
strip_one (b ∷ []) zero l e = let yes_return : eqb b 13 ≡ true = eq-eqb b 13 e in rw yes_return refl
strip_one (b ∷ []) (suc n) l e = absurd (omega arith)
strip_one (b ∷ c ∷ line) zero l e = absurd (omega arith)
strip_one (b ∷ c ∷ line) (suc n) l e = ap (λ (x : List ℕ). b ∷ x) (strip_one (c ∷ line) n (omega arith) e)

pub strip_none : (line : List ℕ) (n : ℕ) → length line ≡ suc n → get_or line n 0 ≢ 13 → line ≡ strip line
strip_none [] n l e = refl
strip_none (b ∷ []) zero l e = let other : eqb b 13 ≡ false = ne_eqb b 13 e in rw other refl
strip_none (b ∷ []) (suc n) l e = absurd (omega arith)
strip_none (b ∷ c ∷ line) zero l e = absurd (omega arith)
strip_none (b ∷ c ∷ line) (suc n) l e = ap (λ (x : List ℕ). b ∷ x) (strip_none (c ∷ line) n (omega arith) e)
