-- Between two tokens there is one gap.
use Rattle.std.specs.Prelude.{◌≡◌, ℕ, true, false, List, [], ◌∷◌, ◌++◌, ◌⊎◌, refl}
use Rattle.std.specs.List.{concat}
use Rattle.std.proofs.Common.{sym, ◌∙◌, ap, subst, inl, inr, append_assoc}
use Rattle.std.proofs.lemmas.Bool.{both_ways, eqb-false}
use Rattle.mc_tree.specs.Spellings.{is_blank, HasClose, IsComment, IsBlank, AreGaps}

-- neither a blank nor a whole comment stands at the front
pub record NoGap (bytes : List ℕ) : Type 0 where
  pub no_blank : (b : ℕ) (rest : List ℕ) → bytes ≡ b ∷ rest → is_blank b ≡ false
  pub no_comment : (comment rest : List ℕ) → IsComment comment → bytes ≡ comment ++ rest → ⊥

-- two lists are equal, and so are two others
pub record BothSame (xs ys zs ws : List ℕ) : Type 0 where
  pub fronts : xs ≡ ys
  pub backs : zs ≡ ws

close_later : (x : ℕ) (xs : List ℕ) → HasClose xs → HasClose (x ∷ xs)
close_later x xs h = (x ∷ h.0, h.1, ap (λ (l : List ℕ). x ∷ l) h.2)

-- the first `*)` is one place
pub close_unique : (inside other rest after : List ℕ) → ¬ HasClose inside → ¬ HasClose other → inside ++ 42 ∷ 41 ∷ rest ≡ other ++ 42 ∷ 41 ∷ after → BothSame inside other rest after
close_unique [] [] rest after n m e = record { fronts = refl; backs = cc }
close_unique [] (x ∷ []) rest after n m e = let f : 41 ≡ 42 = cc in absurd (eqb-false 41 42 refl f)
close_unique [] (x ∷ y ∷ other) rest after n m e =
    let f : x ∷ y ∷ other ≡ 42 ∷ 41 ∷ other = cc in
    absurd (m ([], other, f))
close_unique (x ∷ []) [] rest after n m e = let f : 41 ≡ 42 = cc in absurd (eqb-false 41 42 refl f)
close_unique (x ∷ y ∷ inside) [] rest after n m e =
    let f : x ∷ y ∷ inside ≡ 42 ∷ 41 ∷ inside = cc in
    absurd (n ([], inside, f))
close_unique (x ∷ inside) (y ∷ other) rest after n m e =
    let f : inside ++ 42 ∷ 41 ∷ rest ≡ other ++ 42 ∷ 41 ∷ after = cc in
    let s : BothSame inside other rest after = close_unique inside other rest after (λ h. n (close_later x inside h)) (λ h. m (close_later y other h)) f in
    let p : x ≡ y = cc in
    record { fronts = cc (p, s.fronts); backs = s.backs }

pub comment_parts : (comment rest : List ℕ) (h : IsComment comment) → comment ++ rest ≡ 40 ∷ 42 ∷ h.0 ++ 42 ∷ 41 ∷ rest
comment_parts comment rest h =
    ap (λ (l : List ℕ). l ++ rest) h.2 ∙ ap (λ (l : List ℕ). 40 ∷ 42 ∷ l) (append_assoc h.0 (42 ∷ 41 ∷ []) rest)

blank_and_comment : (piece other rest after : List ℕ) → IsBlank piece → IsComment other → piece ++ rest ≡ other ++ after → ⊥
blank_and_comment piece other rest after h g e =
    let p : piece ++ rest ≡ h.0 ∷ rest = ap (λ (l : List ℕ). l ++ rest) h.2 in
    let q : h.0 ∷ rest ≡ 40 ∷ 42 ∷ g.0 ++ 42 ∷ 41 ∷ after = sym p ∙ (e ∙ comment_parts other after g) in
    let b : h.0 ≡ 40 = cc in
    both_ways (is_blank 40) refl (subst (λ (x : ℕ). is_blank x ≡ true) b h.1)

pub piece_unique : (piece other rest after : List ℕ) → IsBlank piece ⊎ IsComment piece → IsBlank other ⊎ IsComment other → piece ++ rest ≡ other ++ after → BothSame piece other rest after
piece_unique piece other rest after (inl h) (inl g) e =
    let p : piece ++ rest ≡ h.0 ∷ rest = ap (λ (l : List ℕ). l ++ rest) h.2 in
    let q : other ++ after ≡ g.0 ∷ after = ap (λ (l : List ℕ). l ++ after) g.2 in
    let r : h.0 ∷ rest ≡ g.0 ∷ after = sym p ∙ (e ∙ q) in
    let b : h.0 ≡ g.0 = cc in
    record { fronts = h.2 ∙ (ap (λ (x : ℕ). x ∷ []) b ∙ sym g.2); backs = cc }
piece_unique piece other rest after (inl h) (inr g) e = absurd (blank_and_comment piece other rest after h g e)
piece_unique piece other rest after (inr h) (inl g) e = absurd (blank_and_comment other piece after rest g h (sym e))
piece_unique piece other rest after (inr h) (inr g) e =
    let f : 40 ∷ 42 ∷ h.0 ++ 42 ∷ 41 ∷ rest ≡ 40 ∷ 42 ∷ g.0 ++ 42 ∷ 41 ∷ after = sym (comment_parts piece rest h) ∙ (e ∙ comment_parts other after g) in
    let s : BothSame h.0 g.0 rest after = close_unique h.0 g.0 rest after h.1 g.1 (let k : h.0 ++ 42 ∷ 41 ∷ rest ≡ g.0 ++ 42 ∷ 41 ∷ after = cc in k) in
    record { fronts = h.2 ∙ (ap (λ (l : List ℕ). 40 ∷ 42 ∷ l ++ 42 ∷ 41 ∷ []) s.fronts ∙ sym g.2); backs = s.backs }

no_piece : (piece bytes rest : List ℕ) → NoGap bytes → IsBlank piece ⊎ IsComment piece → bytes ≡ piece ++ rest → ⊥
no_piece piece bytes rest n (inl h) e =
    let p : bytes ≡ h.0 ∷ rest = e ∙ ap (λ (l : List ℕ). l ++ rest) h.2 in
    both_ways (is_blank h.0) (n.no_blank h.0 rest p) h.1
no_piece piece bytes rest n (inr h) e = n.no_comment piece rest h e

pub gap_unique : (pieces others : List (List ℕ)) (left after : List ℕ) → AreGaps pieces → AreGaps others → NoGap left → NoGap after → concat pieces ++ left ≡ concat others ++ after → BothSame (concat pieces) (concat others) left after
gap_unique [] [] left after a b n m e = record { fronts = refl; backs = e }
gap_unique [] (other ∷ others) left after a b n m e = absurd (no_piece other left (concat others ++ after) n b.0 (e ∙ append_assoc other (concat others) after))
gap_unique (piece ∷ pieces) [] left after a b n m e = absurd (no_piece piece after (concat pieces ++ left) m a.0 (sym e ∙ append_assoc piece (concat pieces) left))
gap_unique (piece ∷ pieces) (other ∷ others) left after a b n m e =
    let f : piece ++ (concat pieces ++ left) ≡ other ++ (concat others ++ after) = sym (append_assoc piece (concat pieces) left) ∙ (e ∙ append_assoc other (concat others) after) in
    let p : BothSame piece other (concat pieces ++ left) (concat others ++ after) = piece_unique piece other (concat pieces ++ left) (concat others ++ after) a.0 b.0 f in
    let s : BothSame (concat pieces) (concat others) left after = gap_unique pieces others left after a.1 b.1 n m p.backs in
    record { fronts = cc (p.fronts, s.fronts); backs = s.backs }
