-- The first line of a text, and the lines behind it.
use Rattle.std.specs.Prelude.{◌≡◌, ℕ, ◌+◌, ◌<◌, Bool, false, ◌==◌, ◌&&◌, if◌then◌else◌, List, [], ◌∷◌, ◌++◌, length, take, refl}
use Rattle.std.specs.List.{slice_split}
use Rattle.std.proofs.Common.{zero, suc, sym, ◌∙◌, ap, arith, inl, inr, get_or, subst, add-one}
use Rattle.std.proofs.lemmas.Bool.{and_right, cases_Bool}
use Rattle.mc_script.specs.Lines.{is_line_feed, begins_with_line_feed, without_returns, lines_of}
use Rattle.mc_script.specs.Steps.{strip, HasNoFeed}

-- without the returns

feed_not_first : (b : ℕ) (line rest : List ℕ) → is_line_feed b ≡ false → begins_with_line_feed (b ∷ line ++ rest) ≡ false
feed_not_first b line rest e = e

stays : (b : ℕ) (text : List ℕ) → begins_with_line_feed text ≡ false → without_returns (b ∷ text) ≡ b ∷ without_returns text
stays b text e =
    let test : (b == 13 && begins_with_line_feed text) ≡ false = and_right (b == 13) (begins_with_line_feed text) e in
    ap (λ (t : Bool). if t then without_returns text else b ∷ without_returns text) test

before_feed : (line rest : List ℕ) → HasNoFeed line → without_returns (line ++ 10 ∷ rest) ≡ strip line ++ 10 ∷ without_returns rest
before_feed [] rest h = refl
before_feed (b ∷ []) rest h =
    elim (cases_Bool (b == 13)) [
      | inl e ↦ rw e refl
      | inr e ↦ rw e refl
    ]
before_feed (b ∷ c ∷ line) rest h =
    stays b (c ∷ line ++ 10 ∷ rest) h.1.0 ∙ ap (λ (l : List ℕ). b ∷ l) (before_feed (c ∷ line) rest h.1)

no_returns : (line : List ℕ) → HasNoFeed line → without_returns line ≡ line
no_returns [] h = refl
no_returns (b ∷ []) h = stays b [] refl
no_returns (b ∷ c ∷ line) h = stays b (c ∷ line) h.1.0 ∙ ap (λ (l : List ℕ). b ∷ l) (no_returns (c ∷ line) h.1)

strip_keeps : (line : List ℕ) → HasNoFeed line → HasNoFeed (strip line)
strip_keeps [] h = tt
strip_keeps (b ∷ []) h = elim (cases_Bool (b == 13)) [ inl e ↦ rw e tt | inr e ↦ rw e h ]
strip_keeps (b ∷ c ∷ line) h = (h.0, strip_keeps (c ∷ line) h.1)

split_once : (line rest : List ℕ) → HasNoFeed line → slice_split is_line_feed (line ++ 10 ∷ rest) ≡ line ∷ slice_split is_line_feed rest
split_once [] rest h = refl
split_once (b ∷ line) rest h = rw (h.0, split_once line rest h.1) refl

split_never : (line : List ℕ) → HasNoFeed line → slice_split is_line_feed line ≡ line ∷ []
split_never [] h = refl
split_never (b ∷ line) h = rw (h.0, split_never line h.1) refl

-- Laws

-- a line that a line feed ends, and the lines behind it
pub lines_of-more : (line rest : List ℕ) → HasNoFeed line → lines_of (line ++ 10 ∷ rest) ≡ strip line ∷ lines_of rest
lines_of-more line rest h =
    ap (slice_split is_line_feed) (before_feed line rest h) ∙ split_once (strip line) (without_returns rest) (strip_keeps line h)

-- the last line
pub lines_of-last : (line : List ℕ) → HasNoFeed line → lines_of line ≡ line ∷ []
lines_of-last line h = ap (slice_split is_line_feed) (no_returns line h) ∙ split_never line h

pub HasNoFeed-more : (line : List ℕ) (i : ℕ) → i < length line → HasNoFeed (take i line) → is_line_feed (get_or line i 0) ≡ false → HasNoFeed (take (i + 1) line)
HasNoFeed-more line i l h e = subst (λ (n : ℕ). HasNoFeed (take n line)) (sym (add-one i)) (go line i l h e)
  where
    go : (line : List ℕ) (i : ℕ) → i < length line → HasNoFeed (take i line) → is_line_feed (get_or line i 0) ≡ false → HasNoFeed (take (suc i) line)
    go [] i l h e = absurd (omega arith)
    go (b ∷ line) zero l h e = (e, tt)
    go (b ∷ line) (suc i) l h e = (h.0, go line i (omega arith) h.1 e)
