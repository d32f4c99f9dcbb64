-- A source has at most one list of tokens or one first fault, and not both.
use Rattle.std.specs.Prelude.{◌≡◌, ℕ, Bool, true, false, List, [], ◌∷◌, ◌++◌, refl}
use Rattle.std.specs.List.{concat}
use Rattle.std.proofs.Common.{sym, ◌∙◌, ap, subst}
use Rattle.std.proofs.lemmas.Bool.{both_ways}
use Rattle.std.proofs.lemmas.List.{append-nil}
use Rattle.mc_tree.specs.declared.place.Place.{Place}
use Rattle.mc_tree.specs.declared.token.Kind.{Kind}
use Rattle.mc_tree.specs.declared.token.Token.{Token}
use Rattle.mc_tree.specs.Spellings.{is_blank, IsGap, IsSpelling, IsInRange, IsLexeme, IsLongest}
use Rattle.mc_tree.specs.ByteLaws.{blank_begins_no_token}
use Rattle.mc_tree.specs.SpellingLaws.{IsFront, begins_token, shape_of, lexeme_front}
use Rattle.mc_tree.specs.KindLaws.{kind_unique}
use Rattle.mc_tree.specs.GapLaws.{NoGap, BothSame, gap_unique, comment_parts}
use Rattle.mc_tree.specs.Sources.{place_after_byte, place_after, StandsFirst, Reads}

-- one of two fronts of a list is a front of the other
pub data IsSplit (xs ys zs ws : List ℕ) : Type 0 where
  first_longer : (more : List ℕ) → xs ≡ zs ++ more → ws ≡ more ++ ys → IsSplit xs ys zs ws
  second_longer : (more : List ℕ) → zs ≡ xs ++ more → ys ≡ more ++ ws → IsSplit xs ys zs ws

split_more : (x z : ℕ) (xs ys zs ws : List ℕ) → x ≡ z → IsSplit xs ys zs ws → IsSplit (x ∷ xs) ys (z ∷ zs) ws
split_more x z xs ys zs ws e (first_longer more p q) = first_longer more (cc (e, p)) q
split_more x z xs ys zs ws e (second_longer more p q) = second_longer more (cc (e, p)) q

pub split_same : (xs ys zs ws : List ℕ) → xs ++ ys ≡ zs ++ ws → IsSplit xs ys zs ws
split_same [] ys zs ws e = second_longer zs refl e
split_same (x ∷ xs) ys [] ws e = first_longer (x ∷ xs) refl (sym e)
split_same (x ∷ xs) ys (z ∷ zs) ws e = split_more x z xs ys zs ws (cc) (split_same xs ys zs ws (let f : xs ++ ys ≡ zs ++ ws = cc in f))

-- the longest spelling at a place is one
pub longest_unique : (spelling left other after : List ℕ) → IsLexeme spelling → IsLexeme other → IsLongest spelling left → IsLongest other after → spelling ++ left ≡ other ++ after → BothSame spelling other left after
longest_unique spelling left other after p q h g e = go (split_same spelling left other after e)
  where
    go : IsSplit spelling left other after → BothSame spelling other left after
    go (first_longer more a b) =
        let none : more ≡ [] = g.longest more left b (subst (λ (l : List ℕ). IsLexeme l) a p) in
        record {
          fronts = a ∙ (ap (λ (l : List ℕ). other ++ l) none ∙ append-nil other);
          backs = sym (b ∙ ap (λ (l : List ℕ). l ++ left) none);
        }
    go (second_longer more a b) =
        let none : more ≡ [] = h.longest more after b (subst (λ (l : List ℕ). IsLexeme l) a q) in
        record {
          fronts = sym (a ∙ (ap (λ (l : List ℕ). spelling ++ l) none ∙ append-nil spelling));
          backs = b ∙ ap (λ (l : List ℕ). l ++ after) none;
        }

-- no gap stands where a token begins
pub token_no_gap : (spelling left : List ℕ) → IsLexeme spelling → IsLongest spelling left → NoGap (spelling ++ left)
token_no_gap spelling left p h = go (lexeme_front spelling (shape_of p.0 spelling p.1))
  where
    go : IsFront begins_token spelling → NoGap (spelling ++ left)
    go f = record {
      no_blank = λ b rest e.
          let same : f.first ≡ b = cc (f.parts, e, ap (λ (l : List ℕ). l ++ left) f.parts) in
          not_blank b (subst (λ (x : ℕ). begins_token x ≡ true) same f.passes);
      no_comment = λ comment rest c e. h.no_comment (c.0 ++ 42 ∷ 41 ∷ rest, e ∙ comment_parts comment rest c);
    }
      where
        not_blank : (b : ℕ) → begins_token b ≡ true → is_blank b ≡ false
        not_blank b t = by_cases (is_blank b) refl
          where
            by_cases : (answer : Bool) → is_blank b ≡ answer → is_blank b ≡ false
            by_cases true e = absurd (both_ways (begins_token b) (blank_begins_no_token b e) t)
            by_cases false e = e

-- neither a gap nor a token within its bounds stands at the front
pub record Stops (bytes : List ℕ) : Type 0 where
  pub no_gap : NoGap bytes
  pub no_token : (kind : Kind) (spelling left : List ℕ) → bytes ≡ spelling ++ left → IsSpelling kind spelling → IsLongest spelling left → IsInRange spelling → ⊥

pub record SameReading (tokens others : List Token) (end last : Place) (left after : List ℕ) : Type 0 where
  pub same_tokens : tokens ≡ others
  pub same_ends : end ≡ last
  pub same_rests : left ≡ after

-- the first token is one, and so is what is left behind it
record SameFirst (here : Place) (bytes : List ℕ) (token other : Token) (h : StandsFirst here bytes token) (g : StandsFirst here bytes other) : Type 0 where
  same_token : token ≡ other
  same_spelling : h.spelling ≡ g.spelling
  same_rest : h.left ≡ g.left

first_unique : (here : Place) (bytes : List ℕ) (token other : Token) (h : StandsFirst here bytes token) (g : StandsFirst here bytes other) → SameFirst here bytes token other h g
first_unique here bytes token other h g =
    let gaps : BothSame (concat h.is_gap.0) (concat g.is_gap.0) (h.spelling ++ h.left) (g.spelling ++ g.left) =
    gap_unique h.is_gap.0 g.is_gap.0 (h.spelling ++ h.left) (g.spelling ++ g.left) h.is_gap.1 g.is_gap.1
    (token_no_gap h.spelling h.left (token.kind, h.spelled) h.longest) (token_no_gap g.spelling g.left (other.kind, g.spelled) g.longest)
    (ap (λ (l : List ℕ). l ++ (h.spelling ++ h.left)) (sym h.is_gap.2) ∙ (sym h.parts ∙ (g.parts ∙ ap (λ (l : List ℕ). l ++ (g.spelling ++ g.left)) g.is_gap.2))) in
    let rests : BothSame h.spelling g.spelling h.left g.left =
    longest_unique h.spelling h.left g.spelling g.left (token.kind, h.spelled) (other.kind, g.spelled) h.longest g.longest gaps.backs in
    let kinds : token.kind ≡ other.kind =
    kind_unique token.kind other.kind g.spelling (subst (λ (l : List ℕ). IsSpelling token.kind l) rests.fronts h.spelled) g.spelled in
    let places : token.place ≡ other.place =
    h.placed ∙ (ap (λ (l : List ℕ). place_after here l) (h.is_gap.2 ∙ (gaps.fronts ∙ sym g.is_gap.2)) ∙ sym g.placed) in
    record { same_token = same kinds places; same_spelling = rests.fronts; same_rest = rests.backs }
  where
    same : token.kind ≡ other.kind → token.place ≡ other.place → token ≡ other
    same p q i = record { kind = p i; place = q i }

-- where nothing can be taken, no token stands
stops_first : (token : Token) (left : List ℕ) (here : Place) (bytes gap : List ℕ) → IsGap gap → bytes ≡ gap ++ left → StandsFirst here bytes token → Stops left → ⊥
stops_first token left here bytes gap is_gap parts h s =
    let gaps : BothSame (concat is_gap.0) (concat h.is_gap.0) left (h.spelling ++ h.left) =
    gap_unique is_gap.0 h.is_gap.0 left (h.spelling ++ h.left) is_gap.1 h.is_gap.1 s.no_gap (token_no_gap h.spelling h.left (token.kind, h.spelled) h.longest)
    (ap (λ (l : List ℕ). l ++ left) (sym is_gap.2) ∙ (sym parts ∙ (h.parts ∙ ap (λ (l : List ℕ). l ++ (h.spelling ++ h.left)) h.is_gap.2))) in
    s.no_token token.kind h.spelling h.left gaps.backs h.spelled h.longest h.in_range

-- the tokens up to a place where nothing can be taken are one list
pub reads_unique : (tokens others : List Token) (here : Place) (bytes : List ℕ) (end last : Place) (left after : List ℕ) → Reads here tokens bytes end left → Reads here others bytes last after → Stops left → Stops after → SameReading tokens others end last left after
reads_unique [] [] here bytes end last left after h g s t =
    let same : BothSame (concat h.1.0) (concat g.1.0) left after = gap_unique h.1.0 g.1.0 left after h.1.1 g.1.1 s.no_gap t.no_gap (ap (λ (l : List ℕ). l ++ left) (sym h.1.2) ∙ (sym h.2 ∙ (g.2 ∙ ap (λ (l : List ℕ). l ++ after) g.1.2))) in
    record {
      same_tokens = refl;
      same_ends = h.3 ∙ (ap (λ (l : List ℕ). place_after here l) (h.1.2 ∙ (same.fronts ∙ sym g.1.2)) ∙ sym g.3);
      same_rests = same.backs;
    }
reads_unique [] (other ∷ others) here bytes end last left after h g s t = absurd (stops_first other left here bytes h.0 h.1 h.2 g.0 s)
reads_unique (token ∷ tokens) [] here bytes end last left after h g s t = absurd (stops_first token after here bytes g.0 g.1 g.2 h.0 t)
reads_unique (token ∷ tokens) (other ∷ others) here bytes end last left after h g s t =
    let same : SameFirst here bytes token other h.0 g.0 = first_unique here bytes token other h.0 g.0 in
    let place : place_after other.place g.0.spelling ≡ place_after token.place h.0.spelling = cc (same.same_token, same.same_spelling) in
    let further : Reads (place_after token.place h.0.spelling) others h.0.left last after =
    subst (λ (l : List ℕ). Reads (place_after token.place h.0.spelling) others l last after) (sym same.same_rest)
    (subst (λ (p : Place). Reads p others g.0.left last after) place g.1) in
    let more : SameReading tokens others end last left after = reads_unique tokens others (place_after token.place h.0.spelling) h.0.left end last left after h.1 further s t in
    record { same_tokens = cc (same.same_token, more.same_tokens); same_ends = more.same_ends; same_rests = more.same_rests }

pub place_after-append : (here : Place) (xs ys : List ℕ) → place_after here (xs ++ ys) ≡ place_after (place_after here xs) ys
place_after-append here [] ys = refl
place_after-append here (b ∷ xs) ys = place_after-append (place_after_byte here b) xs ys

-- places count all bytes that were read
pub reads_place : (tokens : List Token) (here : Place) (bytes : List ℕ) (end : Place) (left : List ℕ) → Reads here tokens bytes end left → place_after here bytes ≡ place_after end left
reads_place [] here bytes end left h =
    ap (λ (l : List ℕ). place_after here l) h.2 ∙ (place_after-append here h.0 left ∙ ap (λ (p : Place). place_after p left) (sym h.3))
reads_place (token ∷ tokens) here bytes end left h =
    ap (λ (l : List ℕ). place_after here l) h.0.parts
    ∙ (place_after-append here h.0.gap (h.0.spelling ++ h.0.left)
    ∙ (ap (λ (p : Place). place_after p (h.0.spelling ++ h.0.left)) (sym h.0.placed)
    ∙ (place_after-append token.place h.0.spelling h.0.left ∙ reads_place tokens (place_after token.place h.0.spelling) h.0.left end left h.1)))
