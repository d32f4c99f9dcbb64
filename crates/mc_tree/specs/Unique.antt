-- No two trees have one list of tokens.
use Rattle.std.specs.Prelude.{◌≡◌, ◌<◌, ℕ, zero, suc, Bool, true, false, ◌&&◌, ◌||◌, List, [], ◌∷◌, length, Some, is_some, refl}
use Rattle.std.proofs.Common.{ap, ◌∙◌, sym, subst, inl, inr, arith}
use Rattle.std.proofs.lemmas.Bool.{false≢true}
use Rattle.mc_tree.specs.declared.place.Place.{Place}
use Rattle.mc_tree.specs.declared.token.Token.{Token}
use Rattle.mc_tree.specs.declared.token.Kind.{Kind}
use Rattle.mc_tree.specs.declared.tree.Tree.{Tree}
use Rattle.mc_tree.specs.Leaves.{begin}
use Rattle.mc_tree.specs.Trees.{tokens, tokens_of}
use Rattle.mc_tree.specs.Classes.{Class, ReservedClass, NameClass, NumberClass, CharacterClass, TextClass, SymbolClass, class_of, class_of-kind_of, Data, kind_of, same, same-refl}
use Rattle.mc_tree.specs.Grammar.{Phrase, ProgramPhrase, Rule, first, Take, Sub, Stack, parts, depth_of_first}
use Rattle.mc_tree.specs.NextRules.{next, next-first, continuing}
use Rattle.mc_tree.specs.Phrases.{Of, Trees, all, make}
use Rattle.mc_tree.specs.PhraseLaws.{written-make}
use Rattle.mc_tree.specs.Splits.{Made, IsEmpty, Split, split}
use Rattle.mc_tree.specs.Apart.{starts, Apart, Apart-parts, continuing-first, misses-has}

abbrev pub token_at : Kind → Place → Token
token_at kind place = record { kind = kind; place = place }

-- what a made phrase and the trees behind it write
pub all-made : (phrase : Phrase) (d : ℕ) (stack : Stack) (ts : Of phrase × Trees stack) (m : Made phrase d stack ts)
    → all (Sub d phrase ∷ stack) ts ≡ begin (depth_of_first m.rule d) (kind_of (first m.rule) m.value) m.place (all (parts m.rule d stack) m.parts)
all-made phrase d stack ts m =
    ap (λ (z : Of phrase × Trees stack). all (Sub d phrase ∷ stack) z) (sym m.is) ∙ written-make m.rule d stack m.value m.place m.parts

pub tokens-made : (phrase : Phrase) (d : ℕ) (stack : Stack) (ts : Of phrase × Trees stack) (m : Made phrase d stack ts)
    → tokens (all (Sub d phrase ∷ stack) ts) ≡ token_at (kind_of (first m.rule) m.value) m.place ∷ tokens (all (parts m.rule d stack) m.parts)
tokens-made phrase d stack ts m = ap tokens (all-made phrase d stack ts m)

or_left : (a b : Bool) → a ≡ true → a || b ≡ true
or_left true b h = refl
or_left false b h = absurd (false≢true h)

or_right : (a b : Bool) → b ≡ true → a || b ≡ true
or_right true b h = refl
or_right false b h = h

-- the first token of what is to be read is one that may come first
pub starts-first : (stack : Stack) (ts : Trees stack) (t : Token) (rest : List Token) → tokens (all stack ts) ≡ t ∷ rest → starts stack (class_of t.kind) ≡ true
starts-first [] ts t rest e = cc
starts-first (Take c ∷ stack) ts t rest e =
    let k : kind_of c ts.0.0 ≡ t.kind = cc in
    subst (λ (z : Class). same c z ≡ true) (sym (class_of-kind_of c ts.0.0) ∙ ap class_of k) (same-refl c)
starts-first (Sub d phrase ∷ stack) ts t rest e = at (split phrase d stack ts.0 ts.1) (starts-first stack ts.1 t rest)
  where
    at : Split phrase d stack ts.0 ts.1 → (tokens (all stack ts.1) ≡ t ∷ rest → starts stack (class_of t.kind) ≡ true) → starts (Sub d phrase ∷ stack) (class_of t.kind) ≡ true
    at (inl m) later =
        let h : token_at (kind_of (first m.rule) m.value) m.place ∷ tokens (all (parts m.rule d stack) m.parts) ≡ t ∷ rest = sym (tokens-made phrase d stack ts m) ∙ e in
        let k : kind_of (first m.rule) m.value ≡ t.kind = cc in
        let c : first m.rule ≡ class_of t.kind = sym (class_of-kind_of (first m.rule) m.value) ∙ ap class_of k in
        or_left (is_some (next phrase (class_of t.kind))) _ (subst (λ (z : Class). is_some (next phrase z) ≡ true) c (ap is_some (next-first m.rule)))
    at (inr n) later =
        or_right (is_some (next phrase (class_of t.kind))) _ (ap (λ (z : Bool). z && starts stack (class_of t.kind)) n.may ∙ later (ap tokens (sym (n.nothing d (all stack ts.1))) ∙ e))

same_data : (c : Class) (v w : Data c) → kind_of c v ≡ kind_of c w → v ≡ w
same_data (ReservedClass reserved) v w h = refl
same_data NameClass v w h = cc
same_data NumberClass v w h = cc
same_data CharacterClass v w h = cc
same_data TextClass v w h = cc
same_data (SymbolClass symbol) v w h = refl

heads : (t u : Token) (a b : List Token) → t ∷ a ≡ u ∷ b → t ≡ u
heads t u a b e = cc

tails : (t u : Token) (a b : List Token) → t ∷ a ≡ u ∷ b → a ≡ b
tails t u a b e = cc

some_same : {A : Type 0} (x y : A) → Some x ≡ Some y → x ≡ y
some_same x y e = cc

abbrev size : (stack : Stack) → Trees stack → ℕ
size stack ts = length (tokens (all stack ts))

-- all trees of fewer tokens are settled
abbrev Settled : ℕ → Type 0
Settled n = (stack : Stack) (ts us : Trees stack) → size stack ts < n → Apart stack → tokens (all stack ts) ≡ tokens (all stack us) → ts ≡ us

same_rule : {phrase : Phrase} (d : ℕ) (stack : Stack) (r : Rule phrase) (v : Data (first r)) (p : Place) (ps : Trees (parts r d stack)) (n : ℕ)
    → Settled n → size (parts r d stack) ps < n → Apart (parts r d stack) → (w : Data (first r)) (q : Place) (qs : Trees (parts r d stack))
    → token_at (kind_of (first r) v) p ∷ tokens (all (parts r d stack) ps) ≡ token_at (kind_of (first r) w) q ∷ tokens (all (parts r d stack) qs)
    → make r d stack v p ps ≡ make r d stack w q qs
same_rule d stack r v p ps n settled small apart w q qs e =
    let head = heads _ _ _ _ e in
    let kinds = ap (λ (t : Token). t.kind) head in
    let places = ap (λ (t : Token). t.place) head in
    let rest = tails _ _ _ _ e in
    let vs = same_data (first r) v w kinds in
    let trees = settled (parts r d stack) ps qs small apart rest in
    λ i. make r d stack (vs i) (places i) (trees i)

-- the same at a phrase in front of what is settled
unique_sub : (n : ℕ) (d : ℕ) (phrase : Phrase) (stack : Stack) (ts us : Trees (Sub d phrase ∷ stack)) → Settled n
    → ((m : Made phrase d stack ts) → size (parts m.rule d stack) m.parts < n) → (IsEmpty phrase ts.0 → tokens (all stack ts.1) ≡ tokens (all stack us.1) → ts.1 ≡ us.1) → Apart (Sub d phrase ∷ stack)
    → tokens (all (Sub d phrase ∷ stack) ts) ≡ tokens (all (Sub d phrase ∷ stack) us) → Split phrase d stack ts.0 ts.1 → Split phrase d stack us.0 us.1 → ts ≡ us
unique_sub n d phrase stack ts us settled small others apart e (inl m) (inl k) =
    let h : token_at (kind_of (first m.rule) m.value) m.place ∷ tokens (all (parts m.rule d stack) m.parts) ≡ token_at (kind_of (first k.rule) k.value) k.place ∷ tokens (all (parts k.rule d stack) k.parts)
    = sym (tokens-made phrase d stack ts m) ∙ e ∙ tokens-made phrase d stack us k in
    let kinds = ap (λ (t : Token). t.kind) (heads _ _ _ _ h) in
    let classes : first m.rule ≡ first k.rule = sym (class_of-kind_of (first m.rule) m.value) ∙ ap class_of kinds ∙ class_of-kind_of (first k.rule) k.value in
    let found : Some m.rule ≡ Some k.rule = sym (next-first m.rule) ∙ ap (next phrase) classes ∙ next-first k.rule in
    let rules = some_same m.rule k.rule found in
    let P : Rule phrase → Type 0 = λ r. (w : Data (first r)) (q : Place) (qs : Trees (parts r d stack))
    → token_at (kind_of (first m.rule) m.value) m.place ∷ tokens (all (parts m.rule d stack) m.parts) ≡ token_at (kind_of (first r) w) q ∷ tokens (all (parts r d stack) qs)
    → make m.rule d stack m.value m.place m.parts ≡ make r d stack w q qs in
    sym m.is ∙ subst P rules (same_rule d stack m.rule m.value m.place m.parts n settled (small m) (Apart-parts m.rule d stack apart)) k.value k.place k.parts h ∙ k.is
unique_sub n d phrase stack ts us settled small others apart e (inl m) (inr k) =
    let h : tokens (all stack us.1) ≡ token_at (kind_of (first m.rule) m.value) m.place ∷ tokens (all (parts m.rule d stack) m.parts)
    = ap tokens (sym (k.nothing d (all stack us.1))) ∙ sym e ∙ tokens-made phrase d stack ts m in
    let s = starts-first stack us.1 _ _ h in
    let t : starts stack (first m.rule) ≡ true = subst (λ (z : Class). starts stack z ≡ true) (class_of-kind_of (first m.rule) m.value) s in
    absurd (false≢true (sym (misses-has stack (continuing phrase) (first m.rule) apart.0 (continuing-first m.rule k.may)) ∙ t))
unique_sub n d phrase stack ts us settled small others apart e (inr m) (inl k) =
    let h : tokens (all stack ts.1) ≡ token_at (kind_of (first k.rule) k.value) k.place ∷ tokens (all (parts k.rule d stack) k.parts)
    = ap tokens (sym (m.nothing d (all stack ts.1))) ∙ e ∙ tokens-made phrase d stack us k in
    let s = starts-first stack ts.1 _ _ h in
    let t : starts stack (first k.rule) ≡ true = subst (λ (z : Class). starts stack z ≡ true) (class_of-kind_of (first k.rule) k.value) s in
    absurd (false≢true (sym (misses-has stack (continuing phrase) (first k.rule) apart.0 (continuing-first k.rule m.may)) ∙ t))
unique_sub n d phrase stack ts us settled small others apart e (inr m) (inr k) =
    let firsts = some_same ts.0 us.0 (sym m.is ∙ k.is) in
    let h : tokens (all stack ts.1) ≡ tokens (all stack us.1) = ap tokens (sym (m.nothing d (all stack ts.1))) ∙ e ∙ ap tokens (k.nothing d (all stack us.1)) in
    let seconds = others m h in
    λ i. (firsts i, seconds i)

unique_at : (n : ℕ) → Settled n → (stack : Stack) (ts us : Trees stack) → size stack ts < suc n → Apart stack → tokens (all stack ts) ≡ tokens (all stack us) → ts ≡ us
unique_at n settled [] ts us small apart e = refl
unique_at n settled (Take c ∷ stack) ts us small apart e =
    let head = heads _ _ _ _ e in
    let values = same_data c ts.0.0 us.0.0 (ap (λ (t : Token). t.kind) head) in
    let places = ap (λ (t : Token). t.place) head in
    let others = unique_at n settled stack ts.1 us.1 (omega arith) apart (tails _ _ _ _ e) in
    λ i. ((values i, places i), others i)
unique_at n settled (Sub d phrase ∷ stack) ts us small apart e =
    unique_sub n d phrase stack ts us settled (λ m. omega (arith, ap length (tokens-made phrase d stack ts m)))
    (λ m h. unique_at n settled stack ts.1 us.1 (omega (arith, ap length (ap tokens (m.nothing d (all stack ts.1))))) apart.1 h)
    apart e (split phrase d stack ts.0 ts.1) (split phrase d stack us.0 us.1)

-- the trees of one list of tokens are the same
unique_below : (n : ℕ) → Settled n
unique_below zero stack ts us small apart e = absurd (omega arith)
unique_below (suc n) stack ts us small apart e = unique_at n (unique_below n) stack ts us small apart e

-- No two trees have one list of tokens.
pub tokens_of-one_tree : (t u : Tree) → tokens_of t ≡ tokens_of u → t ≡ u
tokens_of-one_tree t u e = ap (λ (z : Trees (Sub 0 ProgramPhrase ∷ [])). z.0) (unique_below (suc (length (tokens_of t))) (Sub 0 ProgramPhrase ∷ []) (t, tt) (u, tt) (omega arith) (tt, tt) e)
