-- A tree's tokens are fed one after the other, and are decoded to that tree.
use Rattle.std.specs.Prelude.{◌≡◌, ◌≤◌, ℕ, Bool, true, false, nat_lt, if◌then◌else◌, List, [], ◌∷◌, Option, Some, None, Result, Ok, Err, refl}
use Rattle.std.proofs.Common.{ap, ◌∙◌, sym, subst, inl, inr, arith}
use Rattle.std.proofs.lemmas.Bool.{false≢true}
use Rattle.mc_tree.specs.declared.place.Place.{Place}
use Rattle.mc_tree.specs.declared.token.Token.{Token}
use Rattle.mc_tree.specs.declared.token.Kind.{Kind}
use Rattle.mc_tree.specs.Leaves.{Leaf, begin}
use Rattle.mc_tree.specs.Trees.{tokens, deepest}
use Rattle.mc_tree.specs.Classes.{Class, class_of, class_of-kind_of, Data, kind_of}
use Rattle.mc_tree.specs.Grammar.{Phrase, Rule, first, Take, Sub, Stack, parts, depth_of_first, may_be_empty}
use Rattle.mc_tree.specs.NextRules.{next, next-first, continuing}
use Rattle.mc_tree.specs.Phrases.{Of, Trees, all, make}
use Rattle.mc_tree.specs.Splits.{Made, IsEmpty, Split, split, empty}
use Rattle.mc_tree.specs.Apart.{starts, Misses, Apart, Apart-parts, continuing-first, misses-has}
use Rattle.mc_tree.specs.Unique.{starts-first, all-made}
use Rattle.mc_tree.specs.Next.{first-next}
use Rattle.mc_parse.specs.declared.fault.ParseFault.{ParseFault}
use Rattle.mc_parse.specs.declared.fault.ParseFault.TheVariants.{TooDeep}
use Rattle.mc_parse.specs.Decode.{Fed, fed_token, fed_rule, fed_behind, fed_by, feed, with_empty, nothing_left, ended, mapped, decided, decode}
use Rattle.mc_parse.specs.Decoding.{data_as-kind_of, not_past, within, feed-writes, nothing_left-writes}

-- The first leaf of what is written is fed, and what is written behind it is left.
pub record Traced (stack : Stack) (ks : Trees stack) (leaf : Leaf) (leaves : List Leaf) : Type 0 where
  pub fed : Fed stack
  pub is : feed leaf.token stack ≡ Some fed
  pub depth : fed.depth ≡ leaf.depth
  pub kids : Trees fed.left
  pub back : fed.back kids ≡ ks
  pub rest : all fed.left kids ≡ leaves
  pub apart : Apart fed.left

abbrev pub TracedAt : (stack : Stack) → Trees stack → List Leaf → Type 0
TracedAt stack ks [] = nothing_left stack ≡ Some ks
TracedAt stack ks (leaf ∷ leaves) = Traced stack ks leaf leaves

abbrev leaf_at : ℕ → Kind → Place → Leaf
leaf_at depth kind place = record { token = record { kind = kind; place = place }; depth = depth }

traced_token : (class : Class) (stack : Stack) (v : Data class) (place : Place) (ks : Trees stack) → Apart stack
    → Traced (Take class ∷ stack) ((v, place), ks) (leaf_at 0 (kind_of class v) place) (all stack ks)
traced_token class stack v place ks a = record {
  fed = record { left = stack; depth = 0; back = λ (z : Trees stack). ((v, place), z) };
  is = ap (fed_token class stack place) (data_as-kind_of class v);
  depth = refl;
  kids = ks;
  back = refl;
  rest = refl;
  apart = a;
}

made_fed : (phrase : Phrase) (d : ℕ) (stack : Stack) (r : Rule phrase) (v : Data (first r)) (place : Place)
    → feed (record { kind = kind_of (first r) v; place = place }) (Sub d phrase ∷ stack) ≡ Some (record { left = parts r d stack; depth = depth_of_first r d; back = make r d stack v place })
made_fed phrase d stack r v place =
    let t : Token = record { kind = kind_of (first r) v; place = place } in
    ap (λ (c : Class). fed_by phrase d stack t (next phrase c) (feed t stack)) (class_of-kind_of (first r) v)
    ∙ ap (λ (o : Option (Rule phrase)). fed_by phrase d stack t o (feed t stack)) (next-first r)
    ∙ ap (fed_rule r d stack place) (data_as-kind_of (first r) v)

traced_made : (phrase : Phrase) (d : ℕ) (stack : Stack) (ts : Trees (Sub d phrase ∷ stack)) → Apart (Sub d phrase ∷ stack) → (m : Made phrase d stack ts)
    → Traced (Sub d phrase ∷ stack) ts (leaf_at (depth_of_first m.rule d) (kind_of (first m.rule) m.value) m.place) (all (parts m.rule d stack) m.parts)
traced_made phrase d stack ts a m = record {
  fed = record { left = parts m.rule d stack; depth = depth_of_first m.rule d; back = make m.rule d stack m.value m.place };
  is = made_fed phrase d stack m.rule m.value m.place;
  depth = refl;
  kids = m.parts;
  back = m.is;
  rest = refl;
  apart = Apart-parts m.rule d stack a;
}

-- a token that what stands behind begins with does not go on with an empty phrase
no_rule : (phrase : Phrase) (stack : Stack) (class : Class) → may_be_empty phrase ≡ true → Misses stack (continuing phrase) → starts stack class ≡ true → (o : Option (Rule phrase)) → next phrase class ≡ o → o ≡ None
no_rule phrase stack class may m s None e = refl
no_rule phrase stack class may m s (Some r) e =
    let same = first-next phrase class r e in
    let no = misses-has stack (continuing phrase) (first r) m (continuing-first r may) in
    absurd (false≢true (sym no ∙ ap (starts stack) same ∙ s))

skips : (phrase : Phrase) (d : ℕ) (stack : Stack) (x : Of phrase) (t : Token) (f : Fed stack) → empty phrase ≡ Some x → next phrase (class_of t.kind) ≡ None → feed t stack ≡ Some f
    → feed t (Sub d phrase ∷ stack) ≡ Some (record { left = f.left; depth = f.depth; back = λ (z : Trees f.left). (x, f.back z) })
skips phrase d stack x t f e n h =
    ap (λ (o : Option (Rule phrase)). fed_by phrase d stack t o (feed t stack)) n
    ∙ ap (λ (o : Option (Of phrase)). fed_behind d phrase stack o (feed t stack)) e
    ∙ ap (fed_behind d phrase stack (Some x)) h

traced_empty : (phrase : Phrase) (d : ℕ) (stack : Stack) (ts : Trees (Sub d phrase ∷ stack)) → Apart (Sub d phrase ∷ stack) → IsEmpty phrase ts.0
    → (leaves : List Leaf) → all stack ts.1 ≡ leaves → TracedAt stack ts.1 leaves → TracedAt (Sub d phrase ∷ stack) ts leaves
traced_empty phrase d stack ts a n [] e h = ap (λ (o : Option (Of phrase)). with_empty d phrase stack o (nothing_left stack)) n.is ∙ ap (with_empty d phrase stack (Some ts.0)) h
traced_empty phrase d stack ts a n (leaf ∷ leaves) e h =
    let s = starts-first stack ts.1 leaf.token (tokens leaves) (ap tokens e) in
    let none = no_rule phrase stack (class_of leaf.token.kind) n.may a.0 s (next phrase (class_of leaf.token.kind)) refl in
    record {
      fed = record { left = h.fed.left; depth = h.fed.depth; back = λ (z : Trees h.fed.left). (ts.0, h.fed.back z) };
      is = skips phrase d stack ts.0 leaf.token h.fed n.is none h.is;
      depth = h.depth;
      kids = h.kids;
      back = ap (λ (z : Trees stack). (ts.0, z)) h.back;
      rest = h.rest;
      apart = h.apart;
    }

pub traced : (stack : Stack) (ks : Trees stack) → Apart stack → TracedAt stack ks (all stack ks)
traced [] ks a = refl
traced (Take class ∷ stack) ks a = traced_token class stack ks.0.0 ks.0.1 ks.1 a
traced (Sub d phrase ∷ stack) ks a = at (split phrase d stack ks.0 ks.1) (traced stack ks.1 a.1)
  where
    at : Split phrase d stack ks.0 ks.1 → TracedAt stack ks.1 (all stack ks.1) → TracedAt (Sub d phrase ∷ stack) ks (all (Sub d phrase ∷ stack) ks)
    at (inl m) later = subst (TracedAt (Sub d phrase ∷ stack) ks) (sym (all-made phrase d stack ks m)) (traced_made phrase d stack ks a m)
    at (inr n) later = subst (TracedAt (Sub d phrase ∷ stack) ks) (sym (n.nothing d (all stack ks.1))) (traced_empty phrase d stack ks a n (all stack ks.1) refl later)

-- Trees that are nowhere too deep are decoded from their tokens.
pub decode-complete : (end : Place) (leaves : List Leaf) (stack : Stack) (ks : Trees stack) → Apart stack → all stack ks ≡ leaves → deepest leaves ≤ 64 → decode end (tokens leaves) stack ≡ Ok ks
decode-complete end [] stack ks a e small =
    ap (ended stack end) (subst (TracedAt stack ks) e (traced stack ks a))
decode-complete end (leaf ∷ leaves) stack ks a e small =
    let t = subst (TracedAt stack ks) e (traced stack ks a) in
    let depth : t.fed.depth ≤ 64 = omega (arith, t.depth) in
    let later = decode-complete end leaves t.fed.left t.kids t.apart t.rest (omega arith) in
    ap (λ (o : Option (Fed stack)). decided leaf.token stack o (λ (left : Stack). decode end (tokens leaves) left)) t.is
    ∙ ap (λ (b : Bool). if b then Err (TooDeep leaf.token.place) else mapped t.fed.back (decode end (tokens leaves) t.fed.left)) (within t.fed.depth depth)
    ∙ ap (mapped t.fed.back) later ∙ ap (λ (z : Trees stack). Ok z) t.back

sound_at : (end : Place) (t : Token) (ts : List Token) (stack : Stack) (ks : Trees stack) (o : Option (Fed stack)) → feed t stack ≡ o
    → ((left : Stack) (kids : Trees left) → decode end ts left ≡ Ok kids → (tokens (all left kids) ≡ ts) × (deepest (all left kids) ≤ 64))
    → decided t stack o (λ (left : Stack). decode end ts left) ≡ Ok ks → (tokens (all stack ks) ≡ t ∷ ts) × (deepest (all stack ks) ≤ 64)
sound_at end t ts stack ks None e later h = cc
sound_at end t ts stack ks (Some f) e later h = by_depth (nat_lt 64 f.depth) refl h
  where
    by_result : (r : Result (Trees f.left) ParseFault) → decode end ts f.left ≡ r → f.depth ≤ 64 → mapped f.back r ≡ Ok ks → (tokens (all stack ks) ≡ t ∷ ts) × (deepest (all stack ks) ≤ 64)
    by_result (Err fault) er small g = cc
    by_result (Ok kids) er small g =
        let is : f.back kids ≡ ks = cc in
        let w : all stack ks ≡ begin f.depth t.kind t.place (all f.left kids) = ap (all stack) (sym is) ∙ feed-writes t stack f e kids in
        let l = later f.left kids er in
        (ap tokens w ∙ ap (λ (z : List Token). t ∷ z) l.0, subst (λ (z : List Leaf). deepest z ≤ 64) (sym w) (omega (arith, l.1)))

    by_depth : (b : Bool) → nat_lt 64 f.depth ≡ b → (if b then Err (TooDeep t.place) else mapped f.back (decode end ts f.left)) ≡ Ok ks → (tokens (all stack ks) ≡ t ∷ ts) × (deepest (all stack ks) ≤ 64)
    by_depth true eb g = cc
    by_depth false eb g = by_result (decode end ts f.left) refl (not_past f.depth eb) g

-- What is decoded writes these tokens, and is nowhere too deep.
pub decode-sound : (end : Place) (ts : List Token) (stack : Stack) (ks : Trees stack) → decode end ts stack ≡ Ok ks → (tokens (all stack ks) ≡ ts) × (deepest (all stack ks) ≤ 64)
decode-sound end [] stack ks h = at (nothing_left stack) refl h
  where
    at : (o : Option (Trees stack)) → nothing_left stack ≡ o → ended stack end o ≡ Ok ks → (tokens (all stack ks) ≡ []) × (deepest (all stack ks) ≤ 64)
    at None e g = cc
    at (Some js) e g =
        let is : js ≡ ks = cc in
        let w = ap (all stack) (sym is) ∙ nothing_left-writes stack js e in
        (ap tokens w, subst (λ (z : List Leaf). deepest z ≤ 64) (sym w) (omega arith))
decode-sound end (t ∷ ts) stack ks h = sound_at end t ts stack ks (feed t stack) refl (λ left kids g. decode-sound end ts left kids g) h
