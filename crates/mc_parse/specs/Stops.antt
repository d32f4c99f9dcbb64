-- Where decoding stops, and what that says of trees.
use Rattle.std.specs.Prelude.{◌≡◌, ◌≤◌, ◌<◌, ℕ, suc, Bool, true, false, nat_lt, if◌then◌else◌, List, [], ◌∷◌, ◌++◌, length, Option, Some, None, Result, Ok, Err, ◌⊎◌, refl}
use Rattle.std.proofs.Common.{ap, ◌∙◌, sym, subst, inl, inr}
use Rattle.mc_tree.specs.declared.place.Place.{Place}
use Rattle.mc_tree.specs.declared.token.Token.{Token}
use Rattle.mc_tree.specs.Leaves.{Leaf}
use Rattle.mc_tree.specs.Trees.{tokens}
use Rattle.mc_tree.specs.Grammar.{Stack}
use Rattle.mc_tree.specs.Phrases.{Trees, all}
use Rattle.mc_tree.specs.Apart.{Apart}
use Rattle.mc_parse.specs.declared.fault.ParseFault.{ParseFault}
use Rattle.mc_parse.specs.declared.fault.ParseFault.TheVariants.{Unexpected, TooDeep}
use Rattle.mc_parse.specs.Decode.{Fed, feed, nothing_left, ended, mapped, decided, decode}
use Rattle.mc_parse.specs.Decoding.{some_same, none_some, past, not_past, feed-writes}
use Rattle.mc_tree.specs.Programs.{depth_at}
use Rattle.mc_parse.specs.Traces.{Traced, TracedAt, traced}

-- the tokens are fed one after the other, and none begins a node too deep
abbrev pub Reaches : List Token → Stack → Stack → Type 0
Reaches [] stack to = stack ≡ to
Reaches (t ∷ ts) stack to = (f : Fed stack) × (feed t stack ≡ Some f) × (f.depth ≤ 64) × Reaches ts f.left to

-- what is read and what stands for the rest are trees
pub reaches-trees : (ts : List Token) (stack to : Stack) → Reaches ts stack to → (js : Trees to) → (ks : Trees stack) × (tokens (all stack ks) ≡ ts ++ tokens (all to js))
reaches-trees [] stack to r js = subst (λ (z : Stack). (ks : Trees z) × (tokens (all z ks) ≡ tokens (all to js))) (sym r) (js, refl)
reaches-trees (t ∷ ts) stack to r js =
    let k = reaches-trees ts r.0.left to r.3 js in
    (r.0.back k.0, ap tokens (feed-writes t stack r.0 r.1 k.0) ∙ ap (λ (z : List Token). t ∷ z) k.1)

pub record First (leaves : List Leaf) (t : Token) (ts : List Token) : Type 0 where
  pub leaf : Leaf
  pub others : List Leaf
  pub is : leaves ≡ leaf ∷ others
  pub token : leaf.token ≡ t
  pub rest : tokens others ≡ ts

first_leaf : (leaves : List Leaf) (t : Token) (ts : List Token) → tokens leaves ≡ t ∷ ts → First leaves t ts
first_leaf [] t ts e = cc
first_leaf (leaf ∷ leaves) t ts e = record { leaf = leaf; others = leaves; is = refl; token = cc; rest = cc }

-- The trees go on where the token is fed.
pub record Goes (stack : Stack) (js : Trees stack) (ts : List Token) (f : Fed stack) : Type 0 where
  pub kids : Trees f.left
  pub rest : tokens (all f.left kids) ≡ ts
  pub apart : Apart f.left
  pub here : depth_at 0 (all stack js) ≡ f.depth
  pub later : (k : ℕ) → depth_at (suc k) (all stack js) ≡ depth_at k (all f.left kids)

pub record Fits (stack : Stack) (js : Trees stack) (t : Token) (ts : List Token) : Type 0 where
  pub fed : Fed stack
  pub is : feed t stack ≡ Some fed
  pub goes : Goes stack js ts fed

pub fits : (stack : Stack) (js : Trees stack) (t : Token) (ts : List Token) → Apart stack → tokens (all stack js) ≡ t ∷ ts → Fits stack js t ts
fits stack js t ts a e =
    let w = first_leaf (all stack js) t ts e in
    let r : Traced stack js w.leaf w.others = subst (TracedAt stack js) w.is (traced stack js a) in
    record {
      fed = r.fed;
      is = ap (λ (z : Token). feed z stack) (sym w.token) ∙ r.is;
      goes = record {
        kids = r.kids;
        rest = ap tokens r.rest ∙ w.rest;
        apart = r.apart;
        here = ap (depth_at 0) w.is ∙ sym r.depth;
        later = λ k. ap (depth_at (suc k)) w.is ∙ ap (depth_at k) (sym r.rest);
      };
    }

fits_with : (stack : Stack) (js : Trees stack) (t : Token) (ts : List Token) (f : Fed stack) → Apart stack → tokens (all stack js) ≡ t ∷ ts → feed t stack ≡ Some f → Goes stack js ts f
fits_with stack js t ts f a e h = let w = fits stack js t ts a e in subst (Goes stack js ts) (some_same w.fed f (sym w.is ∙ h)) w.goes

-- The trees whose tokens begin with those that are fed.
pub record Walks (to : Stack) (depth : ℕ) (ts : List Token) : Type 0 where
  pub kids : Trees to
  pub rest : tokens (all to kids) ≡ ts
  pub apart : Apart to
  pub here : depth ≡ depth_at 0 (all to kids)

pub walks : (front : List Token) (stack to : Stack) → Reaches front stack to → Apart stack → (js : Trees stack) (ts : List Token) → tokens (all stack js) ≡ front ++ ts → Walks to (depth_at (length front) (all stack js)) ts
walks [] stack to r a js ts e =
    subst (λ (z : Stack). Walks z (depth_at 0 (all stack js)) ts) r (record { kids = js; rest = e; apart = a; here = refl })
walks (t ∷ front) stack to r a js ts e =
    let g = fits_with stack js t (front ++ ts) r.0 a e r.1 in
    let w = walks front r.0.left to r.3 g.apart g.kids ts g.rest in
    record { kids = w.kids; rest = w.rest; apart = w.apart; here = g.later (length front) ∙ w.here }

-- No tree has a token that is not fed.
pub dead : (front : List Token) (stack to : Stack) (t : Token) → Reaches front stack to → feed t to ≡ None → Apart stack → (js : Trees stack) (ts : List Token) → tokens (all stack js) ≡ front ++ t ∷ ts → ⊥
dead front stack to t r none a js ts e =
    let w = walks front stack to r a js (t ∷ ts) e in
    let f = fits to w.kids t ts w.apart w.rest in
    none_some f.fed (sym none ∙ f.is)

-- In every tree the fed token begins a node of that depth.
pub deep : (front : List Token) (stack to : Stack) (t : Token) (f : Fed to) → Reaches front stack to → feed t to ≡ Some f → Apart stack → (js : Trees stack) (ts : List Token) → tokens (all stack js) ≡ front ++ t ∷ ts
    → depth_at (length front) (all stack js) ≡ f.depth
deep front stack to t f r h a js ts e =
    let w = walks front stack to r a js (t ∷ ts) e in
    w.here ∙ (fits_with to w.kids t ts f w.apart w.rest h).here

-- A tree has more tokens where more must come.
pub cut : (front : List Token) (stack to : Stack) → Reaches front stack to → nothing_left to ≡ None → Apart stack → (js : Trees stack) → tokens (all stack js) ≡ front ++ [] → ⊥
cut front stack to r none a js e =
    let w = walks front stack to r a js [] e in
    at w.kids (all to w.kids) refl w.rest (traced to w.kids w.apart)
  where
    at : (ks : Trees to) (leaves : List Leaf) → all to ks ≡ leaves → tokens leaves ≡ [] → TracedAt to ks leaves → ⊥
    at ks [] q e h = none_some _ (sym none ∙ h)
    at ks (leaf ∷ leaves) q e h = cc

-- why decoding stops behind some tokens
abbrev pub Why : Place → Stack → List Token → ParseFault → Type 0
Why end to [] fault = (nothing_left to ≡ None) × (fault ≡ Unexpected end)
Why end to (t ∷ rest) fault = ((feed t to ≡ None) × (fault ≡ Unexpected t.place)) ⊎ ((f : Fed to) × (feed t to ≡ Some f) × (64 < f.depth) × (fault ≡ TooDeep t.place))

pub record Stops (end : Place) (ts : List Token) (stack : Stack) (fault : ParseFault) : Type 0 where
  pub front : List Token
  pub rest : List Token
  pub to : Stack
  pub parts : ts ≡ front ++ rest
  pub reaches : Reaches front stack to
  pub why : Why end to rest fault

stops_at : (end : Place) (t : Token) (ts : List Token) (stack : Stack) (fault : ParseFault) (o : Option (Fed stack)) → feed t stack ≡ o
    → ((left : Stack) → decode end ts left ≡ Err fault → Stops end ts left fault)
    → decided t stack o (λ (left : Stack). decode end ts left) ≡ Err fault → Stops end (t ∷ ts) stack fault
stops_at end t ts stack fault None e later h = record { front = []; rest = t ∷ ts; to = stack; parts = refl; reaches = refl; why = inl (e, cc) }
stops_at end t ts stack fault (Some f) e later h = by_depth (nat_lt 64 f.depth) refl h
  where
    by_result : (r : Result (Trees f.left) ParseFault) → decode end ts f.left ≡ r → f.depth ≤ 64 → mapped f.back r ≡ Err fault → Stops end (t ∷ ts) stack fault
    by_result (Ok kids) er small g = cc
    by_result (Err other) er small g =
        let s = later f.left (er ∙ cc) in
        record { front = t ∷ s.front; rest = s.rest; to = s.to; parts = ap (λ (z : List Token). t ∷ z) s.parts; reaches = (f, e, small, s.reaches); why = s.why }

    by_depth : (b : Bool) → nat_lt 64 f.depth ≡ b → (if b then Err (TooDeep t.place) else mapped f.back (decode end ts f.left)) ≡ Err fault → Stops end (t ∷ ts) stack fault
    by_depth true eb g = record { front = []; rest = t ∷ ts; to = stack; parts = refl; reaches = refl; why = inr (f, e, past f.depth eb, cc) }
    by_depth false eb g = by_result (decode end ts f.left) refl (not_past f.depth eb) g

pub stops : (end : Place) (ts : List Token) (stack : Stack) (fault : ParseFault) → decode end ts stack ≡ Err fault → Stops end ts stack fault
stops end [] stack fault h = at (nothing_left stack) refl h
  where
    at : (o : Option (Trees stack)) → nothing_left stack ≡ o → ended stack end o ≡ Err fault → Stops end [] stack fault
    at None e g = record { front = []; rest = []; to = stack; parts = refl; reaches = refl; why = (e, cc) }
    at (Some ks) e g = cc
stops end (t ∷ ts) stack fault h = stops_at end t ts stack fault (feed t stack) refl (λ left g. stops end ts left fault g) h
