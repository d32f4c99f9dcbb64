-- The answer of decoding a program is the right one: the tree, or the first fault with its place.
use Rattle.std.specs.Prelude.{◌≡◌, ◌≤◌, ◌<◌, ℕ, zero, suc, List, [], ◌∷◌, ◌++◌, length, Option, Some, None, Result, Ok, Err, ◌⊎◌, refl}
use Rattle.std.proofs.Common.{ap, ◌∙◌, sym, subst, inl, inr, arith}
use Rattle.mc_tree.specs.declared.place.Place.{Place}
use Rattle.mc_tree.specs.declared.token.Token.{Token}
use Rattle.mc_tree.specs.Leaves.{Leaf}
use Rattle.mc_tree.specs.Trees.{tokens, deepest}
use Rattle.mc_tree.specs.Classes.{class_of, Data}
use Rattle.mc_tree.specs.Grammar.{ProgramPhrase, Rule, first, Take, Sub, Stack, parts}
use Rattle.mc_tree.specs.NextRules.{next}
use Rattle.mc_tree.specs.Phrases.{Of, Trees, all}
use Rattle.mc_tree.specs.Splits.{empty}
use Rattle.mc_tree.specs.Apart.{Apart}
use Rattle.mc_parse.specs.declared.fault.ParseFault.{ParseFault}
use Rattle.mc_parse.specs.declared.fault.ParseFault.TheVariants.{Unexpected, TooDeep}
use Rattle.mc_parse.specs.Decode.{data_as, Fed, fed_token, fed_rule, fed_behind, fed_by, feed, nothing_left, decode}
use Rattle.mc_parse.specs.Decoding.{some_same, none_some, feed-writes}
use Rattle.mc_tree.specs.declared.tree.Tree.{Tree}
use Rattle.mc_tree.specs.Programs.{BeginsProgram, depth_at, BeginsDepth, IsTooDeepAt, IsUnexpectedAt, IsCut, IsTreeOf}
use Rattle.mc_tree.specs.Trees.{tokens_of, leaves_of}
use Rattle.mc_parse.specs.Traces.{decode-complete, decode-sound}
use Rattle.mc_parse.specs.SomeTrees.{some_trees}
use Rattle.mc_tree.specs.Next.{Shallow, Shallow-parts, depth_of_first-le}
use Rattle.std.proofs.Common.{append_assoc}
use Rattle.mc_tree.specs.Programs.{IsNowhereTooDeep, IsWrongAt}
use Rattle.mc_parse.specs.declared.fault.ParseFault.TheVariants.{Memory}
use Rattle.mc_parse.specs.Stops.{Reaches, reaches-trees, dead, deep, cut, Why, stops}

-- what is to be read of a program
abbrev pub start : Stack
start = Sub 0 ProgramPhrase ∷ []

-- the fault that these tokens have
abbrev pub IsFault : Place → List Token → ParseFault → Type 0
IsFault end ts (Unexpected place) = IsWrongAt end place ts
IsFault end ts (TooDeep place) = IsTooDeepAt place ts
IsFault end ts Memory = ⊥

apart_start : Apart start
apart_start = (tt, tt)

shallow_start : Shallow start
shallow_start = (omega arith, tt)

-- Lists that begin alike

abbrev Inside : List Token → List Token → Token → Type 0
Inside a b u = (m : List Token) × (a ≡ b ++ u ∷ m)

three_ways : (a b : List Token) (t u : Token) (x y : List Token) → a ++ t ∷ x ≡ b ++ u ∷ y → Inside a b u ⊎ (Inside b a t ⊎ ((a ≡ b) × (t ≡ u)))
three_ways [] [] t u x y e = inr (inr (refl, cc))
three_ways [] (b ∷ bs) t u x y e = let h : t ≡ b = cc in inr (inl (bs, ap (λ (z : Token). z ∷ bs) (sym h)))
three_ways (a ∷ as_) [] t u x y e = let h : a ≡ u = cc in inl (as_, ap (λ (z : Token). z ∷ as_) h)
three_ways (a ∷ as_) (b ∷ bs) t u x y e = at (three_ways as_ bs t u x y cc)
  where
    heads : a ≡ b
    heads = cc

    at : Inside as_ bs u ⊎ (Inside bs as_ t ⊎ ((as_ ≡ bs) × (t ≡ u))) → Inside (a ∷ as_) (b ∷ bs) u ⊎ (Inside (b ∷ bs) (a ∷ as_) t ⊎ (((a ∷ as_) ≡ (b ∷ bs)) × (t ≡ u)))
    at (inl h) = inl (h.0, λ i. heads i ∷ h.1 i)
    at (inr (inl h)) = inr (inl (h.0, λ i. sym heads i ∷ h.1 i))
    at (inr (inr h)) = inr (inr (λ i. heads i ∷ h.0 i, h.1))

-- a front of a front
begins_less : (ahead : List Token) (t : Token) (m : List Token) → BeginsProgram (ahead ++ t ∷ m) → BeginsProgram (ahead ++ t ∷ [])
begins_less ahead t m h = (h.0, m ++ h.1, h.2 ∙ append_assoc ahead (t ∷ m) h.1 ∙ sym (append_assoc ahead (t ∷ []) (m ++ h.1)))

begins_of : (front ts : List Token) → BeginsProgram ts → (m : List Token) → ts ≡ front ++ m → BeginsProgram front
begins_of front ts h m e = (h.0, m ++ h.1, h.2 ∙ ap (λ (z : List Token). z ++ h.1) e ∙ append_assoc front m h.1)

-- depths

abbrev Good : (stack : Stack) → Fed stack → Type 0
Good stack z = (z.depth ≤ 65) × (z.depth ≤ 64 → Shallow z.left)

fed-depth : (t : Token) (stack : Stack) (f : Fed stack) → Shallow stack → feed t stack ≡ Some f → (f.depth ≤ 65) × (f.depth ≤ 64 → Shallow f.left)
fed-depth t [] f s h = none_some f h
fed-depth t (Take class ∷ stack) f s h = at (data_as class t.kind) h
  where
    at : (o : Option (Data class)) → fed_token class stack t.place o ≡ Some f → (f.depth ≤ 65) × (f.depth ≤ 64 → Shallow f.left)
    at None g = none_some f g
    at (Some v) g = subst (λ (z : Fed (Take class ∷ stack)). (z.depth ≤ 65) × (z.depth ≤ 64 → Shallow z.left)) (some_same _ f g) (omega arith, λ _. s)
fed-depth t (Sub d phrase ∷ stack) f s h = by_rule (next phrase (class_of t.kind)) h (λ g e. fed-depth t stack g s.1 e)
  where
    by_data : (r : Rule phrase) (o : Option (Data (first r))) → fed_rule r d stack t.place o ≡ Some f → Good (Sub d phrase ∷ stack) f
    by_data r None g = none_some f g
    by_data r (Some v) g = subst (Good (Sub d phrase ∷ stack)) (some_same _ f g) (omega (arith, depth_of_first-le r d, s.0), λ small. Shallow-parts r d stack s.0 small s.1)

    by_empty : (o : Option (Of phrase)) (q : Option (Fed stack)) → ((g : Fed stack) → q ≡ Some g → (g.depth ≤ 65) × (g.depth ≤ 64 → Shallow g.left)) → fed_behind d phrase stack o q ≡ Some f → Good (Sub d phrase ∷ stack) f
    by_empty None q later g = none_some f g
    by_empty (Some x) None later g = none_some f g
    by_empty (Some x) (Some k) later g = subst (Good (Sub d phrase ∷ stack)) (some_same _ f g) (later k refl)

    by_rule : (o : Option (Rule phrase)) → fed_by phrase d stack t o (feed t stack) ≡ Some f → ((g : Fed stack) → feed t stack ≡ Some g → (g.depth ≤ 65) × (g.depth ≤ 64 → Shallow g.left)) → Good (Sub d phrase ∷ stack) f
    by_rule (Some r) g later = by_data r (data_as (first r) t.kind) g
    by_rule None g later = by_empty (empty phrase) (feed t stack) later g

reaches-shallow : (ts : List Token) (stack to : Stack) → Shallow stack → Reaches ts stack to → Shallow to
reaches-shallow [] stack to s r = subst Shallow r s
reaches-shallow (t ∷ ts) stack to s r = reaches-shallow ts r.0.left to ((fed-depth t stack r.0 s r.1).1 r.2) r.3

-- the place of a token within what is fed
pub record Passes (ahead : List Token) (t : Token) (stack : Stack) : Type 0 where
  pub to : Stack
  pub reaches : Reaches ahead stack to
  pub fed : Fed to
  pub is : feed t to ≡ Some fed
  pub small : fed.depth ≤ 64

passes : (ahead : List Token) (t : Token) (behind : List Token) (stack to : Stack) → Reaches (ahead ++ t ∷ behind) stack to → Passes ahead t stack
passes [] t behind stack to r = record { to = stack; reaches = refl; fed = r.0; is = r.1; small = r.2 }
passes (a ∷ ahead) t behind stack to r =
    let p = passes ahead t behind r.0.left to r.3 in
    record { to = p.to; reaches = (r.0, r.1, r.2, p.reaches); fed = p.fed; is = p.is; small = p.small }

-- what is fed begins a program
reaches-begins : (front : List Token) (to : Stack) → Reaches front start to → BeginsProgram front
reaches-begins front to r = let k = reaches-trees front start to r (some_trees to) in (k.0.0, tokens (all to (some_trees to)), k.1)

feeds-begins : (front : List Token) (to : Stack) (t : Token) (f : Fed to) → Reaches front start to → feed t to ≡ Some f → BeginsProgram (front ++ t ∷ [])
feeds-begins front to t f r h =
    let js = some_trees f.left in
    let k = reaches-trees front start to r (f.back js) in
    (k.0.0, tokens (all f.left js), k.1 ∙ ap (λ (z : List Leaf). front ++ tokens z) (feed-writes t to f h js) ∙ sym (append_assoc front (t ∷ []) (tokens (all f.left js))))

-- a token that is fed early enough begins no node that is too deep
no_depth : (ahead : List Token) (t : Token) (behind front : List Token) (to : Stack) → Reaches front start to → front ≡ ahead ++ t ∷ behind → BeginsDepth 65 ahead t → ⊥
no_depth ahead t behind front to r e h =
    let p = passes ahead t behind start to (subst (λ (z : List Token). Reaches z start to) e r) in
    let b = reaches-begins front to r in
    let w : tokens_of b.0 ≡ ahead ++ t ∷ (behind ++ b.1) = b.2 ∙ ap (λ (z : List Token). z ++ b.1) e ∙ append_assoc ahead (t ∷ behind) b.1 in
    let x = deep ahead start p.to t p.fed p.reaches p.is apart_start (b.0, tt) (behind ++ b.1) w in
    absurd (omega (arith, h b.0 (behind ++ b.1) w, x, p.small))

never_begins : (front : List Token) (to : Stack) (t : Token) → Reaches front start to → feed t to ≡ None → BeginsProgram (front ++ t ∷ []) → ⊥
never_begins front to t r none h = dead front start to t r none apart_start (h.0, tt) h.1 (h.2 ∙ append_assoc front (t ∷ []) h.1)

too_deep : (front : List Token) (to : Stack) (t : Token) (rest ts : List Token) (f : Fed to) → ts ≡ front ++ t ∷ rest → Reaches front start to → feed t to ≡ Some f → 64 < f.depth → IsTooDeepAt t.place ts
too_deep front to t rest ts f e r h big =
    let bound = (fed-depth t to f (reaches-shallow front start to shallow_start r) h).0 in
    let exact : f.depth ≡ 65 = omega arith in
    record {
      front = front;
      token = t;
      rest = rest;
      parts = e;
      stands = refl;
      begins = feeds-begins front to t f r h;
      deep = λ tree more w. deep front start to t f r h apart_start (tree, tt) more w ∙ exact;
      first = λ ahead u behind q deep65. no_depth ahead u behind front to r q deep65;
    }

unexpected : (front : List Token) (to : Stack) (t : Token) (rest ts : List Token) → ts ≡ front ++ t ∷ rest → Reaches front start to → feed t to ≡ None → IsUnexpectedAt t.place ts
unexpected front to t rest ts e r none =
    record { front = front; token = t; rest = rest; parts = e; stands = refl; begins = reaches-begins front to r; wrong = never_begins front to t r none }

nowhere_too_deep : (front : List Token) (to : Stack) (t : Token) (rest ts : List Token) → ts ≡ front ++ t ∷ rest → Reaches front start to → feed t to ≡ None → IsNowhereTooDeep ts
nowhere_too_deep front to t rest ts e r none place h = at (three_ways front h.front t h.token rest h.rest (sym e ∙ h.parts))
  where
    at : Inside front h.front h.token ⊎ (Inside h.front front t ⊎ ((front ≡ h.front) × (t ≡ h.token))) → ⊥
    at (inl k) = no_depth h.front h.token k.0 front to r k.1 h.deep
    at (inr (inl k)) = never_begins front to t r none
        (begins_of (front ++ t ∷ []) (h.front ++ h.token ∷ []) h.begins (k.0 ++ h.token ∷ [])
        (ap (λ (z : List Token). z ++ h.token ∷ []) k.1 ∙ append_assoc front (t ∷ k.0) (h.token ∷ []) ∙ sym (append_assoc front (t ∷ []) (k.0 ++ h.token ∷ []))))
    at (inr (inr k)) = never_begins front to t r none (subst (λ (z : List Token). BeginsProgram (z ++ t ∷ [])) (sym k.0) (subst (λ (z : Token). BeginsProgram (h.front ++ z ∷ [])) (sym k.1) h.begins))

append_nil : (xs : List Token) → xs ++ [] ≡ xs
append_nil [] = refl
append_nil (x ∷ xs) = ap (λ (z : List Token). x ∷ z) (append_nil xs)

is_cut : (ts : List Token) (to : Stack) → Reaches ts start to → nothing_left to ≡ None → IsCut ts
is_cut ts to r none = record { begins = reaches-begins ts to r; wrong = λ p. cut ts start to r none apart_start (p.0, tt) (p.1 ∙ sym (append_nil ts)) }

-- Where decoding stops, the tokens have that fault.
pub decode-fault : (end : Place) (ts : List Token) (fault : ParseFault) → decode end ts start ≡ Err fault → IsFault end ts fault
decode-fault end ts fault e = let s = stops end ts start fault e in at s.front s.rest s.to s.parts s.reaches s.why
  where
    at : (front rest : List Token) (to : Stack) → ts ≡ front ++ rest → Reaches front start to → Why end to rest fault → IsFault end ts fault
    at front [] to parts r why =
        let whole : Reaches ts start to = subst (λ (z : List Token). Reaches z start to) (sym (parts ∙ append_nil front)) r in
        subst (IsFault end ts) (sym why.1) ((inr (refl, is_cut ts to whole why.0)), λ place h. no_depth h.front h.token h.rest ts to whole h.parts h.deep)
    at front (t ∷ rest) to parts r (inl why) = subst (IsFault end ts) (sym why.1) (inl (unexpected front to t rest ts parts r why.0), nowhere_too_deep front to t rest ts parts r why.0)
    at front (t ∷ rest) to parts r (inr why) = subst (IsFault end ts) (sym why.3) (too_deep front to t rest ts why.0 parts r why.1 why.2)

-- What is decoded is the tree of the tokens.
pub decode-tree : (end : Place) (ts : List Token) (ks : Trees start) → decode end ts start ≡ Ok ks → IsTreeOf ks.0 ts
decode-tree end ts ks e = let h = decode-sound end ts start ks e in record { tokens_are = h.0; depth = h.1 }

pub tree-decoded : (end : Place) (ts : List Token) (tree : Tree) → IsTreeOf tree ts → decode end ts start ≡ Ok (tree, tt)
tree-decoded end ts tree h = ap (λ (z : List Token). decode end z start) (sym h.tokens_are) ∙ decode-complete end (leaves_of tree) start (tree, tt) apart_start refl h.depth

-- One fault at most

deepest_at : (k : ℕ) (leaves : List Leaf) → depth_at k leaves ≤ deepest leaves
deepest_at k [] = omega arith
deepest_at zero (leaf ∷ leaves) = omega arith
deepest_at (suc k) (leaf ∷ leaves) = let h = deepest_at k leaves in omega arith

same_place : (front front' : List Token) (t t' : Token) (p p' : Place) → (front ≡ front') × (t ≡ t') → t.place ≡ p → t'.place ≡ p' → p ≡ p'
same_place front front' t t' p p' h e e' = sym e ∙ ap (λ (z : Token). z.place) h.1 ∙ e'

one_depth : (p q : Place) (ts : List Token) → IsTooDeepAt p ts → IsTooDeepAt q ts → p ≡ q
one_depth p q ts h k = at (three_ways h.front k.front h.token k.token h.rest k.rest (sym h.parts ∙ k.parts))
  where
    at : Inside h.front k.front k.token ⊎ (Inside k.front h.front h.token ⊎ ((h.front ≡ k.front) × (h.token ≡ k.token))) → p ≡ q
    at (inl i) = absurd (h.first k.front k.token i.0 i.1 k.deep)
    at (inr (inl i)) = absurd (k.first h.front h.token i.0 i.1 h.deep)
    at (inr (inr i)) = same_place h.front k.front h.token k.token p q i h.stands k.stands

one_unexpected : (p q : Place) (ts : List Token) → IsUnexpectedAt p ts → IsUnexpectedAt q ts → p ≡ q
one_unexpected p q ts h k = at (three_ways h.front k.front h.token k.token h.rest k.rest (sym h.parts ∙ k.parts))
  where
    at : Inside h.front k.front k.token ⊎ (Inside k.front h.front h.token ⊎ ((h.front ≡ k.front) × (h.token ≡ k.token))) → p ≡ q
    at (inl i) = absurd (k.wrong (begins_less k.front k.token i.0 (subst BeginsProgram i.1 h.begins)))
    at (inr (inl i)) = absurd (h.wrong (begins_less h.front h.token i.0 (subst BeginsProgram i.1 k.begins)))
    at (inr (inr i)) = same_place h.front k.front h.token k.token p q i h.stands k.stands

not_cut : (p : Place) (ts : List Token) → IsUnexpectedAt p ts → BeginsProgram ts → ⊥
not_cut p ts h b = h.wrong (begins_less h.front h.token h.rest (subst BeginsProgram h.parts b))

wrong_once : (end p q : Place) (ts : List Token) → IsWrongAt end p ts → IsWrongAt end q ts → p ≡ q
wrong_once end p q ts h k = at h.0 k.0
  where
    at : IsUnexpectedAt p ts ⊎ ((p ≡ end) × IsCut ts) → IsUnexpectedAt q ts ⊎ ((q ≡ end) × IsCut ts) → p ≡ q
    at (inl x) (inl y) = one_unexpected p q ts x y
    at (inl x) (inr y) = absurd (not_cut p ts x y.1.begins)
    at (inr x) (inl y) = absurd (not_cut q ts y x.1.begins)
    at (inr x) (inr y) = x.0 ∙ sym y.0

-- No two faults fit one list of tokens.
pub one_fault : (end : Place) (ts : List Token) (f g : ParseFault) → IsFault end ts f → IsFault end ts g → f ≡ g
one_fault end ts (Unexpected p) (Unexpected q) h k = ap (λ (z : Place). Unexpected z) (wrong_once end p q ts h k)
one_fault end ts (Unexpected p) (TooDeep q) h k = absurd (h.1 q k)
one_fault end ts (Unexpected p) Memory h k = absurd k
one_fault end ts (TooDeep p) (Unexpected q) h k = absurd (k.1 p h)
one_fault end ts (TooDeep p) (TooDeep q) h k = ap (λ (z : Place). TooDeep z) (one_depth p q ts h k)
one_fault end ts (TooDeep p) Memory h k = absurd k
one_fault end ts Memory g h k = absurd h

-- Tokens of a tree that is nowhere too deep have no fault.
pub no_fault : (end : Place) (ts : List Token) (tree : Tree) (f : ParseFault) → IsTreeOf tree ts → IsFault end ts f → ⊥
no_fault end ts tree (Unexpected p) h k = at k.0
  where
    program : BeginsProgram ts
    program = (tree, [], h.tokens_are ∙ sym (append_nil ts))

    at : IsUnexpectedAt p ts ⊎ ((p ≡ end) × IsCut ts) → ⊥
    at (inl x) = not_cut p ts x program
    at (inr x) = x.1.wrong (tree, h.tokens_are)
no_fault end ts tree (TooDeep p) h k =
    absurd (omega (arith, k.deep tree k.rest (h.tokens_are ∙ k.parts), deepest_at (length k.front) (leaves_of tree), h.depth))
no_fault end ts tree Memory h k = absurd k

-- What has a fault is answered by it.
pub fault-decoded : (end : Place) (ts : List Token) (f : ParseFault) → IsFault end ts f → decode end ts start ≡ Err f
fault-decoded end ts f h = at (decode end ts start) refl
  where
    at : (r : Result (Trees start) ParseFault) → decode end ts start ≡ r → decode end ts start ≡ Err f
    at (Ok ks) e = absurd (no_fault end ts ks.0 f (decode-tree end ts ks e) h)
    at (Err g) e = e ∙ ap (λ (z : ParseFault). Err z) (one_fault end ts g f (decode-fault end ts g e) h)
