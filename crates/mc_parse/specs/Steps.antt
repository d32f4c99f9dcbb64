-- How reading goes on past what was read, and by the rules of the grammar.
use Rattle.std.specs.Prelude.{◌≡◌, ◌≢◌, ◌≤◌, ◌<◌, ℕ, Bool, true, false, nat_lt, if◌then◌else◌, List, [], ◌∷◌, ◌++◌, length, Option, Some, None, is_some, Result, Ok, Err, ◌⊎◌, refl, IfErr, IsErrAnd}
use Rattle.std.proofs.Common.{ap, ◌∙◌, sym, subst, inl, inr, arith, append_assoc}
use Rattle.std.proofs.lemmas.Bool.{false≢true}
use Rattle.std.proofs.lemmas.Bool.Decides.{nat_tests}
use Rattle.mc_tree.specs.declared.token.Kind.{Kind}
use Rattle.mc_tree.specs.declared.place.Place.{Place}
use Rattle.mc_tree.specs.declared.token.Token.{Token}
use Rattle.mc_tree.specs.Classes.{Class, class_of, Data, data_of, kind_of-data_of, same, same-eq, same-refl}
use Rattle.mc_tree.specs.Grammar.{Phrase, Rule, first, Take, Sub, Stack, parts, depth_of_first}
use Rattle.mc_tree.specs.NextRules.{next, next-first}
use Rattle.mc_tree.specs.Phrases.{Of, Trees, make}
use Rattle.mc_tree.specs.Splits.{empty}
use Rattle.mc_parse.specs.declared.fault.ParseFault.{ParseFault}
use Rattle.mc_parse.specs.declared.fault.ParseFault.TheVariants.{Unexpected, TooDeep, Memory}
use Rattle.mc_parse.specs.Decode.{data_as, Fed, fed_token, fed_rule, fed_behind, fed_by, feed, with_empty, nothing_left, ended, mapped, decided, decode}
use Rattle.mc_parse.specs.Decoding.{within, data_as-kind_of}
use Rattle.mc_parse.specs.TokenLaws.{missed}
use Rattle.mc_parse.specs.Heads.{place_of, HasFirst, HasOther}
use Rattle.mc_parse.specs.Only.{GoesOnBy}
use Rattle.mc_parse.specs.Reads.{reading, IsReadAs, IsRefusedAs, IsReadUpTo, IsRead, IsRefused}

pub no_memory : {place : Place} → Unexpected place ≢ Memory
no_memory e = cc

pub mapped-mapped : {A B C : Type 0} (f : B → C) (g : A → B) (r : Result A ParseFault) → mapped f (mapped g r) ≡ mapped (λ (a : A). f (g a)) r
mapped-mapped f g (Ok x) = refl
mapped-mapped f g (Err fault) = refl

-- Past what is read; and what is not there refuses the whole.
pub past : {A : Type 0} {end : Place} {ahead : Stack → Stack} {ts : List Token} {put : (stack : Stack) → Trees stack → Trees (ahead stack)} {others : List Token} (r : IsReadAs end ahead ts put others) (stack : Stack) (k : Trees (ahead stack) → A)
    → mapped k (reading end ts (ahead stack)) ≡ mapped (λ (ks : Trees stack). k (put stack ks)) (reading end others stack)
past {A} {end} {ahead} {ts} {put} {others} r stack k = ap (mapped k) (r.reads stack) ∙ mapped-mapped k (put stack) (reading end others stack)

pub stops : {A : Type 0} {end : Place} {ahead : Stack → Stack} {ts : List Token} {fault : ParseFault} (r : IsRefusedAs end ahead ts fault) → fault ≢ Memory → (stack : Stack) (k : Trees (ahead stack) → A) → mapped k (reading end ts (ahead stack)) ≡ Err fault
stops r h stack k = ap (mapped k) (r.refuses h stack)

-- the trees that a rule makes of its first token and its parts
abbrev pub made_of : {phrase : Phrase} (r : Rule phrase) (d : ℕ) (stack : Stack) → Trees (Take (first r) ∷ parts r d stack) → Trees (Sub d phrase ∷ stack)
made_of r d stack q = make r d stack q.0.0 q.0.1 q.1

rule_step : (end : Place) (phrase : Phrase) (r : Rule phrase) (d : ℕ) (stack : Stack) (t : Token) (ts : List Token) → depth_of_first r d ≤ 64 → (o : Option (Data (first r)))
    → decided t (Sub d phrase ∷ stack) (fed_rule r d stack t.place o) (λ (left : Stack). decode end ts left)
    ≡ mapped (made_of r d stack) (decided t (Take (first r) ∷ parts r d stack) (fed_token (first r) (parts r d stack) t.place o) (λ (left : Stack). decode end ts left))
rule_step end phrase r d stack t ts small None = refl
rule_step end phrase r d stack t ts small (Some v) =
    ap (λ (b : Bool). if b then Err (TooDeep t.place) else mapped (make r d stack v t.place) (decode end ts (parts r d stack))) (within (depth_of_first r d) small)
    ∙ sym (mapped-mapped (made_of r d stack) (λ (ks : Trees (parts r d stack)). ((v, t.place), ks)) (decode end ts (parts r d stack)))

-- At a token with which the rule begins, the phrase is read by the rule.
pub rule_first : (end : Place) {phrase : Phrase} (r : Rule phrase) (d : ℕ) (stack : Stack) (ts : List Token) → HasFirst (first r) ts → depth_of_first r d ≤ 64
    → reading end ts (Sub d phrase ∷ stack) ≡ mapped (made_of r d stack) (reading end ts (Take (first r) ∷ parts r d stack))
unfolding reading
rule_first end r d stack [] same small = absurd same
rule_first end {phrase} r d stack (t ∷ ts) same small =
    ap (λ (o : Option (Rule phrase)). decided t (Sub d phrase ∷ stack) (fed_by phrase d stack t o (feed t stack)) (λ (left : Stack). decode end ts left)) (ap (next phrase) same ∙ next-first r)
    ∙ rule_step end phrase r d stack t ts small (data_as (first r) t.kind)

pub by_rule : {A : Type 0} (end : Place) {phrase : Phrase} (r : Rule phrase) (d : ℕ) (stack : Stack) (ts : List Token) (k : Trees (Sub d phrase ∷ stack) → A) → HasFirst (first r) ts → depth_of_first r d ≤ 64
    → mapped k (reading end ts (Sub d phrase ∷ stack)) ≡ mapped (λ (q : Trees (Take (first r) ∷ parts r d stack)). k (made_of r d stack q)) (reading end ts (Take (first r) ∷ parts r d stack))
by_rule end {phrase} r d stack ts k same small = ap (mapped k) (rule_first end r d stack ts same small) ∙ mapped-mapped k (made_of r d stack) (reading end ts (Take (first r) ∷ parts r d stack))

-- At tokens with which the phrase does not go on, it is empty, where it can be, and else refused.

pub by_depth : {A B C : Type 0} (place : Place) (b : Bool) (g : B → C) (f : A → B) (r : Result A ParseFault)
    → (if b then Err (TooDeep place) else mapped (λ (a : A). g (f a)) r) ≡ mapped g (if b then Err (TooDeep place) else mapped f r)
by_depth place true g f r = refl
by_depth place false g f r = sym (mapped-mapped g f r)

-- no token with which the phrase goes on stands at the front
abbrev pub GoesNotOn : Phrase → List Token → Type 0
GoesNotOn phrase [] = Unit {0}
GoesNotOn phrase (t ∷ ts) = next phrase (class_of t.kind) ≡ None

pub goes_not_on : {phrase : Phrase} {class : Class} (only : GoesOnBy phrase class) (ts : List Token) → HasOther class ts → GoesNotOn phrase ts
goes_not_on only [] h = tt
goes_not_on only (t ∷ ts) h = only (class_of t.kind) h

pub skips : (end : Place) (phrase : Phrase) (x : Of phrase) (d : ℕ) (ts : List Token) → GoesNotOn phrase ts → empty phrase ≡ Some x → IsRead end d phrase ts x ts
unfolding reading
skips end phrase x d [] none e = record {
  reads = λ stack. ap (λ (o : Option (Of phrase)). ended (Sub d phrase ∷ stack) end (with_empty d phrase stack o (nothing_left stack))) e ∙ left_step stack (nothing_left stack);
}
  where
    left_step : (stack : Stack) (o : Option (Trees stack)) → ended (Sub d phrase ∷ stack) end (with_empty d phrase stack (Some x) o) ≡ mapped (λ (ks : Trees stack). (x, ks)) (ended stack end o)
    left_step stack None = refl
    left_step stack (Some ks) = refl
skips end phrase x d (t ∷ ts) none e = record {
  reads = λ stack.
      ap (λ (o : Option (Rule phrase)). decided t (Sub d phrase ∷ stack) (fed_by phrase d stack t o (feed t stack)) (λ (left : Stack). decode end ts left)) none
      ∙ ap (λ (o : Option (Of phrase)). decided t (Sub d phrase ∷ stack) (fed_behind d phrase stack o (feed t stack)) (λ (left : Stack). decode end ts left)) e
      ∙ behind_step stack (feed t stack);
}
  where
    behind_step : (stack : Stack) (o : Option (Fed stack)) → decided t (Sub d phrase ∷ stack) (fed_behind d phrase stack (Some x) o) (λ (left : Stack). decode end ts left)
        ≡ mapped (λ (ks : Trees stack). (x, ks)) (decided t stack o (λ (left : Stack). decode end ts left))
    behind_step stack None = refl
    behind_step stack (Some f) = by_depth t.place (nat_lt 64 f.depth) (λ (ks : Trees stack). (x, ks)) f.back (decode end ts f.left)

pub refused : (end : Place) (phrase : Phrase) (d : ℕ) (ts : List Token) → GoesNotOn phrase ts → empty phrase ≡ None → IsRefused end d phrase ts (Unexpected (place_of end ts))
unfolding reading
refused end phrase d [] none e = record {
  refuses = λ h stack. ap (λ (o : Option (Of phrase)). ended (Sub d phrase ∷ stack) end (with_empty d phrase stack o (nothing_left stack))) e;
}
refused end phrase d (t ∷ ts) none e = record {
  refuses = λ h stack.
      ap (λ (o : Option (Rule phrase)). decided t (Sub d phrase ∷ stack) (fed_by phrase d stack t o (feed t stack)) (λ (left : Stack). decode end ts left)) none
      ∙ ap (λ (o : Option (Of phrase)). decided t (Sub d phrase ∷ stack) (fed_behind d phrase stack o (feed t stack)) (λ (left : Stack). decode end ts left)) e;
}

-- a token of the class has what the class has
has_data : (class : Class) (kind : Kind) → class_of kind ≡ class → data_as class kind ≢ None
has_data class kind same = subst (λ (c : Class). data_as c kind ≢ None) same own
  where
    own : data_as (class_of kind) kind ≢ None
    own e = absurd (false≢true (ap is_some (sym e ∙ ap (data_as (class_of kind)) (sym (kind_of-data_of kind)) ∙ data_as-kind_of (class_of kind) (data_of kind))))

past_limit : (n : ℕ) → 64 < n → nat_lt 64 n ≡ true
past_limit n h = grind (arith, nat_tests)

pub first_or_other : (class : Class) (ts : List Token) → HasFirst class ts ⊎ HasOther class ts
first_or_other class [] = inr tt
first_or_other class (t ∷ ts) = at (same (class_of t.kind) class) refl
  where
    at : (b : Bool) → same (class_of t.kind) class ≡ b → (class_of t.kind ≡ class) ⊎ (class_of t.kind ≢ class)
    at true e = inl (same-eq (class_of t.kind) class e)
    at false e = inr (λ h. false≢true (sym e ∙ ap (λ (c : Class). same c class) h ∙ same-refl class))

-- A token that begins a node too deep is refused so.
pub too_deep : (end : Place) {phrase : Phrase} (r : Rule phrase) (d : ℕ) (ts : List Token) → HasFirst (first r) ts → 64 < depth_of_first r d → IsRefused end d phrase ts (TooDeep (place_of end ts))
unfolding reading
too_deep end r d [] same deep = absurd same
too_deep end {phrase} r d (t ∷ ts) same deep = record {
  refuses = λ h stack.
      ap (λ (o : Option (Rule phrase)). decided t (Sub d phrase ∷ stack) (fed_by phrase d stack t o (feed t stack)) (λ (left : Stack). decode end ts left)) (ap (next phrase) same ∙ next-first r)
      ∙ at stack (data_as (first r) t.kind) refl;
}
  where
    at : (stack : Stack) (o : Option (Data (first r))) → data_as (first r) t.kind ≡ o → decided t (Sub d phrase ∷ stack) (fed_rule r d stack t.place o) (λ (left : Stack). decode end ts left) ≡ Err (TooDeep t.place)
    at stack None e = absurd (has_data (first r) t.kind same e)
    at stack (Some v) e = ap (λ (b : Bool). if b then Err (TooDeep t.place) else mapped (make r d stack v t.place) (decode end ts (parts r d stack))) (past_limit (depth_of_first r d) deep)

-- A phrase of one rule is read by it, whatever stands at the front.
pub one_rule : (end : Place) {phrase : Phrase} (r : Rule phrase) (d : ℕ) (stack : Stack) (ts : List Token) → GoesOnBy phrase (first r) → empty phrase ≡ None → depth_of_first r d ≤ 64
    → reading end ts (Sub d phrase ∷ stack) ≡ mapped (made_of r d stack) (reading end ts (Take (first r) ∷ parts r d stack))
one_rule end {phrase} r d stack ts only e small = at (first_or_other (first r) ts)
  where
    at : HasFirst (first r) ts ⊎ HasOther (first r) ts → reading end ts (Sub d phrase ∷ stack) ≡ mapped (made_of r d stack) (reading end ts (Take (first r) ∷ parts r d stack))
    at (inl h) = rule_first end r d stack ts h small
    at (inr h) =
        (refused end phrase d ts (goes_not_on only ts h) e).refuses no_memory stack
        ∙ sym (ap (mapped (made_of r d stack)) ((missed end (first r) ts h).refuses no_memory (parts r d stack)))

-- The front of a phrase that is a list was read, and the rest of it.
pub whole_read : {end : Place} {d : ℕ} {phrase : Phrase} {ts : List Token} {join : Of phrase → Of phrase} {others : List Token} (r : IsReadUpTo end d phrase ts join others) (x : Of phrase) → GoesNotOn phrase others → empty phrase ≡ Some x → (y : Of phrase) → join x ≡ y → IsRead end d phrase ts y others
whole_read {end} {d} {phrase} {ts} {join} {others} r x none e y same = record {
  reads = λ stack. r.reads stack ∙ past (skips end phrase x d others none e) stack (λ (q : Trees (Sub d phrase ∷ stack)). (join q.0, q.1)) ∙ ap (λ (z : Of phrase). mapped (λ (ks : Trees stack). (z, ks)) (reading end others stack)) same;
}

-- The same tree, however it is written.
pub read_same : {end : Place} {d : ℕ} {phrase : Phrase} {ts : List Token} {others : List Token} {x y : Of phrase} → x ≡ y → IsRead end d phrase ts x others → IsRead end d phrase ts y others
read_same {end} {d} {phrase} {ts} {others} e r = subst (λ (z : Of phrase). IsRead end d phrase ts z others) e r

-- Where no token is left, a phrase that cannot be empty is refused.
pub refused_end : (end : Place) (phrase : Phrase) (d : ℕ) (ts : List Token) → length ts ≡ 0 → empty phrase ≡ None → IsRefused end d phrase ts (Unexpected end)
refused_end end phrase d [] h e = refused end phrase d [] tt e
refused_end end phrase d (t ∷ ts) h e = absurd (omega arith)

pub refused_there : (end : Place) (phrase : Phrase) (d : ℕ) (ts : List Token) (t : Token) (others : List Token) → ts ≡ t ∷ others → GoesNotOn phrase ts → empty phrase ≡ None → IsRefused end d phrase ts (Unexpected t.place)
refused_there end phrase d ts t others is none e = subst (λ (p : Place). IsRefused end d phrase ts (Unexpected p)) (ap (place_of end) is) (refused end phrase d ts none e)

-- A fault that is handed on.
pub handed_on : {T : Type 0} {ahead : Stack → Stack} {end : Place} {ts : List Token} (r : Result T ParseFault) (fault : ParseFault) → IsErrAnd r (λ y. y ≡ fault) → IsRefusedAs end ahead ts fault → IfErr r (λ f. IsRefusedAs end ahead ts f)
handed_on (Ok x) fault is p = absurd is
handed_on {T} {ahead} {end} {ts} (Err y) fault is p = subst (IsRefusedAs end ahead ts) (sym is) p

-- One more item was read of a phrase that is a list.
pub grown : {X T : Type 0} (r : Result (List X × T) ParseFault) (items : List X) (y : X) (new : List X) → new ≡ items ++ y ∷ [] → mapped {B = List X × T} (λ (q : List X × T). (items ++ (y ∷ q.0), q.1)) r ≡ mapped {B = List X × T} (λ (q : List X × T). (new ++ q.0, q.1)) r
grown {X} {T} (Ok q) items y new e = ap (λ (l : List X). let o : Result (List X × T) ParseFault = Ok (l, q.1) in o) (sym (append_assoc items (y ∷ []) q.0) ∙ ap (λ (l : List X). l ++ q.0) (sym e))
grown (Err fault) items y new e = refl
