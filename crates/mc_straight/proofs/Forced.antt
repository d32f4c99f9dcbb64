-- What each part of the form forces.
use Rattle.std.proofs.Common.{◌≡◌, ◌≢◌, ℕ, zero, suc, ◌+◌, ◌<◌, ◌≤◌, List, [], ◌∷◌, Option, Some, None, refl, sym, ap, ◌∙◌, subst, arith, length, get_or, false, true, take, drop, ◌-◌, add-one}
use Rattle.std.specs.Prelude.{Bool, bytes_eq}
use mathlib.Core.Bool.{not}
use Rattle.std.specs.Cmp.Lexicographic.{same_text}
use Rattle.std.proofs.lemmas.Bool.{false≢true}
use Rattle.std.proofs.Math.Seq.{drop-cons}
use Rattle.std.proofs.Math.ListN.{drop_of_length-le}
use Rattle.std.proofs.lemmas.List.{length-map, take_rest}
use Rattle.std.proofs.lemmas.Option.{slice_get_within}
use Rattle.std.proofs.lemmas.Slice.Eq.{bytes_eq-Decides}
use Rattle.std.specs.Prelude.{MatchOption, slice_get, map}
use Rattle.mc_tree.specs.declared.tree.Bracket.{Bracket}
use Rattle.mc_tree.specs.declared.tree.Id.{Id}
use Rattle.mc_tree.specs.declared.tree.Var.{Var}
use Rattle.mc_tree.specs.declared.tree.VarId.{VarId}
use Rattle.mc_tree.specs.declared.statement.Statement.{Statement}
use Rattle.pdp_dev.specs.declared.entry.Port.{Port}
use Rattle.pdp_dev.specs.declared.entry.Port.TheVariants.{Printer, Punch}
use Rattle.mc_straight.specs.declared.form.Put.{Put}
use Rattle.mc_straight.specs.Alone.{IsNumber, IsAssigned}
use Rattle.mc_straight.specs.Form.{address_of, name_of, AreOwn, HasAddress, IsOwn, IsPriority, IsPut, IsVariable}
use Rattle.mc_straight.proofs.Leaves.{same_number, same_name}

pub no_priority : (b : Bracket) (n : ℕ) → IsNumber b.value n → (4 ≤ n → n ≤ 7 → ⊥) → (p : ℕ) → IsPriority b p → ⊥
no_priority b n h none p k =
    let e = same_number b.value p n k.number h in
    none (omega (arith, e, k.least)) (omega (arith, e, k.most))

pub address_from : (id : VarId) (bracket : Bracket) (o : Option ℕ) → id.address ≡ Some bracket → MatchOption o ((n : ℕ) → IsNumber bracket.value n → ⊥) (λ n. IsNumber bracket.value n) → MatchOption o ((n : ℕ) → HasAddress id n → ⊥) (λ n. HasAddress id n)
address_from id b None e h = λ n k.
    let same : k.bracket ≡ b = cc (sym k.is ∙ e) in
    h n (subst (λ (x : Bracket). IsNumber x.value n) same k.number)
address_from id b (Some n) e h = record { bracket = b; is = e; number = h }

same_address : (id : VarId) (m n : ℕ) → HasAddress id m → HasAddress id n → m ≡ n
same_address id m n h k =
    let same : h.bracket ≡ k.bracket = cc (sym h.is ∙ k.is) in
    same_number k.bracket.value m n (subst (λ (x : Bracket). IsNumber x.value m) same h.number) k.number

pub no_address : (var : Var) → ((n : ℕ) → HasAddress var.first n → ⊥) → (p : Port) → IsVariable var p → ⊥
no_address var none p k = none (address_of p) k.address

pub no_register : (var : Var) (n : ℕ) → HasAddress var.first n → ((p : Port) → address_of p ≢ n) → (p : Port) → IsVariable var p → ⊥
no_register var n h none p k = none p (same_address var.first (address_of p) n k.address h)

address_of-same : (p q : Port) → address_of p ≡ address_of q → p ≡ q
address_of-same Printer Printer e = refl
address_of-same Printer Punch e = absurd (omega arith)
address_of-same Punch Printer e = absurd (omega arith)
address_of-same Punch Punch e = refl

pub same_port : (var : Var) (p q : Port) → IsVariable var p → IsVariable var q → p ≡ q
same_port var p q h k = address_of-same p q (same_address var.first _ _ h.address k.address)

-- a place past the end has no name

pub no_name_past : (vars : List Var) (i : ℕ) (name : List ℕ) → length vars ≤ i → slice_get (map name_of vars) i ≢ Some name
no_name_past [] i name l e = cc
no_name_past (v ∷ vars) zero name l e = absurd (omega arith)
no_name_past (v ∷ vars) (suc i) name l e = no_name_past vars i name (omega arith) e

pub name_there : (vars : List Var) (i : ℕ) (v d : Var) → v ≡ get_or vars i d → i < length vars → slice_get (map name_of vars) i ≡ Some (name_of v)
name_there [] i v d e l = absurd (omega arith)
name_there (w ∷ vars) zero v d e l = ap (λ (x : Var). Some (name_of x)) (sym e)
name_there (w ∷ vars) (suc i) v d e l = name_there vars i v d e (omega arith)

pub other_text : (x y : List ℕ) → false ≡ bytes_eq x y → x ≡ y → ⊥
other_text x y e h = false≢true (e ∙ (bytes_eq-Decides x y).1 h)

-- the name that stands there is another one
pub no_name_there : (vars : List Var) (i : ℕ) (v d : Var) (spelled name : List ℕ) → v ≡ get_or vars i d → i < length vars → spelled ≡ name_of v → false ≡ bytes_eq spelled name → slice_get (map name_of vars) i ≢ Some name
no_name_there vars i v d spelled name e l s b h =
    let there = name_there vars i v d e l in
    let same : name_of v ≡ name = cc (there, h) in
    other_text spelled name b (s ∙ same)

pub is_name_there : (vars : List Var) (i : ℕ) (v d : Var) (spelled name : List ℕ) → v ≡ get_or vars i d → i < length vars → spelled ≡ name_of v → true ≡ bytes_eq spelled name → slice_get (map name_of vars) i ≡ Some name
is_name_there vars i v d spelled name e l s b = name_there vars i v d e l ∙ ap (λ (n : List ℕ). Some n) (sym s ∙ same_text spelled name b)

pub within_names : (first : Var) (more : List Var) (i : ℕ) (name : List ℕ) → slice_get (map name_of (first ∷ more)) i ≡ Some name → i < length more + 1
within_names first more i name e = omega (arith, slice_get_within (map name_of (first ∷ more)) i name e, length-map more name_of)

pub no_put : (vars : List Var) (variables : List Port) (s : Statement) (id : Id) (byte : ℕ) (spelled : List ℕ) → IsAssigned s id byte → spelled ≡ id.text → ((i : ℕ) → slice_get (map name_of vars) i ≢ Some spelled) → (p : Put) → IsPut vars variables s p → ⊥
no_put vars variables s id byte spelled h e none p k =
    let same : k.name ≡ id = same_name s k.name id p.byte byte k.assigned h in
    none p.variable (k.declared ∙ ap (λ (j : Id). Some j.text) same ∙ ap (λ (n : List ℕ). Some n) (sym e))

-- the names from a place on are the name there and those behind it

names_from : (vars : List Var) (i : ℕ) (v d : Var) (spelled : List ℕ) → v ≡ get_or vars i d → i < length vars → spelled ≡ name_of v → map name_of (drop i vars) ≡ spelled ∷ map name_of (take (length vars - (i + 1)) (drop (i + 1) vars))
names_from vars i v d spelled e l s =
    ap (map name_of) (drop-cons vars i d l) ∙ ap (λ (n : List ℕ). n ∷ map name_of (drop (suc i) vars)) (ap name_of (sym e) ∙ sym s) ∙ ap (λ (k : ℕ). spelled ∷ map name_of (drop k vars)) (sym (add-one i)) ∙ ap (λ (x : List Var). spelled ∷ map name_of x) (sym (take_rest vars (i + 1)))

pub own_head : (vars : List Var) (i : ℕ) (v d : Var) (spelled : List ℕ) → v ≡ get_or vars i d → i < length vars → spelled ≡ name_of v → AreOwn (map name_of (drop i vars)) → IsOwn spelled (map name_of (take (length vars - (i + 1)) (drop (i + 1) vars)))
own_head vars i v d spelled e l s h = (subst (λ (n : List (List ℕ)). AreOwn n) (names_from vars i v d spelled e l s) h).0

pub own_rest : (vars : List Var) (i : ℕ) (v d : Var) (spelled : List ℕ) → v ≡ get_or vars i d → i < length vars → spelled ≡ name_of v → AreOwn (map name_of (drop i vars)) → AreOwn (map name_of (drop (i + 1) vars))
own_rest vars i v d spelled e l s h = subst (λ (x : List Var). AreOwn (map name_of x)) (take_rest vars (i + 1)) (subst (λ (n : List (List ℕ)). AreOwn n) (names_from vars i v d spelled e l s) h).1

pub own_from : (vars : List Var) (i : ℕ) (v d : Var) (spelled : List ℕ) → v ≡ get_or vars i d → i < length vars → spelled ≡ name_of v → IsOwn spelled (map name_of (take (length vars - (i + 1)) (drop (i + 1) vars))) → AreOwn (map name_of (drop (i + 1) vars)) → AreOwn (map name_of (drop i vars))
own_from vars i v d spelled e l s head rest =
    subst (λ (n : List (List ℕ)). AreOwn n) (sym (names_from vars i v d spelled e l s)) (head, subst (λ (x : List Var). AreOwn (map name_of x)) (sym (take_rest vars (i + 1))) rest)

pub own_past : (vars : List Var) (i : ℕ) → length vars ≤ i → AreOwn (map name_of (drop i vars))
own_past [] i l = subst (λ (x : List Var). AreOwn (map name_of x)) (sym (drop_of_length-le [] l)) tt
own_past (v ∷ vars) i l = subst (λ (x : List Var). AreOwn (map name_of x)) (sym (drop_of_length-le (v ∷ vars) l)) tt

negated : (b : Bool) → false ≡ not b → true ≡ b
negated true e = refl
negated false e = cc

pub not_unequal : (x y : List ℕ) → false ≡ not (bytes_eq x y) → x ≡ y
not_unequal x y e = same_text x y (negated (bytes_eq x y) e)
