-- Lists in pairs, and what a whole program of the form forces.
use Rattle.std.proofs.Common.{◌≡◌, ℕ, zero, suc, ◌+◌, ◌<◌, List, [], ◌∷◌, ◌++◌, Option, Some, None, refl, sym, ap, ◌∙◌, subst, arith, length, get_or, take, add-one}
use Rattle.std.specs.Prelude.{slice_get, map, IfOk, MatchOption, Result, Ok, Err}
use Rattle.mc_word.specs.declared.bytes.Memory.{Memory}
use Rattle.mc_tree.specs.declared.tree.Tree.{Tree}
use Rattle.mc_tree.specs.declared.tree.Tree.TheVariants as trees
use Rattle.std.proofs.Math.Seq.{take-suc}
use Rattle.std.proofs.lemmas.List.{length-map}
use Rattle.mc_tree.specs.declared.statement.Statement.{Statement}
use Rattle.mc_tree.specs.declared.tree.After.{After}
use Rattle.mc_tree.specs.declared.tree.Begun.{Begun}
use Rattle.mc_tree.specs.declared.tree.Device.{Device}
use Rattle.mc_tree.specs.declared.tree.DeviceProgram.{DeviceProgram}
use Rattle.mc_tree.specs.declared.tree.Var.{Var}
use Rattle.pdp_dev.specs.declared.entry.Port.{Port}
use Rattle.mc_straight.specs.declared.form.Put.{Put}
use Rattle.mc_straight.specs.Form.{Straight, name_of, statements_of, AreOwn, ArePaired, Declares, IsPut, IsStraight, IsStraightProgram, IsVariable}
use Rattle.mc_straight.proofs.Forced.{same_port}

module _ {A B : Type 0} (R : A → B → Type 0) where
  pub paired_lengths : (xs : List A) (ys : List B) → ArePaired R xs ys → length xs ≡ length ys
  paired_lengths [] [] h = refl
  paired_lengths [] (y ∷ ys) h = absurd h
  paired_lengths (x ∷ xs) [] h = absurd h
  paired_lengths (x ∷ xs) (y ∷ ys) h = ap suc (paired_lengths xs ys h.1)

  pub paired_more : (xs : List A) (ys : List B) (x : A) (y : B) → ArePaired R xs ys → R x y → ArePaired R (xs ++ x ∷ []) (ys ++ y ∷ [])
  paired_more [] [] x y h r = (r, tt)
  paired_more [] (z ∷ ys) x y h r = absurd h
  paired_more (w ∷ xs) [] x y h r = absurd h
  paired_more (w ∷ xs) (z ∷ ys) x y h r = (h.0, paired_more xs ys x y h.1 r)

  pub none_first : (x : A) (xs : List A) → ((y : B) → R x y → ⊥) → (ys : List B) → ArePaired R (x ∷ xs) ys → ⊥
  none_first x xs none [] h = h
  none_first x xs none (y ∷ ys) h = none y h.0

  none_at : (xs : List A) (i : ℕ) (x d : A) → x ≡ get_or xs i d → i < length xs → ((y : B) → R x y → ⊥) → (ys : List B) → ArePaired R xs ys → ⊥
  none_at [] i x d e l none ys h = absurd (omega arith)
  none_at (w ∷ xs) i x d e l none [] h = h
  none_at (w ∷ xs) zero x d e l none (y ∷ ys) h = none y (subst (λ (a : A). R a y) (sym e) h.0)
  none_at (w ∷ xs) (suc i) x d e l none (y ∷ ys) h = none_at xs i x d e (omega arith) none ys h.1

  -- the item in a place behind the first has no partner
  pub none_behind : (w : A) (xs : List A) (i : ℕ) (x d : A) → x ≡ get_or xs i d → i < length xs → ((y : B) → R x y → ⊥) → (ys : List B) → ArePaired R (w ∷ xs) ys → ⊥
  none_behind w xs i x d e l none [] h = h
  none_behind w xs i x d e l none (y ∷ ys) h = none_at xs i x d e l none ys h.1

  pub paired_next : (w : A) (xs : List A) (i : ℕ) (x d : A) (ys : List B) (y : B) → x ≡ get_or xs i d → i < length xs → ArePaired R (w ∷ take i xs) ys → R x y → ArePaired R (w ∷ take (i + 1) xs) (ys ++ y ∷ [])
  paired_next w xs i x d ys y e l h r =
      let next : take (i + 1) xs ≡ take i xs ++ x ∷ [] = ap (λ (n : ℕ). take n xs) (add-one i) ∙ take-suc xs i d l ∙ ap (λ (z : A). take i xs ++ z ∷ []) (sym e) in
      subst (λ (l : List A). ArePaired R (w ∷ l) (ys ++ y ∷ [])) (sym next) (paired_more (w ∷ take i xs) ys x y h r)

pub get_or-map : {A B : Type 0} (f : A → B) (xs : List A) (i : ℕ) (d : A) → get_or (map f xs) i (f d) ≡ f (get_or xs i d)
get_or-map f [] i d = refl
get_or-map f (x ∷ xs) zero d = refl
get_or-map f (x ∷ xs) (suc i) d = get_or-map f xs i d

pub take-map : {A B : Type 0} (f : A → B) (i : ℕ) (xs : List A) → take i (map f xs) ≡ map f (take i xs)
take-map f zero xs = refl
take-map f (suc i) [] = refl
take-map f (suc i) (x ∷ xs) = ap (λ l. f x ∷ l) (take-map f i xs)

pub only : {A : Type 0} (xs : List A) (x : A) → length xs ≡ 1 → Some x ≡ slice_get xs 0 → xs ≡ x ∷ []
only [] x l e = absurd (omega arith)
only (y ∷ []) x l e = cc
only (y ∷ z ∷ xs) x l e = absurd (omega arith)

-- one variable list is related to one list of registers
ports_same : (vars : List Var) (ps qs : List Port) → ArePaired IsVariable vars ps → ArePaired IsVariable vars qs → ps ≡ qs
ports_same [] [] [] h k = refl
ports_same [] [] (q ∷ qs) h k = absurd k
ports_same [] (p ∷ ps) qs h k = absurd h
ports_same (v ∷ vars) [] qs h k = absurd h
ports_same (v ∷ vars) (p ∷ ps) [] h k = absurd k
ports_same (v ∷ vars) (p ∷ ps) (q ∷ qs) h k = let e = same_port v p q h.0 k.0 in let r = ports_same vars ps qs h.1 k.1 in cc (e, r)

parts_same : (block : Device) (first f : Var) (more m : List Var) → Declares block first more → Declares block f m → (first ∷ more) ≡ (f ∷ m)
parts_same block first f more m h k =
    let e = sym h.is ∙ k.is in
    cc e

module _ (p : DeviceProgram) (first : Var) (more : List Var) (d : Declares p.block first more) (form : Straight) (h : IsStraightProgram p form) where
  same : (h.first ∷ h.more) ≡ (first ∷ more)
  same = parts_same p.block h.first first h.more more h.declares d

  pub own_forced : AreOwn (p.name.text ∷ map name_of (first ∷ more))
  own_forced = subst (λ (l : List Var). AreOwn (p.name.text ∷ map name_of l)) same h.own

  pub variables_forced : ArePaired IsVariable (first ∷ more) form.variables
  variables_forced = subst (λ (l : List Var). ArePaired IsVariable l form.variables) same h.variables

  pub puts_forced : (variables : List Port) (begun : Begun) → ArePaired IsVariable (first ∷ more) variables → p.block.body ≡ Some begun → ArePaired (IsPut (first ∷ more) variables) (statements_of begun.body) form.puts
  puts_forced variables begun v e =
      let b : h.begun ≡ begun = cc (sym h.has_body ∙ e) in
      let r : form.variables ≡ variables = ports_same (first ∷ more) form.variables variables variables_forced v in
      subst (λ (l : List Var). ArePaired (IsPut l variables) (statements_of begun.body) form.puts) same
      (subst (λ (vs : List Port). ArePaired (IsPut (h.first ∷ h.more) vs) (statements_of begun.body) form.puts) r
      (subst (λ (x : Begun). ArePaired (IsPut (h.first ∷ h.more) form.variables) (statements_of x.body) form.puts) b h.puts))

-- the same of a body, whose statements stand behind semicolons

abbrev item_of : After Statement → Statement
item_of a = a.item

statement_at : (more items : List (After Statement)) (i : ℕ) (x : After Statement) → items ≡ more → x ≡ get_or items i x → x.item ≡ get_or (map item_of more) i x.item
statement_at more items i x s e = ap item_of (e ∙ ap (λ (l : List (After Statement)). get_or l i x) s) ∙ sym (get_or-map item_of more i x)

within : (more items : List (After Statement)) (i : ℕ) → items ≡ more → i < length items → i < length (map item_of more)
within more items i s l = omega (arith, length-map more item_of, ap length s)

pub no_puts : (vars : List Var) (variables : List Port) (first : Statement) (more items : List (After Statement)) (i : ℕ) (x : After Statement) → items ≡ more → x ≡ get_or items i x → i < length items → ((p : Put) → IsPut vars variables x.item p → ⊥) → (puts : List Put) → ArePaired (IsPut vars variables) (first ∷ map (λ a. a.item) more) puts → ⊥
no_puts vars variables first more items i x s e l none =
    none_behind (IsPut vars variables) first (map item_of more) i x.item x.item (statement_at more items i x s e) (within more items i s l) none

pub puts_next : (vars : List Var) (variables : List Port) (first : Statement) (more items : List (After Statement)) (i : ℕ) (x : After Statement) (puts : List Put) (p : Put) → items ≡ more → x ≡ get_or items i x → i < length items → ArePaired (IsPut vars variables) (first ∷ map (λ a. a.item) (take i more)) puts → IsPut vars variables x.item p → ArePaired (IsPut vars variables) (first ∷ map (λ a. a.item) (take (i + 1) more)) (puts ++ p ∷ [])
puts_next vars variables first more items i x puts p s e l h r =
    let before = subst (λ (z : List Statement). ArePaired (IsPut vars variables) (first ∷ z) puts) (sym (take-map item_of i more)) h in
    subst (λ (z : List Statement). ArePaired (IsPut vars variables) (first ∷ z) (puts ++ p ∷ [])) (take-map item_of (i + 1) more)
    (paired_next (IsPut vars variables) first (map item_of more) i x.item x.item puts p (statement_at more items i x s e) (within more items i s l) before r)

-- what a tree says, and what its device module says
pub device_from : (t : Tree) (p : DeviceProgram) (r : Result (Option Straight) Memory) → t ≡ trees.Device p → IfOk r (λ found. MatchOption found ((form : Straight) → IsStraightProgram p form → ⊥) (λ form. IsStraightProgram p form)) → IfOk r (λ found. MatchOption found ((form : Straight) → IsStraight t form → ⊥) (λ form. IsStraight t form))
device_from t p (Ok None) e h = λ form k.
    let same : k.program ≡ p = cc (sym k.device ∙ e) in
    h form (subst (λ (q : DeviceProgram). IsStraightProgram q form) same k.straight)
device_from t p (Ok (Some form)) e h = record { program = p; device = e; straight = h }
device_from t p (Err m) e h = h
