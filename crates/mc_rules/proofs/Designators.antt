-- The variable of a designator, one step after the other.
use Rattle.std.specs.Prelude.{◌≡◌, ◌↔◌, ℕ, ◌<◌, nat_lt, List, [], ◌∷◌, Option, Some, None, Bool, true, false, if◌then◌else◌, option_and_then, slice_get}
use Rattle.std.proofs.Common.{sym, ◌∙◌, ap, subst, refl}
use Rattle.std.proofs.lemmas.Bool.{ltb-true, lt-ltb, false≢true}
use Rattle.std.proofs.lemmas.Option.{none-some, same_Some}
use Rattle.mc_prog.specs.declared.program.Form.{Form}
use Rattle.mc_prog.specs.declared.program.Form.TheVariants as form
use Rattle.mc_prog.specs.declared.program.Node.{Node}
use Rattle.mc_rules.specs.Calls.{is_selection, Selects, IsOfVariable}
use Rattle.mc_rules.specs.Gathering.{ahead, front_by, front_at, cell_of, cell_at}

-- A node selects from another, in front of it.
record IsFront (nodes : List Node) (n front : ℕ) : Type 0 where
  pub node : Node
  pub others : List ℕ
  pub is : slice_get nodes n ≡ Some node
  pub selects : is_selection node.form ≡ true
  pub parts_are : node.parts ≡ front ∷ others
  pub less : front < n

test-true : (b : Bool) (x front : ℕ) → (if b then Some x else None) ≡ Some front → (b ≡ true) × (x ≡ front)
test-true true x front e = (refl, same_Some x front e)
test-true false x front e = absurd (none-some front e)

ahead-by : (n front : ℕ) (parts : List ℕ) → ahead n parts ≡ Some front → (others : List ℕ) × (parts ≡ front ∷ others) × (front < n)
ahead-by n front [] e = absurd (none-some front e)
ahead-by n front (x ∷ others) e =
    let t = test-true (nat_lt x n) x front e in
    (others, ap (λ (y : ℕ). y ∷ others) t.1, subst (λ (y : ℕ). y < n) t.1 (ltb-true x n t.0))

chosen : (b : Bool) (o : Option ℕ) (front : ℕ) → (if b then o else None) ≡ Some front → (b ≡ true) × (o ≡ Some front)
chosen true o front e = (refl, e)
chosen false o front e = absurd (none-some front e)

front-in : (nodes : List Node) (n front : ℕ) (o : Option Node) → slice_get nodes n ≡ o → option_and_then (front_by n) o ≡ Some front → IsFront nodes n front
front-in nodes n front None is e = absurd (none-some front e)
front-in nodes n front (Some node) is e =
    let t = chosen (is_selection node.form) (ahead n node.parts) front e in
    let a = ahead-by n front node.parts t.1 in
    record { node = node; others = a.0; is = is; selects = t.0; parts_are = a.1; less = a.2 }

front-is : (nodes : List Node) (n front : ℕ) → front_at nodes n ≡ Some front → IsFront nodes n front
front-is nodes n front e = front-in nodes n front (slice_get nodes n) refl e

is-front : (nodes : List Node) (n front : ℕ) (node : Node) (others : List ℕ) → slice_get nodes n ≡ Some node → is_selection node.form ≡ true → node.parts ≡ front ∷ others → front < n
    → front_at nodes n ≡ Some front
is-front nodes n front node others is selects parts_are less =
    ap (λ (o : Option Node). option_and_then (front_by n) o) is
    ∙ ap (λ (b : Bool). if b then ahead n node.parts else None) selects
    ∙ ap (λ (l : List ℕ). ahead n l) parts_are
    ∙ ap (λ (b : Bool). if b then Some front else None) (lt-ltb front n less)

pub front-less : (nodes : List Node) (n front : ℕ) → front_at nodes n ≡ Some front → front < n
front-less nodes n front e = (front-is nodes n front e).less

head-same : (x y : ℕ) (xs ys : List ℕ) → x ∷ xs ≡ y ∷ ys → x ≡ y
head-same x y xs ys e = cc

no-selection : (f : Form) (cell : ℕ) → is_selection f ≡ true → f ≡ form.Cell cell → ⊥
no-selection f cell selects e = false≢true (sym (ap is_selection e) ∙ selects)

back : (nodes : List Node) (n front cell : ℕ) → IsFront nodes n front → (path : List ℕ) → Selects nodes n path cell → IsOfVariable nodes front cell
back nodes n front cell h [] s =
    let same : s.0 ≡ h.node = same_Some s.0 h.node (sym s.1.0 ∙ h.is) in
    absurd (no-selection h.node.form cell h.selects (sym (ap (λ (k : Node). k.form) same) ∙ s.1.1))
back nodes n front cell h (x ∷ path) s =
    let same : s.0 ≡ h.node = same_Some s.0 h.node (sym s.2.0 ∙ h.is) in
    let first : x ≡ front = head-same x front s.1 h.others (sym s.2.2 ∙ ap (λ (k : Node). k.parts) same ∙ h.parts_are) in
    (path, subst (λ (k : ℕ). Selects nodes k path cell) first s.2.4)

-- What selects from a node is of its variable.
pub front-same : (nodes : List Node) (n front : ℕ) → front_at nodes n ≡ Some front → (cell : ℕ) → IsOfVariable nodes n cell ↔ IsOfVariable nodes front cell
front-same nodes n front e cell =
    let h : IsFront nodes n front = front-is nodes n front e in (
      λ v. back nodes n front cell h v.0 v.1,
      λ v. (front ∷ v.0, (h.node, h.others, (h.is, h.selects, h.parts_are, h.less, v.1))),
    )

cell-by : (f : Form) (cell : ℕ) → cell_of f ≡ Some cell → f ≡ form.Cell cell
cell-by (form.Cell k) cell e = ap (λ (i : ℕ). form.Cell i) (same_Some k cell e)
cell-by other cell e = absurd (none-some cell e)

cell-in : (nodes : List Node) (n cell : ℕ) (o : Option Node) → slice_get nodes n ≡ o → option_and_then (λ (k : Node). cell_of k.form) o ≡ Some cell → IsOfVariable nodes n cell
cell-in nodes n cell None is e = absurd (none-some cell e)
cell-in nodes n cell (Some node) is e = ([], (node, (is, cell-by node.form cell e)))

cell-from : (nodes : List Node) (n cell : ℕ) → front_at nodes n ≡ None → (path : List ℕ) → Selects nodes n path cell → cell_at nodes n ≡ Some cell
cell-from nodes n cell none [] s = ap (λ (o : Option Node). option_and_then (λ (k : Node). cell_of k.form) o) s.1.0 ∙ ap cell_of s.1.1
cell-from nodes n cell none (x ∷ path) s = absurd (none-some x (sym none ∙ is-front nodes n x s.0 s.1 s.2.0 s.2.1 s.2.2 s.2.3))

-- the variable of a node that selects from no other
pub front-none : (nodes : List Node) (n : ℕ) → front_at nodes n ≡ None → (cell : ℕ) → IsOfVariable nodes n cell ↔ (cell_at nodes n ≡ Some cell)
front-none nodes n e cell = (λ v. cell-from nodes n cell e v.0 v.1, λ k. cell-in nodes n cell (slice_get nodes n) refl k)
