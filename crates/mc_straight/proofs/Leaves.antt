-- What the nodes of one leaf force of their parts, and the other way round.
use Rattle.std.proofs.Common.{◌≡◌, ℕ, List, [], Option, Some, None, refl, sym, ap, ◌∙◌, subst}
use Rattle.std.specs.Prelude.{true, false, is_some}
use Rattle.mc_tree.specs.declared.place.Place.{Place}
use Rattle.mc_tree.specs.declared.tree.Id.{Id}
use Rattle.mc_tree.specs.declared.expression.Designator.{Designator}
use Rattle.mc_tree.specs.declared.expression.Selector.{Selector}
use Rattle.mc_tree.specs.declared.expression.Expr.{Expr}
use Rattle.mc_tree.specs.declared.expression.Compared.{Compared}
use Rattle.mc_tree.specs.declared.expression.Sign.{Sign}
use Rattle.mc_tree.specs.declared.expression.AddedTerm.{AddedTerm}
use Rattle.mc_tree.specs.declared.expression.MultipliedFactor.{MultipliedFactor}
use Rattle.mc_tree.specs.declared.expression.Simple.{Simple}
use Rattle.mc_tree.specs.declared.expression.Term.{Term}
use Rattle.mc_tree.specs.declared.expression.Factor.{Factor}
use Rattle.mc_tree.specs.declared.expression.Factor.TheVariants.{Number, Character}
use Rattle.mc_tree.specs.declared.expression.Factor.TheViews.{roll-Designator, roll-Factor, roll-Term, out-Term, roll-out-Term, out-roll-Term, roll-Simple, out-Simple, roll-out-Simple, out-roll-Simple, roll-Expr, out-Expr, roll-out-Expr, out-roll-Expr}
use Rattle.mc_tree.specs.declared.statement.Statement.{Statement}
use Rattle.mc_tree.specs.declared.statement.Statement.TheVariants.{Assignment}
use Rattle.mc_tree.specs.declared.statement.Statement.TheOpen.{Statement-F}
use Rattle.mc_tree.specs.declared.statement.Statement.TheViews.{roll-Statement}
use Rattle.mc_straight.specs.Alone.{IsAssigned, IsCharacter, IsNumber, term_of, simple_of, expr_of, number_factor, character_factor, named}

-- the parts of an expression's one factor

abbrev pub sum : Expr → Simple
sum e = (out-Expr e).left

abbrev pub product : Expr → Term
product e = (out-Simple (sum e)).first

abbrev pub leaf : Expr → Factor
leaf e = (out-Term (product e)).first

sum-expr_of : (f : Factor) → sum (expr_of f) ≡ simple_of f
unfolding expr_of
sum-expr_of f = ap (λ r. r.left) (out-roll-Expr (record { left = simple_of f; compared = None }))

out-simple_of : (f : Factor) → out-Simple (simple_of f) ≡ record { sign = None; first = term_of f; more = [] }
unfolding simple_of
out-simple_of f = out-roll-Simple (record { sign = None; first = term_of f; more = [] })

product-expr_of : (f : Factor) → product (expr_of f) ≡ term_of f
product-expr_of f = ap (λ s. (out-Simple s).first) (sum-expr_of f) ∙ ap (λ r. r.first) (out-simple_of f)

out-term_of : (f : Factor) → out-Term (term_of f) ≡ record { first = f; more = [] }
unfolding term_of
out-term_of f = out-roll-Term (record { first = f; more = [] })

compared-expr_of : (f : Factor) → (out-Expr (expr_of f)).compared ≡ None
unfolding expr_of
compared-expr_of f = ap (λ r. r.compared) (out-roll-Expr (record { left = simple_of f; compared = None }))

sign-expr_of : (f : Factor) → (out-Simple (sum (expr_of f))).sign ≡ None
sign-expr_of f = ap (λ s. (out-Simple s).sign) (sum-expr_of f) ∙ ap (λ r. r.sign) (out-simple_of f)

terms-expr_of : (f : Factor) → (out-Simple (sum (expr_of f))).more ≡ []
terms-expr_of f = ap (λ s. (out-Simple s).more) (sum-expr_of f) ∙ ap (λ r. r.more) (out-simple_of f)

factors-expr_of : (f : Factor) → (out-Term (product (expr_of f))).more ≡ []
factors-expr_of f = ap (λ t. (out-Term t).more) (product-expr_of f) ∙ ap (λ r. r.more) (out-term_of f)

pub leaf-expr_of : (f : Factor) → leaf (expr_of f) ≡ f
leaf-expr_of f = ap (λ t. (out-Term t).first) (product-expr_of f) ∙ ap (λ r. r.first) (out-term_of f)

made_term : (first : Factor) (more : List MultipliedFactor) → more ≡ [] → roll-Term (record { first = first; more = more }) ≡ term_of first
unfolding term_of
made_term first more e = ap (λ m. roll-Term (record { first = first; more = m })) e

made_simple : (sign : Option (Sign × Place)) (first : Term) (more : List AddedTerm) (f : Factor) → sign ≡ None → first ≡ term_of f → more ≡ [] → roll-Simple (record { sign = sign; first = first; more = more }) ≡ simple_of f
unfolding simple_of
made_simple sign first more f s t m = cc (s, t, m)

made_expr : (left : Simple) (compared : Option Compared) (f : Factor) → left ≡ simple_of f → compared ≡ None → roll-Expr (record { left = left; compared = compared }) ≡ expr_of f
unfolding expr_of
made_expr left compared f l c = cc (l, c)

pub is_expr_of : (e : Expr) → (out-Expr e).compared ≡ None → (out-Simple (sum e)).sign ≡ None → (out-Simple (sum e)).more ≡ [] → (out-Term (product e)).more ≡ [] → e ≡ expr_of (leaf e)
is_expr_of e c s m n =
    let t = sym (roll-out-Term (product e)) ∙ made_term (leaf e) (out-Term (product e)).more n in
    let l = sym (roll-out-Simple (sum e)) ∙ made_simple (out-Simple (sum e)).sign (product e) (out-Simple (sum e)).more (leaf e) s t m in
    sym (roll-out-Expr e) ∙ made_expr (sum e) (out-Expr e).compared (leaf e) l c

pub no_compared : (e : Expr) (f : Factor) → e ≡ expr_of f → (out-Expr e).compared ≡ None
no_compared e f h = ap (λ x. (out-Expr x).compared) h ∙ compared-expr_of f

pub no_sign : (e : Expr) (f : Factor) → e ≡ expr_of f → (out-Simple (sum e)).sign ≡ None
no_sign e f h = ap (λ x. (out-Simple (sum x)).sign) h ∙ sign-expr_of f

pub no_terms : (e : Expr) (f : Factor) → e ≡ expr_of f → (out-Simple (sum e)).more ≡ []
no_terms e f h = ap (λ x. (out-Simple (sum x)).more) h ∙ terms-expr_of f

pub no_factors : (e : Expr) (f : Factor) → e ≡ expr_of f → (out-Term (product e)).more ≡ []
no_factors e f h = ap (λ x. (out-Term (product x)).more) h ∙ factors-expr_of f

pub same_leaf : (f g : Factor) → expr_of f ≡ expr_of g → f ≡ g
same_leaf f g h = sym (leaf-expr_of f) ∙ ap leaf h ∙ leaf-expr_of g

pub nothing : {A : Type 0} (o : Option A) → false ≡ is_some o → o ≡ None
nothing None e = refl
nothing (Some x) e = cc

pub something : {A : Type 0} (o : Option A) → true ≡ is_some o → o ≡ None → ⊥
something None e h = cc
something (Some x) e h = cc

pub true_number : (n : ℕ) (place : Place) → Number n place ≡ number_factor n place
unfolding number_factor roll-Factor denote.Hole.Carrier.roll
true_number n place = refl

pub true_character : (b : ℕ) (place : Place) → Character b place ≡ character_factor b place
unfolding character_factor roll-Factor denote.Hole.Carrier.roll
true_character b place = refl

pub is_number : (e : Expr) (f : Factor) (n : ℕ) (place : Place) → e ≡ expr_of f → f ≡ Number n place → IsNumber e n
is_number e f n place h k = record { place = place; is = h ∙ ap expr_of (k ∙ true_number n place) }

pub no_number : (e : Expr) (f : Factor) (n : ℕ) → e ≡ expr_of f → ((n : ℕ) (place : Place) → f ≡ Number n place → ⊥) → IsNumber e n → ⊥
no_number e f n h none k = none n k.place (same_leaf f (number_factor n k.place) (sym h ∙ k.is) ∙ sym (true_number n k.place))

pub is_character : (e : Expr) (f : Factor) (byte : ℕ) (place : Place) → e ≡ expr_of f → f ≡ Character byte place → IsCharacter e byte
is_character e f byte place h k = record { place = place; is = h ∙ ap expr_of (k ∙ true_character byte place) }

pub no_character : (e : Expr) (f : Factor) (byte : ℕ) → e ≡ expr_of f → ((byte : ℕ) (place : Place) → f ≡ Character byte place → ⊥) → IsCharacter e byte → ⊥
no_character e f byte h none k = none byte k.place (same_leaf f (character_factor byte k.place) (sym h ∙ k.is) ∙ sym (true_character byte k.place))

pub is_named : (x : Designator) → x.selectors ≡ [] → x ≡ named x.name
unfolding named
is_named x h = ap (λ (s : List Selector). roll-Designator (record { name = x.name; selectors = s })) h

pub no_selectors : (x : Designator) (id : Id) → x ≡ named id → x.selectors ≡ []
unfolding named
no_selectors x id h = ap (λ (y : Designator). y.selectors) h

true_assignment : (target : Designator) (becomes : Place) (value : Expr) → roll-Statement (Statement-F.Assignment target becomes value) ≡ Assignment target becomes value
unfolding roll-Statement denote.Hole.Carrier.roll
true_assignment target becomes value = refl

same_value : (target other : Designator) (becomes place : Place) (value v : Expr) → Assignment target becomes value ≡ Assignment other place v → value ≡ v
same_value target other becomes place value v e = cc

pub no_assigned : (s : Statement) (target : Designator) (becomes : Place) (value : Expr) → s ≡ Assignment target becomes value → ((byte : ℕ) → IsCharacter value byte → ⊥) → (id : Id) (byte : ℕ) → IsAssigned s id byte → ⊥
no_assigned s target becomes value h none id byte k =
    let same = same_value (named id) target k.becomes becomes k.value value (sym (true_assignment (named id) k.becomes k.value) ∙ sym k.is ∙ h) in
    none byte (subst (λ (e : Expr). IsCharacter e byte) same k.character)

same_factor : (e : Expr) (f g : Factor) → e ≡ expr_of f → e ≡ expr_of g → f ≡ g
same_factor e f g h k = same_leaf f g (sym h ∙ k)

injective_number : (m n : ℕ) (p q : Place) → Number m p ≡ Number n q → m ≡ n
injective_number m n p q e = cc

injective_character : (m n : ℕ) (p q : Place) → Character m p ≡ Character n q → m ≡ n
injective_character m n p q e = cc

pub same_number : (e : Expr) (m n : ℕ) → IsNumber e m → IsNumber e n → m ≡ n
same_number e m n h k = injective_number m n h.place k.place (true_number m h.place ∙ same_factor e _ _ h.is k.is ∙ sym (true_number n k.place))

same_character : (e : Expr) (m n : ℕ) → IsCharacter e m → IsCharacter e n → m ≡ n
same_character e m n h k = injective_character m n h.place k.place (true_character m h.place ∙ same_factor e _ _ h.is k.is ∙ sym (true_character n k.place))

same_target : (target other : Designator) (becomes place : Place) (value v : Expr) → Assignment target becomes value ≡ Assignment other place v → target ≡ other
same_target target other becomes place value v e = cc

same_id : (i j : Id) → named i ≡ named j → i ≡ j
unfolding named
same_id i j e = ap (λ (x : Designator). x.name) e

same_assignment : (s : Statement) (i j : Id) (b c : ℕ) (h : IsAssigned s i b) (k : IsAssigned s j c) → Assignment (named i) h.becomes h.value ≡ Assignment (named j) k.becomes k.value
same_assignment s i j b c h k = sym (true_assignment (named i) h.becomes h.value) ∙ sym h.is ∙ k.is ∙ true_assignment (named j) k.becomes k.value

pub same_name : (s : Statement) (i j : Id) (b c : ℕ) → IsAssigned s i b → IsAssigned s j c → i ≡ j
same_name s i j b c h k = same_id i j (same_target _ _ _ _ _ _ (same_assignment s i j b c h k))
