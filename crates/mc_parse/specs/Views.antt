-- What is read of a body, of arguments and of a block, from what their parts are.
use Rattle.std.specs.Prelude.{◌≡◌, ◌+◌, ℕ, suc, List, ◌∷◌, Option}
use Rattle.std.proofs.Common.{ap, ◌∙◌, sym, subst, arith}
use Rattle.mc_tree.specs.declared.place.Place.{Place}
use Rattle.mc_tree.specs.declared.token.Token.{Token}
use Rattle.mc_tree.specs.declared.expression.Args.{Args}
use Rattle.mc_tree.specs.declared.expression.Expr.{Expr}
use Rattle.mc_tree.specs.declared.expression.Selector.{Selector}
use Rattle.mc_tree.specs.declared.statement.Body.{Body}
use Rattle.mc_tree.specs.declared.statement.Statement.{Statement}
use Rattle.mc_tree.specs.declared.tree.After.{After}
use Rattle.mc_tree.specs.declared.tree.Begun.{Begun}
use Rattle.mc_tree.specs.declared.tree.Plain.{Plain}
use Rattle.mc_tree.specs.declared.tree.PlainPart.{PlainPart}
use Rattle.mc_tree.specs.declared.expression.Factor.TheViews.{out-Args, roll-Args, out-roll-Args}
use Rattle.mc_tree.specs.declared.statement.Statement.TheViews.{out-Body, roll-Body, out-roll-Body}
use Rattle.mc_tree.specs.declared.tree.Module.TheViews.{out-Plain, roll-Plain, out-roll-Plain}
use Rattle.mc_tree.specs.Grammar.{AssigningPhrase, PlainPartsPhrase, Sub, Stack}
use Rattle.mc_tree.specs.Phrases.{Trees}
use Rattle.mc_parse.specs.Reads.{reading, IsReadAs, IsReadUpTo}
use Rattle.mc_parse.specs.Decode.{mapped}
use Rattle.mc_parse.specs.Steps.{mapped-mapped}
use Rattle.mc_parse.specs.Slots.{args_ahead, IsArgsRead, body_ahead, IsBodyRead, plain_ahead, IsPlainRead, IsSelectorRead, IsTargetRead, target_of}

by_view : {R : Type 0} {r s : R} → r ≡ s → (P : R → Type 0) → P r → P s
by_view e P p = subst P e p

pub args_read : {end : Place} {d : ℕ} {ts others : List Token} (opening : Place) (first : Expr) (more : List (After Expr)) (closing : Place) (a : Args) → a ≡ roll-Args (record { opening = opening; first = first; more = more; closing = closing })
    → IsReadAs end (args_ahead d) ts (λ (stack : Stack) (ks : Trees stack). ((tt, opening), (first, (more, ((tt, closing), ks))))) others → IsArgsRead end d ts a others
args_read {end} {d} {ts} {others} opening first more closing a e r =
    by_view (sym (out-roll-Args (record { opening = opening; first = first; more = more; closing = closing })) ∙ ap out-Args (sym e))
    (λ v. IsReadAs end (args_ahead d) ts (λ (stack : Stack) (ks : Trees stack). ((tt, v.opening), (v.first, (v.more, ((tt, v.closing), ks))))) others) r

pub body_read : {end : Place} {d : ℕ} {ts others : List Token} (first : Statement) (more : List (After Statement)) (b : Body) → b ≡ roll-Body (record { first = first; more = more })
    → IsReadAs end (body_ahead d) ts (λ (stack : Stack) (ks : Trees stack). (first, (more, ks))) others → IsBodyRead end d ts b others
body_read {end} {d} {ts} {others} first more b e r =
    by_view (sym (out-roll-Body (record { first = first; more = more })) ∙ ap out-Body (sym e))
    (λ v. IsReadAs end (body_ahead d) ts (λ (stack : Stack) (ks : Trees stack). (v.first, (v.more, ks))) others) r

pub plain_read : {end : Place} {d : ℕ} {ts others : List Token} (parts : List PlainPart) (body : Option Begun) (b : Plain) → b ≡ roll-Plain (record { parts = parts; body = body })
    → IsReadAs end (plain_ahead d) ts (λ (stack : Stack) (ks : Trees stack). (parts, (body, ks))) others → IsPlainRead end d ts b others
plain_read {end} {d} {ts} {others} parts body b e r =
    by_view (sym (out-roll-Plain (record { parts = parts; body = body })) ∙ ap out-Plain (sym e))
    (λ v. IsReadAs end (plain_ahead d) ts (λ (stack : Stack) (ks : Trees stack). (v.parts, (v.body, ks))) others) r

pub selector_same : {end : Place} {d : ℕ} {ts others : List Token} {x y : Selector} → x ≡ y → IsSelectorRead end d ts x others → IsSelectorRead end d ts y others
selector_same {end} {d} {ts} {others} e r = subst (λ (s : Selector). IsSelectorRead end d ts s others) e r

-- these selectors stand in front of `:=`
target_deep : {end : Place} {inner d : ℕ} {ts : List Token} {selectors : List Selector} {others : List Token} → inner ≡ d + 1 → IsTargetRead end inner ts selectors others → IsTargetRead end (suc d) ts selectors others
target_deep {end} {inner} {d} {ts} {selectors} {others} e r = let same : inner ≡ suc d = omega arith in subst (λ (n : ℕ). IsTargetRead end n ts selectors others) same r

pub target_then : {C : Type 0} {end : Place} {inner : ℕ} (d : ℕ) {ts : List Token} {selectors : List Selector} {others : List Token} → inner ≡ d + 1 → IsTargetRead end inner ts selectors others → (stack : Stack) (k : Trees (Sub (suc d) AssigningPhrase ∷ stack) → C)
    → mapped k (reading end ts (Sub (suc d) AssigningPhrase ∷ stack)) ≡ mapped (λ (q : Trees (Sub (suc d) AssigningPhrase ∷ stack)). k (target_of selectors q.0, q.1)) (reading end others (Sub (suc d) AssigningPhrase ∷ stack))
target_then {C} {end} {inner} d {ts} {selectors} {others} e r stack k =
    ap (mapped k) ((target_deep e r).assigns.reads stack) ∙ mapped-mapped k (λ (q : Trees (Sub (suc d) AssigningPhrase ∷ stack)). (target_of selectors q.0, q.1)) (reading end others (Sub (suc d) AssigningPhrase ∷ stack))

-- a part of a block, however it is written
pub part_same : {end : Place} {d : ℕ} {ts others : List Token} {x y : PlainPart} → x ≡ y → IsReadUpTo end d PlainPartsPhrase ts (λ (more : List PlainPart). x ∷ more) others → IsReadUpTo end d PlainPartsPhrase ts (λ (more : List PlainPart). y ∷ more) others
part_same {end} {d} {ts} {others} e r = subst (λ (z : PlainPart). IsReadUpTo end d PlainPartsPhrase ts (λ (more : List PlainPart). z ∷ more) others) e r
