-- The scopes behind an item that opens or closes one.
use Rattle.std.specs.Prelude.{◌≡◌, ℕ, List, [], ◌∷◌, ◌++◌, length, Option, Some, None, option_to_list, IsSome}
use Rattle.std.proofs.Common.{ap, ◌∙◌, sym, arith, refl}
use Rattle.mc_prog.specs.Scopes.{outer, scopes_behind}
use Rattle.mc_resolve.specs.declared.item.ScopeKind.{ScopeKind}
use Rattle.mc_resolve.specs.declared.item.Note.{Note}
use Rattle.mc_resolve.specs.declared.item.Note.TheVariants as note
use Rattle.mc_resolve.specs.declared.scope.Scope.{Scope}
use Rattle.mc_resolve.specs.Around.{around}
use Rattle.mc_resolve.specs.Items.{item_of}
use Rattle.mc_resolve.proofs.Inside.{around-last}
use Rattle.mc_resolve.proofs.Found.{false-true}

pub opened : (n : Note) (k : ScopeKind) → n ≡ note.Opens k → (number : ℕ) (old new : List Scope) → new ≡ old ++ (record { kind = k; number = number } ∷ []) → around new ≡ scopes_behind number (item_of n) (around old)
opened n k h number old new e = ap around e ∙ around-last old (record { kind = k; number = number }) ∙ sym (ap (λ (x : Note). scopes_behind number (item_of x) (around old)) h)

pub last-away : (old new : List Scope) (r : Option Scope) → old ≡ new ++ option_to_list r → IsSome r → around new ≡ outer (around old)
last-away old new None e h = absurd (false-true h)
last-away old new (Some s) e h = sym (ap (λ ss. outer (around ss)) e ∙ ap outer (around-last new s))

pub none-open : (old : List Scope) → length old ≡ 0 → around old ≡ outer (around old)
none-open [] e = refl
none-open (s ∷ old) e = absurd (omega (arith, e))

pub closed : (n : Note) → n ≡ note.Closes → (number : ℕ) (old new : List Scope) → around new ≡ outer (around old) → around new ≡ scopes_behind number (item_of n) (around old)
closed n h number old new e = e ∙ sym (ap (λ (x : Note). scopes_behind number (item_of x) (around old)) h)
