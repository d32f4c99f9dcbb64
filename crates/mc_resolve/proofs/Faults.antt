-- The first fault of an item.
use Rattle.std.specs.Prelude.{◌≡◌, ◌⊎◌, Option, Some, None}
use Rattle.std.specs.Borrow.{Bor}
use Rattle.std.proofs.Common.{sym, subst, refl, inr, ⊎_elim, arith}
use Rattle.mc_tree.specs.declared.fault.Fault.{Fault}
use Rattle.mc_tree.specs.declared.tree.Id.{Id}
use Rattle.mc_prog.specs.First.{IsNotAfter}
use Rattle.mc_prog.specs.Scopes.{Before, scopes, Named, innermost, outer, declared_by, IsFaultOf, IsUnknown, IsFurther, IsTwice, IsUnlisted}
use Rattle.mc_resolve.specs.declared.item.Note.{Note}
use Rattle.mc_resolve.specs.declared.item.Note.TheVariants as note
use Rattle.mc_resolve.specs.Items.{item_of}
use Rattle.mc_resolve.specs.Stands.{IsOnly, IsLeastOf, Stands}
use Rattle.mc_resolve.specs.Around.{around}
use Rattle.mc_resolve.specs.declared.resolver.Resolver.{Resolver}

-- the only fault is the first
pub only-least : (IsFault : Fault → Type 0) (o : Option Fault) → IsOnly IsFault o → IsLeastOf IsFault o
only-least IsFault None h = h
only-least IsFault (Some f) h = record { is_fault = h.0; first = λ g k. subst (λ (x : Fault). IsNotAfter f x) (sym (h.1 g k)) (inr (refl, omega arith)) }

-- of two kinds of faults one is missing
second-least : (P Q : Fault → Type 0) (o : Option Fault) → ((f : Fault) → P f → ⊥) → IsOnly Q o → IsLeastOf (λ f. P f ⊎ Q f) o
second-least P Q None p q = λ f k. ⊎_elim (p f) (q f) k
second-least P Q (Some f) p q = let least = only-least Q (Some f) q in record { is_fault = inr least.is_fault; first = λ g k. ⊎_elim (λ a. absurd (p g a)) (λ a. least.first g a) k }

pub uses-least : (before : Before) (n : Note) (name : Bor Id) → n ≡ note.Uses name → (o : Option Fault) → IsOnly (λ (f : Fault). IsUnknown before (scopes before) name.now f ⊎ IsFurther before (scopes before) name.now f) o → IsLeastOf (IsFaultOf before (scopes before) (item_of n)) o
uses-least before n name e o h = subst (λ (x : Note). IsLeastOf (IsFaultOf before (scopes before) (item_of x)) o) (sym e) (only-least (λ (f : Fault). IsUnknown before (scopes before) name.now f ⊎ IsFurther before (scopes before) name.now f) o h)

-- Where a name of a use list is known around its module, only its declaration can be at fault.
pub lists-least : (before : Before) (n : Note) (name : Bor Id) → n ≡ note.Lists name → (r : Resolver) → Stands before r → (o : Option Fault)
    → IsOnly (IsUnlisted before (innermost (outer (around r.scopes.items))) name.now) None
    → (declared : Option Named) → declared ≡ declared_by (item_of n) (around r.scopes.items) → IsOnly (IsTwice before declared) o → IsLeastOf (IsFaultOf before (scopes before) (item_of n)) o
lists-least before n name e r st o unlisted declared d h =
    let same = st.scopes_are in
    let listed : IsOnly (IsUnlisted before (innermost (outer (scopes before))) name.now) None = subst (λ a. IsOnly (IsUnlisted before (innermost (outer a)) name.now) None) same unlisted in
    let twice : IsOnly (IsTwice before (declared_by (item_of n) (scopes before))) o = subst (λ a. IsOnly (IsTwice before (declared_by (item_of n) a)) o) same (subst (λ (m : Option Named). IsOnly (IsTwice before m) o) d h) in
    subst (λ (x : Note). IsLeastOf (IsFaultOf before (scopes before) (item_of x)) o) (sym e)
    (second-least (IsUnlisted before (innermost (outer (scopes before))) name.now) (IsTwice before (declared_by (item_of (note.Lists name)) (scopes before))) o listed
    (subst (λ (x : Note). IsOnly (IsTwice before (declared_by (item_of x) (scopes before))) o) e twice))
