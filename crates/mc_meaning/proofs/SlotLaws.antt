-- What a slot names in the last activation, which is numbered by how many stand below it.
use Rattle.std.specs.Prelude.{◌≡◌, ◌≤◌, ℕ, ◌-◌, List, ◌∷◌, length}
use Rattle.std.proofs.Common.{ap, ◌∙◌, sym, arith}
use Rattle.mc_meaning.specs.declared.process.Activation.{Activation}
use Rattle.mc_meaning.specs.declared.store.Name.TheVariants.{Private}
use Rattle.mc_meaning.specs.declared.store.Target.{Target}
use Rattle.mc_meaning.specs.declared.store.Target.TheVariants as target
use Rattle.mc_meaning.specs.Access.{reference_of, slot_target}

pub one-at-least : (depth : ℕ) (activations below : List Activation) (a : Activation) → activations ≡ a ∷ below → depth ≡ length activations → 1 ≤ depth
one-at-least depth activations below a front deep = omega (arith, deep, ap length front)

pub slot-named : (n slot depth : ℕ) (activations below : List Activation) (a : Activation) (there own : Target)
    → activations ≡ a ∷ below → depth ≡ length activations → own ≡ target.Stored (Private n (depth - 1) slot 0) → there ≡ reference_of a.references slot own
    → there ≡ slot_target n activations slot
slot-named n slot depth activations below a there own front deep named found =
    let number : depth - 1 ≡ length below = omega (arith, deep, ap length front) in
    found ∙ ap (λ (t : Target). reference_of a.references slot t) (named ∙ ap (λ (d : ℕ). target.Stored (Private n d slot 0)) number)
    ∙ sym (ap (λ (all : List Activation). slot_target n all slot) front)
