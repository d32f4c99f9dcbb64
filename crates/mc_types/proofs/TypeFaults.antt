-- The first fault of all rules is the first type fault: Y1 gives way to the other codes at its place.
use Rattle.std.specs.Prelude.{◌≡◌, ◌⊎◌, ◌≤◌, ◌<◌, List}
use Rattle.std.proofs.Common.{ap, sym, subst, refl, inl, inr, arith}
use Rattle.mc_tree.specs.declared.place.Place.{Place}
use Rattle.mc_tree.specs.declared.fault.Code.{Code}
use Rattle.mc_tree.specs.declared.fault.Code.TheVariants as code
use Rattle.mc_tree.specs.declared.fault.Fault.{Fault}
use Rattle.mc_tree.specs.declared.tree.Tree.{Tree}
use Rattle.mc_prog.specs.declared.scoped.Naming.{Naming}
use Rattle.mc_prog.specs.First.{IsEarlier, IsFirst, IsNotAfter, number_of}
use Rattle.mc_prog.specs.Resolved.{HasRuleFault, IsTypeFault}
use Rattle.mc_types.specs.Ranks.{ComesFirst, IsFirstFault, rank}

-- whether a code is Y1, and its rank
y1-or : (c : Code) → (c ≡ code.Y1) ⊎ ((rank c ≡ number_of c) × (rank c < 29) × (c ≡ code.Y1 → ⊥))
y1-or code.BadByte = inr (refl, omega arith, λ e. absurd (omega (arith, ap number_of e)))
y1-or code.NumberTooLarge = inr (refl, omega arith, λ e. absurd (omega (arith, ap number_of e)))
y1-or code.OpenComment = inr (refl, omega arith, λ e. absurd (omega (arith, ap number_of e)))
y1-or code.OpenText = inr (refl, omega arith, λ e. absurd (omega (arith, ap number_of e)))
y1-or code.Unexpected = inr (refl, omega arith, λ e. absurd (omega (arith, ap number_of e)))
y1-or code.TooDeep = inr (refl, omega arith, λ e. absurd (omega (arith, ap number_of e)))
y1-or code.S1 = inr (refl, omega arith, λ e. absurd (omega (arith, ap number_of e)))
y1-or code.S2 = inr (refl, omega arith, λ e. absurd (omega (arith, ap number_of e)))
y1-or code.S3 = inr (refl, omega arith, λ e. absurd (omega (arith, ap number_of e)))
y1-or code.S4 = inr (refl, omega arith, λ e. absurd (omega (arith, ap number_of e)))
y1-or code.S5 = inr (refl, omega arith, λ e. absurd (omega (arith, ap number_of e)))
y1-or code.Y1 = inl refl
y1-or code.Y2 = inr (refl, omega arith, λ e. absurd (omega (arith, ap number_of e)))
y1-or code.Y3 = inr (refl, omega arith, λ e. absurd (omega (arith, ap number_of e)))
y1-or code.Y4 = inr (refl, omega arith, λ e. absurd (omega (arith, ap number_of e)))
y1-or code.Y5 = inr (refl, omega arith, λ e. absurd (omega (arith, ap number_of e)))
y1-or code.Y6 = inr (refl, omega arith, λ e. absurd (omega (arith, ap number_of e)))
y1-or code.Y7 = inr (refl, omega arith, λ e. absurd (omega (arith, ap number_of e)))
y1-or code.Y8 = inr (refl, omega arith, λ e. absurd (omega (arith, ap number_of e)))
y1-or code.M1 = inr (refl, omega arith, λ e. absurd (omega (arith, ap number_of e)))
y1-or code.M2 = inr (refl, omega arith, λ e. absurd (omega (arith, ap number_of e)))
y1-or code.M3 = inr (refl, omega arith, λ e. absurd (omega (arith, ap number_of e)))
y1-or code.M4 = inr (refl, omega arith, λ e. absurd (omega (arith, ap number_of e)))
y1-or code.M5 = inr (refl, omega arith, λ e. absurd (omega (arith, ap number_of e)))
y1-or code.M6 = inr (refl, omega arith, λ e. absurd (omega (arith, ap number_of e)))
y1-or code.M7 = inr (refl, omega arith, λ e. absurd (omega (arith, ap number_of e)))
y1-or code.M8 = inr (refl, omega arith, λ e. absurd (omega (arith, ap number_of e)))
y1-or code.M9 = inr (refl, omega arith, λ e. absurd (omega (arith, ap number_of e)))
y1-or code.M10 = inr (refl, omega arith, λ e. absurd (omega (arith, ap number_of e)))

not-earlier : (p q : Place) → p ≡ q → IsEarlier p q → ⊥
not-earlier p q e k = by (subst (λ (r : Place). IsEarlier p r) (sym e) k)
  where
    by : IsEarlier p p → ⊥
    by (inl l) = absurd (omega (arith, l))
    by (inr l) = absurd (omega (arith, l.1))

pub first-type-fault : (tree : Tree) (names : List Naming) (f : Fault) → IsFirstFault (HasRuleFault tree names) f → IsFirst (IsTypeFault tree names) f
first-type-fault tree names f h = record {
  is_fault = record { is_fault = h.is_fault; alone = λ y1 g k same. alone y1 g (h.first g k) same };
  first = λ g k. first g k (h.first g k.is_fault);
}
  where
    last : (c : Code) → 29 ≤ rank c → c ≡ code.Y1
    last c l = by (y1-or c)
      where
        by : (c ≡ code.Y1) ⊎ ((rank c ≡ number_of c) × (rank c < 29) × (c ≡ code.Y1 → ⊥)) → c ≡ code.Y1
        by (inl e) = e
        by (inr n) = absurd (omega (arith, l, n.1))

    alone : f.code ≡ code.Y1 → (g : Fault) → ComesFirst f g → g.place ≡ f.place → g.code ≡ code.Y1
    alone y1 g (inl e) same = absurd (not-earlier f.place g.place (sym same) e)
    alone y1 g (inr e) same = last g.code (omega (arith, e.1, ap rank y1))

    numbers : (g : Fault) → IsTypeFault tree names g → f.place ≡ g.place → rank f.code ≤ rank g.code
        → (f.code ≡ code.Y1) ⊎ ((rank f.code ≡ number_of f.code) × (rank f.code < 29) × (f.code ≡ code.Y1 → ⊥))
        → (g.code ≡ code.Y1) ⊎ ((rank g.code ≡ number_of g.code) × (rank g.code < 29) × (g.code ≡ code.Y1 → ⊥))
        → number_of f.code ≤ number_of g.code
    numbers g k same l (inl e) (inl d) = omega (arith, ap number_of e, ap number_of d)
    numbers g k same l (inl e) (inr d) = absurd (omega (arith, l, ap rank e, d.1))
    numbers g k same l (inr e) (inl d) = absurd (e.2 (k.alone d f h.is_fault same))
    numbers g k same l (inr e) (inr d) = omega (arith, l, e.0, d.0)

    first : (g : Fault) → IsTypeFault tree names g → ComesFirst f g → IsNotAfter f g
    first g k (inl e) = inl e
    first g k (inr e) = inr (e.0, numbers g k e.0 e.1 (y1-or f.code) (y1-or g.code))

-- no fault of a rule is no type fault
pub no-type-fault : (tree : Tree) (names : List Naming) → ((f : Fault) → HasRuleFault tree names f → ⊥) → (f : Fault) → IsTypeFault tree names f → ⊥
no-type-fault tree names h f k = h f k.is_fault
