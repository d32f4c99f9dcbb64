-- The opening keeps what steps of accepted programs keep.
use Rattle.std.specs.Prelude.{◌≡◌, ℕ, zero, suc, [], ◌∷◌, Some, None, slice_get, refl}
use Rattle.std.specs.List.{Contains}
use Rattle.std.proofs.Common.{subst, arith, inl}
use Rattle.std.proofs.lemmas.Option.{none-some}
use Rattle.mc_prog.specs.Resolved.{Resolved}
use Rattle.mc_meaning.specs.declared.process.State.TheVariants.{Acting}
use Rattle.mc_meaning.specs.Configuration.{ProcessState, main_process, opening}
use Rattle.mc_meaning.specs.Room.{Exclusive, HasItsPriority, IsDriverKind, IsOneThat, IsPlaced, IsRunning, Keeps, as_foot, as_member}

-- an empty list has nothing, and a list of none has no module
empty : {X : Type 0} (x : X) → Contains {X = X} [] x → ⊥
empty x has = omega (arith, has.1)

no_module : (m : ℕ) → Contains (None ∷ []) (Some m) → ⊥
no_module m (zero, below, is) = none-some _ is
no_module m (suc k, below, is) = omega (arith, below)

-- the main process at opening is inside no module
outside : (p : Resolved) (m n : ℕ) → IsRunning m (slice_get (main_process p ∷ []) n) → ⊥
outside p m zero runs = no_module m runs
outside p m (suc n) runs = runs

opening-exclusive : (p : Resolved) → Exclusive p (opening p)
opening-exclusive p m n k exclusive (as_foot foot first runs) other = absurd (outside p m n runs)
opening-exclusive p m n k exclusive (as_member member runs) other = absurd (outside p m n runs)

opening-placed : (p : Resolved) (n : ℕ) (q : ProcessState) → slice_get (main_process p ∷ []) n ≡ Some q → IsPlaced (opening p) n q q.standing.state
opening-placed p zero q is =
    let same : main_process p ≡ q = cc in
    subst (λ (r : ProcessState). IsPlaced (opening p) 0 r r.standing.state) same (inl (refl, λ d. d, empty 0, empty 0))
opening-placed p (suc n) q is = absurd (none-some _ is)

opening-priority : (p : Resolved) (n : ℕ) (q : ProcessState) → slice_get (main_process p ∷ []) n ≡ Some q → HasItsPriority p q
opening-priority p zero q is =
    let same : main_process p ≡ q = cc in
    subst (λ (r : ProcessState). HasItsPriority p r) same (record { inside = λ m has. absurd (no_module has.number has.runs); outside = λ none. refl })
opening-priority p (suc n) q is = absurd (none-some _ is)

acts : (p : Resolved) (n : ℕ) → Some 0 ≡ Some n → IsOneThat (λ q. (q.standing.state ≡ Acting) × (IsDriverKind q.standing.kind → ⊥)) (slice_get (main_process p ∷ []) n)
acts p n e =
    let zeroth : 0 ≡ n = cc in
    subst (λ (k : ℕ). IsOneThat (λ q. (q.standing.state ≡ Acting) × (IsDriverKind q.standing.kind → ⊥)) (slice_get (main_process p ∷ []) k)) zeroth (refl, λ d. d)

-- at opening the main process alone is there, is the foot, and is inside no module
pub opening-keeps : (p : Resolved) → Keeps p (opening p)
opening-keeps p = record {
  exclusive = opening-exclusive p;
  placed = opening-placed p;
  processes = record { foot = acts p; nest = λ n has. absurd (empty n has); waiters = λ n has. absurd (empty n has) };
  once = (tt, tt);
  nested = tt;
  above = tt;
  priorities = opening-priority p;
}
