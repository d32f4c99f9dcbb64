-- A simulation step by step gives a tracking of every run.
use Rattle.std.specs.Prelude.{◌≡◌, ℕ, ◌+◌, List, [], ◌∷◌, ◌++◌, refl}
use Rattle.std.proofs.Common.{sym, ap, ◌∙◌, subst, arith}
use Rattle.tracking.specs.Runs.{after, IsRunOf, after-append, IsRunOf-append}
use Rattle.tracking.specs.Tracking.{Tracking}
use Rattle.tracking.specs.Follow.{AllAllowed, Follows, tracking}

-- the sum of what each step counts for
abbrev pub total : {Y : Type 0} → (Y → ℕ) → List Y → ℕ
total count [] = 0
total count (y ∷ ys) = count y + total count ys

pub total-append : {Y : Type 0} (count : Y → ℕ) (xs ys : List Y) → total count (xs ++ ys) ≡ total count xs + total count ys
total-append count [] ys = omega arith
total-append count (x ∷ xs) ys = omega (arith, total-append count xs ys)

-- facts that follow from others hold along the same run
pub weaker : {L U : Type 0} (F G : List L → List U → Type 0) (lows : List L) → ((done : List L) (ups : List U) → F done ups → G done ups) → Tracking F lows → Tracking G lows
weaker F G lows f t =
    record { run = t.run; position = t.position; starts = t.starts; ends = t.ends; rises = t.rises; facts = λ k h. f _ _ (t.facts k h) }

-- a lower machine with its steps, an upper one with its own, what a step of the upper one counts for, and a relation of
-- a lower state, an upper state and the count of the upper steps so far
module _ {S X C Y : Type 0} (step : S → X → S) (IsPossible : S → X → Type 0) (act : C → Y → C) (IsStep : C → Y → Type 0) (count : Y → ℕ) (IsRelated : S → C → ℕ → Type 0) where
  -- some steps of the upper machine lead to a state that is related to this lower one
  abbrev pub Catches : S → C → ℕ → Type 0
  Catches s c n = (more : List Y) × (IsRunOf act IsStep c more × IsRelated s (after act c more) (n + total count more))

  -- each step of the lower machine is followed
  abbrev pub Simulates : Type 0
  Simulates = (s : S) (c : C) (n : ℕ) (x : X) → IsRelated s c n → IsPossible s x → Catches (step s x) c n

  -- after these steps of the lower machine the upper one has made a run that leads to a related state
  pub record Simulated (s0 : S) (c0 : C) (lows : List X) (ups : List Y) : Type 0 where
    pub is_run : IsRunOf act IsStep c0 ups
    pub related : IsRelated (after step s0 lows) (after act c0 ups) (total count ups)

  abbrev Allowed : S → List X → X → Type 0
  Allowed s0 done x = IsPossible (after step s0 done) x

  allowed : (s0 : S) (c0 : C) (rest done : List X) (s : S) → after step s0 done ≡ s → IsRunOf step IsPossible s rest → AllAllowed (Simulated s0 c0) (Allowed s0) done rest
  allowed s0 c0 [] done s e h = tt
  allowed s0 c0 (x ∷ rest) done s e h =
      (subst (λ (s' : S). IsPossible s' x) (sym e) h.0, allowed s0 c0 rest (done ++ x ∷ []) (step s x) (after-append step s0 done (x ∷ []) ∙ ap (λ (s' : S). step s' x) e) h.1)

  follows : (s0 : S) (c0 : C) → Simulates → Follows (Simulated s0 c0) (Allowed s0)
  follows s0 c0 simulates done ups x f h =
      let s = after step s0 done in
      let c = after act c0 ups in
      let g = simulates s c (total count ups) x f.related h in
      let more : List Y = g.0 in
      let e1 = after-append step s0 done (x ∷ []) in
      let e2 = after-append act c0 ups more in
      let e3 = total-append count ups more in
      let r1 = subst (λ (k : ℕ). IsRelated (step s x) (after act c more) k) (sym e3) g.1.1 in
      let r2 = subst (λ (c' : C). IsRelated (step s x) c' (total count (ups ++ more))) (sym e2) r1 in
      let r3 = subst (λ (s' : S). IsRelated s' (after act c0 (ups ++ more)) (total count (ups ++ more))) (sym e1) r2 in
      (more, record { is_run = IsRunOf-append act IsStep c0 ups more f.is_run g.1.0; related = r3 })

  -- every run of the lower machine is tracked by one run of the upper machine
  pub tracked : Simulates → (s0 : S) (c0 : C) → IsRelated s0 c0 0 → (lows : List X) → IsRunOf step IsPossible s0 lows → Tracking (Simulated s0 c0) lows
  tracked simulates s0 c0 r lows h =
      tracking (Simulated s0 c0) (Allowed s0) (follows s0 c0 simulates) (record { is_run = tt; related = r }) lows (allowed s0 c0 lows [] s0 refl h)
