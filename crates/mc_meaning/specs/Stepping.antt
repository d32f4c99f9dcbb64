-- What a call that makes one step answers.
use Rattle.std.specs.Prelude.{◌≡◌, ◌⊎◌, ℕ, IsSome, Option, Some, None}
use Rattle.mc_prog.specs.Resolved.{Resolved}
use Rattle.mc_meaning.specs.declared.steps.Acted.{Acted}
use Rattle.mc_meaning.specs.declared.steps.Acted.TheVariants.{Stepped, Trapped, Nothing}
use Rattle.mc_meaning.specs.Configuration.{Configuration, topmost}
use Rattle.mc_meaning.specs.Steps.{evaluated}

-- the topmost process made its evaluation step, behind which the trap is this
pub record IsStepped (p : Resolved) (c new : Configuration) (behind : Option ℕ) : Type 0 where
  pub trapless : c.trap ≡ None
  pub acts : IsSome (topmost c)
  pub step : new ≡ evaluated p c
  pub trap : new.trap ≡ behind

-- the step without a trap; the trap of the step, or the one that was set before; or nothing acts
abbrev pub IsActed : Resolved → Configuration → Configuration → Acted → Type 0
IsActed p c new Stepped = IsStepped p c new None
IsActed p c new (Trapped n) = IsStepped p c new (Some n) ⊎ ((c.trap ≡ Some n) × (new ≡ c))
IsActed p c new Nothing = (c.trap ≡ None) × (topmost c ≡ None) × (new ≡ c)
