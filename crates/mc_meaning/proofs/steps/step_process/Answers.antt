use Rattle.mc_meaning.specs.Kept.{configuration_of}
use Rattle.std.proofs.Common.{ap, inl, refl, sym, subst, ◌∙◌, ℕ, IsSome, Option}
use Rattle.mc_meaning.specs.Steps.{step_at}
use Rattle.mc_meaning.proofs.steps.step_process.Goals as goal

-- src/steps.rt: the step traps
pub returns-in-Some-trap-clause-acted : goal.returns-in-Some-trap-clause-acted
returns-in-Some-trap-clause-acted c = inl (record {
  trapless = sym c.trap.ensures ∙ c.in_default.is;
  acts = subst (λ (o : Option ℕ). IsSome o) c.in-Some-topmost.ensures refl;
  step = c.in_ok-step_at.ensures.ok ∙ ap (λ (o : Option ℕ). step_at c.args.program.now (configuration_of c.args.config.now) o) c.in-Some-topmost.ensures;
  trap = sym c.in-Some-trap.ensures;
})
