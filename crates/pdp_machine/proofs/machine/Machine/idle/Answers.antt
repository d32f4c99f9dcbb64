use Rattle.std.proofs.Common.{subst, sym, ap, ◌∙◌, Option, ◌≡◌, ℕ, ◌+◌, ◌≤◌, min, arith}
use Rattle.std.specs.Prelude.{unwrap_or}
use Rattle.pdp_machine.specs.Timed.{Timed, IsTimed, IsAhead, next_event}
use Rattle.pdp_machine.specs.Times.{at_next, later_at}
use Rattle.pdp_machine.proofs.machine.Machine.idle.Goals as goal

pub invariant_of-self : goal.invariant_of-self
invariant_of-self c =
    let m : Timed = c.args.self.now in
    let i = subst (λ (m : Timed). IsTimed m) c.self.view_is c.self.invariant in
    let t : ℕ = c.min-self-inside.result in
    let from : ℕ = c.from-limit.result in
    let limit : from ≡ m.limit = c.from-limit.ensures ∙ ap (λ (m' : Timed). m'.limit) c.self.view_is in
    let e : t ≡ min (unwrap_or (next_event m) m.limit) m.limit = c.min-self-inside.ensures ∙ ap (λ (u : ℕ). min u from) c.unwrap_or.ensures ∙ ap (λ (o : Option ℕ). min (unwrap_or o from) from) c.next_event.ensures.value ∙ ap (λ (l : ℕ). min (unwrap_or (next_event m) l) l) limit in
    let ahead = subst (λ o. IsAhead (m.time + 1) o) c.next_event.ensures.value c.next_event.ensures.later in
    let past : m.time ≤ t = omega (arith, e, later_at (next_event m) m.time m.limit ahead c.requires.time) in
    subst (λ (m' : Timed). IsTimed (record m' { time = t })) (sym c.self.view_is) (at_next m t i past e)
