use Rattle.std.specs.Prelude.{Option, option_to_list}
use Rattle.std.proofs.Common.{◌≡◌, ◌<◌, ◌^◌, ◌∷◌, ◌++◌, [], ℕ, List, length, refl, ap, ◌∙◌, sym, subst, arith}
use Rattle.mc_rules.specs.declared.call.Call.{Call}
use Rattle.mc_rules.specs.Calls.{call_at}
use Rattle.mc_rules.proofs.AddLaws.{adds-option}
use Rattle.mc_rules.proofs.CallLaws.{Gathers, gathers-first, gathers-more, gathers-last}
use Rattle.mc_rules.proofs.Weights.{weigh, weighs-less}
use Rattle.mc_rules.proofs.calls.gather.Goals as goal

-- src/calls.rt: the body alone is ahead
pub loop-next-init : goal.loop-next-init
loop-next-init c = subst (λ (ahead : List ℕ). Gathers c.args.nodes.now c.args.n ahead c.args.calls.now.items c.args.calls.now.items) (sym c.in_ok-ahead.ensures.items)
    (gathers-first c.args.nodes.now c.args.n c.args.calls.now.items)

-- src/calls.rt: a node weighs more than its parts
pub loop-next-smaller : goal.loop-next-smaller
loop-next-smaller c =
    let left : List ℕ = c.pop.new.self.items in
    let v = c.add_parts.new.numbers in
    let was : c.loop-next.ahead.items ≡ left ++ (c.in-Some.next ∷ []) = c.in-Some.ensures.items in
    let fits : length v.items < 2 ^ 64 = omega (arith, v.ok.0, v.ok.1, v.small) in
    subst (λ (ahead : List ℕ). weigh (2 ^ 64) v.items < weigh (2 ^ 64) ahead) (sym was)
    (weighs-less (2 ^ 64) c.args.nodes.now left c.in-Some.next v.items fits (c.in_ok-add_parts.ensures {u = tt}))

-- src/calls.rt: its call has been put behind, and its parts are ahead
pub loop-next-preserved : goal.loop-next-preserved
loop-next-preserved c =
    let left : List ℕ = c.pop.new.self.items in
    let next : ℕ = c.in-Some.next in
    let was : c.loop-next.ahead.items ≡ left ++ (next ∷ []) = c.in-Some.ensures.items in
    gathers-more c.args.nodes.now c.args.n left next c.add_parts.new.numbers.items c.args.calls.now.items c.loop-next.calls.items c.add.new.calls.items
    (subst (λ (ahead : List ℕ). Gathers c.args.nodes.now c.args.n ahead c.args.calls.now.items c.loop-next.calls.items) was c.loop-next.invariant)
    (adds-option (call_at c.args.nodes.now next) c.loop-next.calls.items c.add.new.calls.items
    (c.in_ok-add.ensures {u = tt} ∙ ap (λ (o : Option Call). c.loop-next.calls.items ++ option_to_list o) c.call_at.ensures))
    (c.in_ok-add_parts.ensures {u = tt})

-- src/calls.rt: nothing is ahead
pub returns : goal.returns
returns c =
    gathers-last c.args.nodes.now c.args.n c.args.calls.now.items c.loop-next.calls.items
    (subst (λ (ahead : List ℕ). Gathers c.args.nodes.now c.args.n ahead c.args.calls.now.items c.loop-next.calls.items) none c.loop-next.invariant)
  where
    empty : (l : List ℕ) → length l ≡ 0 → l ≡ []
    empty [] e = refl
    empty (x ∷ l) e = absurd (omega (arith, e))

    none : c.loop-next.ahead.items ≡ []
    none = empty c.loop-next.ahead.items (omega (arith, c.loop-next.ahead.ok.0, (c.in_default.ensures {u = tt}).cases.0))
