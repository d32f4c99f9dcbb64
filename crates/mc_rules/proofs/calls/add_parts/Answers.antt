use Rattle.std.proofs.Common.{◌<◌, ◌∷◌, ◌++◌, [], ℕ, List, get_or, ◌∙◌, sym, subst, take, length, arith, Vec, Global}
use Rattle.std.proofs.lemmas.List.{take_more, take_all}
use Rattle.mc_rules.specs.Gathering.{Adds}
use Rattle.mc_rules.proofs.CallLaws.{IsAhead, no-part-ahead, part-ahead, no-part, parts-ahead}
use Rattle.mc_rules.proofs.calls.add_parts.Goals as goal
use Rattle.mc_rules.proofs.calls.add_parts.Goals.{then-part-n+in_ok-push, else-part-n}

-- src/calls.rt: none so far
pub loop-part-init : goal.loop-part-init
loop-part-init c = no-part-ahead c.args.n c.args.numbers.now.items

-- src/calls.rt: one part more
pub loop-part-preserved : goal.loop-part-preserved
loop-part-preserved c =
    let parts : List ℕ = c.parts_at-part-items.result.now in
    let n : ℕ = c.loop-part.part-index in
    let inside : n < length parts = omega (arith, c.loop-part-test.true) in
    subst (λ (some : List ℕ). Adds (IsAhead c.args.n some) c.args.numbers.now.items c.if-part-n.numbers.items) (sym (take_more parts n 0 inside))
    (elim c.if-part-n.branch [
      | then-part-n+in_ok-push w ↦
          subst (λ (v : Vec ℕ Global). Adds (IsAhead c.args.n (take n parts ++ (get_or parts n 0 ∷ []))) c.args.numbers.now.items v.items) (sym w.numbers-is)
          (part-ahead c.args.n (take n parts) (get_or parts n 0) c.args.numbers.now.items c.loop-part.numbers.items w.push.new.self.items w.if-part-n.true w.in_ok-push.ensures.items c.loop-part.invariant)
      | else-part-n w ↦
          subst (λ (v : Vec ℕ Global). Adds (IsAhead c.args.n (take n parts ++ (get_or parts n 0 ∷ []))) c.args.numbers.now.items v.items) (sym w.numbers-is)
          (no-part c.args.n (take n parts) (get_or parts n 0) c.args.numbers.now.items c.loop-part.numbers.items w.if-part-n.false c.loop-part.invariant)
    ])

-- src/calls.rt: all parts
pub returns : goal.returns
returns c =
    let parts : List ℕ = c.parts_at-part-items.result.now in
    parts-ahead c.args.nodes.now c.args.n c.args.numbers.now.items c.loop-part.numbers.items
    (subst (λ (some : List ℕ). Adds (IsAhead c.args.n some) c.args.numbers.now.items c.loop-part.numbers.items)
    (take_all c.loop-part.part-index parts (omega (arith, c.loop-part-test.false)) ∙ c.parts_at-part-items.ensures) c.loop-part.invariant)
