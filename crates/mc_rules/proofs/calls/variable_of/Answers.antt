use Rattle.std.proofs.Common.{◌∙◌, sym}
use Rattle.mc_rules.proofs.Designators.{front-less, front-same, front-none}
use Rattle.mc_rules.proofs.calls.variable_of.Goals as goal

-- src/calls.rt: the next one stands in front
pub loop-front-smaller : goal.loop-front-smaller
loop-front-smaller c = front-less c.args.nodes.now c.loop-front.at c.in-Some.front (sym (c.in-Some.ensures {u = tt}))

-- src/calls.rt: it is of the same variable
pub loop-front-preserved : goal.loop-front-preserved
loop-front-preserved c = λ cell.
    let one = c.loop-front.invariant cell in
    let same = front-same c.args.nodes.now c.loop-front.at c.in-Some.front (sym (c.in-Some.ensures {u = tt})) cell in
    (λ v. same.0 (one.0 v), λ v. one.1 (same.1 v))

-- src/calls.rt: it selects from no other
pub returns : goal.returns
returns c = λ cell.
    let one = c.loop-front.invariant cell in
    let is = front-none c.args.nodes.now c.loop-front.at (sym (c.in_default.ensures {u = tt})) cell in
    (λ v. c.cell_at.ensures ∙ is.0 (one.0 v), λ e. one.1 (is.1 (sym c.cell_at.ensures ∙ e)))
