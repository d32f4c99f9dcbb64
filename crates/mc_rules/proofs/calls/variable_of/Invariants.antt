use Rattle.std.proofs.Common.{◌↔◌, ℕ}
use Rattle.mc_rules.specs.Calls.{IsOfVariable}
use Rattle.mc_rules.proofs.calls.variable_of.Given as goal

-- it is of the same variable
abbrev pub invariant-loop-front : goal.invariant-loop-front
invariant-loop-front l = (cell : ℕ) → IsOfVariable l.nodes l.fn.n cell ↔ IsOfVariable l.nodes l.at cell

abbrev pub decreases-loop-front : goal.decreases-loop-front
decreases-loop-front l = l.at
