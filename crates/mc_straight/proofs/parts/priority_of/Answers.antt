use Rattle.std.proofs.Common.{arith}
use Rattle.std.proofs.lemmas.Grind.{common_steps}
use Rattle.mc_straight.proofs.Forced.{no_priority}
use Rattle.mc_straight.proofs.parts.priority_of.Goals as goal

pub returns-in_err-priority : goal.returns-in_err-priority
returns-in_err-priority c = rw c.from_residual.ensures (λ p k. c.in_err-priority.ensures p k.number)

pub returns-else-contains : goal.returns-else-contains
returns-else-contains c = no_priority c.args.bracket.now c.in_ok-priority.priority c.in_ok-priority.ensures (λ least most. grind (arith, common_steps))
