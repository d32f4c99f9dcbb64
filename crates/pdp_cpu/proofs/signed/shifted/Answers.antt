use Rattle.std.proofs.Common.{ap, ◌∙◌, ◌-◌, arith}
use Rattle.pdp_def.specs.Signed.{shifted_left, shifted_right}
use Rattle.pdp_def.specs.ShiftLaws.{keeps_sign, multiplies_by, divides_down}
use Rattle.pdp_cpu.proofs.signed.shifted.Goals as goal

pub returns-then-count-lt32-clause-signs : goal.returns-then-count-lt32-clause-signs
returns-then-count-lt32-clause-signs c = λ _.
    keeps_sign c.shifted_left.result c.args.half c.args.x c.args.count c.requires.x (c.shifted_left.ensures.value ∙ ap (λ k. shifted_left c.args.half c.args.x k) (omega arith))

pub returns-then-count-lt32-clause-left : goal.returns-then-count-lt32-clause-left
returns-then-count-lt32-clause-left c = λ _.
    multiplies_by c.shifted_left.result c.args.half c.args.x c.args.count (omega arith) c.requires.x (c.shifted_left.ensures.value ∙ ap (λ k. shifted_left c.args.half c.args.x k) (omega arith))

pub returns-else-count-lt32-clause-right : goal.returns-else-count-lt32-clause-right
returns-else-count-lt32-clause-right c = λ _.
    divides_down c.shifted_right.result c.args.half c.args.x (64 - c.args.count) c.requires.x (omega arith) (c.shifted_right.ensures.value ∙ ap (λ k. shifted_right c.args.half c.args.x k) (omega arith))
