use Rattle.mc_straight.proofs.Leaves.{is_number, no_number}
use Rattle.mc_straight.proofs.alone.number_of.Goals as goal

pub returns-in-Number : goal.returns-in-Number
returns-in-Number c = is_number c.args.expr.now c.in_ok-number.field-0.now c.in-Number.number c.in-Number.field-1 c.in_ok-number.ensures c.in-Number.is

pub returns-in_default : goal.returns-in_default
returns-in_default c = λ n. no_number c.args.expr.now c.in_ok-number.field-0.now n c.in_ok-number.ensures c.in_default.not-Number
