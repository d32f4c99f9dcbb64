use Rattle.std.proofs.Common.{arith, ◌∙◌}
use Rattle.mc_tree.specs.Spellings.{is_digit}
use Rattle.mc_scan.specs.Runs.{each_at}
use Rattle.mc_scan.proofs.Values.{value_step}
use Rattle.mc_scan.proofs.number.value_of.Goals as goal

pub value_of_digit-requires : goal.value_of_digit-requires
value_of_digit-requires c = each_at is_digit c.args.digits.now c.loop-digit.digit-index c.requires.digits (omega arith)

pub loop-digit-preserved : goal.loop-digit-preserved
loop-digit-preserved c = c.min-value.ensures ∙ value_step c.args.base c.args.digits.now c.loop-digit.digit-index c.loop-digit.value c.value_of_digit.result c.requires.low c.loop-digit-test.true c.loop-digit.invariant c.value_of_digit.ensures
