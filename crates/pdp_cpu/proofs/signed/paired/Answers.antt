use Rattle.std.proofs.Common.{arith}
use Rattle.pdp_def.specs.SignedLaws.{multiplies, divides_by}
use Rattle.pdp_cpu.proofs.signed.paired.Goals as goal

pub returns-in-Multiply-clause-multiplies : goal.returns-in-Multiply-clause-multiplies
returns-in-Multiply-clause-multiplies c = λ _.
    multiplies c.product.result c.args.high c.args.source (omega arith) (omega arith) c.product.ensures

pub returns-in-Divide-clause-divides : goal.returns-in-Divide-clause-divides
returns-in-Divide-clause-divides c = λ _.
    divides_by c.quotient.result c.args.high c.args.low c.args.source (omega arith) (omega arith) (omega arith) c.quotient.ensures
