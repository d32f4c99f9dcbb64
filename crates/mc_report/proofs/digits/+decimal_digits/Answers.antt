use Rattle.std.proofs.Common.{◌/◌, ◌≤◌, arith, rules, length, decimal}
use Rattle.std.proofs.lemmas.Fmt.{decimal_digit, decimal_step, length-decimal-le}
use Rattle.mc_report.proofs.digits.+decimal_digits.Goals as goal
use Rattle.mc_report.proofs.digits.+decimal_digits.Goals.{then-n-lt10, else-n-lt10}

pub push-requires : goal.push-requires
push-requires t c =
    elim c.if-n-lt10.branch [
      | then-n-lt10 w ↦ search (rules, arith)
      | else-n-lt10 w ↦
          let short : length (decimal (c.args.n / 10)) ≤ 19 = length-decimal-le 19 (c.args.n / 10) (omega arith) (omega arith) (omega arith) in
          grind arith
    ]

pub returns : goal.returns
returns t c =
    elim c.if-n-lt10.branch [
      | then-n-lt10 w ↦ grind (arith, decimal_digit)
      | else-n-lt10 w ↦ grind (arith, decimal_step)
    ]
