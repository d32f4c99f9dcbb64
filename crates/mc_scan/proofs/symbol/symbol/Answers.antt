use Rattle.std.proofs.Common.{arith}
use Rattle.mc_scan.proofs.Symbols.{two_taken, one_taken, none_begins}
use Rattle.mc_scan.proofs.symbol.symbol.Goals as goal
use Rattle.mc_scan.proofs.symbol.symbol.Goals.{then-rest-gt1+in_default, else-rest-gt1}

pub returns-in-Some : goal.returns-in-Some
returns-in-Some c = two_taken c.args.rest.now c.in-Some.symbol c.if-rest-gt1.true c.requires.no_comment c.in-Some.ensures

pub returns-in_err-symbol : goal.returns-in_err-symbol
returns-in_err-symbol c = rw c.from_residual.ensures (none_begins c.args.rest.now c.in_err-symbol.ensures)

pub returns : goal.returns
returns c =
    one_taken c.args.rest.now c.in_ok-symbol.symbol c.requires.some c.requires.no_comment
    (elim c.if-rest-gt1.branch [ then-rest-gt1+in_default w ↦ λ l. w.in_default.ensures | else-rest-gt1 w ↦ λ l. absurd (omega arith) ])
    c.in_ok-symbol.ensures
