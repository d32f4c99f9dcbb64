use Rattle.std.proofs.Common.{sym}
use Rattle.mc_scan.specs.declared.taken.Taken.{Taken}
use Rattle.mc_scan.specs.Pieces.{IsTaken}
use Rattle.mc_scan.proofs.BadBytes.{bad_byte, refused_or_taken}
use Rattle.mc_scan.proofs.token.token.Goals as goal

pub returns-else-is_quote-clause-refused : goal.returns-else-is_quote-clause-refused
returns-else-is_quote-clause-refused c =
    rw c.ok_or.ensures.value
    (refused_or_taken c.symbol.result (λ (taken : Taken). IsTaken taken.kind taken.length c.args.rest.now) c.args.place c.args.rest.now c.symbol.ensures
    (bad_byte c.args.rest.now c.requires.some c.requires.no_gap (sym c.if-is_letter.ensures) (sym c.if-is_digit.ensures) (sym c.if-is_quote.ensures)))
