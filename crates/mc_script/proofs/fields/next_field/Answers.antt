use Rattle.std.proofs.Common.{sym, arith}
use Rattle.std.proofs.lemmas.Bool.{eqb-true, eqb-false}
use Rattle.mc_script.proofs.Splitting.{next_none, next_some}
use Rattle.mc_script.proofs.fields.next_field.Goals as goal

pub returns-then-is_empty-clause-cases : goal.returns-then-is_empty-clause-cases
returns-then-is_empty-clause-cases c = next_none c.args.line.now c.blanks.result c.blanks.ensures.count (eqb-true _ _ (sym c.if-is_empty.ensures))

pub returns-clause-cases : goal.returns-clause-cases
returns-clause-cases c =
    let ne = eqb-false _ _ (sym c.if-is_empty.ensures) in
    rw (c.split_at.ensures.front, c.split_at.ensures.back) (next_some c.args.line.now c.blanks.result c.field_length.result c.blanks.ensures.count (omega (arith, ne)) c.field_length.ensures.count)
