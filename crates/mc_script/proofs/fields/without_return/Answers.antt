use Rattle.std.proofs.Common.{◌≢◌, length, arith, sym, ap, ◌∙◌}
use Rattle.std.proofs.lemmas.Bool.{eqb-true, eqb-false}
use Rattle.std.proofs.lemmas.List.{nil_from_length}
use Rattle.mc_script.specs.Steps.{strip}
use Rattle.mc_script.proofs.Splitting.{strip_one, strip_none}
use Rattle.mc_script.proofs.fields.without_return.Goals as goal
use Rattle.mc_script.proofs.fields.without_return.Goals.{then-is_empty-via-then-is_empty, then-is_empty-via-else-is_empty+then-line-ne13}

pub returns-then-is_empty : goal.returns-then-is_empty
returns-then-is_empty c =
    elim c.then-is_empty.branch [
      | then-is_empty-via-then-is_empty w ↦
          let none = nil_from_length c.args.line.now (eqb-true _ _ (sym w.if-is_empty.ensures)) in
          none ∙ sym (ap strip none)
      | then-is_empty-via-else-is_empty+then-line-ne13 w ↦
          let some : length c.args.line.now ≢ 0 = eqb-false _ _ (sym w.if-is_empty.ensures) in
          strip_none c.args.line.now _ (omega arith) w.if-line-ne13.true
    ]

pub returns : goal.returns
returns c =
    let some : length c.args.line.now ≢ 0 = eqb-false _ _ (sym c.if-is_empty.ensures) in
    strip_one c.args.line.now _ (omega arith) c.if-line-ne13.false
