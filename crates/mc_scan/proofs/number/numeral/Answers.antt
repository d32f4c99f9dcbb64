use Rattle.std.proofs.Common.{◌≤◌, length, sym, ◌∙◌, arith}
use Rattle.mc_scan.proofs.Numbers.{HasNoMark}
use Rattle.mc_scan.proofs.Fronted.{octal_front, character_front, decimal_front}
use Rattle.mc_scan.proofs.number.numeral.Goals as goal
use Rattle.mc_scan.proofs.number.numeral.Goals.{in_default-via-in-Some+in_default, in_default-via-in_default}

pub returns-in-Some-eq66 : goal.returns-in-Some-eq66
returns-in-Some-eq66 c = octal_front c.args.rest.now c.run_length-octal.result c.requires.digit c.run_length-octal.ensures c.in-Some-eq66.ensures.0 (sym c.in-Some-eq66.ensures.1 ∙ c.in-Some-eq66.field-0-test)

pub returns-in-Some-eq67 : goal.returns-in-Some-eq67
returns-in-Some-eq67 c = character_front c.args.rest.now c.run_length-octal.result c.requires.digit c.run_length-octal.ensures c.in-Some-eq67.ensures.0 (sym c.in-Some-eq67.ensures.1 ∙ c.in-Some-eq67.field-0-test)

pub returns-in_default : goal.returns-in_default
returns-in_default c =
    let none : HasNoMark c.run_length-octal.result c.args.rest.now =
    elim c.in_default.branch [
      | in_default-via-in-Some+in_default w ↦ record {
        run = c.run_length-octal.ensures;
        no_octal = λ l e. w.in_default.field-0-test.0.1 (w.in_default.ensures.1 ∙ e);
        no_character = λ l e. w.in_default.field-0-test.1 (w.in_default.ensures.1 ∙ e);
      }
      | in_default-via-in_default w ↦
          let past : length c.args.rest.now ≤ c.run_length-octal.result = rw w.in_default.is at c.byte_at.ensures in
          record { run = c.run_length-octal.ensures; no_octal = λ l e. omega arith; no_character = λ l e. omega arith }
    ] in
    decimal_front c.args.rest.now c.run_length.result c.run_length-octal.result c.requires.some c.requires.digit c.run_length.ensures none
