use Rattle.std.proofs.Common.{◌≡◌, length}
use Rattle.std.specs.List.{list_all}
use Rattle.mc_script.specs.Lines.{fields}
use Rattle.mc_script.specs.Reading.{is_numeral}
use Rattle.mc_script.proofs.form.are_octal.Given as goal

abbrev pub invariant-loop-field : goal.invariant-loop-field
invariant-loop-field l = list_all (is_numeral 8) (fields l.rest) ≡ list_all (is_numeral 8) (fields l.line)

abbrev pub decreases-loop-field : goal.decreases-loop-field
decreases-loop-field l = length l.rest
