use Rattle.std.proofs.Common.{◌≡◌, take}
use Rattle.std.specs.List.{flat_map}
use Rattle.mc_report.specs.Report.{line}
use Rattle.mc_report.proofs.lines.report.Given as goal

abbrev pub invariant-loop-entry : goal.invariant-loop-entry
invariant-loop-entry l = l.text.items ≡ flat_map (λ entry. line entry l.journal) (take l.entry-index l.entries)
