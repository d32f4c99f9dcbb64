use Rattle.std.proofs.Common.{◌≡◌, ℕ, List, [], drop}
use Rattle.mc_prog.specs.StatementTypes.{labels_fault}
use Rattle.mc_types.specs.Words.{IsSetOf}
use Rattle.mc_types.proofs.statements.labels_fault.Given as goal

abbrev pub invariant-loop-label : goal.invariant-loop-label
invariant-loop-label l =
    (before : List ℕ) × IsSetOf l.words.words before × (labels_fault l.types l.t before (drop l.label-index l.labels) ≡ labels_fault l.types l.t [] l.labels)
