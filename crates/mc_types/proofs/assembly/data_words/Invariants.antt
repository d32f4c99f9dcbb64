use Rattle.std.proofs.Common.{◌≡◌, ◌+◌, drop}
use Rattle.mc_prog.specs.Resolved.{data_words}
use Rattle.mc_types.proofs.assembly.data_words.Given as goal

-- with the variables that are left they are the words of all
abbrev pub invariant-loop-cell : goal.invariant-loop-cell
invariant-loop-cell l = l.words + data_words l.types (drop l.cell-index l.cells) ≡ data_words l.types l.cells
