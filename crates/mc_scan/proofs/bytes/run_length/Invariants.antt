use Rattle.std.proofs.Common.{take}
use Rattle.mc_tree.specs.Spellings.{Each}
use Rattle.mc_scan.specs.Runs.{test_of}
use Rattle.mc_scan.proofs.bytes.run_length.Given as goal

abbrev pub invariant-loop-i : goal.invariant-loop-i
invariant-loop-i l = Each (test_of l.class) (take l.i l.bytes)
