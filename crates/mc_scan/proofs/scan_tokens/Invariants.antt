use Rattle.std.proofs.Common.{◌+◌, ◌≤◌, length}
use Rattle.mc_tree.specs.Sources.{first_place, Reads}
use Rattle.mc_scan.proofs.scan_tokens.Given as goal

abbrev pub invariant-loop-rest : goal.invariant-loop-rest
invariant-loop-rest l = record {
  reads : Reads first_place l.tokens.items l.source l.place l.rest;
  line : l.place.line + length l.rest ≤ 262145;
  column : l.place.column + length l.rest ≤ 262145;
}

abbrev pub decreases-loop-rest : goal.decreases-loop-rest
decreases-loop-rest l = length l.rest
