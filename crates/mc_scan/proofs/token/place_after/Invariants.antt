use Rattle.std.proofs.Common.{◌≡◌, ◌+◌, ◌≤◌, drop}
use Rattle.mc_tree.specs.Sources.{place_after}
use Rattle.mc_scan.proofs.token.place_after.Given as goal

abbrev pub invariant-loop-b : goal.invariant-loop-b
invariant-loop-b l = record {
  line : l.here.line ≤ l.fn.place.line + l.b-index;
  column : l.here.column ≤ l.fn.place.column + l.b-index;
  same : place_after l.here (drop l.b-index l.bytes) ≡ place_after l.fn.place l.fn.bytes;
}
