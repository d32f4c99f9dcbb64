use Rattle.std.proofs.Common.{◌≡◌, ◌++◌, length, map}
use Rattle.mc_script.specs.Lines.{fields}
use Rattle.mc_script.specs.Forms.{value}
use Rattle.mc_script.specs.Script.{AreBytes}
use Rattle.mc_script.proofs.draft.push_bytes.Given as goal

abbrev pub invariant-loop-field : goal.invariant-loop-field
invariant-loop-field l = record {
  pushed : l.bytes.items ++ map (value 8) (fields l.rest) ≡ l.fn.bytes.items ++ map (value 8) (fields l.line);
  left : AreBytes (map (value 8) (fields l.rest));
}

abbrev pub decreases-loop-field : goal.decreases-loop-field
decreases-loop-field l = length l.rest
