use Rattle.std.proofs.Common.{◌≡◌, ◌+◌, ◌≤◌, List, length}
use Rattle.mc_script.specs.Forms.{Form}
use Rattle.mc_script.specs.Drafts.{draft_of}
use Rattle.mc_script.specs.Steps.{IsRead}
use Rattle.mc_script.proofs.read.read_lines.Given as goal

abbrev pub invariant-loop-length : goal.invariant-loop-length
invariant-loop-length l = record {
  is_read : (forms : List Form) × IsRead l.number forms l.rest l.text × (l.draft ≡ draft_of forms);
  counted : l.number + length l.rest ≤ length l.text + 1;
}

abbrev pub decreases-loop-length : goal.decreases-loop-length
decreases-loop-length l = length l.rest
