use Rattle.std.proofs.Common.{take}
use Rattle.mc_rules.specs.Gathering.{Adds}
use Rattle.mc_rules.proofs.CallLaws.{IsAhead}
use Rattle.mc_rules.proofs.calls.add_parts.Given as goal

-- those of the parts so far
abbrev pub invariant-loop-part : goal.invariant-loop-part
invariant-loop-part l = Adds (IsAhead l.n (take l.part-index l.part-items)) l.fn.numbers.items l.numbers.items
