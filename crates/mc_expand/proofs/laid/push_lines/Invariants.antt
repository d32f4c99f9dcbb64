use Rattle.std.proofs.Common.{◌≡◌, ◌++◌, take}
use Rattle.std.specs.List.{flat_map}
use Rattle.mc_expand.specs.Lines.{line_items}
use Rattle.mc_expand.proofs.laid.push_lines.Given as goal

abbrev pub invariant-loop-line : goal.invariant-loop-line
invariant-loop-line l = l.items.items ≡ l.initial.items.items ++ flat_map line_items (take l.line-index l.lines)
