use Rattle.std.proofs.Common.{◌≡◌, map, take}
use Rattle.mc_prog.specs.Resolved.{node_at}
use Rattle.mc_types.proofs.texts.nodes_at.Given as goal

abbrev pub invariant-loop-number : goal.invariant-loop-number
invariant-loop-number l = l.nodes.items ≡ map (node_at l.typed) (take l.number-index l.numbers)
