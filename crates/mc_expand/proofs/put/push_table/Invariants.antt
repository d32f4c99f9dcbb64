use Rattle.std.proofs.Common.{◌≡◌, ◌++◌, take}
use Rattle.std.specs.List.{flat_map}
use Rattle.mc_expand.specs.Expanded.{process_words}
use Rattle.mc_expand.proofs.put.push_table.Given as goal

abbrev pub invariant-loop-q : goal.invariant-loop-q
invariant-loop-q l = l.words.items ≡ l.initial.words.items ++ flat_map (process_words l.s l.p.entries) (take l.q-index l.p.processes)
