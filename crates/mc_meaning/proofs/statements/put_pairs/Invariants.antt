use Rattle.std.proofs.Common.{◌≡◌, ◌++◌, map, take}
use Rattle.mc_meaning.proofs.statements.put_pairs.Given as goal

-- the labels so far
abbrev pub invariant-loop-name : goal.invariant-loop-name
invariant-loop-name l = l.labels.items ≡ l.initial.labels.items ++ map (λ name. (name, l.body)) (take l.name-index l.names)
