use Rattle.std.proofs.Common.{◌≡◌, ◌++◌, take, map}
use Rattle.mc_expand.specs.Expanded.{put}
use Rattle.mc_expand.proofs.put.push_code.Given as goal

abbrev pub invariant-loop-item : goal.invariant-loop-item
invariant-loop-item l = l.words.items ≡ l.initial.words.items ++ map (put l.s) (take l.item-index l.items)
