use Rattle.std.proofs.Common.{◌≡◌, List, ◌++◌, drop}
use Rattle.mc_prog.specs.Notes.{Item as NameItem}
use Rattle.mc_prog.specs.Notes.{each, after, one, ids}
use Rattle.mc_resolve.specs.Naming.{naming_of}
use Rattle.mc_resolve.proofs.put.ids.Given as goal

abbrev pub invariant-loop-more : goal.invariant-loop-more
invariant-loop-more l =
    (rest : List NameItem) → l.out.items ++ each (after (one (naming_of l.naming))) (drop l.more-index l.more-items) rest ≡ l.fn.out.items ++ ids (naming_of l.naming) l.list rest
