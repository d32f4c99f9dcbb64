use Rattle.std.proofs.Common.{◌≡◌, List, ◌++◌, drop}
use Rattle.mc_tree.specs.declared.tree.Module.TheViews.{out-Plain}
use Rattle.mc_prog.specs.Notes.{Item, each, maybe}
use Rattle.mc_prog.specs.Names.{begun, part_ahead, part_own, plain, plain_part}
use Rattle.mc_resolve.proofs.module.+module.Given as goal

abbrev pub invariant-plain-loop-part : goal.invariant-plain-loop-part
invariant-plain-loop-part l =
    (rest : List Item) → l.out.items ++ each (λ p. part_ahead (plain_part p)) (drop l.part-index l.part-items) (each (λ p. part_own (plain_part p)) (out-Plain l.tree).parts (maybe begun (out-Plain l.tree).body rest))
    ≡ l.fn.out.items ++ plain l.tree rest

abbrev pub invariant-plain-loop-own : goal.invariant-plain-loop-own
invariant-plain-loop-own l =
    (rest : List Item) → l.out.items ++ each (λ p. part_own (plain_part p)) (drop l.own-index l.own-items) (maybe begun (out-Plain l.tree).body rest) ≡ l.fn.out.items ++ plain l.tree rest
