use Rattle.std.proofs.Common.{◌≡◌, drop}
use Rattle.mc_prog.specs.Pieces.{each, after, named}
use Rattle.mc_pieces.specs.Naming.{naming_of}
use Rattle.mc_pieces.proofs.named.names.Given as goal

abbrev pub invariant-loop-more : goal.invariant-loop-more
invariant-loop-more l = each (after (named (naming_of l.naming))) (drop l.more-index l.more-items) l.walk ≡ each (after (named (naming_of l.naming))) l.more-items l.initial.walk
