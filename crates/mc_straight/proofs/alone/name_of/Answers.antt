use Rattle.std.proofs.Common.{refl}
use Rattle.std.proofs.lemmas.Bool.{false≢true}
use Rattle.mc_straight.proofs.Leaves.{is_named, no_selectors}
use Rattle.mc_straight.proofs.alone.name_of.Goals as goal

pub returns-then-is_empty : goal.returns-then-is_empty
returns-then-is_empty c = is_named c.args.designator.now (c.if-is_empty.ensures.0 refl)

pub returns-else-is_empty : goal.returns-else-is_empty
returns-else-is_empty c = λ id e. false≢true (c.if-is_empty.ensures.1 (no_selectors c.args.designator.now id e))
