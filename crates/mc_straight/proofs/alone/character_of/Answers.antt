use Rattle.mc_straight.proofs.Leaves.{is_character, no_character}
use Rattle.mc_straight.proofs.alone.character_of.Goals as goal

pub returns-in-Character : goal.returns-in-Character
returns-in-Character c = is_character c.args.expr.now c.in_ok-byte.field-0.now c.in-Character.byte c.in-Character.field-1 c.in_ok-byte.ensures c.in-Character.is

pub returns-in_default : goal.returns-in_default
returns-in_default c = λ n. no_character c.args.expr.now c.in_ok-byte.field-0.now n c.in_ok-byte.ensures c.in_default.not-Character
