use Rattle.mc_meaning.proofs.BitLaws.{with_bit-past}
use Rattle.mc_meaning.proofs.access.with_bit.Goals as goal

-- src/access.rt: a word has no such bit
pub returns-in_default : goal.returns-in_default
returns-in_default c = with_bit-past c.args.word c.args.i c.args.is_set c.ranges.word.fits c.in_default.ensures
