use Rattle.mc_meaning.proofs.BitLaws.{bit-past}
use Rattle.mc_meaning.proofs.access.bit_of.Goals as goal

-- src/access.rt: a word has no such bit
pub returns-in-None : goal.returns-in-None
returns-in-None c = bit-past c.args.word c.args.i c.ranges.word.fits c.in-None.ensures
