use Rattle.std.proofs.lemmas.Bool.{le-ltb}
use Rattle.mc_meaning.proofs.evaluation.found_bit.Goals as goal

-- src/evaluation.rt: no bit of a word
pub returns-else-i-lt16-clause-ok : goal.returns-else-i-lt16-clause-ok
returns-else-i-lt16-clause-ok c = rw (le-ltb c.args.i 16 c.if-i-lt16.false) c.traps.ensures
