use Rattle.std.proofs.lemmas.Bool.{ne_eqb}
use Rattle.mc_script.specs.LineLaws.{HasNoFeed-more}
use Rattle.mc_script.proofs.read.line_length.Goals as goal

pub loop-i-preserved : goal.loop-i-preserved
loop-i-preserved c = HasNoFeed-more c.args.text.now c.loop-i.i c.loop-i-test.true c.loop-i.invariant (ne_eqb _ 10 c.if-b-eq10.false)
