use Rattle.std.proofs.Common.{sym, ◌∙◌}
use Rattle.mc_scan.specs.Runs.{test_of, each_more}
use Rattle.mc_scan.proofs.bytes.run_length.Goals as goal

pub loop-i-preserved : goal.loop-i-preserved
loop-i-preserved c = each_more (test_of c.args.class) c.args.bytes.now c.loop-i.i c.loop-i.invariant (sym c.holds.ensures ∙ c.if-not-holds.false)
