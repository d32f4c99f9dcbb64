use Rattle.std.proofs.lemmas.Result.{on_ok_weaker}
use Rattle.mc_prog.specs.Names.{part_own, plain_part}
use Rattle.mc_resolve.proofs.AddsLaws.{after_loop}
use Rattle.mc_resolve.proofs.module.+module.Goals as goal

pub plain-returns : goal.plain-returns
plain-returns t c = on_ok_weaker c.begun.result (after_loop (λ p. part_own (plain_part p)) _ _ _ _ _ _ _ c.loop-own.invariant c.loop-own-test.false) c.begun.ensures
