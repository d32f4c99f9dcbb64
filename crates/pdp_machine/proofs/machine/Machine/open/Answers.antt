use Rattle.std.proofs.Common.{◌≡◌, List, subst, sym, ◌∙◌, arith}
use Rattle.mc_script.specs.declared.script.Key.{Key}
use Rattle.pdp_machine.specs.Made.{run_made}
use Rattle.pdp_machine.specs.Timed.{AreAhead}
use Rattle.pdp_machine.specs.Times.{AreAhead-after, AreAhead-weaker}
use Rattle.pdp_machine.proofs.machine.Machine.open.Goals as goal

pub invariant_of-result : goal.invariant_of-result
invariant_of-result c =
    let given : List Key = c.keys.result.now in
    let same : c.from_vec.result.items ≡ given = c.from_vec.ensures.items ∙ c.in_ok-from_slice.ensures.items in
    let ahead = AreAhead-weaker 0 1 given (omega arith) (AreAhead-after 0 given c.keys.ensures.range) in
    record {
      time = omega arith;
      limit = c.limit.ensures.range.1;
      instructions = omega arith;
      printer = tt;
      punch = tt;
      reader = tt;
      keys = subst (λ (l : List Key). AreAhead 0 l) (sym same) ahead;
      period = c.clock.ensures.range;
      printer_delay = c.printer.ensures.range;
      punch_delay = c.punch.ensures.range;
      reader_delay = c.reader.ensures.range;
    }

pub returns-clause-timed : goal.returns-clause-timed
returns-clause-timed c = invariant_of-result c

pub returns-clause-made : goal.returns-clause-made
returns-clause-made c = run_made c.args.image.now c.args.script.now c.keys.ensures.script
