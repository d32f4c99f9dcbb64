use Rattle.std.proofs.Common.{subst, sym, ap, ◌∙◌, ℕ, ◌+◌, List, Option, arith, drop}
use Rattle.std.specs.Prelude.{is_some, if◌then◌else◌}
use Rattle.mc_script.specs.declared.script.Key.{Key}
use Rattle.pdp_machine.specs.Timed.{AreAhead}
use Rattle.pdp_machine.specs.Times.{AreAhead-weaker, keys_left}
use Rattle.pdp_machine.proofs.machine.Machine.key_comes.Goals as goal

pub invariant_of-self : goal.invariant_of-self
invariant_of-self c =
    let i = c.self.invariant in
    let time : ℕ = c.self.inside.time in
    let keys : List Key = c.self.inside.keys.items in
    let e = c.take_key.ensures.rest ∙ ap (λ (o : Option ℕ). if is_some o then drop 1 keys else keys) c.take_key.ensures.value in
    let left = subst (λ (l : List Key). AreAhead (time + 1) l) (sym e) (keys_left time keys i.keys) in
    record {
      time = i.time;
      limit = i.limit;
      instructions = i.instructions;
      printer = i.printer;
      punch = i.punch;
      reader = i.reader;
      keys = AreAhead-weaker time (time + 1) c.take_key.new.keys.items (omega arith) left;
      period = i.period;
      printer_delay = i.printer_delay;
      punch_delay = i.punch_delay;
      reader_delay = i.reader_delay;
    }
