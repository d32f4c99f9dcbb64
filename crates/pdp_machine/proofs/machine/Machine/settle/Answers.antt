use Rattle.std.proofs.Common.{subst, sym, ℕ, ◌+◌, ◌<◌, ◌≤◌, arith}
use Rattle.pdp_machine.specs.Timed.{Timed, IsLater}
use Rattle.pdp_machine.specs.Times.{IsAhead-weaker, AreAhead-weaker}
use Rattle.pdp_machine.proofs.machine.Machine.settle.Goals as goal

pub invariant_of-self : goal.invariant_of-self
invariant_of-self c =
    let i = c.self.invariant in
    let l = subst (λ (m : Timed). IsLater m) (sym c.self.view_is) c.requires.later in
    let room = subst (λ (m : Timed). m.time < m.limit) (sym c.self.view_is) c.requires.time in
    let t : ℕ = c.self.inside.time + c.counted.result in
    let next : ℕ = c.self.inside.time + 1 in
    let near : t ≤ next = omega (arith, c.counted.ensures.one) in
    record {
      time = omega (arith, room, c.counted.ensures.one);
      limit = i.limit;
      instructions = omega (arith, i.instructions, c.requires.counted, c.counted.ensures.value);
      printer = c.due_after-self-inside.ensures.ahead t (IsAhead-weaker t next _ near l.printer) (omega (arith, c.counted.ensures.one, i.printer_delay));
      punch = c.due_after-self-inside-2.ensures.ahead t (IsAhead-weaker t next _ near l.punch) (omega (arith, c.counted.ensures.one, i.punch_delay));
      reader = c.due_after-self-inside-3.ensures.ahead t (IsAhead-weaker t next _ near l.reader) (omega (arith, c.counted.ensures.one, i.reader_delay));
      keys = AreAhead-weaker t next _ near l.keys;
      period = i.period;
      printer_delay = i.printer_delay;
      punch_delay = i.punch_delay;
      reader_delay = i.reader_delay;
    }
