use Rattle.std.proofs.Common.{rules, ◌/◌, length, take, drop}
use Rattle.std.proofs.lemmas.Grind.{common_steps}
use Rattle.mc_shelf.proofs.mem.MemShelfShelf.print.Goals as goal

pub returns-then-count_call-clause-part : goal.returns-then-count_call-clause-part
returns-then-count_call-clause-part c _ = record {
  front = take (length c.args.bytes.now / 2) c.args.bytes.now;
  rest = drop (length c.args.bytes.now / 2) c.args.bytes.now;
  parts = search (rules, common_steps);
  appends = search rules;
}
