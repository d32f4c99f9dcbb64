use Rattle.std.proofs.Common.{rules}
use Rattle.mc_shelf.proofs.LookUp.{saved, removed}
use Rattle.mc_shelf.proofs.mem.MemShelfShelf.save.Goals as goal

pub returns-clause-ok : goal.returns-clause-ok
returns-clause-ok c = saved c.args.self.now.kept.files c.save.new.self.files (record { name = c.args.name.now; bytes = c.args.bytes.now }) (search rules)

pub returns-then-count_call-clause-removed : goal.returns-then-count_call-clause-removed
returns-then-count_call-clause-removed c _ = removed c.args.self.now.kept.files _ c.args.name.now (search rules)
