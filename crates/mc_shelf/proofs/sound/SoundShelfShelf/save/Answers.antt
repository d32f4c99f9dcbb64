use Rattle.std.proofs.Common.{rules}
use Rattle.mc_shelf.proofs.LookUp.{saved}
use Rattle.mc_shelf.proofs.sound.SoundShelfShelf.save.Goals as goal

pub returns-clause-ok : goal.returns-clause-ok
returns-clause-ok c = saved c.args.self.now.files c.save.new.self.files (record { name = c.args.name.now; bytes = c.args.bytes.now }) (search rules)
