use Rattle.std.proofs.Common.{subst, sym}
use Rattle.mc_meaning.specs.Configuration.{Configuration}
use Rattle.mc_meaning.specs.Room.{Keeps}
use Rattle.mc_meaning.proofs.KeepLaws.{opening-keeps}
use Rattle.mc_meaning.proofs.OpeningLaws.{opened}
use Rattle.mc_meaning.proofs.configuration.Config.open.Goals as goal

-- src/configuration.rt: the parts of the opening
pub returns-clause-opening : goal.returns-clause-opening
returns-clause-opening c = opened c.args.program.now _ _ _ _ _ _ _ _ c.new.ensures c.new-2.ensures c.new-processes.ensures.items c.in_ok-push.ensures.items c.in_ok-main.ensures c.new-3.ensures.items c.new-4.ensures.items c.new-5.ensures.items

-- src/configuration.rt: the opening keeps them
pub returns-clause-keeps : goal.returns-clause-keeps
returns-clause-keeps c = subst (λ (d : Configuration). Keeps c.args.program.now d) (sym (returns-clause-opening c)) (opening-keeps c.args.program.now)
