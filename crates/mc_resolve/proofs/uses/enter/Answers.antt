use Rattle.mc_resolve.proofs.Entering.{opened, closed}
use Rattle.mc_resolve.proofs.uses.enter.Goals as goal

pub returns-in_ok-push-in-Opens : goal.returns-in_ok-push-in-Opens
returns-in_ok-push-in-Opens c = opened c.args.note.now c.in-Opens.kind c.in-Opens.is c.args.number c.args.scopes.now.items c.push.new.self.items c.in_ok-push-in-Opens.ensures.items

pub returns-in-Closes : goal.returns-in-Closes
returns-in-Closes c = closed c.args.note.now c.in-Closes.is c.args.number c.args.scopes.now.items c.close.new.scopes.items c.close.ensures
