use Rattle.mc_scan.specs.Pieces.{over_token}
use Rattle.mc_scan.proofs.token.advance.Goals as goal

pub returns-clause-ok : goal.returns-clause-ok
returns-clause-ok c = over_token c.in_ok-kind.field-0.kind c.in_ok-push.ensures.items c.in_ok-kind.ensures.ok
