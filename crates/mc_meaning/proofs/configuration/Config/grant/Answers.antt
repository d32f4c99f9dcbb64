use Rattle.mc_meaning.proofs.ActionLaws.{on-err}
use Rattle.mc_meaning.proofs.configuration.Config.grant.Goals as goal

-- src/configuration/moves.rt: as it was
pub returns-in_err-grants-clause-err : goal.returns-in_err-grants-clause-err
returns-in_err-grants-clause-err c = on-err c.from_residual.result _ c.in_err-grants.ensures.err
