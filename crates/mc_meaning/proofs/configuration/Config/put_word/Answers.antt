use Rattle.std.proofs.Common.{ap}
use Rattle.mc_meaning.specs.Configuration.{Store}
use Rattle.mc_meaning.specs.Kept.{configuration_of}
use Rattle.mc_meaning.proofs.EvaluationLaws.{ok-then, err-then}
use Rattle.mc_meaning.proofs.configuration.Config.put_word.Goals as goal

-- src/configuration.rt: the configuration with the other store
pub returns-clause-ok : goal.returns-clause-ok
returns-clause-ok c = ok-then c.put.result _ _ (λ e. ap (λ (s : Store). record (configuration_of c.args.self.now) { store = s }) e) c.put.ensures.ok

-- src/configuration.rt: the store as it was
pub returns-clause-err : goal.returns-clause-err
returns-clause-err c = err-then c.put.result _ _ (λ e. ap (λ (s : Store). record (configuration_of c.args.self.now) { store = s }) e) c.put.ensures.err
