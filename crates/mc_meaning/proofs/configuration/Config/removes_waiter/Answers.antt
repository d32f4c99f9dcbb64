use Rattle.std.proofs.Common.{ap, List, rules}
use Rattle.std.proofs.lemmas.Fn.{filter_same}
use Rattle.mc_meaning.specs.declared.config.Waiter.{Waiter}
use Rattle.mc_meaning.specs.Kept.{configuration_of}
use Rattle.mc_meaning.proofs.configuration.Config.removes_waiter.Goals as goal

-- src/configuration.rt: the waiters without it
pub returns : goal.returns
returns c = ap (λ (waiters : List Waiter). record (configuration_of c.args.self.now) { waiters = waiters }) (filter_same _ _ _ (λ x b f' k. search rules) _ _ c.retain.ensures.filtered)
