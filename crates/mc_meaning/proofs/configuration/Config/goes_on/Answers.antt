use Rattle.std.proofs.Common.{◌∙◌, ap}
use Rattle.mc_meaning.specs.Calling.{with_process}
use Rattle.mc_meaning.specs.Configuration.{ProcessState}
use Rattle.mc_meaning.specs.Kept.{configuration_of}
use Rattle.mc_meaning.proofs.configuration.Config.goes_on.Goals as goal

-- src/configuration.rt: the process with what it has to do
pub returns : goal.returns
returns c = c.put_process.ensures ∙ ap (λ (q : ProcessState). with_process (configuration_of c.args.self.now) c.args.n q) c.set_rest.ensures
