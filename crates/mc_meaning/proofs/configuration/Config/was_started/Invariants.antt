use Rattle.std.proofs.Common.{◌≡◌, drop}
use Rattle.mc_meaning.specs.Actions.{was_started}
use Rattle.mc_meaning.proofs.configuration.Config.was_started.Given as goal

-- those before it run other declared processes
abbrev pub invariant-loop-process : goal.invariant-loop-process
invariant-loop-process l = was_started (drop l.process-index l.self.processes.items) l.k ≡ was_started l.self.processes.items l.k
