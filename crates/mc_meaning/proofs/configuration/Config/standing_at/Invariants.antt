use Rattle.std.proofs.Common.{◌≡◌, ◌-◌, drop, length}
use Rattle.mc_meaning.specs.ProgramRuns.{standing_at}
use Rattle.mc_meaning.proofs.configuration.Config.standing_at.Given as goal

-- those before it do not stand there
abbrev pub invariant-loop-n : goal.invariant-loop-n
invariant-loop-n l = standing_at l.vector l.n (drop l.n l.self.processes.items) ≡ standing_at l.vector 0 l.self.processes.items

abbrev pub decreases-loop-n : goal.decreases-loop-n
decreases-loop-n l = length l.self.processes.items - l.n
