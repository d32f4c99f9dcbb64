use Rattle.std.proofs.Common.{◌≡◌, drop}
use Rattle.mc_meaning.specs.Configuration.{topmost_of}
use Rattle.mc_meaning.proofs.configuration.Config.topmost.Given as goal

-- the topmost one so far, below what is left
abbrev pub invariant-loop-member : goal.invariant-loop-member
invariant-loop-member l = topmost_of l.top (drop l.member-index l.self.nest.items) ≡ topmost_of l.self.foot l.self.nest.items
