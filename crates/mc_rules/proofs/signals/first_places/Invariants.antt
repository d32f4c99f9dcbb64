use Rattle.std.proofs.Common.{take}
use Rattle.mc_rules.specs.FirstPlaces.{AreFirstPlaces}
use Rattle.mc_rules.proofs.signals.first_places.Given as goal

-- the first places so far
abbrev pub invariant-loop-signalling : goal.invariant-loop-signalling
invariant-loop-signalling l = AreFirstPlaces (take l.signalling-index l.signallings) l.firsts
