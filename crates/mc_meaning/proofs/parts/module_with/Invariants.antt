use Rattle.std.proofs.Common.{◌≡◌, ◌-◌, drop, length}
use Rattle.mc_meaning.specs.Parts.{module_with}
use Rattle.mc_meaning.proofs.parts.module_with.Given as goal

-- the modules before it have other bodies
abbrev pub invariant-loop-m : goal.invariant-loop-m
invariant-loop-m l = module_with (drop l.m l.modules) l.body l.m ≡ module_with l.modules l.body 0

abbrev pub decreases-loop-m : goal.decreases-loop-m
decreases-loop-m l = length l.modules - l.m
