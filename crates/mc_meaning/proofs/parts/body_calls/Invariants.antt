use Rattle.std.proofs.Common.{◌≡◌, map, take}
use Rattle.mc_meaning.specs.declared.process.Item.TheVariants.{CallsBody}
use Rattle.mc_meaning.specs.Parts.{module_with}
use Rattle.mc_meaning.proofs.parts.body_calls.Given as goal

-- the items so far
abbrev pub invariant-loop-body : goal.invariant-loop-body
invariant-loop-body l = l.items.items ≡ map (λ body. CallsBody (module_with l.program.modules body 0)) (take l.body-index l.bodies)
