use Rattle.std.proofs.Common.{◌∷◌, take}
use Rattle.mc_straight.specs.Form.{ArePaired, IsVariable}
use Rattle.mc_straight.proofs.lists.variables.Given as goal

abbrev pub invariant-loop-var : goal.invariant-loop-var
invariant-loop-var l = ArePaired IsVariable (l.first ∷ take l.var-index l.more) l.ports.items
