use Rattle.std.proofs.Common.{◌∷◌, take}
use Rattle.std.specs.Prelude.{map}
use Rattle.mc_tree.specs.declared.statement.Statement.TheViews.{out-Body}
use Rattle.mc_straight.specs.Form.{ArePaired, IsPut}
use Rattle.mc_straight.proofs.lists.puts.Given as goal

abbrev pub invariant-loop-statement : goal.invariant-loop-statement
invariant-loop-statement l = ArePaired (IsPut (l.first ∷ l.more) l.variables) ((out-Body l.fn.body).first ∷ map (λ a. a.item) (take l.statement-index (out-Body l.fn.body).more)) l.puts.items
