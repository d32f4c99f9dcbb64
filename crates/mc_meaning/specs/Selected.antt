-- The items that the value of a condition selects.
use Rattle.std.specs.Prelude.{ℕ, List, Bool}
use Rattle.mc_prog.specs.Resolved.{Resolved}
use Rattle.mc_meaning.specs.declared.process.Item.{Item}
use Rattle.mc_meaning.specs.declared.statements.Selection.{Selection}
use Rattle.mc_meaning.specs.declared.statements.Selection.TheVariants.{Branch, Turn, Again, Leave}
use Rattle.mc_meaning.specs.Parts.{branch_items}
use Rattle.mc_meaning.specs.Steps.{turn_items, repeat_items, leave_items}

abbrev pub selected : Resolved → ℕ → Selection → Bool → List Item
selected p node (Branch k) = branch_items p node k
selected p node Turn = turn_items p node
selected p node Again = repeat_items node
selected p node (Leave k) = leave_items p node k
