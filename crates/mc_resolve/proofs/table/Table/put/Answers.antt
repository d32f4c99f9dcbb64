use Rattle.std.proofs.Common.{ℕ, List}
use Rattle.mc_resolve.proofs.table.Table.put.Goals as goal

-- src/table.rt: the new table at each scope and name
pub returns : goal.returns
returns c = λ (s : ℕ) (x : List ℕ). c.in_ok-insert.ensures.updates.0 (s, record { ref_ptr = (0, 0); now = x })
