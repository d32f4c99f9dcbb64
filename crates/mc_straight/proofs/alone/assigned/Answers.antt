use Rattle.std.proofs.Common.{ℕ, Option, Bor, sym, subst}
use Rattle.std.specs.Prelude.{MatchOption}
use Rattle.mc_tree.specs.declared.tree.Id.{Id}
use Rattle.mc_straight.specs.Alone.{IsAssigned}
use Rattle.mc_straight.proofs.Leaves.{no_assigned}
use Rattle.mc_straight.proofs.alone.assigned.Goals as goal

pub returns-in_err-character_of-in-Assignment : goal.returns-in_err-character_of-in-Assignment
returns-in_err-character_of-in-Assignment c =
    let none = no_assigned c.args.statement.now c.in-Assignment.target c.in-Assignment.field-1 c.in-Assignment.value c.in-Assignment.is c.in_err-character_of-in-Assignment.ensures in
    subst (λ (o : Option (Bor Id × ℕ)). MatchOption o ((id : Id) (byte : ℕ) → IsAssigned c.args.statement.now id byte → ⊥) (λ found. IsAssigned c.args.statement.now found.0.now found.1)) (sym c.from_residual-in_err-character_of-in-Assignment.ensures) none
