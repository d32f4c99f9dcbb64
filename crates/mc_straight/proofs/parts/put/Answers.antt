use Rattle.std.proofs.Common.{Some, ap, ◌∙◌, ◌∷◌, arith, ℕ, List}
use Rattle.std.proofs.lemmas.Option.{slice_get-get_or}
use Rattle.mc_straight.proofs.Forced.{no_put, within_names}
use Rattle.mc_straight.proofs.parts.put.Goals as goal

pub returns-in_err-name : goal.returns-in_err-name
returns-in_err-name c = rw c.from_residual.ensures (λ p k. c.in_err-name.ensures k.name p.byte k.assigned)

pub returns-in_err-variable : goal.returns-in_err-variable
returns-in_err-variable c = rw c.from_residual-in_err-variable.ensures (no_put (c.args.first.now ∷ c.args.more.now) c.args.variables.now c.args.statement.now c.in_ok-name.name.now c.in_ok-name.byte c.as_slice.result.now c.in_ok-name.ensures c.as_slice.ensures c.in_err-variable.ensures)

pub bounds-variables-variable : goal.bounds-variables-variable
bounds-variables-variable c = omega (arith, within_names c.args.first.now c.args.more.now c.in_ok-variable.variable c.as_slice.result.now c.in_ok-variable.ensures)

pub returns : goal.returns
returns c = record {
  name = c.in_ok-name.name.now;
  assigned = c.in_ok-name.ensures;
  declared = c.in_ok-variable.ensures ∙ ap (λ (n : List ℕ). Some n) c.as_slice.ensures;
  port = slice_get-get_or c.args.variables.now c.in_ok-variable.variable _ (omega (arith, within_names c.args.first.now c.args.more.now c.in_ok-variable.variable c.as_slice.result.now c.in_ok-variable.ensures));
}
