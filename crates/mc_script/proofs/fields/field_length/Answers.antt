use Rattle.std.proofs.Common.{sym, ◌∙◌, arith}
use Rattle.mc_script.specs.Lines.{is_blank}
use Rattle.mc_script.proofs.Splitting.{place_of}
use Rattle.mc_script.proofs.fields.field_length.Goals as goal

pub returns-then-is_blank-clause-count : goal.returns-then-is_blank-clause-count
returns-then-is_blank-clause-count c = sym (place_of is_blank c.args.line.now c.loop-i.i (omega arith) c.loop-i.invariant (λ _. sym c.is_blank.ensures ∙ c.if-is_blank.true))

pub returns-clause-count : goal.returns-clause-count
returns-clause-count c = sym (place_of is_blank c.args.line.now _ (omega arith) (λ k h. c.loop-i.invariant k (omega arith)) (λ h. absurd (omega arith)))
